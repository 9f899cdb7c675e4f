-- What a reader answered, without the track.
use Rattle.std.proofs.Common.{Option, None, Some, Result, Ok, Err, Bool}
use Rattle.data_core.specs.declared.fault.Fault.{Fault}
use Rattle.data_core.specs.Tracking.{Refusal}
use Rattle.data_core.specs.Outcome.{Outcome, Among, RefusedAmong}
use Rattle.value_error.specs.ErrorView.{fault_of}
use Rattle.serde_value.specs.Reading.{FaultAmong, ReadsAmong}
use Rattle.value_error.specs.declared.error.DeserializerError.{DeserializerError}

fault_among : {A : Type 0} (placed : Type 0) (tracks : Bool) (f : Option Fault) (is_outcome : Outcome A → Type 0) (old new : Refusal) → RefusedAmong placed tracks f is_outcome old new → FaultAmong f is_outcome
fault_among placed tracks None is_outcome old new h = tt
fault_among placed tracks (Some f) is_outcome old new h = (h.0, h.1)

pub reads_among : {A : Type 0} (placed : Type 0) (tracks : Bool) (r : Result A DeserializerError) (is_outcome : Outcome A → Type 0) (old new : Refusal) → Among fault_of placed tracks r is_outcome old new → ReadsAmong r is_outcome
reads_among placed tracks (Ok a) is_outcome old new h = h
reads_among placed tracks (Err e) is_outcome old new h = fault_among placed tracks (fault_of e) is_outcome old new h
