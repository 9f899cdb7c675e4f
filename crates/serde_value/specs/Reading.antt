-- What the reading of a tree answers.
use Rattle.std.specs.Prelude.{List, Option, None, Some, Result, Ok, Err}
use Rattle.data_core.specs.declared.fault.Fault.{Fault}
use Rattle.data_core.specs.declared.path.Segment.{Segment}
use Rattle.data_core.specs.Outcome.{Outcome, given, refused}
use Rattle.value_error.specs.ErrorView.{fault_of}
use Rattle.value_error.specs.declared.error.DeserializerError.{DeserializerError}

-- a fault is that of one of these outcomes, wherever in the tree it came; want of memory says nothing of it
abbrev pub FaultAmong : {A : Type 0} → Option Fault → (Outcome A → Type 0) → Type 0
FaultAmong None is_outcome = Unit {0}
FaultAmong (Some f) is_outcome = (path : List Segment) × is_outcome (refused f path)

-- an answer is one of these outcomes, but for the path
abbrev pub ReadsAmong : {A : Type 0} → Result A DeserializerError → (Outcome A → Type 0) → Type 0
ReadsAmong (Ok a) is_outcome = is_outcome (given a)
ReadsAmong (Err e) is_outcome = FaultAmong (fault_of e) is_outcome
