-- What a traced read hands out: the value, or the fault and its path.
use Rattle.std.specs.Prelude.{List, Option, Some, None, Result, Ok, Err, ◌≡◌}
use Rattle.data_core.specs.declared.fault.Fault.{Fault}
use Rattle.data_core.specs.declared.path.Segment.{Segment}
use Rattle.data_core.specs.Outcome.{Outcome, given, refused}
use Rattle.path_core.specs.Error.{path_of, original_of}
use Rattle.path_core.specs.declared.error.Error.{Error}

-- a refusal is at the error's path where its reader places what it refuses; an error for want of memory says
-- nothing of the source, nor does its path
abbrev pub TracedErr : {A : Type 0} → Type 0 → Option Fault → List Segment → (Outcome A → Type 0) → Type 0
TracedErr placed None path is_outcome = Unit {0}
TracedErr placed (Some f) path is_outcome = (own : List Segment) × is_outcome (refused f own) × (placed → path ≡ own)

abbrev pub Traced : {A E : Type 0} → (E → Option Fault) → Type 0 → Result A (Error E) → (Outcome A → Type 0) → Type 0
Traced fault placed (Ok a) is_outcome = is_outcome (given a)
Traced fault placed (Err e) is_outcome = TracedErr placed (fault (original_of e)) (path_of e) is_outcome

-- the same of a reader that has exactly one outcome
abbrev pub TracedErrAs : {V : Type 0} → Option Fault → List Segment → Outcome V → Type 0
TracedErrAs None path outcome = Unit {0}
TracedErrAs (Some f) path outcome = outcome ≡ refused f path

abbrev pub TracedAs : {A V E : Type 0} → (E → Option Fault) → (A → V) → Result A (Error E) → Outcome V → Type 0
TracedAs fault see (Ok a) outcome = outcome ≡ given (see a)
TracedAs fault see (Err e) outcome = TracedErrAs (fault (original_of e)) (path_of e) outcome
