-- What a reading hands out, beside the first outcome.
use Rattle.std.specs.Prelude.{◌≡◌, List, Option, Some, None, Result, Ok, Err}
use Rattle.data_core.specs.declared.fault.Fault.{Fault}
use Rattle.data_core.specs.declared.path.Segment.{Segment}
use Rattle.data_core.specs.Outcome.{Outcome, given, refused}
use Rattle.path_core.specs.Error.{path_of, original_of}
use Rattle.path_core.specs.declared.error.Error.{Error}
use Rattle.shape.specs.Shape as spec
use Rattle.shape.specs.View.{data_view}
use Rattle.shape.specs.declared.data.Data.{Data}
use Rattle.capture.specs.declared.reader.ReadError.{ReadError}
use Rattle.capture.specs.declared.reader.ReadError.TheVariants.{Memory, Refused}

-- an error is the outcome's fault at its path; want of memory says nothing
abbrev pub IsRefusal : ReadError → Outcome spec.Data → Type 0
IsRefusal Memory outcome = Unit {0}
IsRefusal (Refused path fault) outcome = outcome ≡ refused fault path

-- an error was made of this fault, at this path, or of none for want of memory
abbrev pub IsRefusalOf : ReadError → Option Fault → List Segment → Type 0
IsRefusalOf Memory given_fault at = given_fault ≡ None
IsRefusalOf (Refused path fault) given_fault at = (path ≡ at) × (given_fault ≡ Some fault)

-- the outcome, handed out whole, but for want of memory
abbrev pub Hands : Result Data ReadError → Outcome spec.Data → Type 0
Hands (Ok d) outcome = outcome ≡ given (data_view d)
Hands (Err e) outcome = IsRefusal e outcome

-- the same of a reading from any deserializer, whose errors have faults
abbrev pub IsRefusalAny : Option Fault → List Segment → Outcome spec.Data → Type 0
IsRefusalAny None path outcome = Unit {0}
IsRefusalAny (Some f) path outcome = outcome ≡ refused f path

abbrev pub HandsAny : {E : Type 0} → (E → Option Fault) → Result Data (Error E) → Outcome spec.Data → Type 0
HandsAny fault (Ok d) outcome = outcome ≡ given (data_view d)
HandsAny fault (Err e) outcome = IsRefusalAny (fault (original_of e)) (path_of e) outcome

-- the other way round: a value that is the outcome is handed out, and so is a refusal
abbrev pub Answers : Outcome spec.Data → Result Data ReadError → Type 0
Answers outcome (Err Memory) = Unit {0}
Answers (given d) (Ok value) = data_view value ≡ d
Answers (given d) (Err (Refused path fault)) = ⊥
Answers (refused f p) (Ok value) = ⊥
Answers (refused f p) (Err (Refused path fault)) = (fault ≡ f) × (path ≡ p)
