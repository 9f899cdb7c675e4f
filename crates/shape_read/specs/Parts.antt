-- The parts of what is offered in order, each by its reading, up to the first fault.
use Rattle.std.specs.Prelude.{ℕ, ◌+◌, Bool, true, false, List, [], ◌∷◌, Option, Some, None}
use Rattle.data_core.specs.declared.fault.Fault.{Fault}
use Rattle.data_core.specs.declared.fault.Fault.TheVariants.{InvalidLength}
use Rattle.data_core.specs.declared.path.Segment.TheVariants.{Seq}
use Rattle.data_core.specs.Source.{Source, Sources, end, more, Entries, no_entries, entry, Offer, elements}
use Rattle.data_core.specs.Outcome.{Outcome, given, refused, under, and_then, not_taken}
use Rattle.data_core.specs.Sequence.{surplus}
use Rattle.data_std.specs.Ignored.{ignored_rest}
use Rattle.shape.specs.Shape.{Data}

-- each element, from a place in the sequence on
abbrev pub each : (Source → Outcome Data) → ℕ → Sources → Outcome (List Data)
each read i end = given []
each read i (more s ss) = and_then (under (Seq i) (read s)) (λ d. and_then (each read (i + 1) ss) (λ ds. given (d ∷ ds)))

-- an element for each reader, from a place on, and then what becomes of those that are left
abbrev pub row_of : (ℕ → Sources → Outcome (Unit {0})) → List (Source → Outcome Data) → ℕ → Sources → Outcome (List Data)
row_of rest [] i ss = and_then (rest i ss) (λ u. given [])
row_of rest (read ∷ reads) i end = refused (InvalidLength i) []
row_of rest (read ∷ reads) i (more s ss) =
    and_then (under (Seq i) (read s)) (λ d. and_then (row_of rest reads (i + 1) ss) (λ ds. given (d ∷ ds)))

-- nothing, unless there is this fault
abbrev pub unless : Option Fault → Outcome (Unit {0})
unless None = given tt
unless (Some f) = refused f []

-- elements that are left are refused where the end is checked
abbrev pub refuse_rest : Bool → ℕ → Sources → Outcome (Unit {0})
refuse_rest checks i left = unless (surplus checks i left)

-- what becomes of elements that are left: of a whole row they are refused, and else ignored
abbrev pub rest_of_row : Bool → Bool → ℕ → Sources → Outcome (Unit {0})
rest_of_row true checks = refuse_rest checks
rest_of_row false checks = ignored_rest

-- a row of elements, whole or not
abbrev pub elements_of : Bool → List (Source → Outcome Data) → Offer → Outcome (List Data)
elements_of whole reads (elements checks ss) = row_of (rest_of_row whole checks) reads 0 ss
elements_of whole reads o = not_taken o

-- each entry, by a step from what was made of those before it
abbrev pub each_entry : {A : Type 0} → (A → Source → Source → Outcome A) → A → Entries → Outcome A
each_entry step made no_entries = given made
each_entry step made (entry k v es) = and_then (step made k v) (λ next. each_entry step next es)
