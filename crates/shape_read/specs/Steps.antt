-- The steps of a reader through a sequence.
use Rattle.std.specs.Prelude.{ℕ, List, [], ◌∷◌, Option, Some, None, Vec, length, map}
use Rattle.data_core.specs.declared.path.Segment.TheVariants.{Seq}
use Rattle.data_core.specs.Source.{Source, Sources, end, more}
use Rattle.data_core.specs.Sequence.{Sequence}
use Rattle.data_core.specs.Outcome.{Outcome, given, under, and_then}
use Rattle.std.specs.declared.alloc.Global.{Global}
use Rattle.shape.specs.Shape as spec
use Rattle.shape.specs.declared.data.Data.{Data}
use Rattle.shape_read.specs.Parts.{row_of}
use Rattle.shape.specs.View.{data_view}

-- the next element, read at its place
abbrev pub next_of : (Source → Outcome spec.Data) → ℕ → Sources → Outcome (Option spec.Data)
next_of read i end = given None
next_of read i (more s ss) = and_then (under (Seq i) (read s)) (λ d. given (Some d))

-- an element for each reader, whatever is left after them
abbrev pub one_each : List (Source → Outcome spec.Data) → ℕ → Sources → Outcome (List spec.Data)
one_each reads i ss = row_of (λ i left. given tt) reads i ss

-- what is left after an element for each reader
abbrev pub beyond : List (Source → Outcome spec.Data) → Sources → Sources
beyond [] ss = ss
beyond (read ∷ reads) end = end
beyond (read ∷ reads) (more s ss) = beyond reads ss

-- a sequence that began, after an element for each reader was taken of it
abbrev pub row_taken : List (Source → Outcome spec.Data) → Sequence → Sequence
row_taken reads s = record { left = beyond reads s.left; taken = length reads; checks = s.checks; tells = s.tells }

-- what was read, in order
abbrev pub all_viewed : Vec Data Global → List spec.Data
all_viewed items = map data_view items.items
