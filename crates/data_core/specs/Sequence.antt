-- A sequence under way: what is left of it, how many elements were taken, whether its end is checked, and
-- whether it tells how many are left.
use Rattle.std.specs.Prelude.{ℕ, ◌+◌, ◌≡◌, List, ◌∷◌, Bool, true, false, Option, Some, None, Result, Ok, Err}
use Rattle.data_core.specs.declared.fault.Fault.{Fault}
use Rattle.data_core.specs.declared.fault.Fault.TheVariants.{InvalidLength}
use Rattle.data_core.specs.Fault.{IsCalled}
use Rattle.data_core.specs.declared.path.Segment.{Segment}
use Rattle.data_core.specs.declared.path.Segment.TheVariants.{Seq}
use Rattle.data_core.specs.Outcome.{Outcome, given, refused}
use Rattle.data_core.specs.Source.{Source, Sources, end, more, count}
use Rattle.data_core.specs.Tracking.{Refusal, clear, LeavesUnder}

pub record Sequence : Type 0 where
  pub left : Sources
  pub taken : ℕ
  pub checks : Bool
  pub tells : Bool

-- what is left after the next element, and how many were taken then
abbrev pub rest_of : Sources → Sources
rest_of end = end
rest_of (more s ss) = ss

abbrev pub place_after : Sources → ℕ → ℕ
place_after end i = i
place_after (more s ss) i = i + 1

-- after the next element was taken; the same where none is left
abbrev pub one_taken : Sequence → Sequence
one_taken s = record { left = rest_of s.left; taken = place_after s.left s.taken; checks = s.checks; tells = s.tells }

-- how many are left, where that is told
abbrev pub told : Bool → ℕ → Option ℕ
told true n = Some n
told false n = None

-- what a reader that stops is refused for: elements that are left where the end is checked
abbrev pub surplus : Bool → ℕ → Sources → Option Fault
surplus true taken (more s ss) = Some (InvalidLength (taken + count (more s ss)))
surplus checks taken ss = None

-- what is handed out is the next element, and none where none is left
abbrev pub Takes : {D E : Type 0} → (D → Source) → (E → Option Fault) → Result (Option D) E → Sources → Sources → Type 0
Takes source fault (Ok (Some d)) old new = old ≡ more (source d) new
Takes source fault (Ok None) old new = old ≡ end
Takes source fault (Err e) old new = fault e ≡ None

-- what the check of an end answers, by what it refuses
abbrev pub Ends : {E : Type 0} → (E → Option Fault) → Result (Unit {0}) E → Option Fault → Type 0
Ends fault (Ok u) None = Unit {0}
Ends fault (Ok u) (Some f) = ⊥
Ends fault (Err e) None = fault e ≡ None
Ends fault (Err e) (Some f) = IsCalled (fault e) f

-- the outcomes of the next element, read at its place
abbrev pub IsNext : {A : Type 0} → (Source → Outcome A → Type 0) → ℕ → Sources → Outcome (Option A) → Type 0
IsNext reads i end outcome = outcome ≡ given None
IsNext reads i (more s ss) (given None) = ⊥
IsNext reads i (more s ss) (given (Some a)) = reads s (given a)
IsNext reads i (more s ss) (refused f path) =
    (inner : List Segment) × reads s (refused f inner) × (path ≡ Seq i ∷ inner)

-- what the read of the next element leaves of a clear track: what it swallowed, under its place
abbrev pub LeavesNext : (Source → Refusal → Type 0) → ℕ → Sources → Refusal → Type 0
LeavesNext leaves i end new = new ≡ clear
LeavesNext leaves i (more s ss) new = LeavesUnder (Seq i) (leaves s) new
