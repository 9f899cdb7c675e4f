-- The elements of a sequence, read one after the other.
use Rattle.std.proofs.Common.{◌≡◌, ℕ, Bool, List, [], ◌∷◌, ◌++◌, Option, Some, None, Err, refl, ap, sym, inl, inr}
use Rattle.std.proofs.lemmas.List.{append_assoc, append-nil}
use Rattle.data_core.specs.declared.fault.Fault.{Fault}
use Rattle.data_core.specs.declared.path.Segment.{Segment}
use Rattle.data_core.specs.Fault.{IsCalled}
use Rattle.data_core.specs.Source.{Source, Sources, end, more}
use Rattle.data_core.specs.Sequence.{rest_of, place_after, IsNext, Ends}
use Rattle.data_core.specs.Tracking.{Refusal, clear}
use Rattle.data_core.specs.Outcome.{Outcome, given, refused, RefusedAmong}
use Rattle.data_std.specs.Compound.{EachReads}

-- a step's refusal is that of the whole that the step is taken in
pub RefusedAmong-whole : {A B : Type 0} (placed all : Type 0) (tracks : Bool) (fault : Option Fault) (P : Outcome A → Type 0) (Q : Outcome B → Type 0) (old before new : Refusal)
    → (all → placed) → (all → old ≡ clear → before ≡ clear) → ((f : Fault) (path : List Segment) → P (refused f path) → Q (refused f path))
    → RefusedAmong placed tracks fault P before new → RefusedAmong all tracks fault Q old new
RefusedAmong-whole placed all tracks None P Q old before new of_all clears carries h = tt
RefusedAmong-whole placed all tracks (Some f) P Q old before new of_all clears carries h =
    (h.0, carries f h.0 h.1, λ q t c. h.2 (of_all q) t (clears q c))

-- the outcome of what is left, after what was read before it
abbrev pub after : {T : Type 0} → List T → Outcome (List T) → Outcome (List T)
after xs (given ys) = given (xs ++ ys)
after xs (refused f path) = refused f path

pub after_none : {T : Type 0} (o : Outcome (List T)) → after [] o ≡ o
after_none (given ys) = refl
after_none (refused f path) = refl

pub after_more : {T : Type 0} (xs : List T) (x : T) (o : Outcome (List T)) → after xs (after (x ∷ []) o) ≡ after (xs ++ x ∷ []) o
after_more xs x (given ys) = ap given (sym (append_assoc xs (x ∷ []) ys))
after_more xs x (refused f path) = refl

pub EachReads-more : {T : Type 0} (reads : Source → Outcome T → Type 0) (i : ℕ) (ss : Sources) (x : T) (o : Outcome (List T))
    → IsNext reads i ss (given (Some x)) → EachReads reads (place_after ss i) (rest_of ss) o → EachReads reads i ss (after (x ∷ []) o)
EachReads-more reads i end x o h rest = absurd (cc)
EachReads-more reads i (more s ss) x (given ys) h rest = inr (x, h, inr (ys, rest, refl))
EachReads-more reads i (more s ss) x (refused f path) h rest = inr (x, h, inl rest)

pub EachReads-fails : {T : Type 0} (reads : Source → Outcome T → Type 0) (i : ℕ) (ss : Sources) (f : Fault) (path : List Segment)
    → IsNext reads i ss (refused f path) → EachReads reads i ss (refused f path)
EachReads-fails reads i end f path h = absurd (cc)
EachReads-fails reads i (more s ss) f path h = inl h

pub EachReads-ends : {T : Type 0} (reads : Source → Outcome T → Type 0) (i : ℕ) (ss : Sources)
    → IsNext reads i ss (given None) → EachReads reads i ss (given [])
EachReads-ends reads i end h = refl
EachReads-ends reads i (more s ss) h = absurd h

pub after_end : {T : Type 0} (xs : List T) → after xs (given []) ≡ given xs
after_end xs = ap given (append-nil xs)

-- a refusal of what is left at an end, outside of every nested read
RefusedAmong-here : {A : Type 0} (placed : Type 0) (tracks : Bool) (fault : Option Fault) (f : Fault) (P : Outcome A → Type 0) (old new : Refusal)
    → IsCalled fault f → P (refused f []) → (placed → old ≡ clear → new ≡ clear) → RefusedAmong placed tracks fault P old new
RefusedAmong-here placed tracks None f P old new h is clears = tt
RefusedAmong-here placed tracks (Some g) f P old new h is clears = rw h ([], is, λ q t c. rw (clears q c) refl)

pub RefusedAmong-end : {A E : Type 0} (fault : E → Option Fault) (e : E) (placed : Type 0) (tracks : Bool) (left : Option Fault) (P : Outcome A → Type 0) (old new : Refusal)
    → Ends fault (Err e) left → ((f : Fault) → left ≡ Some f → P (refused f [])) → (placed → old ≡ clear → new ≡ clear) → RefusedAmong placed tracks (fault e) P old new
RefusedAmong-end fault e placed tracks None P old new h is clears = rw h tt
RefusedAmong-end fault e placed tracks (Some f) P old new h is clears = RefusedAmong-here placed tracks (fault e) f P old new h (is f refl) clears
