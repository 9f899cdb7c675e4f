-- Rows of comparisons: how long they are, and what stands at a place. d is any pair, and o any answer:
-- `get_or` reads them past the end alone.
use Rattle.std.proofs.Common.{◌≡◌, ℕ, zero, suc, ◌+◌, ◌-◌, ◌<◌, List, [], ◌∷◌, length, get_or, Ordering, Less, Equal, Greater, refl, ap, ◌∙◌, subst, arith}
use Rattle.std.specs.Ordering.{match_ordering}
use Rattle.sorted_pairs.specs.Answers.{AllLess, Falls, greater, not_less, against, steps_from, neighbours}
use Rattle.std.specs.Cmp.{IsTotalOrder}
use Rattle.sorted_pairs.specs.Pairs.{AllAbove, Rises, below, up_to}
use Rattle.sorted_pairs.proofs.Places.{AllAbove-lower}

one_more : (k : ℕ) → suc (k + 1) ≡ suc k + 1
one_more k = omega arith

next : {X : Type 0} (x : X) (xs : List X) (i : ℕ) (d e : X) → i < length xs → get_or xs i d ≡ get_or (x ∷ xs) (i + 1) e
next x [] i d e h = absurd (omega arith)
next x (y ∷ ys) zero d e h = refl
next x (y ∷ ys) (suc i) d e h =
    let P : ℕ → Type 0 = λ j. get_or ys i d ≡ get_or (x ∷ y ∷ ys) j e in
    subst P (one_more i) (next y ys i d e (omega arith))

module _ {K V : Type 0} (order : K → K → Ordering) where
  pub against_length : (k : K) (ps : List (K × V)) → length (against order k ps) ≡ length ps
  against_length k [] = refl
  against_length k (p ∷ ps) = ap suc (against_length k ps)

  pub against_at : (k : K) (ps : List (K × V)) (i : ℕ) (d : K × V) (o : Ordering) → i < length ps → get_or (against order k ps) i o ≡ order k (get_or ps i d).0
  against_at k [] i d o h = absurd (omega arith)
  against_at k (p ∷ ps) zero d o h = refl
  against_at k (p ∷ ps) (suc i) d o h = against_at k ps i d o (omega arith)

  from_length : (p : K × V) (ps : List (K × V)) → length (steps_from order p ps) ≡ length ps
  from_length p [] = refl
  from_length p (q ∷ ps) = ap suc (from_length q ps)

  pub neighbours_length : (ps : List (K × V)) → length (neighbours order ps) ≡ length ps - 1
  neighbours_length [] = refl
  neighbours_length (p ∷ ps) = omega (arith, from_length p ps)

  from_at : (p : K × V) (ps : List (K × V)) (i : ℕ) (d : K × V) (o : Ordering) → i < length ps → get_or (steps_from order p ps) i o ≡ order (get_or (p ∷ ps) i d).0 (get_or ps i d).0
  from_at p [] i d o h = absurd (omega arith)
  from_at p (q ∷ ps) zero d o h = refl
  from_at p (q ∷ ps) (suc i) d o h = from_at q ps i d o (omega arith)

  pub neighbours_at : (ps : List (K × V)) (i : ℕ) (d e : K × V) (o : Ordering) → i + 1 < length ps → get_or (neighbours order ps) i o ≡ order (get_or ps i d).0 (get_or ps (i + 1) e).0
  neighbours_at [] i d e o h = absurd (omega arith)
  neighbours_at (p ∷ ps) i d e o h = from_at p ps i d o (omega arith) ∙ ap (λ q. order (get_or (p ∷ ps) i d).0 q.0) (next p ps i d e (omega arith))

  pub greater_below : (k : K) (ps : List (K × V)) → greater (against order k ps) ≡ below order k ps
  greater_below k [] = refl
  greater_below k (p ∷ ps) = ap (λ n. match_ordering (order k p.0) 0 0 (suc n)) (greater_below k ps)

  pub not_less_up_to : (k : K) (ps : List (K × V)) → not_less (against order k ps) ≡ up_to order k ps
  not_less_up_to k [] = refl
  not_less_up_to k (p ∷ ps) = ap (λ n. match_ordering (order k p.0) 0 1 (suc n)) (not_less_up_to k ps)

module _ {K V : Type 0} (order : K → K → Ordering) (total : IsTotalOrder order) where
  less_above : (k : K) (ps : List (K × V)) → AllAbove order k ps → AllLess (against order k ps)
  less_above k [] a = tt
  less_above k (p ∷ ps) a = (a.0, less_above k ps a.1)

  less_tied : (k j : K) (ps : List (K × V)) → order k j ≡ Equal → AllAbove order j ps → AllLess (against order k ps)
  less_tied k j [] e a = tt
  less_tied k j (p ∷ ps) e a = (total.congr k j p.0 e ∙ a.0, less_tied k j ps e a.1)

  falls_step : (o : Ordering) (k : K) (p : K × V) (ps : List (K × V)) → order k p.0 ≡ o → AllAbove order p.0 ps → Falls (against order k ps) → Falls (o ∷ against order k ps)
  falls_step Less k p ps e a f = less_above k ps (AllAbove-lower order total k p.0 ps e a)
  falls_step Equal k p ps e a f = less_tied k p.0 ps e a
  falls_step Greater k p ps e a f = f

  -- among keys that rise the answers fall
  pub falls_of_rises : (k : K) (ps : List (K × V)) → Rises order ps → Falls (against order k ps)
  falls_of_rises k [] r = tt
  falls_of_rises k (p ∷ ps) r = falls_step (order k p.0) k p ps refl r.0 (falls_of_rises k ps r.1)

  less_from : (p : K × V) (ps : List (K × V)) → Rises order (p ∷ ps) → AllLess (steps_from order p ps)
  less_from p [] r = tt
  less_from p (q ∷ ps) r = (r.0.0, less_from q ps r.1)

  -- keys rise just where each is below the next one
  pub less_of_rises : (ps : List (K × V)) → Rises order ps → AllLess (neighbours order ps)
  less_of_rises [] r = tt
  less_of_rises (p ∷ ps) r = less_from p ps r

  rises_from : (p : K × V) (ps : List (K × V)) → AllLess (steps_from order p ps) → Rises order (p ∷ ps)
  rises_from p [] a = (tt, tt)
  rises_from p (q ∷ ps) a =
      let r : Rises order (q ∷ ps) = rises_from q ps a.1 in
      ((a.0, AllAbove-lower order total p.0 q.0 ps a.0 r.0), r)

  pub rises_of_less : (ps : List (K × V)) → AllLess (neighbours order ps) → Rises order ps
  rises_of_less [] a = tt
  rises_of_less (p ∷ ps) a = rises_from p ps a

pub ruleset rows = (against_length, against_at, neighbours_length, neighbours_at)

pub ruleset keys = (against_length, greater_below, not_less_up_to, falls_of_rises)
