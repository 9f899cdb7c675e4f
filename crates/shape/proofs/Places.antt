-- Names beside what they name, place by place.
use Rattle.std.proofs.Common.{◌≡◌, ℕ, zero, suc, ◌+◌, ◌<◌, ◌≤◌, min, Bool, true, false, List, [], ◌∷◌, length, slice_get, get_or, take, map, Option, Some, None, option_map, bytes_eq, Contains, ap, refl, arith}
use Rattle.std.proofs.lemmas.List.{take_all}
use Rattle.std.proofs.lemmas.Slice.Eq.{bytes_eq-Decides}
use Rattle.shape.specs.Names.{paired, place_in}

pub length_paired : {A B : Type 0} (view : A → B) (names : List (List ℕ)) (all : List A) → length (paired view names all) ≡ min (length names) (length all)
length_paired view [] all = omega arith
length_paired view (n ∷ names) [] = omega arith
length_paired view (n ∷ names) (a ∷ rest) = omega (arith, length_paired view names rest)

-- the names that stand beside something
pub names_of_paired : {A B : Type 0} (view : A → B) (names : List (List ℕ)) (all : List A) → take (length all) names ≡ map (λ p. p.0) (paired view names all)
names_of_paired view [] [] = refl
names_of_paired view [] (a ∷ rest) = refl
names_of_paired view (n ∷ names) [] = refl
names_of_paired view (n ∷ names) (a ∷ rest) = ap (λ others. n ∷ others) (names_of_paired view names rest)

-- what stands at a place, and that nothing does past the end

pub paired_at : {A B : Type 0} (view : A → B) (names : List (List ℕ)) (all : List A) (i : ℕ) (a : A) → i < length (paired view names all) → a ≡ get_or all i a
    → Some (view a) ≡ option_map (λ p. p.1) (slice_get (paired view names all) i)
paired_at view [] all i a h is = absurd (omega arith)
paired_at view (n ∷ names) [] i a h is = absurd (omega arith)
paired_at view (n ∷ names) (b ∷ rest) zero a h is = ap (λ x. Some (view x)) is
paired_at view (n ∷ names) (b ∷ rest) (suc i) a h is = paired_at view names rest i a (omega arith) is

pub paired_past : {A B : Type 0} (view : A → B) (names : List (List ℕ)) (all : List A) (i : ℕ) → length (paired view names all) ≤ i
    → None ≡ option_map (λ p. p.1) (slice_get (paired view names all) i)
paired_past view [] all i h = refl
paired_past view (n ∷ names) [] i h = refl
paired_past view (n ∷ names) (b ∷ rest) zero h = absurd (omega arith)
paired_past view (n ∷ names) (b ∷ rest) (suc i) h = paired_past view names rest i (omega arith)

pub ruleset places = (length_paired, paired_at, paired_past)

-- the place of a name

not_true : (b : Bool) → ¬ (b ≡ true) → b ≡ false
not_true true h = absurd (h refl)
not_true false h = refl

head_differs : (n t : List ℕ) (names : List (List ℕ)) → ¬ Contains (n ∷ names) t → bytes_eq n t ≡ false
head_differs n t names none = not_true (bytes_eq n t) (λ e. none (0, omega arith, (bytes_eq-Decides n t).0 e))

not_in_tail : (n t : List ℕ) (names : List (List ℕ)) → ¬ Contains (n ∷ names) t → ¬ Contains names t
not_in_tail n t names none c = none (suc c.0, omega (arith, c.1), c.2)

pub place_found : (t : List ℕ) (names : List (List ℕ)) (count i : ℕ) → slice_get names i ≡ Some t → ¬ Contains (take i names) t → i < count
    → Some i ≡ place_in t (take count names)
place_found t [] count i e none h = cc
place_found t (n ∷ names) zero i e none h = absurd (omega arith)
place_found t (n ∷ names) (suc count) zero e none h =
    let same : n ≡ t = cc in
    rw ((bytes_eq-Decides n t).1 same) refl
place_found t (n ∷ names) (suc count) (suc i) e none h =
    let rest = place_found t names count i e (not_in_tail n t (take i names) none) (omega arith) in
    rw (head_differs n t (take i names) none, ← rest) refl

pub place_beyond : (t : List ℕ) (names : List (List ℕ)) (count i : ℕ) → ¬ Contains (take i names) t → count ≤ i → None ≡ place_in t (take count names)
place_beyond t [] zero i none h = refl
place_beyond t [] (suc count) i none h = refl
place_beyond t (n ∷ names) zero i none h = refl
place_beyond t (n ∷ names) (suc count) zero none h = absurd (omega arith)
place_beyond t (n ∷ names) (suc count) (suc i) none h =
    let rest = place_beyond t names count i (not_in_tail n t (take i names) none) (omega arith) in
    rw (head_differs n t (take i names) none, ← rest) refl

pub place_missing : (t : List ℕ) (names : List (List ℕ)) (count : ℕ) → ¬ Contains names t → None ≡ place_in t (take count names)
place_missing t names count none =
    let i = length names + count in
    place_beyond t names count i (rw (take_all i names (omega arith)) none) (omega arith)
