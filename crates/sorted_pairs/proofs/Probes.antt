-- The probes of a search by halves over a row of comparisons, and what they cost. o is any answer:
-- `get_or` reads it past the end alone.
use Rattle.std.proofs.Common.{◌≡◌, ℕ, ◌+◌, ◌-◌, ◌*◌, ◌^◌, ◌<◌, ◌≤◌, zero, suc, List, [], ◌∷◌, length, get_or, Ordering, ◌⊎◌, inl, inr, Less, Equal, Greater, refl, ap, ◌∙◌, arith}
use Rattle.std.specs.Ordering.{match_ordering}
use Rattle.std.proofs.Math.Nat.{mul_assoc, mul-le-mul_left, mul-suc, pow-suc}
use Rattle.sorted_pairs.specs.Answers.{AllLess, Falls, greater, not_less}

up_to_step : (o : Ordering) (i n : ℕ) → n ≤ i → match_ordering o 0 1 (suc n) ≤ suc i
up_to_step Less i n h = omega arith
up_to_step Equal i n h = omega arith
up_to_step Greater i n h = omega arith

order_step : (o : Ordering) (b u n : ℕ) → b ≤ u → u ≤ n → (match_ordering o 0 0 (suc b) ≤ match_ordering o 0 1 (suc u)) × (match_ordering o 0 1 (suc u) ≤ suc n)
order_step Less b u n h k = (omega arith, omega arith)
order_step Equal b u n h k = (omega arith, omega arith)
order_step Greater b u n h k = (omega arith, omega arith)

between : (os : List Ordering) → (greater os ≤ not_less os) × (not_less os ≤ length os)
between [] = (omega arith, omega arith)
between (o ∷ os) = let w = between os in order_step o (greater os) (not_less os) (length os) w.0 w.1

pub greater≤not_less : (os : List Ordering) → greater os ≤ not_less os
greater≤not_less os = (between os).0

pub not_less≤length : (os : List Ordering) → not_less os ≤ length os
not_less≤length os = (between os).1

pub less_at : (os : List Ordering) (i : ℕ) (o : Ordering) → AllLess os → i < length os → get_or os i o ≡ Less
less_at [] i o a h = absurd (omega arith)
less_at (x ∷ os) zero o a h = a.0
less_at (x ∷ os) (suc i) o a h = less_at os i o a.1 (omega arith)

pub neither : (o : Ordering) → (o ≡ Equal) ⊎ (o ≡ Greater) → o ≡ Less → ⊥
neither o (inl e) h = cc
neither o (inr e) h = cc

pub all_less : (os : List Ordering) → ((k : ℕ) (o : Ordering) → k < length os → get_or os k o ≡ Less) → AllLess os
all_less [] h = tt
all_less (o ∷ os) h = (h 0 o (omega arith), all_less os (λ k x n. h (suc k) x (omega arith)))

-- where an answer is `Less`
pub probe_less : (os : List Ordering) (i : ℕ) (o : Ordering) → i < length os → get_or os i o ≡ Less → not_less os ≤ i
probe_less [] i o n h = absurd (omega arith)
probe_less (x ∷ os) zero o n h = rw h (omega arith)
probe_less (x ∷ os) (suc i) o n h = up_to_step x i (not_less os) (probe_less os i o (omega arith) h)

-- where it is `Greater`
pub probe_greater : (os : List Ordering) (i : ℕ) (o : Ordering) → Falls os → i < length os → get_or os i o ≡ Greater → i + 1 ≤ greater os
probe_greater [] i o f n h = absurd (omega arith)
probe_greater (Less ∷ os) zero o f n h = cc
probe_greater (Less ∷ os) (suc i) o f n h = let l = less_at os i o f (omega arith) in cc
probe_greater (Equal ∷ os) zero o f n h = cc
probe_greater (Equal ∷ os) (suc i) o f n h = let l = less_at os i o f (omega arith) in cc
probe_greater (Greater ∷ os) zero o f n h = omega arith
probe_greater (Greater ∷ os) (suc i) o f n h = omega (arith, probe_greater os i o f (omega arith) h)

-- where it is `Equal`
probe_both : (os : List Ordering) (i : ℕ) (o : Ordering) → Falls os → i < length os → get_or os i o ≡ Equal → (greater os ≡ i) × (not_less os ≡ i + 1)
probe_both [] i o f n h = absurd (omega arith)
probe_both (Less ∷ os) zero o f n h = cc
probe_both (Less ∷ os) (suc i) o f n h = let l = less_at os i o f (omega arith) in cc
probe_both (Equal ∷ os) zero o f n h = (refl, omega arith)
probe_both (Equal ∷ os) (suc i) o f n h = let l = less_at os i o f (omega arith) in cc
probe_both (Greater ∷ os) zero o f n h = cc
probe_both (Greater ∷ os) (suc i) o f n h = let w = probe_both os i o f (omega arith) h in (omega arith, omega arith)

pub probe_here : (os : List Ordering) (i : ℕ) (o : Ordering) → Falls os → i < length os → get_or os i o ≡ Equal → greater os ≡ i
probe_here os i o f n h = (probe_both os i o f n h).0

pub probe_next : (os : List Ordering) (i : ℕ) (o : Ordering) → Falls os → i < length os → get_or os i o ≡ Equal → not_less os ≡ i + 1
probe_next os i o f n h = (probe_both os i o f n h).1

one_more : (s t : ℕ) → s ≤ t → t + 1 - s ≡ suc (t - s)
one_more s t h = omega arith

twice : (s t : ℕ) → s ≤ t → 2 ^ (t + 1 - s) ≡ 2 ^ (t - s) * 2
twice s t h = ap (λ k. 2 ^ k) (one_more s t h) ∙ pow-suc 2 (t - s)

halved_at : (p n m l : ℕ) → p * n ≤ l → 2 * m ≤ n → p * 2 * m ≤ l
halved_at p n m l h k = omega (arith, mul_assoc p 2 m, mul-le-mul_left p k)

cost_at : (p n l : ℕ) → p * n ≤ l → 0 < n → p * 2 ≤ 2 * l + 1
cost_at p zero l h k = absurd (omega arith)
cost_at p (suc n) l h k = omega (arith, mul-suc p n)

none : (s : ℕ) → s - s ≡ 0
none s = omega arith

none_yet : (s : ℕ) → 2 ^ (s - s) ≡ 1
none_yet s = ap (λ k. 2 ^ k) (none s)

-- before the first step
pub at_start : (s l : ℕ) → (2 ^ (s - s) * (l - 0) ≤ l) × (2 ^ (s - s) ≤ 2 * l + 1)
at_start s l = rw (none_yet s) (omega arith, omega arith)

-- one more step, from n places to m
pub halved-step : (s t n m l : ℕ) → s ≤ t → 2 ^ (t - s) * n ≤ l → 2 * m ≤ n → 2 ^ (t + 1 - s) * m ≤ l
halved-step s t n m l o h k = rw (twice s t o) (halved_at (2 ^ (t - s)) n m l h k)

pub cost-step : (s t n l : ℕ) → s ≤ t → 2 ^ (t - s) * n ≤ l → 0 < n → 2 ^ (t + 1 - s) ≤ 2 * l + 1
cost-step s t n l o h k = rw (twice s t o) (cost_at (2 ^ (t - s)) n l h k)

start_both : (s l : ℕ) → (2 ^ (s - s) * (l - 0) ≤ l) × (2 ^ (s - s) ≤ 2 * l + 1)
start_both s l = rw (none_yet s) (omega arith, omega arith)

pub halved_start : (s l : ℕ) → 2 ^ (s - s) * (l - 0) ≤ l
halved_start s l = (start_both s l).0

pub cost_start : (s l : ℕ) → 2 ^ (s - s) ≤ 2 * l + 1
cost_start s l = (start_both s l).1

pub ruleset halves = (greater≤not_less, not_less≤length, probe_less, probe_greater, probe_here, probe_next, halved-step, cost-step, halved_start, cost_start)
