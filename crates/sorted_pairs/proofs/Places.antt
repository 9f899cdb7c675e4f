-- Where a key is among pairs by rising key.
use Rattle.std.proofs.Common.{◌≡◌, ℕ, zero, suc, ◌+◌, List, [], ◌∷◌, get_or, set, Option, None, Some, Ordering, Less, Equal, Greater, refl, ap, ◌∙◌, arith}
use Rattle.std.specs.Ordering.{match_ordering, ordering_reverse}
use Rattle.std.specs.Cmp.{IsTotalOrder}
use Rattle.std.specs.List.{insert}
use Rattle.sorted_pairs.specs.Pairs.{AllAbove, Rises, lookup, put, below, up_to}

module _ {K : Type 0} (order : K → K → Ordering) (total : IsTotalOrder order) where
  module _ {V : Type 0} where
    none_step : (o : Ordering) (v : V) (rest : Option V) (u b : ℕ) → match_ordering o 0 1 (suc u) ≡ match_ordering o 0 0 (suc b) → (u ≡ b → rest ≡ None) → match_ordering o None (Some v) rest ≡ None
    none_step Less v rest u b h f = refl
    none_step Equal v rest u b h f = absurd (omega arith)
    none_step Greater v rest u b h f = f (omega arith)

    pub lookup_none : (k : K) (ps : List (K × V)) → up_to order k ps ≡ below order k ps → lookup order k ps ≡ None
    lookup_none k [] h = refl
    lookup_none k (q ∷ ps) h = none_step (order k q.0) q.1 (lookup order k ps) (up_to order k ps) (below order k ps) h (lookup_none k ps)

    found_step : (o : Ordering) (q : K × V) (rest : Option V) (ps : List (K × V)) (u b i : ℕ) (d : K × V) → match_ordering o 0 1 (suc u) ≡ i + 1 → match_ordering o 0 0 (suc b) ≡ i
        → ((j : ℕ) → u ≡ j + 1 → b ≡ j → rest ≡ Some (get_or ps j d).1) → match_ordering o None (Some q.1) rest ≡ Some (get_or (q ∷ ps) i d).1
    found_step Less q rest ps u b i d h k f = absurd (omega arith)
    found_step Equal q rest ps u b zero d h k f = refl
    found_step Equal q rest ps u b (suc i) d h k f = absurd (omega arith)
    found_step Greater q rest ps u b zero d h k f = absurd (omega arith)
    found_step Greater q rest ps u b (suc i) d h k f = f i (omega arith) (omega arith)

    pub lookup_found : (k : K) (ps : List (K × V)) (i : ℕ) (d : K × V) → up_to order k ps ≡ i + 1 → below order k ps ≡ i → lookup order k ps ≡ Some (get_or ps i d).1
    lookup_found k [] i d h e = absurd (omega arith)
    lookup_found k (q ∷ ps) i d h e = found_step (order k q.0) q (lookup order k ps) ps (up_to order k ps) (below order k ps) i d h e (λ j. lookup_found k ps j d)

    new_step : (o : Ordering) (k : K) (v : V) (q : K × V) (rest ps : List (K × V)) (u b : ℕ) → match_ordering o 0 1 (suc u) ≡ match_ordering o 0 0 (suc b) → (u ≡ b → rest ≡ insert ps b (k, v))
        → match_ordering o ((k, v) ∷ q ∷ ps) ((q.0, v) ∷ ps) (q ∷ rest) ≡ insert (q ∷ ps) (match_ordering o 0 0 (suc b)) (k, v)
    new_step Less k v q rest ps u b h f = refl
    new_step Equal k v q rest ps u b h f = absurd (omega arith)
    new_step Greater k v q rest ps u b h f = ap (λ r. q ∷ r) (f (omega arith))

    pub put_new : (k : K) (v : V) (ps : List (K × V)) → up_to order k ps ≡ below order k ps → put order k v ps ≡ insert ps (below order k ps) (k, v)
    put_new k v [] h = refl
    put_new k v (q ∷ ps) h = new_step (order k q.0) k v q (put order k v ps) ps (up_to order k ps) (below order k ps) h (put_new k v ps)

    over_step : (o : Ordering) (k : K) (v : V) (q : K × V) (rest ps : List (K × V)) (u b i : ℕ) (d : K × V) → match_ordering o 0 1 (suc u) ≡ i + 1 → match_ordering o 0 0 (suc b) ≡ i
        → ((j : ℕ) → u ≡ j + 1 → b ≡ j → rest ≡ set ps j ((get_or ps j d).0, v)) → match_ordering o ((k, v) ∷ q ∷ ps) ((q.0, v) ∷ ps) (q ∷ rest) ≡ set (q ∷ ps) i ((get_or (q ∷ ps) i d).0, v)
    over_step Less k v q rest ps u b i d h e f = absurd (omega arith)
    over_step Equal k v q rest ps u b zero d h e f = refl
    over_step Equal k v q rest ps u b (suc i) d h e f = absurd (omega arith)
    over_step Greater k v q rest ps u b zero d h e f = absurd (omega arith)
    over_step Greater k v q rest ps u b (suc i) d h e f = ap (λ r. q ∷ r) (f i (omega arith) (omega arith))

    pub put_over : (k : K) (v : V) (ps : List (K × V)) (i : ℕ) (d : K × V) → up_to order k ps ≡ i + 1 → below order k ps ≡ i → put order k v ps ≡ set ps i ((get_or ps i d).0, v)
    put_over k v [] i d h e = absurd (omega arith)
    put_over k v (q ∷ ps) i d h e = over_step (order k q.0) k v q (put order k v ps) ps (up_to order k ps) (below order k ps) i d h e (λ j. put_over k v ps j d)

    AllAbove-put : (j k : K) (v : V) (ps : List (K × V)) → order j k ≡ Less → AllAbove order j ps → AllAbove order j (put order k v ps)
    AllAbove-put j k v [] h a = (h, tt)
    AllAbove-put j k v (q ∷ ps) h a =
        elim (order k q.0) as (λ o. AllAbove order j (match_ordering o ((k, v) ∷ q ∷ ps) ((q.0, v) ∷ ps) (q ∷ put order k v ps))) [
          | Less ↦ (h, a)
          | Equal ↦ a
          | Greater ↦ (a.0, AllAbove-put j k v ps h a.1)
        ]

    pub AllAbove-lower : (j k : K) (ps : List (K × V)) → order j k ≡ Less → AllAbove order k ps → AllAbove order j ps
    AllAbove-lower j k [] h a = tt
    AllAbove-lower j k (q ∷ ps) h a = (total.trans j k q.0 h a.0, AllAbove-lower j k ps h a.1)

    rises_step : (o : Ordering) (k : K) (v : V) (q : K × V) (ps : List (K × V)) → order k q.0 ≡ o → Rises order (q ∷ ps) → Rises order (put order k v ps) → Rises order (match_ordering o ((k, v) ∷ q ∷ ps) ((q.0, v) ∷ ps) (q ∷ put order k v ps))
    rises_step Less k v q ps e r s = ((e, AllAbove-lower k q.0 ps e r.0), r)
    rises_step Equal k v q ps e r s = r
    rises_step Greater k v q ps e r s =
        (AllAbove-put q.0 k v ps (total.antisymm q.0 k ∙ ap ordering_reverse e) r.0, s)

    -- the keys still rise
    pub Rises-put : (k : K) (v : V) (ps : List (K × V)) → Rises order ps → Rises order (put order k v ps)
    Rises-put k v [] r = (tt, tt)
    Rises-put k v (q ∷ ps) r = rises_step (order k q.0) k v q ps refl r (Rises-put k v ps r.1)
