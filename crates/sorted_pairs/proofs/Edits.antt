-- A map with a value written over, and with a pair more: pairs of the code, whose keys and values are
-- seen through views.
use Rattle.std.proofs.Common.{◌≡◌, ℕ, suc, ◌+◌, ◌<◌, List, [], ◌∷◌, length, get_or, take, drop, set, map, Ordering, Less, Equal, Greater, Some, None, refl, sym, ap, ◌∙◌}
use Rattle.std.specs.List.{insert}
use Rattle.std.specs.Ordering.{match_ordering, on}
use Rattle.std.specs.Cmp.{IsTotalOrder}
use Rattle.std.proofs.lemmas.List.{get_or-map, map-set, map-append, take-map, drop-map}
use Rattle.sorted_pairs.specs.Pairs.{AllAbove, Rises, lookup, put, put_all, below, up_to}
use Rattle.sorted_pairs.proofs.Classes.{Rises-put_all}
use Rattle.sorted_pairs.proofs.Places.{Rises-put, put_over, put_new, lookup_found, lookup_none}

module _ {K V A B : Type 0} (f : K → A) (g : V → B) (order : A → A → Ordering) where
  abbrev view : K × V → A × B
  view p = (f p.0, g p.1)

  -- what is said of the code's pairs by the order of views is said of the pairs of views

  pub above_of_views : (k : K) (xs : List (K × V)) → AllAbove order (f k) (map view xs) → AllAbove (on f order) k xs
  above_of_views k [] h = tt
  above_of_views k (x ∷ xs) h = (h.0, above_of_views k xs h.1)

  pub rises_of_views : (xs : List (K × V)) → Rises order (map view xs) → Rises (on f order) xs
  rises_of_views [] h = tt
  rises_of_views (x ∷ xs) h = (above_of_views x.0 xs h.0, rises_of_views xs h.1)

  below_of_views : (k : K) (xs : List (K × V)) → below (on f order) k xs ≡ below order (f k) (map view xs)
  below_of_views k [] = refl
  below_of_views k (x ∷ xs) = ap (λ n. match_ordering (order (f k) (f x.0)) 0 0 (suc n)) (below_of_views k xs)

  up_to_of_views : (k : K) (xs : List (K × V)) → up_to (on f order) k xs ≡ up_to order (f k) (map view xs)
  up_to_of_views k [] = refl
  up_to_of_views k (x ∷ xs) = ap (λ n. match_ordering (order (f k) (f x.0)) 0 1 (suc n)) (up_to_of_views k xs)

  map-insert : (xs : List (K × V)) (i : ℕ) (x : K × V) → map view (insert xs i x) ≡ insert (map view xs) i (view x)
  map-insert xs i x = rw (map-append view (take i xs) (x ∷ drop i xs), take-map view i xs, drop-map view i xs)

  module _ (total : IsTotalOrder order) (k : K) (xs : List (K × V)) (i : ℕ) (b : below (on f order) k xs ≡ i) where
    seen_below : below order (f k) (map view xs) ≡ i
    seen_below = sym (below_of_views k xs) ∙ b

    pub set_value : (v : V) (d : K × V) → up_to (on f order) k xs ≡ i + 1 → i < length xs → map view (set xs i ((get_or xs i d).0, v)) ≡ put order (f k) (g v) (map view xs)
    set_value v d u n =
        map-set view xs i ((get_or xs i d).0, v) ∙ (ap (λ p. set (map view xs) i (p.0, g v)) (sym (get_or-map view xs i d (view d) n)) ∙ sym (put_over order total (f k) (g v) (map view xs) i (view d) (sym (up_to_of_views k xs) ∙ u) seen_below))

    pub find_value : (d : K × V) → up_to (on f order) k xs ≡ i + 1 → i < length xs → Some (g (get_or xs i d).1) ≡ lookup order (f k) (map view xs)
    find_value d u n =
        ap (λ p. Some p.1) (sym (get_or-map view xs i d (view d) n)) ∙ sym (lookup_found order total (f k) (map view xs) i (view d) (sym (up_to_of_views k xs) ∙ u) seen_below)

    pub find_none : up_to (on f order) k xs ≡ i → lookup order (f k) (map view xs) ≡ None
    find_none u = lookup_none order total (f k) (map view xs) (sym (up_to_of_views k xs) ∙ (u ∙ sym seen_below))

    pub insert_pair : (v : V) → up_to (on f order) k xs ≡ i → map view (insert xs i (k, v)) ≡ put order (f k) (g v) (map view xs)
    insert_pair v u =
        map-insert xs i (k, v) ∙ sym (put_new order total (f k) (g v) (map view xs) (sym (up_to_of_views k xs) ∙ (u ∙ sym seen_below)) ∙ ap (λ j. insert (map view xs) j (f k, g v)) seen_below)

    pub rises_set : (v : V) (d : K × V) → up_to (on f order) k xs ≡ i + 1 → i < length xs → Rises order (map view xs) → Rises order (map view (set xs i ((get_or xs i d).0, v)))
    rises_set v d u n r = rw (set_value v d u n) (Rises-put order total (f k) (g v) (map view xs) r)

    pub rises_insert : (v : V) → up_to (on f order) k xs ≡ i → Rises order (map view xs) → Rises order (map view (insert xs i (k, v)))
    rises_insert v u r = rw (insert_pair v u) (Rises-put order total (f k) (g v) (map view xs) r)

module _ {K V A B : Type 0} (f : K → A) (g : V → B) (order : A → A → Ordering) where
  abbrev seen : K × V → A × B
  seen p = (f p.0, g p.1)

  put_step : (o : Ordering) (k : K) (v : V) (p : K × V) (ps rest : List (K × V)) (rests : List (A × B)) → map seen rest ≡ rests
      → map seen (match_ordering o ((k, v) ∷ p ∷ ps) ((p.0, v) ∷ ps) (p ∷ rest)) ≡ match_ordering o ((f k, g v) ∷ seen p ∷ map seen ps) ((f p.0, g v) ∷ map seen ps) (seen p ∷ rests)
  put_step Less k v p ps rest rests e = refl
  put_step Equal k v p ps rest rests e = refl
  put_step Greater k v p ps rest rests e = ap (λ r. seen p ∷ r) e

  pub put_of_views : (k : K) (v : V) (ps : List (K × V)) → map seen (put (on f order) k v ps) ≡ put order (f k) (g v) (map seen ps)
  put_of_views k v [] = refl
  put_of_views k v (p ∷ ps) = put_step (order (f k) (f p.0)) k v p ps (put (on f order) k v ps) (put order (f k) (g v) (map seen ps)) (put_of_views k v ps)

  pub put_all_of_views : (qs ps : List (K × V)) → map seen (put_all (on f order) ps qs) ≡ put_all order (map seen ps) (map seen qs)
  put_all_of_views [] ps = refl
  put_all_of_views (q ∷ qs) ps =
      put_all_of_views qs (put (on f order) q.0 q.1 ps) ∙ ap (λ rs. put_all order rs (map seen qs)) (put_of_views q.0 q.1 ps)

  pub rises_put_all : IsTotalOrder order → (qs : List (K × V)) → Rises order (map seen (put_all (on f order) [] qs))
  rises_put_all total qs = rw (put_all_of_views qs []) (Rises-put_all order total (map seen qs) [] tt)
