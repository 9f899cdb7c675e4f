-- What a pass over pairs that do not fall makes, and that pairs which rise already are what is put of them.
use Rattle.std.proofs.Common.{◌≡◌, ℕ, suc, ◌+◌, Bool, true, false, List, [], ◌∷◌, get_or, Ordering, Less, Equal, Greater, refl, sym, ap, ◌∙◌, subst, arith}
use Rattle.std.specs.Bool.{MatchBool}
use Rattle.std.specs.Ordering.{match_ordering, ordering_reverse, is_lt, is_eq}
use Rattle.std.specs.Cmp.{IsTotalOrder, tied_back, alike_right}
use Rattle.std.specs.List.Sorted.{IsSortedBy}
use Rattle.std.specs.List.Retain.{DedupsFrom, IsDeduped}
use Rattle.sorted_pairs.specs.Pairs.{AllAbove, Rises, put, put_all}

one_more : (k : ℕ) → suc k + 1 ≡ suc (k + 1)
one_more k = omega arith

equal_at : (o : Ordering) → true ≡ is_eq o → o ≡ Equal
equal_at Less h = cc
equal_at Equal h = refl
equal_at Greater h = cc

less_at : (o : Ordering) → (o ≡ Greater → ⊥) → (o ≡ Equal → ⊥) → o ≡ Less
less_at Less g e = refl
less_at Equal g e = absurd (e refl)
less_at Greater g e = absurd (g refl)

differs : (o : Ordering) → false ≡ is_eq o → o ≡ Equal → ⊥
differs o h e = cc

not_less_at : (o : Ordering) → is_lt o ≡ false → o ≡ Less → ⊥
not_less_at o h e = cc

module _ {K : Type 0} (order : K → K → Ordering) (total : IsTotalOrder order) where
  -- a key below one that does not fall is below it too
  under : (k x y : K) (o : Ordering) → order k x ≡ Less → order x y ≡ o → (o ≡ Greater → ⊥) → order k y ≡ Less
  under k x y Less h e n = total.trans k x y h e
  under k x y Equal h e n = sym (alike_right total x y k e) ∙ h
  under k x y Greater h e n = absurd (n refl)

  turned : (k x : K) → order k x ≡ Less → order x k ≡ Greater
  turned k x h = total.antisymm x k ∙ ap ordering_reverse h

  not_less : (k x : K) → is_lt (order x k) ≡ false → order k x ≡ Greater → ⊥
  not_less k x h e = not_less_at (order x k) h (total.antisymm x k ∙ ap ordering_reverse e)

module _ {K V : Type 0} (order : K → K → Ordering) (total : IsTotalOrder order) where
  -- the keys do not fall
  abbrev pub Climbs : K × V → List (K × V) → Type 0
  Climbs k [] = Unit {0}
  Climbs k (x ∷ xs) = (order k.0 x.0 ≡ Greater → ⊥) × Climbs x xs

  above_all : (k x : K × V) (xs : List (K × V)) → order k.0 x.0 ≡ Less → Climbs x xs → AllAbove order k.0 xs
  above_all k x [] h c = tt
  above_all k x (y ∷ ys) h c =
      let l = under order total k.0 x.0 y.0 (order x.0 y.0) h refl c.0 in (l, above_all k y ys l c.1)

  -- pairs above a first one are put after it
  pub put_after : (k : K × V) (xs ps : List (K × V)) → AllAbove order k.0 xs → put_all order (k ∷ ps) xs ≡ k ∷ put_all order ps xs
  put_after k [] ps a = refl
  put_after k (x ∷ xs) ps a =
      ap (λ o. put_all order (match_ordering o ((x.0, x.1) ∷ k ∷ ps) ((k.0, x.1) ∷ ps) (k ∷ put order x.0 x.1 ps)) xs) (turned order total k.0 x.0 a.0)
      ∙ put_after k xs (put order x.0 x.1 ps) a.1

  pub risen : (ps : List (K × V)) → Rises order ps → put_all order [] ps ≡ ps
  risen [] r = refl
  risen (p ∷ ps) r = put_after p ps [] r.0 ∙ ap (λ qs. p ∷ qs) (risen ps r.1)

  -- one of a run more, or the first of the next run
  put_tied : (k x : K × V) (xs : List (K × V)) → order x.0 k.0 ≡ Equal → put_all order (k ∷ []) (x ∷ xs) ≡ put_all order ((k.0, x.1) ∷ []) xs
  put_tied k x xs e = ap (λ o. put_all order (match_ordering o ((x.0, x.1) ∷ k ∷ []) ((k.0, x.1) ∷ []) (k ∷ (x.0, x.1) ∷ [])) xs) e

  put_next : (k x : K × V) (xs : List (K × V)) → order k.0 x.0 ≡ Less → Climbs x xs → put_all order (k ∷ []) (x ∷ xs) ≡ k ∷ put_all order (x ∷ []) xs
  put_next k x xs h c = put_after k (x ∷ xs) [] (h, above_all k x xs h c)

  climbs_tied : (k x : K × V) (v : V) (xs : List (K × V)) → order x.0 k.0 ≡ Equal → Climbs x xs → Climbs (k.0, v) xs
  climbs_tied k x v [] e c = tt
  climbs_tied k x v (y ∷ ys) e c = (λ h. c.0 (total.congr x.0 k.0 y.0 e ∙ h), c.1)

  -- from what a sort ensures
  pub climbs : (x : K × V) (xs : List (K × V)) → IsSortedBy (λ x y. is_lt (order x.0 y.0)) (x ∷ xs) → Climbs x xs
  climbs x [] s = tt
  climbs x (y ∷ ys) s =
      (not_less order total x.0 y.0 (s 0 x (omega arith) (omega arith)), climbs y ys (λ k d a b. let P : ℕ → Type 0 = λ j. is_lt (order (get_or (x ∷ y ∷ ys) j d).0 (get_or (y ∷ ys) k d).0) ≡ false in subst P (one_more k) (s (suc k) d (omega arith) (omega arith))))

  -- what `dedup_by` leaves, where its test takes over the later value of a run
  abbrev pub TakesOver : K × V → K × V → Bool → K × V → K × V → Type 0
  TakesOver x k b x' k' = (b ≡ is_eq (order x.0 k.0)) × MatchBool b (k' ≡ (k.0, x.1)) ((x' ≡ x) × (k' ≡ k))

  module _ {F : Type 0} (R : F → K × V → K × V → Bool → F → K × V → K × V → Type 0) (h : (f : F) (x k : K × V) (b : Bool) (f' : F) (x' k' : K × V) → R f x k b f' x' k' → TakesOver x k b x' k') where
    pass_step : (b : Bool) (k x x' k' : K × V) (t : F) (xs ys : List (K × V)) → TakesOver x k b x' k' → (order k.0 x.0 ≡ Greater → ⊥) → Climbs x xs
        → ((k : K × V) (ys : List (K × V)) → Climbs k xs → DedupsFrom R t k xs ys → ys ≡ put_all order (k ∷ []) xs)
        → MatchBool b (DedupsFrom R t k' xs ys) ((zs : List (K × V)) × DedupsFrom R t x' xs zs × (ys ≡ k' ∷ zs))
        → ys ≡ put_all order (k ∷ []) (x ∷ xs)
    pass_step true k x x' k' t xs ys w n c i d =
        let e : order x.0 k.0 ≡ Equal = equal_at (order x.0 k.0) w.0 in
        i (k.0, x.1) ys (climbs_tied k x x.1 xs e c) (subst (λ (z : K × V). DedupsFrom R t z xs ys) w.1 d) ∙ sym (put_tied k x xs e)
    pass_step false k x x' k' t xs ys w n c i d =
        let e : order k.0 x.0 ≡ Less = less_at (order k.0 x.0) n (λ g. differs (order x.0 k.0) w.0 (tied_back total k.0 x.0 g)) in
        let z : d.0 ≡ put_all order (x ∷ []) xs = i x d.0 c (subst (λ (y : K × V). DedupsFrom R t y xs d.0) w.1.0 d.1) in
        d.2 ∙ (ap (λ y. y ∷ d.0) w.1.1 ∙ (ap (λ zs. k ∷ zs) z ∙ sym (put_next k x xs e c)))

    pass : (xs : List (K × V)) (f : F) (k : K × V) (ys : List (K × V)) → Climbs k xs → DedupsFrom R f k xs ys → ys ≡ put_all order (k ∷ []) xs
    pass [] f k ys c d = d
    pass (x ∷ xs) f k ys c d =
        pass_step d.0 k x d.2 d.3 d.1 xs ys (h f x k d.0 d.1 d.2 d.3 d.4) c.0 c.1 (λ k ys. pass xs d.1 k ys) d.5

    -- the fold of put, by one pass
    pub passed : (f : F) (xs ys : List (K × V)) → IsSortedBy (λ x y. is_lt (order x.0 y.0)) xs → IsDeduped R f xs ys → ys ≡ put_all order [] xs
    passed f [] ys s d = d.told
    passed f (x ∷ xs) ys s d = pass xs f x ys (climbs x xs s) d.told
