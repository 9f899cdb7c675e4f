-- What is put at a key depends on the pairs of its class alone, in their order: so lists whose classes
-- are the same, as a list and what a stable sort makes of it, put the same.
use Rattle.std.proofs.Common.{◌≡◌, Bool, true, false, cond, not, ◌&&◌, List, [], ◌∷◌, filter, Option, Some, None, Ordering, Less, Equal, Greater, refl, sym, ap, ◌∙◌, subst}
use Rattle.std.specs.Ordering.{match_ordering, ordering_reverse, is_lt}
use Rattle.std.specs.Option.{option_map}
use Rattle.std.specs.Cmp.{IsTotalOrder, tied_itself, alike_right}
use Rattle.std.specs.List.Sorted.{ties}
use Rattle.sorted_pairs.specs.Pairs.{AllAbove, Rises, lookup, put, put_all}
use Rattle.sorted_pairs.proofs.Places.{Rises-put}

module _ {K V : Type 0} where
  -- the pair of a class after one more: the first key stays, the last value counts
  abbrev pub keep : Option (K × V) → K × V → K × V
  keep None q = q
  keep (Some p) q = (p.0, q.1)

  kept_value : (o : Option (K × V)) (q : K × V) → (keep o q).1 ≡ q.1
  kept_value None q = refl
  kept_value (Some p) q = refl

  lookup_step : (o : Ordering) (p : K × V) (rest : Option V) (found : Option (K × V)) → rest ≡ option_map (λ q. q.1) found
      → match_ordering o None (Some p.1) rest ≡ option_map (λ q. q.1) (match_ordering o None (Some p) found)
  lookup_step Less p rest found e = refl
  lookup_step Equal p rest found e = refl
  lookup_step Greater p rest found e = e

  abbrev pub fold_class : Option (K × V) → List (K × V) → Option (K × V)
  fold_class o [] = o
  fold_class o (q ∷ qs) = fold_class (Some (keep o q)) qs

-- two that tie have one class, and two of one class tie
tied : (o : Ordering) → (not (is_lt o) && not (is_lt (ordering_reverse o))) ≡ true → o ≡ Equal
tied Less h = cc
tied Equal h = refl
tied Greater h = cc

untied : (o : Ordering) → (not (is_lt o) && not (is_lt (ordering_reverse o))) ≡ false → o ≡ Equal → ⊥
untied Less h e = cc
untied Equal h e = cc
untied Greater h e = cc

module _ {K : Type 0} (order : K → K → Ordering) (total : IsTotalOrder order) where
  reversed : (k j : K) (b : Bool) → (not (is_lt (order k j)) && not (is_lt (order j k))) ≡ b → (not (is_lt (order k j)) && not (is_lt (ordering_reverse (order k j)))) ≡ b
  reversed k j b h = rw (← total.antisymm j k) h

module _ {K V : Type 0} (order : K → K → Ordering) (total : IsTotalOrder order) where
  -- the pair at a key
  abbrev pub entry : K → List (K × V) → Option (K × V)
  entry k [] = None
  entry k (p ∷ ps) = match_ordering (order k p.0) None (Some p) (entry k ps)

  abbrev below_key : K × V → K × V → Bool
  below_key p q = is_lt (order p.0 q.0)

  same_step : (o : Ordering) (k j : K) (v : V) (p : K × V) (ps rest : List (K × V)) → order j p.0 ≡ o → order k p.0 ≡ o → order k j ≡ Equal
      → entry k rest ≡ Some (keep (entry k ps) (j, v))
      → entry k (match_ordering o ((j, v) ∷ p ∷ ps) ((p.0, v) ∷ ps) (p ∷ rest)) ≡ Some (keep (match_ordering o None (Some p) (entry k ps)) (j, v))
  same_step Less k j v p ps rest e f t i = rw t refl
  same_step Equal k j v p ps rest e f t i = rw f refl
  same_step Greater k j v p ps rest e f t i = rw f i

  -- what a key of its class finds after a put
  pub entry-same : (k j : K) (v : V) (ps : List (K × V)) → order k j ≡ Equal → entry k (put order j v ps) ≡ Some (keep (entry k ps) (j, v))
  entry-same k j v [] t = rw t refl
  entry-same k j v (p ∷ ps) t =
      let c : order k p.0 ≡ order j p.0 = total.congr k j p.0 t in
      same_step (order j p.0) k j v p ps (put order j v ps) refl c t (entry-same k j v ps t)
      ∙ ap (λ o. Some (keep (match_ordering {X = Option (K × V)} o None (Some p) (entry k ps)) (j, v))) (sym c)

  -- a key of another class finds what it found
  other_first : (o : Ordering) (k j : K) (v : V) (p : K × V) (ps : List (K × V)) → order k j ≡ o → (o ≡ Equal → ⊥) → order j p.0 ≡ Less
      → match_ordering o None (Some (j, v)) (entry k (p ∷ ps)) ≡ entry k (p ∷ ps)
  other_first Less k j v p ps e n h = rw (total.trans k j p.0 e h) refl
  other_first Equal k j v p ps e n h = absurd (n refl)
  other_first Greater k j v p ps e n h = refl

  other_over : (o : Ordering) (k : K) (v : V) (p : K × V) (ps : List (K × V)) → (o ≡ Equal → ⊥)
      → match_ordering o None (Some (p.0, v)) (entry k ps) ≡ match_ordering o None (Some p) (entry k ps)
  other_over Less k v p ps n = refl
  other_over Equal k v p ps n = absurd (n refl)
  other_over Greater k v p ps n = refl

  other_step : (o : Ordering) (k j : K) (v : V) (p : K × V) (ps rest : List (K × V)) → order j p.0 ≡ o → (order k j ≡ Equal → ⊥)
      → entry k rest ≡ entry k ps
      → entry k (match_ordering o ((j, v) ∷ p ∷ ps) ((p.0, v) ∷ ps) (p ∷ rest)) ≡ entry k (p ∷ ps)
  other_step Less k j v p ps rest e n i = other_first (order k j) k j v p ps refl n e
  other_step Equal k j v p ps rest e n i =
      other_over (order k p.0) k v p ps (λ h. n (alike_right total j p.0 k e ∙ h))
  other_step Greater k j v p ps rest e n i = ap (λ r. match_ordering (order k p.0) None (Some p) r) i

  other_alone : (o : Ordering) (j : K) (v : V) → (o ≡ Equal → ⊥) → match_ordering {X = Option (K × V)} o None (Some (j, v)) None ≡ None
  other_alone Less j v n = refl
  other_alone Equal j v n = absurd (n refl)
  other_alone Greater j v n = refl

  pub entry-other : (k j : K) (v : V) (ps : List (K × V)) → (order k j ≡ Equal → ⊥) → entry k (put order j v ps) ≡ entry k ps
  entry-other k j v [] n = other_alone (order k j) j v n
  entry-other k j v (p ∷ ps) n = other_step (order j p.0) k j v p ps (put order j v ps) refl n (entry-other k j v ps n)

  class_step : (b : Bool) (x q : K × V) (qs ps : List (K × V)) → ties below_key x q ≡ b
      → fold_class (entry x.0 (put order q.0 q.1 ps)) (filter (ties below_key x) qs) ≡ fold_class (entry x.0 ps) (cond b (q ∷ filter (ties below_key x) qs) (filter (ties below_key x) qs))
  class_step true x q qs ps e =
      ap (λ o. fold_class o (filter (ties below_key x) qs)) (entry-same x.0 q.0 q.1 ps (tied (order x.0 q.0) (reversed order total x.0 q.0 true e)))
  class_step false x q qs ps e =
      ap (λ o. fold_class o (filter (ties below_key x) qs)) (entry-other x.0 q.0 q.1 ps (untied (order x.0 q.0) (reversed order total x.0 q.0 false e)))

  -- what a key finds after many puts is told by its class
  pub entry-put_all : (x : K × V) (qs ps : List (K × V)) → entry x.0 (put_all order ps qs) ≡ fold_class (entry x.0 ps) (filter (ties below_key x) qs)
  entry-put_all x [] ps = refl
  entry-put_all x (q ∷ qs) ps =
      entry-put_all x qs (put order q.0 q.1 ps) ∙ class_step (ties below_key x q) x q qs ps refl

  pub Rises-put_all : (qs ps : List (K × V)) → Rises order ps → Rises order (put_all order ps qs)
  Rises-put_all [] ps r = r
  Rises-put_all (q ∷ qs) ps r = Rises-put_all qs (put order q.0 q.1 ps) (Rises-put order total q.0 q.1 ps r)

  -- a key that is not above a first one finds nothing after it
  above_none : (k : K) (ps : List (K × V)) → AllAbove order k ps → entry k ps ≡ None
  above_none k [] a = refl
  above_none k (p ∷ ps) a = rw a.0 refl

  lower_none : (o : Ordering) (k : K) (p : K × V) (ps : List (K × V)) → order k p.0 ≡ o → (o ≡ Greater → ⊥) → AllAbove order p.0 ps → entry k ps ≡ None
  lower_none o k p [] e n a = refl
  lower_none Less k p (q ∷ ps) e n a = rw (total.trans k p.0 q.0 e a.0) refl
  lower_none Equal k p (q ∷ ps) e n a = rw (total.congr k p.0 q.0 e, a.0) refl
  lower_none Greater k p (q ∷ ps) e n a = absurd (n refl)

  tail_step : (o : Ordering) (k : K) (p : K × V) (ps qs : List (K × V)) → order k p.0 ≡ o → AllAbove order p.0 ps → AllAbove order p.0 qs
      → match_ordering {X = Option (K × V)} o None (Some p) (entry k ps) ≡ match_ordering o None (Some p) (entry k qs) → entry k ps ≡ entry k qs
  tail_step Less k p ps qs e a b h = lower_none Less k p ps e (λ x. cc) a ∙ sym (lower_none Less k p qs e (λ x. cc) b)
  tail_step Equal k p ps qs e a b h = lower_none Equal k p ps e (λ x. cc) a ∙ sym (lower_none Equal k p qs e (λ x. cc) b)
  tail_step Greater k p ps qs e a b h = h

  some_none : (p : K × V) → Some p ≡ None → ⊥
  some_none p h = cc

  some_some : (p q : K × V) → Some p ≡ Some q → p ≡ q
  some_some p q h = cc

  found : (p : K × V) (ps : List (K × V)) → entry p.0 (p ∷ ps) ≡ Some p
  found p ps = rw (tied_itself total p.0) refl

  before : (k : K) (q : K × V) (qs : List (K × V)) → order k q.0 ≡ Less → entry k (q ∷ qs) ≡ None
  before k q qs e = rw e refl

  at : (k : K) (q : K × V) (qs : List (K × V)) → order k q.0 ≡ Equal → entry k (q ∷ qs) ≡ Some q
  at k q qs e = rw e refl

  -- the first pairs are one
  first_step : (o : Ordering) (p q : K × V) (ps qs : List (K × V)) → order p.0 q.0 ≡ o
      → entry p.0 (p ∷ ps) ≡ entry p.0 (q ∷ qs) → entry q.0 (p ∷ ps) ≡ entry q.0 (q ∷ qs) → p ≡ q
  first_step Less p q ps qs e h i =
      absurd (some_none p (sym (found p ps) ∙ (h ∙ before p.0 q qs e)))
  first_step Equal p q ps qs e h i = some_some p q (sym (found p ps) ∙ (h ∙ at p.0 q qs e))
  first_step Greater p q ps qs e h i =
      absurd (some_none q (sym (found q qs) ∙ (sym i ∙ before q.0 p ps (total.antisymm q.0 p.0 ∙ ap ordering_reverse e))))

  -- rising pairs are told by what each key finds
  pub same_entries : (ps qs : List (K × V)) → Rises order ps → Rises order qs → ((x : K × V) → entry x.0 ps ≡ entry x.0 qs) → ps ≡ qs
  same_entries [] [] r s h = refl
  same_entries [] (q ∷ qs) r s h = absurd (some_none q (sym (found q qs) ∙ sym (h q)))
  same_entries (p ∷ ps) [] r s h = absurd (some_none p (sym (found p ps) ∙ h p))
  same_entries (p ∷ ps) (q ∷ qs) r s h =
      let e : p ≡ q = first_step (order p.0 q.0) p q ps qs refl (h p) (h q) in
      let s' : AllAbove order p.0 qs = subst (λ (z : K × V). AllAbove order z.0 qs) (sym e) s.0 in
      let h' : (x : K × V) → entry x.0 (p ∷ ps) ≡ entry x.0 (p ∷ qs) = λ x. h x ∙ ap (λ z. entry x.0 (z ∷ qs)) (sym e) in
      ap (λ z. z ∷ ps) e ∙ ap (λ zs. q ∷ zs) (same_entries ps qs r.1 s.1 (λ x. tail_step (order x.0 p.0) x.0 p ps qs refl r.0 s' (h' x)))

  -- lists whose classes are the same put the same
  pub same_classes : (xs ys : List (K × V)) → ((x : K × V) → filter (ties below_key x) ys ≡ filter (ties below_key x) xs) → put_all order [] ys ≡ put_all order [] xs
  same_classes xs ys h =
      same_entries (put_all order [] ys) (put_all order [] xs) (Rises-put_all ys [] tt) (Rises-put_all xs [] tt)
      (λ x. entry-put_all x ys [] ∙ (ap (λ c. fold_class None c) (h x) ∙ sym (entry-put_all x xs [])))

  -- what a lookup finds after a put
  lookup-entry : (k : K) (ps : List (K × V)) → lookup order k ps ≡ option_map (λ p. p.1) (entry k ps)
  lookup-entry k [] = refl
  lookup-entry k (p ∷ ps) = lookup_step (order k p.0) p (lookup order k ps) (entry k ps) (lookup-entry k ps)

  pub lookup-same : (k j : K) (v : V) (ps : List (K × V)) → order k j ≡ Equal → lookup order k (put order j v ps) ≡ Some v
  lookup-same k j v ps e =
      lookup-entry k (put order j v ps) ∙ (ap (λ o. option_map (λ p. p.1) o) (entry-same k j v ps e) ∙ ap Some (kept_value (entry k ps) (j, v)))

  pub lookup-other : (k j : K) (v : V) (ps : List (K × V)) → (order k j ≡ Equal → ⊥) → lookup order k (put order j v ps) ≡ lookup order k ps
  lookup-other k j v ps n =
      lookup-entry k (put order j v ps) ∙ (ap (λ o. option_map (λ p. p.1) o) (entry-other k j v ps n) ∙ sym (lookup-entry k ps))
