-- Ranks are in a total order, and ranks that are equal in it are the same; so is whatever is compared
-- by its rank.
use Rattle.std.specs.Prelude.{◌≡◌, ℕ, ℤ, Bool, true, false, List, [], ◌∷◌, refl}
use Rattle.std.specs.declared.cmp.Ordering.{Ordering}
use Rattle.std.specs.declared.cmp.Ordering.TheVariants.{Less, Equal, Greater}
use Rattle.std.specs.Ordering.{ordering_then, ordering_reverse, nat_cmp, int_cmp, bool_cmp}
use Rattle.std.specs.Cmp.{IsTotalOrder}
use Rattle.std.specs.Cmp.Lexicographic.{slice_cmp}
use Rattle.std.proofs.Common.{ap, sym, ◌∙◌}
use Rattle.std.proofs.lemmas.Cmp.{nat_cmp_total, int_cmp_total, nat_list_cmp_total, lists_total, alike_right, ranked, int_ranked}
use Rattle.data_core.specs.Rank.{Rank, rank, Ranks, no_ranks, more, rank_order, ranks_order, bit}

-- a law of three answers: what x to y and y to z say of x to z
abbrev pub Composes : Ordering → Ordering → Ordering → Type 0
Composes Equal q r = r ≡ q
Composes Less Equal r = r ≡ Less
Composes Less Less r = r ≡ Less
Composes Less Greater r = Unit {0}
Composes Greater Equal r = r ≡ Greater
Composes Greater Greater r = r ≡ Greater
Composes Greater Less r = Unit {0}

starts : (p : Ordering) → Composes p Less Less
starts Less = refl
starts Equal = refl
starts Greater = tt

ends_at : (p : Ordering) → Composes p Greater Greater
ends_at Less = tt
ends_at Equal = refl
ends_at Greater = refl

below : (q : Ordering) → Composes Less q Less
below Less = refl
below Equal = refl
below Greater = tt

above : (q : Ordering) → Composes Greater q Greater
above Less = tt
above Equal = refl
above Greater = refl

Composes-then : (p q r p' q' r' : Ordering) → Composes p q r → Composes p' q' r' → Composes (ordering_then p p') (ordering_then q q') (ordering_then r r')
Composes-then Equal Equal r p' q' r' h k = rw h k
Composes-then Equal Less r p' q' r' h k = rw h (starts p')
Composes-then Equal Greater r p' q' r' h k = rw h (ends_at p')
Composes-then Less Equal r p' q' r' h k = rw h (below q')
Composes-then Less Less r p' q' r' h k = rw h
Composes-then Less Greater r p' q' r' h k = tt
Composes-then Greater Equal r p' q' r' h k = rw h (above q')
Composes-then Greater Less r p' q' r' h k = tt
Composes-then Greater Greater r p' q' r' h k = rw h

module _ {K : Type 0} {R : K → K → Ordering} (o : IsTotalOrder R) where
  Composes-total_at : (x y z : K) (p q : Ordering) → R x y ≡ p → R y z ≡ q → Composes p q (R x z)
  Composes-total_at x y z Equal q e f = o.congr x y z e ∙ f
  Composes-total_at x y z Less Equal e f = sym (alike_right o y z x f) ∙ e
  Composes-total_at x y z Less Less e f = o.trans x y z e f
  Composes-total_at x y z Less Greater e f = tt
  Composes-total_at x y z Greater Equal e f = sym (alike_right o y z x f) ∙ e
  Composes-total_at x y z Greater Less e f = tt
  Composes-total_at x y z Greater Greater e f =
      o.antisymm x z ∙ ap ordering_reverse (o.trans z y x (o.antisymm z y ∙ ap ordering_reverse f) (o.antisymm y x ∙ ap ordering_reverse e))

  Composes-total : (x y z : K) → Composes (R x y) (R y z) (R x z)
  Composes-total x y z = Composes-total_at x y z _ _ refl refl

ints_total : IsTotalOrder (slice_cmp int_cmp)
ints_total = lists_total int_cmp_total

mutual
  Composes-ranks : (x y z : Rank) → Composes (rank_order x y) (rank_order y z) (rank_order x z)
  Composes-ranks (rank l xs us as') (rank m ys vs bs) (rank n zs ws cs) =
      Composes-then _ _ _ _ _ _ (Composes-total nat_cmp_total l m n)
      (Composes-then _ _ _ _ _ _ (Composes-total nat_list_cmp_total xs ys zs)
      (Composes-then _ _ _ _ _ _ (Composes-total ints_total us vs ws) (Composes-lists as' bs cs)))

  Composes-lists : (x y z : Ranks) → Composes (ranks_order x y) (ranks_order y z) (ranks_order x z)
  Composes-lists no_ranks no_ranks z = refl
  Composes-lists no_ranks (more b bs) no_ranks = tt
  Composes-lists no_ranks (more b bs) (more c cs) = below _
  Composes-lists (more a as') no_ranks no_ranks = refl
  Composes-lists (more a as') no_ranks (more c cs) = tt
  Composes-lists (more a as') (more b bs) no_ranks = ends_at _
  Composes-lists (more a as') (more b bs) (more c cs) = Composes-then _ _ _ _ _ _ (Composes-ranks a b c) (Composes-lists as' bs cs)

flip_then : (p q p' q' : Ordering) → p ≡ ordering_reverse p' → q ≡ ordering_reverse q' → ordering_then p q ≡ ordering_reverse (ordering_then p' q')
flip_then p q Less q' h k = rw h
flip_then p q Equal q' h k = rw h k
flip_then p q Greater q' h k = rw h

mutual
  flip_rank : (x y : Rank) → rank_order x y ≡ ordering_reverse (rank_order y x)
  flip_rank (rank l xs us as') (rank m ys vs bs) =
      flip_then _ _ _ _ (nat_cmp_total.antisymm l m)
      (flip_then _ _ _ _ (nat_list_cmp_total.antisymm xs ys)
      (flip_then _ _ _ _ (ints_total.antisymm us vs) (flip_ranks as' bs)))

  flip_ranks : (x y : Ranks) → ranks_order x y ≡ ordering_reverse (ranks_order y x)
  flip_ranks no_ranks no_ranks = refl
  flip_ranks no_ranks (more b bs) = refl
  flip_ranks (more a as') no_ranks = refl
  flip_ranks (more a as') (more b bs) = flip_then _ _ _ _ (flip_rank a b) (flip_ranks as' bs)

less_from : (p q r : Ordering) → Composes p q r → p ≡ Less → q ≡ Less → r ≡ Less
less_from Less Less r h e f = h
less_from Less Equal r h e f = h
less_from Less Greater r h e f = cc
less_from Equal q r h e f = cc
less_from Greater q r h e f = cc

same_from : (p q r : Ordering) → Composes p q r → p ≡ Equal → r ≡ q
same_from Equal q r h e = h
same_from Less q r h e = cc
same_from Greater q r h e = cc

pub rank_total : IsTotalOrder rank_order
rank_total = record {
  antisymm = flip_rank;
  trans = λ x y z. less_from _ _ _ (Composes-ranks x y z);
  congr = λ x y z. same_from _ _ _ (Composes-ranks x y z);
}

-- an order by rank is total
pub total_by_rank : {A : Type 0} (order : A → A → Ordering) (rank_of : A → Rank) → ((x y : A) → order x y ≡ rank_order (rank_of x) (rank_of y)) → IsTotalOrder order
total_by_rank order rank_of by = record {
  antisymm = λ x y. by x y ∙ (rank_total.antisymm (rank_of x) (rank_of y) ∙ ap ordering_reverse (sym (by y x)));
  trans = λ x y z e f. by x z ∙ rank_total.trans (rank_of x) (rank_of y) (rank_of z) (sym (by x y) ∙ e) (sym (by y z) ∙ f);
  congr = λ x y z e. by x z ∙ (rank_total.congr (rank_of x) (rank_of y) (rank_of z) (sym (by x y) ∙ e) ∙ sym (by y z));
}

-- steps by which an order is seen to be one by rank

pub alone : (o : Ordering) → o ≡ ordering_then o Equal
alone Less = refl
alone Equal = refl
alone Greater = refl

pub alone_twice : (o : Ordering) → o ≡ ordering_then (ordering_then o Equal) Equal
alone_twice Less = refl
alone_twice Equal = refl
alone_twice Greater = refl

pub bits : (a b : Bool) → bool_cmp a b ≡ ordering_then (ordering_then (nat_cmp (bit a) (bit b)) Equal) Equal
bits false false = refl
bits false true = refl
bits true false = refl
bits true true = refl

-- what is equal in an order is the same

pub both : (p q : Ordering) → ordering_then p q ≡ Equal → (p ≡ Equal) × (q ≡ Equal)
both Equal q h = (refl, h)
both Less q h = cc
both Greater q h = cc

pub same_bool : (a b : Bool) → bool_cmp a b ≡ Equal → a ≡ b
same_bool true true h = refl
same_bool false false h = refl
same_bool true false h = cc
same_bool false true h = cc

pub same_nat : (a b : ℕ) → nat_cmp a b ≡ Equal → a ≡ b
same_nat a b h = ranked a b Equal (sym h)

pub same_int : (a b : ℤ) → int_cmp a b ≡ Equal → a ≡ b
same_int a b h = int_ranked a b Equal (sym h)

pub same_list : (a b : List ℕ) → slice_cmp nat_cmp a b ≡ Equal → a ≡ b
same_list [] [] h = refl
same_list [] (y ∷ ys) h = cc
same_list (x ∷ xs) [] h = cc
same_list (x ∷ xs) (y ∷ ys) h = let p = both _ _ h in rw (same_nat x y p.0, same_list xs ys p.1)
