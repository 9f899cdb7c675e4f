-- Comparing lists of data index by index.
use Rattle.std.proofs.Common.{◌≡◌, ℕ, zero, suc, min, List, [], ◌∷◌, length, drop, map, Ordering, ◌∙◌, arith, nat_cmp}
use Rattle.std.proofs.lemmas.Bool.Decides.{nat_tests}
use Rattle.shape.specs.Shape.{parts_of, pairs_of}
use Rattle.shape.specs.DataOrder.{parts_order, pairs_order}
use Rattle.shape.specs.View.{data_view, pair_view}
use Rattle.shape.specs.declared.data.Data.{Data}
use Rattle.shape.proofs.Depths.{depths}

abbrev pub items_order : List Data → List Data → Ordering
items_order xs ys = parts_order (parts_of (map data_view xs)) (parts_of (map data_view ys))

abbrev pub entries_order : List (Data × Data) → List (Data × Data) → Ordering
entries_order xs ys = pairs_order (pairs_of (map pair_view xs)) (pairs_of (map pair_view ys))

pub items_order-end : (xs ys : List Data) (i : ℕ) → i ≡ min (length xs) (length ys) → items_order (drop i xs) (drop i ys) ≡ nat_cmp (length xs) (length ys)
items_order-end [] [] i e = rw e
items_order-end [] (y ∷ ys) i e = rw e (grind (arith, nat_tests))
items_order-end (x ∷ xs) [] i e = rw e (grind (arith, nat_tests))
items_order-end (x ∷ xs) (y ∷ ys) zero e = absurd (omega arith)
items_order-end (x ∷ xs) (y ∷ ys) (suc i) e = items_order-end xs ys i (omega arith) ∙ grind (arith, nat_tests)

pub entries_order-end : (xs ys : List (Data × Data)) (i : ℕ) → i ≡ min (length xs) (length ys) → entries_order (drop i xs) (drop i ys) ≡ nat_cmp (length xs) (length ys)
entries_order-end [] [] i e = rw e
entries_order-end [] (y ∷ ys) i e = rw e (grind (arith, nat_tests))
entries_order-end (x ∷ xs) [] i e = rw e (grind (arith, nat_tests))
entries_order-end (x ∷ xs) (y ∷ ys) zero e = absurd (omega arith)
entries_order-end (x ∷ xs) (y ∷ ys) (suc i) e = entries_order-end xs ys i (omega arith) ∙ grind (arith, nat_tests)

pub ruleset ends = (items_order-end, entries_order-end, depths)
