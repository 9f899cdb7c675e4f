-- Comparing lists of values index by index.
use Rattle.std.proofs.Common.{◌≡◌, ℕ, zero, suc, min, List, [], ◌∷◌, length, drop, map, Ordering, ◌∙◌, arith, nat_cmp}
use Rattle.std.proofs.lemmas.Bool.Decides.{nat_tests}
use Rattle.serde_value.proofs.Depths.{depths}
use Rattle.data_core.specs.Node.{nodes_of, pairs_of}
use Rattle.data_core.specs.Order.{nodes_order, pairs_order}
use Rattle.serde_value.specs.View.{node_view, pair_view}
use Rattle.serde_value.specs.declared.value.Value.{Value}

abbrev pub items_order : List Value → List Value → Ordering
items_order xs ys = nodes_order (nodes_of (map node_view xs)) (nodes_of (map node_view ys))

abbrev pub entries_order : List (Value × Value) → List (Value × Value) → Ordering
entries_order xs ys = pairs_order (pairs_of (map pair_view xs)) (pairs_of (map pair_view ys))

pub items_order-end : (xs ys : List Value) (i : ℕ) → i ≡ min (length xs) (length ys) → items_order (drop i xs) (drop i ys) ≡ nat_cmp (length xs) (length ys)
items_order-end [] [] i e = rw e
items_order-end [] (y ∷ ys) i e = rw e (grind (arith, nat_tests))
items_order-end (x ∷ xs) [] i e = rw e (grind (arith, nat_tests))
items_order-end (x ∷ xs) (y ∷ ys) zero e = absurd (omega arith)
items_order-end (x ∷ xs) (y ∷ ys) (suc i) e = items_order-end xs ys i (omega arith) ∙ grind (arith, nat_tests)

pub entries_order-end : (xs ys : List (Value × Value)) (i : ℕ) → i ≡ min (length xs) (length ys) → entries_order (drop i xs) (drop i ys) ≡ nat_cmp (length xs) (length ys)
entries_order-end [] [] i e = rw e
entries_order-end [] (y ∷ ys) i e = rw e (grind (arith, nat_tests))
entries_order-end (x ∷ xs) [] i e = rw e (grind (arith, nat_tests))
entries_order-end (x ∷ xs) (y ∷ ys) zero e = absurd (omega arith)
entries_order-end (x ∷ xs) (y ∷ ys) (suc i) e = entries_order-end xs ys i (omega arith) ∙ grind (arith, nat_tests)

pub ruleset ends = (items_order-end, entries_order-end, depths)
