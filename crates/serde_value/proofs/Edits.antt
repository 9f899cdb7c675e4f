-- A map of trees with a value written over, and with a pair more.
use Rattle.std.proofs.Common.{◌≡◌, ℕ, ◌+◌, ◌<◌, List, length, get_or, set, map, Some, None}
use Rattle.std.specs.List.{insert}
use Rattle.std.specs.Ordering.{on}
use Rattle.data_core.specs.Order.{node_order}
use Rattle.data_core.specs.OrderLaws.{node_order_total}
use Rattle.sorted_pairs.specs.Pairs.{Rises, lookup, put, below, up_to}
use Rattle.sorted_pairs.proofs.Edits as generic
use Rattle.serde_value.specs.View.{node_view, pair_view}
use Rattle.serde_value.specs.declared.value.Value.{Value}

pub rises_of_trees : (xs : List (Value × Value)) → Rises node_order (map pair_view xs) → Rises (on node_view node_order) xs
rises_of_trees = generic.rises_of_views node_view node_view node_order

module _ (k : Value) (xs : List (Value × Value)) (i : ℕ) (b : below (on node_view node_order) k xs ≡ i) where
  pub set_tree : (v : Value) (d : Value × Value) → up_to (on node_view node_order) k xs ≡ i + 1 → i < length xs
      → map pair_view (set xs i ((get_or xs i d).0, v)) ≡ put node_order (node_view k) (node_view v) (map pair_view xs)
  set_tree = generic.set_value node_view node_view node_order node_order_total k xs i b

  pub find_tree : (d : Value × Value) → up_to (on node_view node_order) k xs ≡ i + 1 → i < length xs
      → Some (node_view (get_or xs i d).1) ≡ lookup node_order (node_view k) (map pair_view xs)
  find_tree = generic.find_value node_view node_view node_order node_order_total k xs i b

  pub find_none : up_to (on node_view node_order) k xs ≡ i → lookup node_order (node_view k) (map pair_view xs) ≡ None
  find_none = generic.find_none node_view node_view node_order node_order_total k xs i b

  pub insert_pair : (v : Value) → up_to (on node_view node_order) k xs ≡ i
      → map pair_view (insert xs i (k, v)) ≡ put node_order (node_view k) (node_view v) (map pair_view xs)
  insert_pair = generic.insert_pair node_view node_view node_order node_order_total k xs i b

  pub rises_set : (v : Value) (d : Value × Value) → up_to (on node_view node_order) k xs ≡ i + 1 → i < length xs
      → Rises node_order (map pair_view xs) → Rises node_order (map pair_view (set xs i ((get_or xs i d).0, v)))
  rises_set = generic.rises_set node_view node_view node_order node_order_total k xs i b

  pub rises_insert : (v : Value) → up_to (on node_view node_order) k xs ≡ i
      → Rises node_order (map pair_view xs) → Rises node_order (map pair_view (insert xs i (k, v)))
  rises_insert = generic.rises_insert node_view node_view node_order node_order_total k xs i b

pub ruleset edits = (rises_of_trees, set_tree, find_tree, find_none, insert_pair, rises_set, rises_insert)
