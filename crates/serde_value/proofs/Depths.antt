-- What a list holds is no deeper than the list.
use Rattle.std.proofs.Common.{ℕ, zero, suc, ◌<◌, ◌≤◌, List, [], ◌∷◌, length, get_or, map, arith}
use Rattle.data_core.specs.Node.{nodes_of, pairs_of}
use Rattle.data_core.specs.Depth.{depth, depth_of_nodes, depth_of_pairs}
use Rattle.serde_value.specs.View.{node_view, pair_view}
use Rattle.serde_value.specs.declared.value.Value.{Value}

pub depth_of_nodes-at : (xs : List Value) (i : ℕ) (d : Value) → i < length xs → depth (node_view (get_or xs i d)) ≤ depth_of_nodes (nodes_of (map node_view xs))
depth_of_nodes-at [] i d h = absurd (omega arith)
depth_of_nodes-at (x ∷ xs) zero d h = omega arith
depth_of_nodes-at (x ∷ xs) (suc i) d h = omega (arith, depth_of_nodes-at xs i d (omega arith))

pub depth_of_key-at : (xs : List (Value × Value)) (i : ℕ) (d : Value × Value) → i < length xs → depth (node_view (get_or xs i d).0) ≤ depth_of_pairs (pairs_of (map pair_view xs))
depth_of_key-at [] i d h = absurd (omega arith)
depth_of_key-at (x ∷ xs) zero d h = omega arith
depth_of_key-at (x ∷ xs) (suc i) d h = omega (arith, depth_of_key-at xs i d (omega arith))

pub depth_of_item-at : (xs : List (Value × Value)) (i : ℕ) (d : Value × Value) → i < length xs → depth (node_view (get_or xs i d).1) ≤ depth_of_pairs (pairs_of (map pair_view xs))
depth_of_item-at [] i d h = absurd (omega arith)
depth_of_item-at (x ∷ xs) zero d h = omega arith
depth_of_item-at (x ∷ xs) (suc i) d h = omega (arith, depth_of_item-at xs i d (omega arith))

pub ruleset depths = (depth_of_nodes-at, depth_of_key-at, depth_of_item-at)
