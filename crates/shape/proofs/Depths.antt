-- What a list of data holds is no deeper than the list.
use Rattle.std.proofs.Common.{ℕ, zero, suc, ◌<◌, ◌≤◌, List, [], ◌∷◌, length, get_or, map, arith}
use Rattle.shape.specs.Shape.{parts_of, pairs_of}
use Rattle.shape.specs.Depth.{depth, depth_of_parts, depth_of_pairs}
use Rattle.shape.specs.View.{data_view, pair_view}
use Rattle.shape.specs.declared.data.Data.{Data}

pub depth_of_parts-at : (all : List Data) (i : ℕ) (d : Data) → i < length all → depth (data_view (get_or all i d)) ≤ depth_of_parts (parts_of (map data_view all))
depth_of_parts-at [] i d h = absurd (omega arith)
depth_of_parts-at (a ∷ rest) zero d h = omega arith
depth_of_parts-at (a ∷ rest) (suc i) d h = omega (arith, depth_of_parts-at rest i d (omega arith))

pub depth_of_key-at : (all : List (Data × Data)) (i : ℕ) (d : Data × Data) → i < length all → depth (data_view (get_or all i d).0) ≤ depth_of_pairs (pairs_of (map pair_view all))
depth_of_key-at [] i d h = absurd (omega arith)
depth_of_key-at (a ∷ rest) zero d h = omega arith
depth_of_key-at (a ∷ rest) (suc i) d h = omega (arith, depth_of_key-at rest i d (omega arith))

pub depth_of_value-at : (all : List (Data × Data)) (i : ℕ) (d : Data × Data) → i < length all → depth (data_view (get_or all i d).1) ≤ depth_of_pairs (pairs_of (map pair_view all))
depth_of_value-at [] i d h = absurd (omega arith)
depth_of_value-at (a ∷ rest) zero d h = omega arith
depth_of_value-at (a ∷ rest) (suc i) d h = omega (arith, depth_of_value-at rest i d (omega arith))

pub ruleset depths = (depth_of_parts-at, depth_of_key-at, depth_of_value-at)
