use Rattle.std.proofs.Common.{◌≡◌, ◌+◌, ◌*◌, drop, map}
use Rattle.data_core.specs.Node.{nodes_of, pairs_of}
use Rattle.data_core.specs.Depth.{depth, depth_of_nodes, depth_of_pairs}
use Rattle.serde_value.specs.View.{node_view}
use Rattle.serde_value.proofs.Walks.{items_order, entries_order}
use Rattle.serde_value.proofs.order.+compare.Given as goal

abbrev pub invariant-compare_items-loop-i : goal.invariant-compare_items-loop-i
invariant-compare_items-loop-i l = items_order l.a l.b ≡ items_order (drop l.i l.a) (drop l.i l.b)

abbrev pub invariant-compare_maps-loop-i : goal.invariant-compare_maps-loop-i
invariant-compare_maps-loop-i l =
    entries_order l.a-inside.pairs.items l.b-inside.pairs.items ≡ entries_order (drop l.i l.a-inside.pairs.items) (drop l.i l.b-inside.pairs.items)

abbrev pub decreases-compare : goal.decreases-compare
decreases-compare l = 2 * depth (node_view l.a.now)

abbrev pub decreases-compare_items : goal.decreases-compare_items
decreases-compare_items l = 2 * depth_of_nodes (nodes_of (map node_view l.a.now)) + 1

abbrev pub decreases-compare_maps : goal.decreases-compare_maps
decreases-compare_maps l = 2 * depth_of_pairs (pairs_of l.a.now) + 1
