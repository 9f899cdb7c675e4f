use Rattle.std.proofs.Common.{◌≡◌, ◌≤◌, ◌+◌, ◌*◌, take, drop, map}
use Rattle.data_core.specs.Node.{nodes_of, pairs_of}
use Rattle.data_core.specs.Depth.{depth, depth_of_nodes, depth_of_pairs}
use Rattle.serde_value.specs.View.{node_view, pair_view}
use Rattle.serde_value.proofs.copy.+copy.Given as goal

abbrev pub invariant-copy_items-loop-item : goal.invariant-copy_items-loop-item
invariant-copy_items-loop-item l = map node_view l.copies.items ≡ map node_view (take l.item-index l.item-items)

abbrev pub invariant-copy_map-loop-key : goal.invariant-copy_map-loop-key
invariant-copy_map-loop-key l =
    (depth_of_pairs (pairs_of (map pair_view (drop l.key-index l.key-items))) ≤ depth_of_pairs (pairs_of (map pair_view l.key-items)))
    × (map pair_view l.copies.items ≡ map pair_view (take l.key-index l.key-items))

abbrev pub decreases-copy : goal.decreases-copy
decreases-copy l = 2 * depth (node_view l.value.now)

abbrev pub decreases-copy_items : goal.decreases-copy_items
decreases-copy_items l = 2 * depth_of_nodes (nodes_of l.items.now) + 1

abbrev pub decreases-copy_map : goal.decreases-copy_map
decreases-copy_map l = 2 * depth_of_pairs (pairs_of l.map.now) + 1
