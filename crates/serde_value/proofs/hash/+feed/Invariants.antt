use Rattle.std.proofs.Common.{◌≡◌, ◌≤◌, ◌+◌, ◌*◌, drop, fold, map}
use Rattle.data_core.specs.Node.{nodes_of, pairs_of}
use Rattle.data_core.specs.Depth.{depth, depth_of_nodes, depth_of_pairs}
use Rattle.serde_value.specs.Fed.{nodes_fed, pairs_fed}
use Rattle.serde_value.specs.View.{node_view, pair_view}
use Rattle.serde_value.proofs.hash.+feed.Given as goal

abbrev pub invariant-feed_items-loop-item : goal.invariant-feed_items-loop-item
invariant-feed_items-loop-item g l =
    fold g.H.Hasher.write l.initial.state (nodes_fed (nodes_of (map node_view l.items)))
    ≡ fold g.H.Hasher.write l.state (nodes_fed (nodes_of (map node_view (drop l.item-index l.items))))

abbrev pub invariant-feed_map-loop-key : goal.invariant-feed_map-loop-key
invariant-feed_map-loop-key g l =
    (depth_of_pairs (pairs_of (map pair_view (drop l.key-index l.key-items))) ≤ depth_of_pairs (pairs_of (map pair_view l.key-items)))
    × (fold g.H.Hasher.write l.initial.state (pairs_fed (pairs_of (map pair_view l.key-items)))
    ≡ fold g.H.Hasher.write l.state (pairs_fed (pairs_of (map pair_view (drop l.key-index l.key-items)))))

abbrev pub decreases-feed : goal.decreases-feed
decreases-feed g l = 2 * depth (node_view l.value.now)

abbrev pub decreases-feed_items : goal.decreases-feed_items
decreases-feed_items g l = 2 * depth_of_nodes (nodes_of (map node_view l.items.now)) + 1

abbrev pub decreases-feed_map : goal.decreases-feed_map
decreases-feed_map g l = 2 * depth_of_pairs (pairs_of l.map.now) + 1
