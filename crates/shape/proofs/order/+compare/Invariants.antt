use Rattle.std.proofs.Common.{◌≡◌, ◌+◌, ◌*◌, drop, map}
use Rattle.shape.specs.Shape.{parts_of, pairs_of}
use Rattle.shape.specs.Depth.{depth, depth_of_parts, depth_of_pairs, depth_of_payload}
use Rattle.shape.specs.View.{data_view, option_view, payload_view}
use Rattle.shape.proofs.Walks.{items_order, entries_order}
use Rattle.shape.proofs.order.+compare.Given as goal

abbrev pub invariant-compare_items-loop-i : goal.invariant-compare_items-loop-i
invariant-compare_items-loop-i l = items_order l.a l.b ≡ items_order (drop l.i l.a) (drop l.i l.b)

abbrev pub invariant-compare_maps-loop-i : goal.invariant-compare_maps-loop-i
invariant-compare_maps-loop-i l =
    entries_order l.a-inside.pairs.items l.b-inside.pairs.items ≡ entries_order (drop l.i l.a-inside.pairs.items) (drop l.i l.b-inside.pairs.items)

abbrev pub decreases-compare : goal.decreases-compare
decreases-compare l = 4 * depth (data_view l.a.now) + 2

abbrev pub decreases-compare_options : goal.decreases-compare_options
decreases-compare_options l = 4 * depth (option_view l.a.now) + 1

abbrev pub decreases-compare_payloads : goal.decreases-compare_payloads
decreases-compare_payloads l = 4 * depth_of_payload (payload_view l.a.now) + 1

abbrev pub decreases-compare_items : goal.decreases-compare_items
decreases-compare_items l = 4 * depth_of_parts (parts_of (map data_view l.a.now)) + 3

abbrev pub decreases-compare_maps : goal.decreases-compare_maps
decreases-compare_maps l = 4 * depth_of_pairs (pairs_of l.a.now) + 3
