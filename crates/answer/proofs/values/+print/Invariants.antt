use Rattle.std.proofs.Common.{◌≡◌, ◌≤◌, ◌+◌, ◌*◌, max, length, map}
use Rattle.std.specs.Vec.Iter.{into_iter_items}
use Rattle.shape.specs.Shape.{parts_of, pairs_of}
use Rattle.shape.specs.Depth.{depth, depth_of_parts, depth_of_pairs, depth_of_payload}
use Rattle.shape.specs.View.{data_view, pair_view, payload_view}
use Rattle.answer.specs.Line.{printed_parts, printed_fields, printed_pairs}
use Rattle.answer.specs.LentShape.{lent, elements_view, lent_fields}
use Rattle.answer.proofs.Printing.{before}
use Rattle.answer.proofs.values.+print.Given as goal

abbrev pub invariant-print_items-loop-item : goal.invariant-print_items-loop-item
invariant-print_items-loop-item l =
    let all = parts_of (map data_view l.fn.items.items) in
    let left = parts_of (map data_view (into_iter_items l.item-iterator)) in
    record { nests : depth_of_parts left ≤ depth_of_parts all; printed : printed_parts (elements_view l.elements) 0 all ≡ before l.printed.items (printed_parts (elements_view l.elements) (length l.printed.items) left) }

abbrev pub decreases-print : goal.decreases-print
decreases-print l = 3 * depth (data_view l.value) + 2

abbrev pub decreases-print_items : goal.decreases-print_items
decreases-print_items l = 3 * depth_of_parts (parts_of (map data_view l.items.items)) + 3

abbrev pub decreases-print_pairs : goal.decreases-print_pairs
decreases-print_pairs l = 3 * depth_of_pairs (pairs_of (map pair_view l.pairs.items)) + 4

abbrev pub decreases-print_pair : goal.decreases-print_pair
decreases-print_pair l = 3 * max (depth (data_view l.key)) (depth (data_view l.value)) + 3

abbrev pub decreases-print_variant : goal.decreases-print_variant
decreases-print_variant l = 3 * depth_of_payload (payload_view l.payload) + 1

abbrev pub invariant-print_pairs-loop-key : goal.invariant-print_pairs-loop-key
invariant-print_pairs-loop-key l =
    let all = pairs_of (map pair_view l.fn.pairs.items) in
    let left = pairs_of (map pair_view (into_iter_items l.key-iterator)) in
    record { nests : depth_of_pairs left ≤ depth_of_pairs all; printed : printed_pairs (lent l.shape) all ≡ before l.printed.items (printed_pairs (lent l.shape) left) }

abbrev pub decreases-print_fields : goal.decreases-print_fields
decreases-print_fields l = 3 * depth_of_parts (parts_of (map data_view l.items.items)) + 3

abbrev pub invariant-print_fields-loop-item : goal.invariant-print_fields-loop-item
invariant-print_fields-loop-item l =
    let all = parts_of (map data_view l.fn.items.items) in
    let left = parts_of (map data_view (into_iter_items l.item-iterator)) in
    record { nests : depth_of_parts left ≤ depth_of_parts all; printed : printed_fields (lent_fields l.fields) 0 all ≡ before l.printed.items (printed_fields (lent_fields l.fields) (length l.printed.items) left) }
