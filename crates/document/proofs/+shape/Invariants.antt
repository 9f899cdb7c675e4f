use Rattle.std.proofs.Common.{◌≡◌, ◌+◌, ◌*◌, length, drop, map}
use Rattle.serde_json.specs.Data.{depth, items_depth}
use Rattle.serde_json.specs.View.{view, items_view}
use Rattle.shape.specs.View.{shape_view, fields_view, variants_view}
use Rattle.document.specs.Words.{row_from, fields_from, variants_from}
use Rattle.document.proofs.Elements.{after}
use Rattle.document.proofs.+shape.Given as goal

abbrev pub invariant-shape_words::shapes-loop-item : goal.invariant-shape_words::shapes-loop-item
invariant-shape_words::shapes-loop-item l =
    row_from l.version (items_view l.items) ≡ after (map shape_view l.shapes.items) (row_from l.version (items_view (drop l.item-index l.items)))

abbrev pub decreases-shape_words::shape : goal.decreases-shape_words::shape
decreases-shape_words::shape l = 7 * depth (view l.json.now)

abbrev pub decreases-shape_words::tagged_shape : goal.decreases-shape_words::tagged_shape
decreases-shape_words::tagged_shape l = 7 * depth (view l.inside.now) + 6

abbrev pub decreases-shape_words::named_row : goal.decreases-shape_words::named_row
decreases-shape_words::named_row l = 7 * depth (view l.json.now) + 5

abbrev pub decreases-shape_words::row : goal.decreases-shape_words::row
decreases-shape_words::row l = 7 * depth (view l.json.now) + 2

abbrev pub decreases-shape_words::boxed_shape : goal.decreases-shape_words::boxed_shape
decreases-shape_words::boxed_shape l = 7 * depth (view l.json.now) + 1

abbrev pub decreases-shape_words::shapes : goal.decreases-shape_words::shapes
decreases-shape_words::shapes l = 7 * items_depth (items_view l.items.now) + 7

abbrev pub decreases-shape_words::map_shape : goal.decreases-shape_words::map_shape
decreases-shape_words::map_shape l = 7 * depth (view l.json.now) + 1

abbrev pub decreases-shape_words::named_shape : goal.decreases-shape_words::named_shape
decreases-shape_words::named_shape l = 7 * depth (view l.json.now) + 2

abbrev pub decreases-shape_words::named_fields : goal.decreases-shape_words::named_fields
decreases-shape_words::named_fields l = 7 * depth (view l.json.now) + 5

abbrev pub decreases-shape_words::fields : goal.decreases-shape_words::fields
decreases-shape_words::fields l = 7 * depth (view l.json.now) + 4

abbrev pub decreases-shape_words::fields_of_items : goal.decreases-shape_words::fields_of_items
decreases-shape_words::fields_of_items l = 7 * items_depth (items_view l.items.now) + 7

abbrev pub decreases-shape_words::field : goal.decreases-shape_words::field
decreases-shape_words::field l = 7 * depth (view l.json.now) + 1

abbrev pub invariant-shape_words::fields_of_items-loop-item : goal.invariant-shape_words::fields_of_items-loop-item
invariant-shape_words::fields_of_items-loop-item l =
    record { even : length l.fields.names ≡ length l.fields.shapes.items; read : fields_from l.version (items_view l.items) ≡ after (fields_view l.fields) (fields_from l.version (items_view (drop l.item-index l.items))) }

abbrev pub decreases-variant_words::named_variants : goal.decreases-variant_words::named_variants
decreases-variant_words::named_variants l = 7 * depth (view l.json.now) + 5

abbrev pub decreases-variant_words::variants : goal.decreases-variant_words::variants
decreases-variant_words::variants l = 7 * depth (view l.json.now) + 4

abbrev pub decreases-variant_words::variants_of_items : goal.decreases-variant_words::variants_of_items
decreases-variant_words::variants_of_items l = 7 * items_depth (items_view l.items.now) + 7

abbrev pub decreases-variant_words::variant : goal.decreases-variant_words::variant
decreases-variant_words::variant l = 7 * depth (view l.json.now) + 1

abbrev pub decreases-variant_words::payload : goal.decreases-variant_words::payload
decreases-variant_words::payload l = 7 * depth (view l.json.now)

abbrev pub decreases-variant_words::tagged_payload : goal.decreases-variant_words::tagged_payload
decreases-variant_words::tagged_payload l = 7 * depth (view l.inside.now) + 6

abbrev pub invariant-variant_words::variants_of_items-loop-item : goal.invariant-variant_words::variants_of_items-loop-item
invariant-variant_words::variants_of_items-loop-item l =
    record { even : length l.variants.names ≡ length l.variants.shapes.items; read : variants_from l.version (items_view l.items) ≡ after (variants_view l.variants) (variants_from l.version (items_view (drop l.item-index l.items))) }
