use Rattle.std.proofs.Common.{rules, ap, length, ◌≡◌, ◌∙◌, [], ◌∷◌, ◌++◌, Some, map, sym, arith}
use Rattle.std.proofs.lemmas.List.{map-append, length-append}
use Rattle.serde_json.specs.View.{view}
use Rattle.serde_json.proofs.Views.{view-Object}
use Rattle.shape.specs.View.{shape_view, variant_shape_view, fields_view, variants_view}
use Rattle.shape.proofs.Views.{view_of_enum}
use Rattle.document.specs.Words.{shape_of, named_shape_in, named_variants_in, variant_in}
use Rattle.document.proofs.FieldViews.{field_step, variant_step, paired-push, variant_names-view, row_of_variants-view}
use Rattle.document.proofs.Elements.{row_step}
use Rattle.document.proofs.SoleMember.{shape_of-sole, payload_in-sole}
use Rattle.document.proofs.+shape.Goals as goal

pub shape_words::shape-returns-in-Some : goal.shape_words::shape-returns-in-Some
shape_words::shape-returns-in-Some t c =
    let h = c.in-Some.ensures in
    let k = c.tagged_shape.ensures in
    let a = c.as_str-in-Some.ensures.value in
    rw c.in-Object.is rw (view-Object c.in-Object.members) rw (shape_of-sole _ _ _ _ (sym h)) rw (sym a) k

pub shape_words::shapes-loop-item-preserved : goal.shape_words::shapes-loop-item-preserved
shape_words::shapes-loop-item-preserved t c =
    let inside = c.in-Some.inside in
    let found : shape_of c.args.version (view c.item-item.result) ≡ Some (shape_view inside) = search rules in
    let pushed : c.push.new.self.items ≡ c.loop-item.shapes.items ++ inside ∷ [] = search rules in
    let step = row_step c.args.version c.args.items.now c.loop-item.item-index c.item-item.result (map shape_view c.loop-item.shapes.items) (shape_view inside) c.loop-item-test.true c.item-item.is found in
    rw (pushed, map-append) (c.loop-item.invariant ∙ step)

pub shape_words::fields_of_items-loop-item-preserved : goal.shape_words::fields_of_items-loop-item-preserved
shape_words::fields_of_items-loop-item-preserved t c =
    let i = c.loop-item.invariant in
    let fields = c.loop-item.fields in
    let name = c.in-Some.name in
    let inside = c.in-Some.inside in
    let found : named_shape_in c.args.version (view c.item-item.result) ≡ Some (name, shape_view inside) = search rules in
    let names : c.push.new.self.names ≡ fields.names ++ name ∷ [] = search rules in
    let row : c.push.new.self.shapes.items ≡ fields.shapes.items ++ inside ∷ [] = search rules in
    let step = field_step c.args.version c.args.items.now c.loop-item.item-index c.item-item.result (fields_view fields) name (shape_view inside) c.loop-item-test.true c.item-item.is found in
    record { even = rw (names, row) (omega (arith, i.even, length-append fields.names (name ∷ []), length-append fields.shapes.items (inside ∷ []))); read = rw (names, row, paired-push shape_view fields.names fields.shapes.items name inside i.even) (i.read ∙ step) }

pub variant_words::payload-returns-in-Some : goal.variant_words::payload-returns-in-Some
variant_words::payload-returns-in-Some t c =
    let h = c.in-Some.ensures in
    let k = c.tagged_payload.ensures in
    let a = c.as_str-in-Some.ensures.value in
    rw c.in-Object.is rw (view-Object c.in-Object.members) rw (payload_in-sole _ _ _ _ (sym h)) rw (sym a) k

pub variant_words::variants_of_items-loop-item-preserved : goal.variant_words::variants_of_items-loop-item-preserved
variant_words::variants_of_items-loop-item-preserved t c =
    let i = c.loop-item.invariant in
    let variants = c.loop-item.variants in
    let name = c.in-Some.name in
    let payload = c.in-Some.payload in
    let found : variant_in c.args.version (view c.item-item.result) ≡ Some (name, variant_shape_view payload) = search rules in
    let names : c.push.new.self.names ≡ variants.names ++ name ∷ [] = search rules in
    let row : c.push.new.self.shapes.items ≡ variants.shapes.items ++ payload ∷ [] = search rules in
    let step = variant_step c.args.version c.args.items.now c.loop-item.item-index c.item-item.result (variants_view variants) name (variant_shape_view payload) c.loop-item-test.true c.item-item.is found in
    record { even = rw (names, row) (omega (arith, i.even, length-append variants.names (name ∷ []), length-append variants.shapes.items (payload ∷ []))); read = rw (names, row, paired-push variant_shape_view variants.names variants.shapes.items name payload i.even) (i.read ∙ step) }

pub shape_words::tagged_shape-returns-in-Some-10 : goal.shape_words::tagged_shape-returns-in-Some-10
shape_words::tagged_shape-returns-in-Some-10 t c =
    let all = c.in-Some-10.variants in
    let found : named_variants_in c.args.version (view c.args.inside.now) ≡ Some (c.in-Some-10.name, variants_view all) = search rules in
    let even : length all.names ≡ length all.shapes.items = search rules in
    rw (c.in-enum.is, found, variant_names-view all even, row_of_variants-view all even) (ap Some (view_of_enum c.in-Some-10.name all))
