use Rattle.std.proofs.Common.{◌≡◌, ◌∙◌, ◌<◌, ℕ, ◌+◌, List, [], ◌∷◌, length, get_or, set, take, map, ap, sym, arith, rules}
use Rattle.std.proofs.lemmas.List.{take_more_set, take-set, map-append, map_more, length-set}
use Rattle.shape.specs.Shape.{enum, payloads_of}
use Rattle.shape.specs.Upgraded.{upgraded, upgraded_payload}
use Rattle.shape.specs.View.{shape_view, variant_shape_view}
use Rattle.shape.proofs.Views.{view_of_enum, upgraded-payloads}
use Rattle.shape.proofs.version.+upgrade.Goals as goal

-- a part that was taken out and put back upgraded, after those before it
one_more : {A B : Type 0} (view : A → B) (up : B → B) (xs ys : List A) (i : ℕ) (out back d : A) → i < length xs → i < length ys
    → map view (take i xs) ≡ map (λ a. up (view a)) (take i ys) → view back ≡ up (view (get_or ys i d))
    → map view (take (i + 1) (set (set xs i out) i back)) ≡ map (λ a. up (view a)) (take (i + 1) ys)
one_more view up xs ys i out back d in_xs in_ys before here =
    let within : i < length (set xs i out) = rw length-set in_xs in
    rw (take_more_set (set xs i out) i back within, take-set xs i out, map-append view (take i xs) (back ∷ []), map_more (λ a. up (view a)) ys i d in_ys, before, here)

pub upgrade-returns-in-Enum : goal.upgrade-returns-in-Enum
upgrade-returns-in-Enum t c =
    let name = c.in-Enum.name in
    let all = c.in-Enum.variants in
    let new = c.upgrade_variants.result in
    let each = c.upgrade_variants.ensures in
    rw c.in-Enum.is
    (view_of_enum name new ∙ (λ i. enum name (each.names i) (payloads_of (each.shapes i))) ∙ ap (enum name all.names) (sym (upgraded-payloads all.shapes.items)) ∙ ap upgraded (sym (view_of_enum name all)))

pub upgrade_all-loop-i-preserved : goal.upgrade_all-loop-i-preserved
upgrade_all-loop-i-preserved t c =
    let xs = c.loop-i.shapes.items in
    let ys = c.args.shapes.items in
    let i = c.loop-i.i in
    let d = c.index_mut.result.now in
    let in_xs : i < length xs = omega (arith, c.loop-i.invariant.0.0) in
    let in_ys : i < length ys = omega (arith, c.loop-i.invariant.0.0) in
    let was : c.replace-shape.result ≡ get_or ys i d = search rules in
    (search rules, one_more shape_view upgraded xs ys i c.replace-shape.new.dest c.upgrade.result d in_xs in_ys c.loop-i.invariant.1 (c.upgrade.ensures ∙ ap (λ a. upgraded (shape_view a)) was))

pub upgrade_payloads-loop-i-preserved : goal.upgrade_payloads-loop-i-preserved
upgrade_payloads-loop-i-preserved t c =
    let xs = c.loop-i.shapes.items in
    let ys = c.args.shapes.items in
    let i = c.loop-i.i in
    let d = c.index_mut.result.now in
    let in_xs : i < length xs = omega (arith, c.loop-i.invariant.0.0) in
    let in_ys : i < length ys = omega (arith, c.loop-i.invariant.0.0) in
    let was : c.replace-shape.result ≡ get_or ys i d = search rules in
    (search rules, one_more variant_shape_view upgraded_payload xs ys i c.replace-shape.new.dest c.upgrade_payload.result d in_xs in_ys c.loop-i.invariant.1 (c.upgrade_payload.ensures ∙ ap (λ a. upgraded_payload (variant_shape_view a)) was))
