use Rattle.std.proofs.Common.{◌≡◌, ◌∙◌, [], ap, sym, arith}
use Rattle.std.specs.Vec.Iter.{into_iter_items}
use Rattle.std.proofs.lemmas.List.{nil_from_length}
use Rattle.serde_json.specs.Data.{array}
use Rattle.serde_json.proofs.Views.{view-Array}
use Rattle.answer.proofs.Printing.{before-end}
use Rattle.answer.proofs.values.+print.Goals as goal

pub print_items-returns : goal.print_items-returns
print_items-returns t c =
    let none_left : into_iter_items c.loop-item.item-iterator ≡ [] = nil_from_length _ (omega (arith, c.in-None.ensures.steps.0, c.loop-item.item-iterator.rest.ok.0)) in
    view-Array c.loop-item.printed ∙ ap array (sym (rw none_left at c.loop-item.invariant.printed ∙ before-end c.loop-item.printed.items))

pub print_pairs-returns : goal.print_pairs-returns
print_pairs-returns t c =
    let none_left : into_iter_items c.loop-key.key-iterator ≡ [] = nil_from_length _ (omega (arith, c.in-None.ensures.steps.0, c.loop-key.key-iterator.rest.ok.0)) in
    view-Array c.loop-key.printed ∙ ap array (sym (rw none_left at c.loop-key.invariant.printed ∙ before-end c.loop-key.printed.items))

pub print_fields-returns : goal.print_fields-returns
print_fields-returns t c =
    let none_left : into_iter_items c.loop-item.item-iterator ≡ [] = nil_from_length _ (omega (arith, c.in-None.ensures.steps.0, c.loop-item.item-iterator.rest.ok.0)) in
    view-Array c.loop-item.printed ∙ ap array (sym (rw none_left at c.loop-item.invariant.printed ∙ before-end c.loop-item.printed.items))
