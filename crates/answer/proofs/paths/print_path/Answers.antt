use Rattle.std.proofs.Common.{◌≡◌, ◌∙◌, ◌++◌, ◌∷◌, [], get_or, rules, arith, ap, sym}
use Rattle.serde_json.specs.Data.{array}
use Rattle.serde_json.specs.View.{view}
use Rattle.serde_json.proofs.Views.{view-Array}
use Rattle.answer.specs.Line.{printed_segment}
use Rattle.answer.proofs.Printing.{each-step, each-end}
use Rattle.answer.proofs.paths.print_path.Goals as goal

pub loop-segment-preserved : goal.loop-segment-preserved
loop-segment-preserved c =
    let path = c.as_slice-segment-items.result.now in
    let i = c.loop-segment.segment-index in
    let v = c.in_ok-print_segment.field-0 in
    let printed : view v ≡ printed_segment (get_or path i c.segment-item.result) = search rules in
    let pushed : c.push.new.self.items ≡ c.loop-segment.items.items ++ v ∷ [] = search rules in
    rw pushed (c.loop-segment.invariant ∙ each-step printed_segment path c.loop-segment.items.items i c.segment-item.result v (omega arith) printed)

pub returns : goal.returns
returns c =
    let path = c.as_slice-segment-items.result.now in
    let end = each-end printed_segment path c.loop-segment.items.items c.loop-segment.segment-index (omega arith) in
    view-Array c.loop-segment.items ∙ ap array (sym (c.loop-segment.invariant ∙ end))
