use Rattle.std.proofs.Common.{◌≡◌, ◌∙◌, ◌++◌, ◌∷◌, [], get_or, rules, arith, ap, sym}
use Rattle.serde_json.specs.Data.{array}
use Rattle.serde_json.specs.View.{view}
use Rattle.serde_json.proofs.Views.{view-Array}
use Rattle.answer.specs.Line.{whole}
use Rattle.answer.proofs.Printing.{each-step, each-end}
use Rattle.answer.proofs.values.print_bytes.Goals as goal

pub loop-byte-preserved : goal.loop-byte-preserved
loop-byte-preserved c =
    let bytes = c.args.bytes.now in
    let i = c.loop-byte.byte-index in
    let printed : view c.from.result ≡ whole (get_or bytes i 0) = search rules in
    let pushed : c.push.new.self.items ≡ c.loop-byte.items.items ++ c.from.result ∷ [] = search rules in
    rw pushed (c.loop-byte.invariant ∙ each-step whole bytes c.loop-byte.items.items i 0 c.from.result (omega arith) printed)

pub returns : goal.returns
returns c =
    let end = each-end whole c.args.bytes.now c.loop-byte.items.items c.loop-byte.byte-index (omega arith) in
    view-Array c.loop-byte.items ∙ ap array (sym (c.loop-byte.invariant ∙ end))
