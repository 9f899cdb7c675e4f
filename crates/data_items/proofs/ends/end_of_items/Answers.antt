use Rattle.std.proofs.Common.{◌<◌, length, arith}
use Rattle.std.proofs.lemmas.Bool.Decides.{nat_tests}
use Rattle.data_items.specs.Waiting.{left_of, taken_of}
use Rattle.data_items.proofs.Items.{left_over-some}
use Rattle.data_items.proofs.ends.end_of_items.Goals as goal

pub returns : goal.returns
returns g c =
    let left = left_of c.args.items in
    let some_left : 0 < length left = grind (arith, nat_tests, c.if-len-eq0.false, c.len.ensures) in
    rw (left_over-some (taken_of c.args.items) left some_left, ← c.total.ensures) c.wrong_length.ensures
