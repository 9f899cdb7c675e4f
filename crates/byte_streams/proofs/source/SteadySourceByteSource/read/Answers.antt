use Rattle.std.proofs.Common.{◌≡◌, ◌≤◌, ◌+◌, arith, take, drop, length}
use Rattle.std.proofs.lemmas.Grind.{common_steps}
use Rattle.byte_streams.proofs.Pieces.{copied_to_front}
use Rattle.byte_streams.proofs.source.SteadySourceByteSource.read.Goals as goal

pub returns-clause-given : goal.returns-clause-given
returns-clause-given c =
    let n = c.min-n.result in
    let s = c.args.self.now in
    let within : s.at + n ≤ length s.bytes.items = omega arith in
    let copied : c.copy_from_slice.new.self ≡ take n (drop s.at s.bytes.items) = grind (arith, common_steps) in
    (copied_to_front s.bytes.items c.copy_from_slice.new.self (drop n c.args.into.now) s.at n within copied)
