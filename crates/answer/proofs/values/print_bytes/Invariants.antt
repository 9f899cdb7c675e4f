use Rattle.std.proofs.Common.{◌≡◌, drop}
use Rattle.answer.specs.Line.{each, whole}
use Rattle.answer.proofs.Printing.{before}
use Rattle.answer.proofs.values.print_bytes.Given as goal

abbrev pub invariant-loop-byte : goal.invariant-loop-byte
invariant-loop-byte l = each whole l.bytes ≡ before l.items.items (each whole (drop l.byte-index l.bytes))
