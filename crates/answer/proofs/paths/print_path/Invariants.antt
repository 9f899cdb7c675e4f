use Rattle.std.proofs.Common.{◌≡◌, drop}
use Rattle.answer.specs.Line.{each, printed_segment}
use Rattle.answer.proofs.Printing.{before}
use Rattle.answer.proofs.paths.print_path.Given as goal

abbrev pub invariant-loop-segment : goal.invariant-loop-segment
invariant-loop-segment l = each printed_segment l.path ≡ before l.items.items (each printed_segment (drop l.segment-index l.segment-items))
