use Rattle.std.proofs.Common.{◌≡◌, ◌-◌, ◌≤◌, take, length}
use Rattle.byte_streams.specs.Course.{Goes}
use Rattle.byte_streams.specs.Outside.{with_more}
use Rattle.capture.proofs.stream.write_line.Given as goal

abbrev pub invariant-writes : goal.invariant-writes
invariant-writes g l = record {
  within : l.at ≤ length l.line;
  taken : g.O.ByteSink.taken l.out ≡ with_more (g.O.ByteSink.taken l.fn.out) (take l.at l.line);
  faults : g.O.ByteSink.faults l.out ≡ g.O.ByteSink.faults l.fn.out;
  goes : Goes (g.O.ByteSink.course l.fn.out) (g.O.ByteSink.course l.out);
}

abbrev pub decreases-writes : goal.decreases-writes
decreases-writes g l = length l.line - l.at
