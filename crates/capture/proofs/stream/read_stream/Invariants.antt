use Rattle.std.proofs.Common.{◌≡◌, ◌+◌, ◌-◌, vec_len}
use Rattle.byte_streams.specs.Course.{Goes}
use Rattle.byte_streams.specs.Outside.{with_front}
use Rattle.capture.specs.Run.{most_bytes}
use Rattle.capture.proofs.stream.read_stream.Given as goal

abbrev pub invariant-reads : goal.invariant-reads
invariant-reads g l = record {
  taken : g.S.ByteSource.left l.fn.source ≡ with_front l.bytes.items (g.S.ByteSource.left l.source);
  faults : g.S.ByteSource.faults l.source ≡ g.S.ByteSource.faults l.fn.source;
  goes : Goes (g.S.ByteSource.course l.fn.source) (g.S.ByteSource.course l.source);
}

abbrev pub decreases-reads : goal.decreases-reads
decreases-reads g l = most_bytes + 1 - vec_len l.bytes
