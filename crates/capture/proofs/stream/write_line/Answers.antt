use Rattle.std.proofs.Common.{◌≡◌, ◌∙◌, ◌≤◌, false, length, take, drop, rules, arith, ap, length-drop}
use Rattle.byte_streams.specs.Outside.{with_more}
use Rattle.byte_streams.specs.Course.{is_empty, Called}
use Rattle.capture.proofs.Streams.{with_more-take, tail}
use Rattle.capture.proofs.Courses.{Goes-call, piece_left}
use Rattle.capture.proofs.stream.write_line.Goals as goal

pub writes-preserved : goal.writes-preserved
writes-preserved g c =
    let line = c.args.line.now in
    let at = c.writes.at in
    let n = c.in_ok-at.field-0 in
    let room : n ≤ length (drop at line) = rw tail at c.in_ok-at.ensures.room in
    let taken = rw tail at c.in_ok-at.ensures.taken in
    let out = g.O.ByteSink in
    let left : is_empty (drop at line) ≡ false = piece_left (drop at line) (omega (arith, length-drop at line)) in
    let called : Called false false (out.course c.writes.out) (out.course c.write.new.self) = rw (tail, left, c.in_ok-at.was) at c.write.ensures.course in
    record {
      within = omega (arith, length-drop at line);
      taken = taken ∙ ap (λ t. with_more t (take n (drop at line))) c.writes.invariant.taken ∙ with_more-take (g.O.ByteSink.taken c.args.out.now) line at n;
      faults = search rules;
      goes = Goes-call (out.course c.args.out.now) (out.course c.writes.out) (out.course c.write.new.self) c.writes.invariant.goes called;
    }
