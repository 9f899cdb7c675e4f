use Rattle.std.proofs.Common.{ℕ, List, ◌≢◌, ◌≤◌, length}
use Rattle.std.specs.Option.{IfSome, IsSomeAnd}
use Rattle.byte_streams.specs.Outside.{HasFailed}
use Rattle.document.specs.Document.{document}
use Rattle.capture.specs.Run.{most_bytes, IsAnswer, Concludes}
use Rattle.capture.specs.declared.status.Status.TheVariants.{Memory}
use Rattle.capture.proofs.Replies.{answers_more, whole_stream}
use Rattle.capture.proofs.command.run.Goals as goal

pub returns-in-Ok-clause-complete : goal.returns-in-Ok-clause-complete
returns-in-Ok-clause-complete g c =
    let source = g.S.ByteSource in
    let out = g.O.ByteSink in
    let taken = c.in-Ok.ensures.taken (λ wrong. cc) in
    let concludes = rw c.deref.ensures.value at c.reply.ensures.complete in
    let P : List ℕ → Type 0 = λ stream. length stream ≤ most_bytes
    → ¬ HasFailed (source.faults c.args.source.now) (source.faults c.read_stream.new.source)
    → ¬ HasFailed (out.faults c.args.out.now) (out.faults c.reply.new.out)
    → c.reply.result ≢ Memory
    → Concludes (document stream) c.reply.result (out.taken c.args.out.now) (out.taken c.reply.new.out) in
    λ command. whole_stream (source.left c.args.source.now) (source.left c.read_stream.new.source) c.read_stream.new.bytes.items P taken c.in-Ok.ensures.end
    (λ short calm quiet memory. concludes quiet memory)

pub returns-in-Ok-clause-answer : goal.returns-in-Ok-clause-answer
returns-in-Ok-clause-answer g c =
    let source = g.S.ByteSource in
    let out = g.O.ByteSink in
    let taken = c.in-Ok.ensures.taken (λ wrong. cc) in
    let answer = rw c.deref.ensures.value at c.reply.ensures.answer in
    let P : List ℕ → Type 0 = λ stream. IsSomeAnd (document stream) (λ d. IsAnswer c.reply.result d (out.taken c.args.out.now) (out.taken c.reply.new.out)) in
    answers_more c.reply.result (P c.read_stream.new.bytes.items) (IfSome (source.left c.args.source.now) P)
    (whole_stream (source.left c.args.source.now) (source.left c.read_stream.new.source) c.read_stream.new.bytes.items P taken c.in-Ok.ensures.end)
    answer
