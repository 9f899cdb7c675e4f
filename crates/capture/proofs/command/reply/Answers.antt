use Rattle.std.proofs.Common.{◌∙◌, string_bytes, sym, subst}
use Rattle.std.specs.Option.{IsSomeAnd}
use Rattle.document.specs.Document.{document}
use Rattle.capture.specs.Run.{outcome_of, IsAnswer}
use Rattle.capture.specs.Status.{OnAnswer}
use Rattle.capture.proofs.Replies.{answered_document, line_answers, line_concludes, front_of_line, status_replies, status_bad, status_fault, status_answers, status_speaks}
use Rattle.capture.proofs.command.reply.Goals as goal

pub returns-in-Ok-clause-kind : goal.returns-in-Ok-clause-kind
returns-in-Ok-clause-kind g c =
    let found = rw c.in-Ok-Some.field-0-is at c.in-Ok-Some.ensures in
    let d = answered_document (document c.args.bytes.now) c.in-Ok-Some.answer.status (string_bytes c.in-Ok-Some.answer.line) found in
    rw d.2 (status_replies (outcome_of d.0))

pub returns-in-Ok-clause-bad_document : goal.returns-in-Ok-clause-bad_document
returns-in-Ok-clause-bad_document g c =
    let found = rw c.in-Ok-Some.field-0-is at c.in-Ok-Some.ensures in
    let d = answered_document (document c.args.bytes.now) c.in-Ok-Some.answer.status (string_bytes c.in-Ok-Some.answer.line) found in
    λ e. absurd (status_bad (outcome_of d.0) (sym d.2 ∙ e))

pub returns-in-Ok-clause-answer : goal.returns-in-Ok-clause-answer
returns-in-Ok-clause-answer g c =
    let found = rw c.in-Ok-Some.field-0-is at c.in-Ok-Some.ensures in
    let text = string_bytes c.in-Ok-Some.answer.line in
    let d = answered_document (document c.args.bytes.now) c.in-Ok-Some.answer.status text found in
    let taken = rw c.as_bytes.ensures.value at c.in-Ok.ensures.ok in
    let answers = line_answers (document c.args.bytes.now) c.in-Ok-Some.answer.status text (g.O.ByteSink.taken c.args.out.now) (g.O.ByteSink.taken c.write_line.new.out) found taken in
    subst (λ status. OnAnswer status (IsSomeAnd (document c.args.bytes.now) (λ e. IsAnswer c.in-Ok-Some.answer.status e (g.O.ByteSink.taken c.args.out.now) (g.O.ByteSink.taken c.write_line.new.out))))
    (sym d.2) (status_answers (outcome_of d.0) _ answers)

pub returns-in-Ok-clause-write_fault : goal.returns-in-Ok-clause-write_fault
returns-in-Ok-clause-write_fault g c =
    let found = rw c.in-Ok-Some.field-0-is at c.in-Ok-Some.ensures in
    let d = answered_document (document c.args.bytes.now) c.in-Ok-Some.answer.status (string_bytes c.in-Ok-Some.answer.line) found in
    λ e. absurd (status_fault (outcome_of d.0) (sym d.2 ∙ e))

pub returns-in-Ok-clause-front : goal.returns-in-Ok-clause-front
returns-in-Ok-clause-front g c =
    let found = rw c.in-Ok-Some.field-0-is at c.in-Ok-Some.ensures in
    let d = answered_document (document c.args.bytes.now) c.in-Ok-Some.answer.status (string_bytes c.in-Ok-Some.answer.line) found in
    λ e. absurd (status_fault (outcome_of d.0) (sym d.2 ∙ e))

pub returns-in-Ok-clause-silent : goal.returns-in-Ok-clause-silent
returns-in-Ok-clause-silent g c =
    let found = rw c.in-Ok-Some.field-0-is at c.in-Ok-Some.ensures in
    let d = answered_document (document c.args.bytes.now) c.in-Ok-Some.answer.status (string_bytes c.in-Ok-Some.answer.line) found in
    rw d.2 (status_speaks (outcome_of d.0) _)

pub returns-in-Ok-clause-complete : goal.returns-in-Ok-clause-complete
returns-in-Ok-clause-complete g c =
    let found = rw c.in-Ok-Some.field-0-is at c.in-Ok-Some.ensures in
    let taken = rw c.as_bytes.ensures.value at c.in-Ok.ensures.ok in
    λ quiet memory. line_concludes (document c.args.bytes.now) c.in-Ok-Some.answer.status (string_bytes c.in-Ok-Some.answer.line) (g.O.ByteSink.taken c.args.out.now) (g.O.ByteSink.taken c.write_line.new.out) found taken

pub returns-in-Ok-Some-clause-front : goal.returns-in-Ok-Some-clause-front
returns-in-Ok-Some-clause-front g c =
    let found = rw c.in-Ok-Some.field-0-is at c.in-Ok-Some.ensures in
    let front = rw c.as_bytes.ensures.value at c.in-Err-write_line.ensures.front in
    λ e. front_of_line (document c.args.bytes.now) c.in-Ok-Some.answer.status (string_bytes c.in-Ok-Some.answer.line) (g.O.ByteSink.taken c.args.out.now) (g.O.ByteSink.taken c.write_line.new.out) found front
