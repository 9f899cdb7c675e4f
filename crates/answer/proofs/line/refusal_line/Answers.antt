use Rattle.serde_json.specs.View.{view}
use Rattle.data_core.specs.Outcome.{refused}
use Rattle.answer.proofs.NoFloat.{answered}
use Rattle.answer.proofs.line.refusal_line.Goals as goal

pub returns : goal.returns
returns c a =
    answered a (refused c.args.fault c.args.path) (view c.in_ok-answer_refusal.field-0) c.written.result (c.in_ok-answer_refusal.ensures a) c.written.ensures
