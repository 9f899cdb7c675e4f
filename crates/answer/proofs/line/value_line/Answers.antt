use Rattle.serde_json.specs.View.{view}
use Rattle.data_core.specs.Outcome.{given}
use Rattle.shape.specs.View.{data_view, shape_view}
use Rattle.answer.proofs.NoFloat.{answered}
use Rattle.answer.proofs.line.value_line.Goals as goal

pub returns : goal.returns
returns c =
    answered (shape_view c.args.shape.now) (given (data_view c.args.value)) (view c.in_ok-answer_value.field-0) c.written.result c.in_ok-answer_value.ensures c.written.ensures
