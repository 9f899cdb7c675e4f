use Rattle.shape.specs.View.{shape_view}
use Rattle.document.specs.Input.{input_view}
use Rattle.capture.proofs.ByName.{reads_by_name}
use Rattle.capture.proofs.reader.read.Goals as goal

pub returns-clause-by_name : goal.returns-clause-by_name
returns-clause-by_name c = reads_by_name (shape_view c.args.shape.now) (input_view c.args.input)
