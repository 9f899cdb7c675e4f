use Rattle.std.proofs.Common.{ap}
use Rattle.data_core.specs.Node.{of_node}
use Rattle.path_core.specs.Error.{path_of, original_of}
use Rattle.serde_value.specs.View.{node_view}
use Rattle.value_error.specs.ErrorView.{fault_of}
use Rattle.document.specs.Input.{tree}
use Rattle.capture.proofs.Hands.{refusal_of}
use Rattle.capture.proofs.reader.read_tree.Goals as goal

pub returns-in-Err : goal.returns-in-Err
returns-in-Err c =
    let error = c.in-Err.error in
    let answer = c.in-Err.ensures.of_input (tree (node_view c.args.value)) (ap (λ v. of_node (node_view v)) c.new-d.ensures) in
    refusal_of c.refusal.result (fault_of (original_of error)) (path_of error) _ answer c.refusal.ensures

pub returns-in-Ok : goal.returns-in-Ok
returns-in-Ok c = c.in-Ok.ensures.of_input (tree (node_view c.args.value)) (ap (λ v. of_node (node_view v)) c.new-d.ensures)
