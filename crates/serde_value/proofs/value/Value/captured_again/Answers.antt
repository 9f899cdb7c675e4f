use Rattle.serde_value.specs.View.{node_view}
use Rattle.serde_value.proofs.Recaptured.{again_itself, again_memory, captured_itself}
use Rattle.serde_value.proofs.value.Value.captured_again.Goals as goal

pub returns-clause-itself : goal.returns-clause-itself
returns-clause-itself c = again_itself c.deserialize_into.result (node_view c.args.self) c.deserialize_into.ensures

pub returns-clause-memory : goal.returns-clause-memory
returns-clause-memory c = again_memory c.deserialize_into.result (node_view c.args.self) c.deserialize_into.ensures

pub returns-clause-law : goal.returns-clause-law
returns-clause-law c = captured_itself (node_view c.args.self)
