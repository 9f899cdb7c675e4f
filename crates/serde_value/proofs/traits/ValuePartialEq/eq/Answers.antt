use Rattle.serde_value.specs.View.{node_view}
use Rattle.serde_value.proofs.Equal.{node_equal}
use Rattle.serde_value.proofs.traits.ValuePartialEq.eq.Goals as goal

pub returns-clause-same : goal.returns-clause-same
returns-clause-same c =
    node_equal (node_view c.args.self.now) (node_view c.args.other.now) c.compare.result c.is_eq.result c.compare.ensures c.is_eq.ensures
