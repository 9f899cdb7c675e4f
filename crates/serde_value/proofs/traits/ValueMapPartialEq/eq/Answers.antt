use Rattle.serde_value.specs.View.{map_node}
use Rattle.serde_value.proofs.Equal.{node_equal}
use Rattle.serde_value.proofs.traits.ValueMapPartialEq.eq.Goals as goal

pub returns-clause-same : goal.returns-clause-same
returns-clause-same c =
    node_equal (map_node c.args.self.now) (map_node c.args.other.now) c.compare_maps.result c.is_eq.result c.compare_maps.ensures c.is_eq.ensures
