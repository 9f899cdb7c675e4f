use Rattle.std.proofs.Common.{rules}
use Rattle.shape.specs.Shape.{pairs_of}
use Rattle.shape.specs.DataOrderLaws.{pairs_equal}
use Rattle.shape.proofs.traits.DataMapPartialEq.eq.Goals as goal

pub returns-clause-same : goal.returns-clause-same
returns-clause-same c =
    pairs_equal (pairs_of c.args.self.now) (pairs_of c.args.other.now) c.compare_maps.result c.is_eq.result c.compare_maps.ensures c.is_eq.ensures
