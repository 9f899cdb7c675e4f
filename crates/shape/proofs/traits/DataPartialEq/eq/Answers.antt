use Rattle.std.proofs.Common.{rules}
use Rattle.shape.specs.View.{data_view}
use Rattle.shape.specs.DataOrderLaws.{data_equal}
use Rattle.shape.proofs.traits.DataPartialEq.eq.Goals as goal

pub returns-clause-same : goal.returns-clause-same
returns-clause-same c =
    data_equal (data_view c.args.self.now) (data_view c.args.other.now) c.compare.result c.is_eq.result c.compare.ensures c.is_eq.ensures
