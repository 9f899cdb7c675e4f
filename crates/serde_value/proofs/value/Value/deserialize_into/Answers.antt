use Rattle.data_core.specs.Node.{of_node}
use Rattle.data_core.specs.Source.{offer_of}
use Rattle.data_core.specs.Outcome.{Among}
use Rattle.value_error.specs.ErrorView.{fault_of}
use Rattle.serde_value.specs.View.{node_view}
use Rattle.serde_value.proofs.Readings.{reads_among}
use Rattle.serde_value.proofs.value.Value.deserialize_into.Goals as goal
use Rattle.std.proofs.Common.{false}

pub returns : goal.returns
returns g c =
    let placed = g.T.Seed.DeserializeSeed.placed in
    let read : Among fault_of placed false c.deserialize.result (g.T.Deserialize.reads (offer_of (of_node (node_view c.args.self)) g.T.Deserialize.asks)) c.new-track.result c.deserialize.new.track =
    rw (c.new-d.ensures) at c.deserialize.ensures.reads in
    reads_among placed false c.deserialize.result _ c.new-track.result c.deserialize.new.track read
