use Rattle.data_core.specs.Source.{offer_of}
use Rattle.data_core.specs.Table.{entry_segment}
use Rattle.data_core.specs.Tracking.{left}
use Rattle.std.proofs.Common.{◌≡◌, is_err, rules}
use Rattle.data_core.proofs.Relations.{Among-under}
use Rattle.data_core.proofs.reading.next_value_seed.Goals as goal

pub returns-clause-reads : goal.returns-clause-reads
returns-clause-reads g c segment same =
    let de = g.D.Deserializer in
    let read = g.S.DeserializeSeed in
    let own = entry_segment (de.key_text c.args.map.now) in
    let on_way_out : c.leave_value.new.track ≡ left de.tracks own c.holds-before.result (is_err c.deserialize-value.result) c.deserialize-value.new.track = search rules in
    rw c.in_ok-value.ensures.takes
    (Among-under g.D.Error.DeError.fault g.S.DeserializeSeed.placed de.tracks c.holds-before.result (read.reads c.args.seed (offer_of (de.source c.in_ok-value.value) (read.asks c.args.seed))) own segment c.deserialize-value.result c.args.track.now c.deserialize-value.new.track c.leave_value.new.track c.holds-before.ensures same c.deserialize-value.ensures.reads on_way_out)
