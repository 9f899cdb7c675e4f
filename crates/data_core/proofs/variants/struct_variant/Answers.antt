use Rattle.std.proofs.Common.{◌≡◌, is_err, rules}
use Rattle.data_core.specs.Wanted as wanted
use Rattle.data_core.specs.Choice.{variant_segment}
use Rattle.data_core.specs.Tracking.{left}
use Rattle.data_core.proofs.Relations.{Among-under}
use Rattle.data_core.proofs.variants.struct_variant.Goals as goal

pub returns-clause-reads : goal.returns-clause-reads
returns-clause-reads g c segment same =
    let de = g.D.Deserializer in
    let own = variant_segment (de.name_text c.args.variant.now) in
    let on_way_out : c.leave_payload.new.track ≡ left de.tracks own c.holds-before.result (is_err c.visit_fields-value.result) c.visit_fields-value.new.track = search rules in
    Among-under g.D.Error.DeError.fault g.S.DeserializeSeed.placed de.tracks c.holds-before.result (g.S.DeserializeSeed.reads c.args.seed (de.choice c.args.variant.now (wanted.struct c.args.fields.now))) own segment c.visit_fields-value.result c.args.track.now c.visit_fields-value.new.track c.leave_payload.new.track c.holds-before.ensures same c.visit_fields-value.ensures.reads on_way_out
