use Rattle.std.proofs.Common.{◌≡◌, is_err, rules}
use Rattle.data_core.specs.Wanted as wanted
use Rattle.data_core.specs.Choice.{IsNothing, variant_segment}
use Rattle.data_core.specs.Tracking.{left}
use Rattle.data_core.proofs.Relations.{Among-under, Among-nothing}
use Rattle.data_core.proofs.variants.unit_variant.Goals as goal

pub returns-clause-reads : goal.returns-clause-reads
returns-clause-reads g c segment same =
    let de = g.D.Deserializer in
    let fault = g.D.Error.DeError.fault in
    let own = variant_segment (de.name_text c.args.variant.now) in
    let offered = de.choice c.args.variant.now wanted.unit in
    let track = c.args.track.now in
    let ended = Among-nothing fault (Unit {0}) de.tracks c.unit_variant-end.result offered track c.unit_variant-end.ensures.hands in
    let on_way_out : c.leave_payload.new.track ≡ left de.tracks own c.holds-before.result (is_err c.unit_variant-end.result) track = search rules in
    Among-under fault (Unit {0}) de.tracks c.holds-before.result (IsNothing offered) own segment c.unit_variant-end.result track track c.leave_payload.new.track c.holds-before.ensures same ended on_way_out
