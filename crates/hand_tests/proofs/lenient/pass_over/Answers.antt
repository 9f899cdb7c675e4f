use Rattle.std.proofs.Common.{◌≡◌, ◌-◌, is_err, rules}
use Rattle.data_core.specs.declared.path.Segment.TheVariants.{Seq}
use Rattle.data_core.specs.Tracking.{left}
use Rattle.data_std.proofs.Kept.{Keeps-out, Keeps-lost}
use Rattle.hand_tests.proofs.lenient.pass_over.Goals as goal

pub returns-in_err-leave_element-clause-stays : goal.returns-in_err-leave_element-clause-stays
returns-in_err-leave_element-clause-stays g c =
    let tracks = g.D.Deserializer.tracks in
    let fault = g.D.Error.DeError.fault in
    let path = c.in_err-leave_element.ensures.path in
    (Keeps-lost fault tracks c.deserialize-read.result (fault c.in_err-leave_element.field-0.0) c.args.track.now c.deserialize-read.new.track c.leave_element.new.track path.0 c.deserialize-read.ensures.keeps path.1).0

pub returns-clause-stays : goal.returns-clause-stays
returns-clause-stays g c =
    let de = g.D.Deserializer in
    let segment = Seq ((de.sequence c.next_element.new.seq).taken - 1) in
    let on_way_out : c.leave_element.new.track ≡ left de.tracks segment c.holds-before.result (is_err c.deserialize-read.result) c.deserialize-read.new.track = search rules in
    (Keeps-out g.D.Error.DeError.fault de.tracks c.holds-before.result segment c.deserialize-read.result c.args.track.now c.deserialize-read.new.track c.leave_element.new.track c.holds-before.ensures c.deserialize-read.ensures.keeps on_way_out).0
