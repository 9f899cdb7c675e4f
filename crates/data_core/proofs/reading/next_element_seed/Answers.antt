use Rattle.std.proofs.Common.{◌≡◌, true, rules}
use Rattle.std.proofs.lemmas.Result.{err_from_is_err_and}
use Rattle.data_core.specs.declared.path.Segment.TheVariants.{Seq}
use Rattle.data_core.specs.Source.{offer_of}
use Rattle.data_core.specs.Tracking.{left}
use Rattle.data_core.proofs.Relations.{RefusedAmong-next}
use Rattle.data_core.proofs.reading.next_element_seed.Goals as goal

pub returns-in_err-value-clause-reads : goal.returns-in_err-value-clause-reads
returns-in_err-value-clause-reads g c =
    let p = err_from_is_err_and c.from_residual-in_err-value.result c.from_residual-in_err-value.ensures.1 in
    let de = g.D.Deserializer in
    let read = g.S.DeserializeSeed in
    let i = (de.sequence c.args.seq.now).taken in
    let taken = rw c.in-Some.is at c.in_ok-element.ensures.takes in
    let refusal = rw c.in_err-value.was at c.deserialize-value.ensures.reads in
    let on_way_out : c.leave_element.new.track ≡ left de.tracks (Seq i) c.holds-before.result true c.deserialize-value.new.track = search rules in
    rw (p.1, p.2, taken)
    (RefusedAmong-next g.S.DeserializeSeed.placed de.tracks c.holds-before.result (λ source. read.reads c.args.seed (offer_of source (read.asks c.args.seed))) i (de.source c.in-Some.element) (de.sequence c.next_element.new.seq).left (g.D.Error.DeError.fault c.in_err-value.field-0.0) c.args.track.now c.deserialize-value.new.track c.leave_element.new.track c.holds-before.ensures refusal on_way_out)
