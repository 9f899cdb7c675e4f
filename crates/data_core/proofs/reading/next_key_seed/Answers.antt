use Rattle.std.proofs.Common.{◌≡◌, true, rules}
use Rattle.std.proofs.lemmas.Result.{err_from_is_err_and}
use Rattle.data_core.specs.Source.{offer_of}
use Rattle.data_core.specs.Table.{CatchesUnless, entry_segment, offer_text}
use Rattle.data_core.specs.Tracking.{left_key}
use Rattle.data_core.proofs.Relations.{RefusedAmong-key}
use Rattle.data_core.proofs.reading.next_key_seed.Goals as goal

pub returns-in_err-value-clause-reads : goal.returns-in_err-value-clause-reads
returns-in_err-value-clause-reads g c =
    let p = err_from_is_err_and c.from_residual-in_err-value.result c.from_residual-in_err-value.ensures.1 in
    let de = g.D.Deserializer in
    let read = g.S.DeserializeSeed in
    let asks = read.asks c.args.seed in
    let fault = g.D.Error.DeError.fault c.in_err-value.field-0.0 in
    let key = de.source c.in-Some.key in
    let own = de.key_text c.visit_key-value.new.map in
    let taken = rw c.in-Some.is at c.in_ok-key.ensures.takes in
    let was = c.in_err-value.was in
    let refusal = rw was at c.visit_key-value.ensures.reads in
    let caught : de.tracks ≡ true → CatchesUnless fault (offer_text (offer_of key asks)) own = λ t. rw was at c.visit_key-value.ensures.caught t in
    let on_way_out : c.leave_key.new.track ≡ left_key de.tracks (entry_segment own) c.holds-before.result true c.visit_key-value.new.track = search rules in
    rw (p.1, p.2, taken.1)
    (RefusedAmong-key g.S.DeserializeSeed.placed de.tracks c.holds-before.result asks (λ source. read.reads c.args.seed (offer_of source asks)) own key taken.0 (de.table c.next_key.new.map).left fault c.args.track.now c.visit_key-value.new.track c.leave_key.new.track c.holds-before.ensures caught refusal on_way_out)
