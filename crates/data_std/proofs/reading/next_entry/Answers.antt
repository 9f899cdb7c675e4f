use Rattle.std.proofs.Common.{◌≡◌, ap, sym, true}
use Rattle.std.proofs.lemmas.Result.{err_from_is_err_and}
use Rattle.data_core.specs.Table.{IsKey, IsValue, entry_segment, next_text, value_of}
use Rattle.data_core.specs.Reads.{ReadsFrom}
use Rattle.data_std.specs.Pairs.{NextReads}
use Rattle.data_std.proofs.Elements.{RefusedAmong-whole}
use Rattle.data_std.proofs.Entries.{NextReads-key, NextReads-value, NextReads-both}
use Rattle.data_std.proofs.reading.next_entry.Goals as goal

pub returns-in_err-key-clause-reads : goal.returns-in_err-key-clause-reads
returns-in_err-key-clause-reads g c =
    let p = err_from_is_err_and c.from_residual.result c.from_residual.ensures.1 in
    let de = g.D.Deserializer in
    let asks = g.K.Deserialize.asks in
    let key = ReadsFrom asks g.K.Deserialize.reads in
    let value = ReadsFrom g.V.Deserialize.asks g.V.Deserialize.reads in
    let es = (de.table c.args.map.now).left in
    let k = g.K.Seed.DeserializeSeed in
    let v = g.V.Seed.DeserializeSeed in
    rw (p.1, p.2)
    (RefusedAmong-whole k.placed (k.placed × k.quiet × v.placed) de.tracks (g.D.Error.DeError.fault c.in_err-key.field-0.0) (IsKey asks key es) (NextReads asks key value es) c.args.track.now c.args.track.now c.next_key.new.track
    (λ q. q.0) (λ q was. was)
    (λ f path h. NextReads-key asks key value es f path h)
    c.in_err-key.ensures.reads)

pub returns-in_err-value-clause-reads : goal.returns-in_err-value-clause-reads
returns-in_err-value-clause-reads g c =
    let p = err_from_is_err_and c.from_residual-in_err-value.result c.from_residual-in_err-value.ensures.1 in
    let de = g.D.Deserializer in
    let asks = g.K.Deserialize.asks in
    let key = ReadsFrom asks g.K.Deserialize.reads in
    let value = ReadsFrom g.V.Deserialize.asks g.V.Deserialize.reads in
    let es = (de.table c.args.map.now).left in
    let segment = entry_segment (next_text asks es) in
    let x = c.in-Some.key in
    let read = rw c.in-Some.is at c.in_ok-key.ensures.reads in
    let same : de.tracks ≡ true → segment ≡ entry_segment (de.key_text c.next_key.new.map) = λ t. ap entry_segment (sym (c.in_ok-key.ensures.caught t)) in
    let refusal = rw c.in_ok-key.ensures.took at c.in_err-value.ensures.reads segment same in
    let k = g.K.Seed.DeserializeSeed in
    let v = g.V.Seed.DeserializeSeed in
    rw (p.1, p.2)
    (RefusedAmong-whole v.placed (k.placed × k.quiet × v.placed) de.tracks (g.D.Error.DeError.fault c.in_err-value.field-0.0) (IsValue segment value (value_of es)) (NextReads asks key value es) c.args.track.now c.next_key.new.track c.next_value.new.track
    (λ q. q.2) (λ q was. rw ((c.in_ok-key.ensures.keeps.1 q.1).1) was)
    (λ f path h. NextReads-value asks key value es x f path read h)
    refusal)

pub returns-clause-reads : goal.returns-clause-reads
returns-clause-reads g c =
    let de = g.D.Deserializer in
    let asks = g.K.Deserialize.asks in
    let key = ReadsFrom asks g.K.Deserialize.reads in
    let value = ReadsFrom g.V.Deserialize.asks g.V.Deserialize.reads in
    let es = (de.table c.args.map.now).left in
    let segment = entry_segment (next_text asks es) in
    let x = c.in-Some.key in
    let read = rw c.in-Some.is at c.in_ok-key.ensures.reads in
    let same : de.tracks ≡ true → segment ≡ entry_segment (de.key_text c.next_key.new.map) = λ t. ap entry_segment (sym (c.in_ok-key.ensures.caught t)) in
    let given_value = rw c.in_ok-key.ensures.took at c.in_ok-value.ensures.reads segment same in
    NextReads-both asks key value es x c.in_ok-value.value read given_value
