use Rattle.data_core.specs.Source.{Source, offer_of}
use Rattle.data_core.specs.Wanted.{newtype}
use Rattle.data_core.specs.Choice.{IsInside}
use Rattle.data_core.specs.Outcome.{IsUnder}
use Rattle.data_std.proofs.Within.{Among-within, IsUnder-inside}
use Rattle.data_std.proofs.variants.newtype_variant.Goals as goal

pub returns-in-Ok-clause-reads : goal.returns-in-Ok-clause-reads
returns-in-Ok-clause-reads g c segment same =
    let de = g.D.Deserializer in
    let asks = g.T.Deserialize.asks in
    let offered = de.choice c.args.variant.now newtype in
    let seed_reads = λ (source : Source). g.T.Seed.DeserializeSeed.reads c.in-Ok.seed (offer_of source asks) in
    let all_read = λ (source : Source). g.T.Deserialize.reads (offer_of source asks) in
    Among-within g.D.Error.DeError.fault g.T.Seed.DeserializeSeed.placed de.tracks c.newtype_variant_seed.result (IsUnder segment (IsInside seed_reads offered)) (IsUnder segment (IsInside all_read offered)) c.args.track.now c.newtype_variant_seed.new.track
    (IsUnder-inside segment seed_reads all_read offered (λ (source : Source). c.in-Ok.ensures.reads (offer_of source asks)))
    ((rw c.in-Ok.ensures.asks at c.newtype_variant_seed.ensures.reads) segment same)
