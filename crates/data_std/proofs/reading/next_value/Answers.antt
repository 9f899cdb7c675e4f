use Rattle.data_core.specs.Source.{offer_of}
use Rattle.data_core.specs.Table.{IsValue}
use Rattle.data_core.specs.Reads.{ReadsFrom}
use Rattle.data_std.proofs.Within.{Among-within, IsValue-within}
use Rattle.data_std.proofs.reading.next_value.Goals as goal

pub returns-in-Ok-clause-reads : goal.returns-in-Ok-clause-reads
returns-in-Ok-clause-reads g c segment same =
    let de = g.D.Deserializer in
    let own = g.V.Deserialize in
    let seed = c.in-Ok.seed in
    let read = g.V.Seed.DeserializeSeed in
    let waiting = (de.table c.args.map.now).waiting in
    let reads = ReadsFrom (read.asks seed) (read.reads seed) in
    let all = ReadsFrom own.asks own.reads in
    Among-within g.D.Error.DeError.fault read.placed de.tracks c.next_value_seed.result (IsValue segment reads waiting) (IsValue segment all waiting) c.args.track.now c.next_value_seed.new.track
    (IsValue-within segment reads all waiting (λ s o h. c.in-Ok.ensures.reads (offer_of s own.asks) o (rw c.in-Ok.ensures.asks at h)))
    (c.next_value_seed.ensures.reads segment same)
