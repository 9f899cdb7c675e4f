use Rattle.std.proofs.Common.{◌≡◌, true, List, []}
use Rattle.data_core.specs.Source.{count_entries}
use Rattle.data_core.specs.Tracking.{Refusal, clear, Kept}
use Rattle.data_core.specs.Reads.{ReadsFrom, LeavesFrom}
use Rattle.data_std.specs.Pairs.{EntriesRead, inserted}
use Rattle.data_std.specs.Swallowed.{ThenLeaves, EntriesLeave}
use Rattle.data_std.proofs.Elements.{after}
use Rattle.data_std.proofs.maps.entries.Given as goal

abbrev pub invariant-entries : goal.invariant-entries
invariant-entries g l =
    let table = g.D.Deserializer.table in
    let asks = g.K.Deserialize.asks in
    let key = ReadsFrom asks g.K.Deserialize.reads in
    let leaves = LeavesFrom g.V.Deserialize.asks g.V.Deserialize.leaves in
    let value = ReadsFrom g.V.Deserialize.asks g.V.Deserialize.reads in record {
      outcome : (pairs : List _) × (l.read.entries ≡ inserted g.K.Ord.cmp [] pairs)
          × ((o : _) → EntriesRead asks key value (table l.map).left o → EntriesRead asks key value (table l.initial.map).left (after pairs o));
      keeps : Kept (g.K.Seed.DeserializeSeed.quiet × g.V.Seed.DeserializeSeed.quiet) l.fn.track l.track;
      leaves : g.D.Deserializer.tracks ≡ true → l.fn.track ≡ clear → (now : Refusal) → ThenLeaves l.track (EntriesLeave asks leaves (table l.map).left) now
          → EntriesLeave asks leaves (table l.initial.map).left now;
    }

abbrev pub decreases-entries : goal.decreases-entries
decreases-entries g l = count_entries (g.D.Deserializer.table l.map).left
