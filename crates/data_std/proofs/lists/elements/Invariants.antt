use Rattle.std.proofs.Common.{◌≡◌, true}
use Rattle.data_core.specs.Source.{count}
use Rattle.data_core.specs.Tracking.{Refusal, clear, Kept}
use Rattle.data_core.specs.Reads.{ReadsFrom, LeavesFrom}
use Rattle.data_std.specs.Compound.{EachReads}
use Rattle.data_std.specs.Swallowed.{ThenLeaves, EachLeaves}
use Rattle.data_std.proofs.Elements.{after}
use Rattle.data_std.proofs.lists.elements.Given as goal

abbrev pub invariant-elements : goal.invariant-elements
invariant-elements g l =
    let sequence = g.D.Deserializer.sequence in
    let leaves = LeavesFrom g.T.Deserialize.asks g.T.Deserialize.leaves in
    let reads = ReadsFrom g.T.Deserialize.asks g.T.Deserialize.reads in record {
      outcome : (o : _) → EachReads reads (sequence l.seq).taken (sequence l.seq).left o
          → EachReads reads (sequence l.initial.seq).taken (sequence l.initial.seq).left (after l.items.items o);
      keeps : Kept g.T.Seed.DeserializeSeed.quiet l.fn.track l.track;
      leaves : g.D.Deserializer.tracks ≡ true → l.fn.track ≡ clear → (now : Refusal) → ThenLeaves l.track (EachLeaves leaves (sequence l.seq).taken (sequence l.seq).left) now
          → EachLeaves leaves (sequence l.initial.seq).taken (sequence l.initial.seq).left now;
    }

abbrev pub decreases-elements : goal.decreases-elements
decreases-elements g l = count (g.D.Deserializer.sequence l.seq).left
