use Rattle.std.proofs.Common.{◌≡◌, ◌++◌, ◌∷◌, [], rules, ap, refl, sym, inl, inr, ◌∙◌}
use Rattle.std.proofs.lemmas.Result.{err_from_is_err_and}
use Rattle.std.specs.BTreeMap.{insert_entry}
use Rattle.data_core.specs.Table.{rest_of_entries}
use Rattle.data_core.specs.Outcome.{given, refused}
use Rattle.data_core.specs.Reads.{ReadsFrom, LeavesFrom}
use Rattle.data_core.proofs.Relations.{Keeps-then, Kept-then}
use Rattle.data_std.specs.Pairs.{NextReads, TableRead}
use Rattle.data_std.proofs.Elements.{RefusedAmong-whole, after_none, after_more, after_end}
use Rattle.data_std.proofs.Entries.{EntriesRead-more, EntriesRead-fails, EntriesRead-ends, inserted_push}
use Rattle.data_std.proofs.Swallowed.{EntriesLeave-more, EntriesLeave-ends}
use Rattle.data_std.proofs.Kept.{Keeps-kept, Keeps-own}
use Rattle.data_std.proofs.maps.entries.Goals as goal

pub entries-init : goal.entries-init
entries-init g c = record {
  outcome = ([], c.new-read.ensures.empty, λ o read. rw (after_none o) read);
  keeps = (inr (inl refl), λ q. refl);
  leaves = λ t was now h. rw was at h;
}

pub returns-in_err-key-clause-reads : goal.returns-in_err-key-clause-reads
returns-in_err-key-clause-reads g c =
    let p = err_from_is_err_and c.from_residual.result c.from_residual.ensures.1 in
    let de = g.D.Deserializer in
    let k = g.K.Seed.DeserializeSeed in
    let v = g.V.Seed.DeserializeSeed in
    let asks = g.K.Deserialize.asks in
    let key = ReadsFrom asks g.K.Deserialize.reads in
    let value = ReadsFrom g.V.Deserialize.asks g.V.Deserialize.reads in
    let es = (de.table c.entries.map).left in
    rw (p.1, p.2)
    (RefusedAmong-whole (k.placed × k.quiet × v.placed) ((k.placed × v.placed) × (k.quiet × v.quiet)) de.tracks (g.D.Error.DeError.fault c.in_err-key.field-0.0) (NextReads asks key value es) (TableRead (λ m. m.entries) g.K.Ord.cmp asks key value (de.table c.args.map).left) c.args.track.now c.entries.track c.next_entry.new.track
    (λ q. (q.0.0, q.1.0, q.0.1))
    (λ q was. rw (c.entries.invariant.keeps.1 q.1) was)
    (λ f path h. inl (c.entries.invariant.outcome.2 (refused f path) (EntriesRead-fails asks key value es f path h)))
    c.in_err-key.ensures.reads)

pub returns-in_err-key-clause-keeps : goal.returns-in_err-key-clause-keeps
returns-in_err-key-clause-keeps g c =
    let p = err_from_is_err_and c.from_residual.result c.from_residual.ensures.1 in
    let quiet = g.K.Seed.DeserializeSeed.quiet × g.V.Seed.DeserializeSeed.quiet in
    rw (p.1, p.2)
    (Keeps-then quiet g.D.Deserializer.tracks (g.D.Error.DeError.fault c.in_err-key.field-0.0) c.args.track.now c.entries.track c.next_entry.new.track c.entries.invariant.keeps c.in_err-key.ensures.keeps)

pub entries-preserved : goal.entries-preserved
entries-preserved g c =
    let de = g.D.Deserializer in
    let quiet = g.K.Seed.DeserializeSeed.quiet × g.V.Seed.DeserializeSeed.quiet in
    let cmp = g.K.Ord.cmp in
    let asks = g.K.Deserialize.asks in
    let key = ReadsFrom asks g.K.Deserialize.reads in
    let value = ReadsFrom g.V.Deserialize.asks g.V.Deserialize.reads in
    let es = (de.table c.entries.map).left in
    let before = c.entries.invariant.outcome in
    let leaves = LeavesFrom g.V.Deserialize.asks g.V.Deserialize.leaves in
    let taken = rw c.in-Some.is at c.in_ok-key.ensures.reads in
    let both : g.row.K.Denot × g.row.V.Denot = (c.in-Some.key, c.in-Some.value) in
    let put : c.insert.new.self.entries ≡ insert_entry cmp c.entries.read.entries both.0 both.1 = search rules in
    let left : (de.table c.next_entry.new.map).left ≡ rest_of_entries es = ap (λ t. t.left) c.in_ok-key.ensures.took in
    record {
      outcome = (
        before.0 ++ both ∷ [],
        put ∙ ap (λ list. insert_entry cmp list both.0 both.1) before.1 ∙ sym (inserted_push cmp [] before.0 both),
        λ o rest. rw (← after_more before.0 both o) (before.2 _ (EntriesRead-more asks key value es both o taken (rw left at rest))),
      );
      keeps = Kept-then quiet de.tracks c.args.track.now c.entries.track c.next_entry.new.track c.entries.invariant.keeps c.in_ok-key.ensures.keeps;
      leaves = λ t was now h.
          c.entries.invariant.leaves t was now
          (EntriesLeave-more asks key value leaves es both c.entries.track c.next_entry.new.track now taken (c.in_ok-key.ensures.leaves t) c.in_ok-key.ensures.keeps.0 (rw left at h));
    }

pub returns-then-is_err-clause-keeps : goal.returns-then-is_err-clause-keeps
returns-then-is_err-clause-keeps g c =
    let quiet = g.K.Seed.DeserializeSeed.quiet × g.V.Seed.DeserializeSeed.quiet in
    let kept = Kept-then quiet g.D.Deserializer.tracks c.args.track.now c.entries.track c.next_entry.new.track c.entries.invariant.keeps c.in_ok-key.ensures.keeps in
    Keeps-own quiet g.D.Deserializer.tracks (g.D.Error.DeError.fault c.memory.result) c.args.track.now c.next_entry.new.track kept

pub returns-clause-reads : goal.returns-clause-reads
returns-clause-reads g c =
    let de = g.D.Deserializer in
    let asks = g.K.Deserialize.asks in
    let key = ReadsFrom asks g.K.Deserialize.reads in
    let value = ReadsFrom g.V.Deserialize.asks g.V.Deserialize.reads in
    let es = (de.table c.entries.map).left in
    let before = c.entries.invariant.outcome in
    let taken = rw c.in_default.is at c.in_ok-key.ensures.reads in
    let all = rw (after_end before.0) at (before.2 (given []) (EntriesRead-ends asks key value es taken)) in
    inr (before.0, all, ap given (sym before.1))

pub returns-clause-keeps : goal.returns-clause-keeps
returns-clause-keeps g c =
    let quiet = g.K.Seed.DeserializeSeed.quiet × g.V.Seed.DeserializeSeed.quiet in
    let kept = Kept-then quiet g.D.Deserializer.tracks c.args.track.now c.entries.track c.next_entry.new.track c.entries.invariant.keeps c.in_ok-key.ensures.keeps in
    Keeps-kept g.D.Error.DeError.fault quiet g.D.Deserializer.tracks c.entries.read c.args.track.now c.next_entry.new.track kept

pub returns-clause-leaves : goal.returns-clause-leaves
returns-clause-leaves g c t was =
    let de = g.D.Deserializer in
    let asks = g.K.Deserialize.asks in
    let key = ReadsFrom asks g.K.Deserialize.reads in
    let value = ReadsFrom g.V.Deserialize.asks g.V.Deserialize.reads in
    let leaves = LeavesFrom g.V.Deserialize.asks g.V.Deserialize.leaves in
    let taken = rw c.in_default.is at c.in_ok-key.ensures.reads in
    c.entries.invariant.leaves t was c.next_entry.new.track
    (EntriesLeave-ends asks key value leaves (de.table c.entries.map).left c.entries.track c.next_entry.new.track taken (c.in_ok-key.ensures.leaves t) c.in_ok-key.ensures.keeps.0)
