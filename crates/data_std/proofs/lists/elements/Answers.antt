use Rattle.std.proofs.Common.{◌≡◌, ◌++◌, ◌∷◌, [], rules, refl, inl, inr}
use Rattle.std.proofs.lemmas.Result.{err_from_is_err_and}
use Rattle.data_core.specs.Sequence.{IsNext}
use Rattle.data_core.specs.Outcome.{given, refused}
use Rattle.data_core.specs.Reads.{ReadsFrom, LeavesFrom}
use Rattle.data_core.proofs.Relations.{Keeps-then, Kept-then}
use Rattle.data_std.specs.Compound.{ElementsRead}
use Rattle.data_std.proofs.Elements.{RefusedAmong-whole, EachReads-more, EachReads-fails, EachReads-ends, after_none, after_more, after_end}
use Rattle.data_std.proofs.Swallowed.{EachLeaves-more, EachLeaves-ends}
use Rattle.data_std.proofs.Kept.{Keeps-kept, Keeps-own}
use Rattle.data_std.proofs.lists.elements.Goals as goal

pub returns-in_err-item-clause-reads : goal.returns-in_err-item-clause-reads
returns-in_err-item-clause-reads g c =
    let p = err_from_is_err_and c.from_residual.result c.from_residual.ensures.1 in
    let de = g.D.Deserializer in
    let seed = g.T.Seed.DeserializeSeed in
    let reads = ReadsFrom g.T.Deserialize.asks g.T.Deserialize.reads in
    let i = (de.sequence c.elements.seq).taken in
    let ss = (de.sequence c.elements.seq).left in
    rw (p.1, p.2)
    (RefusedAmong-whole seed.placed (seed.placed × seed.quiet) de.tracks (g.D.Error.DeError.fault c.in_err-item.field-0.0) (IsNext reads i ss) (ElementsRead (λ v. v.items) reads (de.sequence c.args.seq).taken (de.sequence c.args.seq).left) c.args.track.now c.elements.track c.next_element.new.track
    (λ q. q.0)
    (λ q was. rw (c.elements.invariant.keeps.1 q.1) was)
    (λ f path h. inl (c.elements.invariant.outcome (refused f path) (EachReads-fails reads i ss f path h)))
    c.in_err-item.ensures.reads)

pub returns-in_err-item-clause-keeps : goal.returns-in_err-item-clause-keeps
returns-in_err-item-clause-keeps g c =
    let p = err_from_is_err_and c.from_residual.result c.from_residual.ensures.1 in
    let quiet = g.T.Seed.DeserializeSeed.quiet in
    rw (p.1, p.2)
    (Keeps-then quiet g.D.Deserializer.tracks (g.D.Error.DeError.fault c.in_err-item.field-0.0) c.args.track.now c.elements.track c.next_element.new.track c.elements.invariant.keeps c.in_err-item.ensures.keeps)

pub elements-preserved : goal.elements-preserved
elements-preserved g c =
    let de = g.D.Deserializer in
    let quiet = g.T.Seed.DeserializeSeed.quiet in
    let reads = ReadsFrom g.T.Deserialize.asks g.T.Deserialize.reads in
    let i = (de.sequence c.elements.seq).taken in
    let ss = (de.sequence c.elements.seq).left in
    let xs = c.elements.items.items in
    let x = c.in-Some.item in
    let leaves = LeavesFrom g.T.Deserialize.asks g.T.Deserialize.leaves in
    let taken = rw c.in-Some.is at c.in_ok-item.ensures.reads in
    let pushed : c.push.new.self.items ≡ xs ++ x ∷ [] = search rules in
    record {
      outcome = λ o rest.
          rw (pushed, ← after_more xs x o)
          (c.elements.invariant.outcome _ (EachReads-more reads i ss x o taken (rw c.in_ok-item.ensures.took at rest)));
      keeps = Kept-then quiet de.tracks c.args.track.now c.elements.track c.next_element.new.track c.elements.invariant.keeps c.in_ok-item.ensures.keeps;
      leaves = λ t was now h.
          c.elements.invariant.leaves t was now
          (EachLeaves-more reads leaves i ss x c.elements.track c.next_element.new.track now taken (c.in_ok-item.ensures.leaves t) c.in_ok-item.ensures.keeps.0 (rw c.in_ok-item.ensures.took at h));
    }

pub returns-then-is_err-clause-keeps : goal.returns-then-is_err-clause-keeps
returns-then-is_err-clause-keeps g c =
    let quiet = g.T.Seed.DeserializeSeed.quiet in
    let kept = Kept-then quiet g.D.Deserializer.tracks c.args.track.now c.elements.track c.next_element.new.track c.elements.invariant.keeps c.in_ok-item.ensures.keeps in
    Keeps-own quiet g.D.Deserializer.tracks (g.D.Error.DeError.fault c.memory.result) c.args.track.now c.next_element.new.track kept

pub returns-clause-reads : goal.returns-clause-reads
returns-clause-reads g c =
    let de = g.D.Deserializer in
    let reads = ReadsFrom g.T.Deserialize.asks g.T.Deserialize.reads in
    let i = (de.sequence c.elements.seq).taken in
    let ss = (de.sequence c.elements.seq).left in
    let xs = c.elements.items.items in
    let taken = rw c.in_default.is at c.in_ok-item.ensures.reads in
    let all = rw (after_end xs) at (c.elements.invariant.outcome (given []) (EachReads-ends reads i ss taken)) in
    inr (xs, all, refl)

pub returns-clause-keeps : goal.returns-clause-keeps
returns-clause-keeps g c =
    let quiet = g.T.Seed.DeserializeSeed.quiet in
    let kept = Kept-then quiet g.D.Deserializer.tracks c.args.track.now c.elements.track c.next_element.new.track c.elements.invariant.keeps c.in_ok-item.ensures.keeps in
    Keeps-kept g.D.Error.DeError.fault quiet g.D.Deserializer.tracks c.elements.items c.args.track.now c.next_element.new.track kept

pub returns-clause-leaves : goal.returns-clause-leaves
returns-clause-leaves g c t was =
    let de = g.D.Deserializer in
    let reads = ReadsFrom g.T.Deserialize.asks g.T.Deserialize.reads in
    let leaves = LeavesFrom g.T.Deserialize.asks g.T.Deserialize.leaves in
    let s = de.sequence c.elements.seq in
    let taken = rw c.in_default.is at c.in_ok-item.ensures.reads in
    c.elements.invariant.leaves t was c.next_element.new.track
    (EachLeaves-ends reads leaves s.taken s.left c.elements.track c.next_element.new.track taken (c.in_ok-item.ensures.leaves t) c.in_ok-item.ensures.keeps.0)

pub elements-init : goal.elements-init
elements-init g c =
    let none : c.new-items.result.items ≡ [] = search rules in
    record {
      outcome = λ o read. rw (none, after_none o) read;
      keeps = (inr (inl refl), λ q. refl);
      leaves = λ t was now h. rw was at h;
    }
