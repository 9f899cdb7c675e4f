use Rattle.std.proofs.Common.{◌+◌, refl, inl, inr}
use Rattle.std.proofs.lemmas.Result.{err_from_is_err_and}
use Rattle.data_core.specs.Sequence.{rest_of}
use Rattle.data_core.specs.Reads.{ReadsFrom, LeavesFrom}
use Rattle.data_core.proofs.Relations.{Keeps-then, Kept-then}
use Rattle.data_std.specs.Compound.{Parts2}
use Rattle.data_std.specs.Swallowed.{PartsLeave2}
use Rattle.data_std.proofs.Elements.{RefusedAmong-whole}
use Rattle.data_std.proofs.Swallowed.{then_leaves}
use Rattle.data_std.proofs.tuples.parts3.Goals as goal

pub returns-in_err-second-clause-reads : goal.returns-in_err-second-clause-reads
returns-in_err-second-clause-reads g c =
    let p = err_from_is_err_and c.from_residual-in_err-second.result c.from_residual-in_err-second.ensures.1 in
    let de = g.D.Deserializer in
    let seq = de.sequence c.args.seq in
    let rest = Parts2 (ReadsFrom g.T1.Deserialize.asks g.T1.Deserialize.reads) (ReadsFrom g.T2.Deserialize.asks g.T2.Deserialize.reads) seq.checks (c.args.place + 1) (rest_of seq.left) in
    let read = c.in_ok-first.ensures.reads in
    let refusal = rw (c.in_ok-first.ensures.left, c.in_ok-first.ensures.checks) at c.in_err-second.ensures.reads in
    rw (p.1, p.2)
    (RefusedAmong-whole ((g.T1.Seed.DeserializeSeed.placed × g.T1.Seed.DeserializeSeed.quiet) × (g.T2.Seed.DeserializeSeed.placed × g.T2.Seed.DeserializeSeed.quiet)) ((g.T0.Seed.DeserializeSeed.placed × g.T0.Seed.DeserializeSeed.quiet) × ((g.T1.Seed.DeserializeSeed.placed × g.T1.Seed.DeserializeSeed.quiet) × (g.T2.Seed.DeserializeSeed.placed × g.T2.Seed.DeserializeSeed.quiet))) de.tracks (g.D.Error.DeError.fault c.in_err-second.field-0.0) rest _ c.args.track.now c.part.new.track c.parts2.new.track
    (λ q. q.1)
    (λ q was. rw ((c.in_ok-first.ensures.keeps.1 q.0.1).1) was)
    (λ f path h. inr (c.in_ok-first.first, read, inl h))
    refusal)

pub returns-in_err-second-clause-keeps : goal.returns-in_err-second-clause-keeps
returns-in_err-second-clause-keeps g c =
    let p = err_from_is_err_and c.from_residual-in_err-second.result c.from_residual-in_err-second.ensures.1 in
    let first = c.in_ok-first.ensures.keeps in
    let second = c.in_err-second.ensures.keeps in
    rw (p.1, p.2)
    (Keeps-then (g.T0.Seed.DeserializeSeed.quiet × (g.T1.Seed.DeserializeSeed.quiet × g.T2.Seed.DeserializeSeed.quiet)) g.D.Deserializer.tracks (g.D.Error.DeError.fault c.in_err-second.field-0.0) c.args.track.now c.part.new.track c.parts2.new.track (first.0, λ q. (first.1 q.0).1) (second.0, λ q. second.1 q.1))

pub returns-clause-reads : goal.returns-clause-reads
returns-clause-reads g c =
    let read = c.in_ok-first.ensures.reads in
    let rest = rw (c.in_ok-first.ensures.left, c.in_ok-first.ensures.checks) at c.in_ok-second.ensures.reads in
    inr (c.in_ok-first.first, read, inr (_, rest, refl))

pub returns-clause-keeps : goal.returns-clause-keeps
returns-clause-keeps g c =
    let first = c.in_ok-first.ensures.keeps in
    let second = c.in_ok-second.ensures.keeps in
    let kept = Kept-then (g.T0.Seed.DeserializeSeed.quiet × (g.T1.Seed.DeserializeSeed.quiet × g.T2.Seed.DeserializeSeed.quiet)) g.D.Deserializer.tracks c.args.track.now c.part.new.track c.parts2.new.track (first.0, λ q. (first.1 q.0).1) (second.0, λ q. second.1 q.1) in
    (kept.0, λ q. (λ t. kept.1 q, kept.1 q))

pub returns-clause-leaves : goal.returns-clause-leaves
returns-clause-leaves g c t was =
    let later = PartsLeave2 (LeavesFrom g.T1.Deserialize.asks g.T1.Deserialize.leaves) (LeavesFrom g.T2.Deserialize.asks g.T2.Deserialize.leaves) (c.args.place + 1) (rest_of (g.D.Deserializer.sequence c.args.seq).left) in
    let second = rw c.in_ok-first.ensures.left at c.in_ok-second.ensures.leaves t in
    (c.part.new.track, c.in_ok-first.ensures.leaves t was, then_leaves later c.part.new.track c.parts2.new.track second c.in_ok-second.ensures.keeps.0)
