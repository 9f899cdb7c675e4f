use Rattle.std.proofs.Common.{◌+◌, refl, inr}
use Rattle.std.proofs.lemmas.Result.{err_from_is_err_and}
use Rattle.data_core.specs.Sequence.{rest_of, surplus}
use Rattle.data_core.specs.Reads.{ReadsFrom}
use Rattle.data_std.specs.Compound.{Parts1}
use Rattle.data_std.proofs.Elements.{RefusedAmong-end}
use Rattle.data_std.proofs.Kept.{Keeps-own}
use Rattle.data_std.proofs.tuples.parts1.Goals as goal

pub returns-in_err-end_seq-clause-reads : goal.returns-in_err-end_seq-clause-reads
returns-in_err-end_seq-clause-reads g c =
    let p = err_from_is_err_and c.from_residual-in_err-end_seq.result c.from_residual-in_err-end_seq.ensures.1 in
    let de = g.D.Deserializer in
    let seed = g.T0.Seed.DeserializeSeed in
    let seq = de.sequence c.args.seq in
    let left = surplus seq.checks (c.args.place + 1) (rest_of seq.left) in
    let read = c.in_ok-first.ensures.reads in
    let ends = rw (c.in_ok-first.ensures.left, c.in_ok-first.ensures.checks, c.in_ok-first.ensures.taken) at c.in_err-end_seq.ensures in
    rw (p.1, p.2)
    (RefusedAmong-end g.D.Error.DeError.fault c.in_err-end_seq.field-0.0 (seed.placed × seed.quiet) de.tracks left (Parts1 (ReadsFrom g.T0.Deserialize.asks g.T0.Deserialize.reads) seq.checks c.args.place seq.left) c.args.track.now c.part.new.track ends
    (λ f is. inr (c.in_ok-first.first, read, rw is refl))
    (λ q was. rw ((c.in_ok-first.ensures.keeps.1 q.1).1) was))

pub returns-in_err-end_seq-clause-keeps : goal.returns-in_err-end_seq-clause-keeps
returns-in_err-end_seq-clause-keeps g c =
    let p = err_from_is_err_and c.from_residual-in_err-end_seq.result c.from_residual-in_err-end_seq.ensures.1 in
    let kept = c.in_ok-first.ensures.keeps in
    rw (p.1, p.2)
    (Keeps-own g.T0.Seed.DeserializeSeed.quiet g.D.Deserializer.tracks (g.D.Error.DeError.fault c.in_err-end_seq.field-0.0) c.args.track.now c.part.new.track (kept.0, λ q. (kept.1 q).1))
