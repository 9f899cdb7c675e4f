use Rattle.std.proofs.Common.{◌≡◌, ◌≢◌, true}
use Rattle.data_core.specs.declared.fault.Fault.TheVariants.{Custom}
use Rattle.data_core.specs.Tracking.{marked}
use Rattle.data_core.proofs.Relations.{refused_after}
use Rattle.hand_tests.proofs.lenient.LenientDeserializeSeed.visit.Goals as goal

pub returns-clause-reads : goal.returns-clause-reads
returns-clause-reads g c =
    let track = c.pass_over_all.new.track in
    let lost : track ≢ marked = λ e. let is_true : c.is_marked.result ≡ true = c.is_marked.ensures.1 e in let is_false = c.if-is_marked.false in cc in
    refused_after _ g.D.Deserializer.tracks (g.D.Error.DeError.fault c.custom.result) Custom _ c.args.track.now track c.custom.ensures (λ path. rw c.in-Seq.is tt) lost
