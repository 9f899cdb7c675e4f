use Rattle.std.proofs.Common.{◌∙◌, refl, arith}
use Rattle.sorted_pairs.proofs.Probes.{all_less, less_at, neither}
use Rattle.sorted_pairs.proofs.search.all_less.Goals as goal

pub returns-in-Equal : goal.returns-in-Equal
returns-in-Equal g c =
    record {
      answer =
          (λ t. cc, λ a. absurd (neither c.compare.result c.in-Equal.is (c.compare.ensures.answer ∙ less_at (g.P.Probe.answers c.args.probe.now) c.loop-i.i c.compare.result a (omega arith))));
      cost = omega arith;
      never_falls = omega arith;
    }

pub returns-clause-answer : goal.returns-clause-answer
returns-clause-answer g c =
    (λ t. all_less (g.P.Probe.answers c.args.probe.now) (λ k o n. c.loop-i.invariant.less k o (omega arith)), λ a. refl)
