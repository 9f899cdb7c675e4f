use Rattle.std.proofs.Common.{◌-◌, arith}
use Rattle.sorted_pairs.proofs.Probes.{probe_less, probe_greater, halved-step, cost-step}
use Rattle.sorted_pairs.proofs.search.place.Goals as goal

pub loop-low-preserved-in-Less : goal.loop-low-preserved-in-Less
loop-low-preserved-in-Less g c =
    let i = c.loop-low.invariant in record {
      low_greater = i.low_greater;
      not_less_high = probe_less (g.P.Probe.answers c.args.probe.now) _ c.compare.result (omega arith) (rw (← c.compare.ensures.answer) c.in-Less.is);
      in_order = omega arith;
      within = omega arith;
      counted = omega arith;
      halved = rw c.compare.ensures.counted (halved-step c.args.steps.now c.loop-low.steps (c.loop-low.high - c.loop-low.low) _ _ i.counted i.halved (omega arith));
      cost = rw c.compare.ensures.counted (cost-step c.args.steps.now c.loop-low.steps (c.loop-low.high - c.loop-low.low) _ i.counted i.halved (omega arith));
    }

pub returns-in-Equal-clause-cost : goal.returns-in-Equal-clause-cost
returns-in-Equal-clause-cost g c =
    let i = c.loop-low.invariant in
    rw c.compare.ensures.counted (cost-step c.args.steps.now c.loop-low.steps (c.loop-low.high - c.loop-low.low) _ i.counted i.halved (omega arith))

pub loop-low-preserved : goal.loop-low-preserved
loop-low-preserved g c =
    let i = c.loop-low.invariant in record {
      low_greater = probe_greater (g.P.Probe.answers c.args.probe.now) _ c.compare.result c.requires (omega arith) (rw (← c.compare.ensures.answer) c.in-Greater.is);
      not_less_high = i.not_less_high;
      in_order = omega arith;
      within = omega arith;
      counted = omega arith;
      halved = rw c.compare.ensures.counted (halved-step c.args.steps.now c.loop-low.steps (c.loop-low.high - c.loop-low.low) _ _ i.counted i.halved (omega arith));
      cost = rw c.compare.ensures.counted (cost-step c.args.steps.now c.loop-low.steps (c.loop-low.high - c.loop-low.low) _ i.counted i.halved (omega arith));
    }
