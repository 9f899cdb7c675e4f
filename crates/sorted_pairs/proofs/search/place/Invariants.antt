use Rattle.std.proofs.Common.{◌≤◌, ◌-◌, ◌+◌, ◌*◌, ◌^◌, length}
use Rattle.sorted_pairs.specs.Answers.{greater, not_less}
use Rattle.sorted_pairs.proofs.search.place.Given as goal

abbrev pub invariant-loop-low : goal.invariant-loop-low
invariant-loop-low g l =
    record {
      low_greater : l.low ≤ greater (g.P.Probe.answers l.probe);
      not_less_high : not_less (g.P.Probe.answers l.probe) ≤ l.high;
      in_order : l.low ≤ l.high;
      within : l.high ≤ length (g.P.Probe.answers l.probe);
      counted : l.initial.steps ≤ l.steps;
      halved : 2 ^ (l.steps - l.initial.steps) * (l.high - l.low) ≤ length (g.P.Probe.answers l.probe);
      cost : 2 ^ (l.steps - l.initial.steps) ≤ 2 * length (g.P.Probe.answers l.probe) + 1;
    }

abbrev pub decreases-loop-low : goal.decreases-loop-low
decreases-loop-low g l = l.high - l.low
