use Rattle.std.proofs.Common.{ℕ, ◌≡◌, ◌+◌, ◌<◌, get_or, Ordering, Less}
use Rattle.sorted_pairs.proofs.search.all_less.Given as goal

abbrev pub invariant-loop-i : goal.invariant-loop-i
invariant-loop-i g l =
    record {
      steps : l.steps ≡ l.initial.steps + l.i;
      less : (k : ℕ) (o : Ordering) → k < l.i → get_or (g.P.Probe.answers l.probe) k o ≡ Less;
    }
