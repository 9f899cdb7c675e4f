use Rattle.data_core.specs.Tracking.{Stays}
use Rattle.hand_tests.proofs.lenient.pass_over_all.Given as goal

abbrev pub invariant-elements : goal.invariant-elements
invariant-elements g l = Stays l.fn.track l.track
