use Rattle.std.proofs.Common.{◌≡◌}
use Rattle.hand_tests.proofs.structs.StructSeedDeserializeSeed.visit.Given as goal

abbrev pub invariant-pairs : goal.invariant-pairs
invariant-pairs g l = l.track ≡ l.fn.track
