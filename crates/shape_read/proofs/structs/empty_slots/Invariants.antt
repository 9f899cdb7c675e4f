use Rattle.std.proofs.Common.{◌≡◌, ◌≤◌, None, replicate}
use Rattle.shape_read.proofs.structs.empty_slots.Given as goal

abbrev pub invariant-slots : goal.invariant-slots
invariant-slots l = (l.slots.items ≡ replicate l.counter None) × (l.counter ≤ l.count)
