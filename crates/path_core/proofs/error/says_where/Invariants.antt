use Rattle.std.proofs.Common.{◌≡◌}
use Rattle.path_core.specs.ErrorText.{has_place}
use Rattle.path_core.proofs.error.says_where.Given as goal

abbrev pub invariant-loop-segment : goal.invariant-loop-segment
invariant-loop-segment l =
    (goal.iterator-loop-segment).can_next l.segment-iterator ×
    (goal.iterator-loop-segment).is_finite l.segment-iterator ×
    has_place l.path ≡ has_place l.segment-iterator
