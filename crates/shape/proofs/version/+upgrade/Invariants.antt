use Rattle.std.proofs.Common.{◌≡◌, map, take}
use Rattle.shape.specs.Upgraded.{upgraded, upgraded_payload}
use Rattle.shape.specs.View.{shape_view, variant_shape_view}
use Rattle.shape.proofs.version.+upgrade.Given as goal

abbrev pub invariant-upgrade_all-loop-i : goal.invariant-upgrade_all-loop-i
invariant-upgrade_all-loop-i l =
    goal.unvisited-upgrade_all-loop-i l × (map shape_view (take l.i l.shapes.items) ≡ map (λ a. upgraded (shape_view a)) (take l.i l.initial.shapes.items))

abbrev pub invariant-upgrade_payloads-loop-i : goal.invariant-upgrade_payloads-loop-i
invariant-upgrade_payloads-loop-i l =
    goal.unvisited-upgrade_payloads-loop-i l
    × (map variant_shape_view (take l.i l.shapes.items) ≡ map (λ a. upgraded_payload (variant_shape_view a)) (take l.i l.initial.shapes.items))
