use Rattle.std.proofs.Common.{◌∙◌, ◌++◌, ◌∷◌, [], None, ap, arith}
use Rattle.std.proofs.lemmas.List.{replicate-append-replicate}
use Rattle.shape_read.proofs.structs.empty_slots.Goals as goal

pub slots-preserved : goal.slots-preserved
slots-preserved c =
    (c.in_ok-push.ensures.items ∙ ap (λ ds. ds ++ None ∷ []) c.slots.invariant.0 ∙ replicate-append-replicate c.slots.counter 1 None, omega (arith, c.slots-test.true))
