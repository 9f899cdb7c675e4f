use Rattle.std.proofs.Common.{refl}
use Rattle.shape.specs.View.{shape_view}
use Rattle.capture.proofs.response.respond_to.Goals as goal

pub returns-in-Ok : goal.returns-in-Ok
returns-in-Ok c = rw (c.in-Ok.ensures.value, c.in_ok-value_line-in-Ok.ensures) refl

pub returns-in-Err-Refused : goal.returns-in-Err-Refused
returns-in-Err-Refused c =
    let given_up = rw c.in-Err-Refused.field-0-is at c.in-Err-Refused.ensures.refusal in
    rw (given_up, c.in_ok-refusal_line-in-Err-Refused.ensures (shape_view c.args.document.shape)) refl
