use Rattle.std.proofs.Common.{◌≡◌, Some, ap, map}
use Rattle.shape.specs.Shape as spec
use Rattle.shape.specs.Shape.{payloads_of}
use Rattle.shape.specs.View.{variant_shape_view}
use Rattle.shape.proofs.Views.{view_of_enum}
use Rattle.answer.specs.LentShape.{lent}
use Rattle.answer.proofs.payload_parts.payload_shape.Goals as goal

pub returns-in-Enum : goal.returns-in-Enum
returns-in-Enum c =
    let seen : lent c.args.shape ≡ Some (spec.enum c.in-Enum._name c.in-Enum.variants.names (payloads_of (map variant_shape_view c.in-Enum.variants.shapes.items))) =
    rw c.in_ok-_name.was (ap Some (rw c.in-Enum.is (view_of_enum c.in-Enum._name c.in-Enum.variants))) in
    rw (seen, ← c.shapes.ensures) c.at.ensures
