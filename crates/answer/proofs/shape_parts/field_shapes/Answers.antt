use Rattle.std.proofs.Common.{◌≡◌, Some, ap, map, refl}
use Rattle.shape.specs.Shape as spec
use Rattle.shape.specs.Shape.{shapes_of}
use Rattle.shape.specs.View.{shape_view}
use Rattle.shape.proofs.Views.{view_of_struct, view_of_strict, view_of_loose}
use Rattle.answer.specs.LentShape.{lent}
use Rattle.answer.proofs.shape_parts.field_shapes.Goals as goal

pub returns-in-Struct : goal.returns-in-Struct
returns-in-Struct c =
    let seen : lent c.args.shape ≡ Some (spec.struct spec.exact c.in-Struct._name c.in-Struct.fields.names (shapes_of (map shape_view c.in-Struct.fields.shapes.items))) =
    rw c.in_ok-_name.was (ap Some (rw c.in-Struct.is (view_of_struct c.in-Struct._name c.in-Struct.fields))) in
    rw seen refl

pub returns-in-Strict : goal.returns-in-Strict
returns-in-Strict c =
    let seen : lent c.args.shape ≡ Some (spec.struct spec.strict c.in-Strict._name c.in-Strict.fields.names (shapes_of (map shape_view c.in-Strict.fields.shapes.items))) =
    rw c.in_ok-_name.was (ap Some (rw c.in-Strict.is (view_of_strict c.in-Strict._name c.in-Strict.fields))) in
    rw seen refl

pub returns-in-Loose : goal.returns-in-Loose
returns-in-Loose c =
    let seen : lent c.args.shape ≡ Some (spec.struct spec.loose c.in-Loose._name c.in-Loose.fields.names (shapes_of (map shape_view c.in-Loose.fields.shapes.items))) =
    rw c.in_ok-_name.was (ap Some (rw c.in-Loose.is (view_of_loose c.in-Loose._name c.in-Loose.fields))) in
    rw seen refl
