use Rattle.std.proofs.Common.{◌≡◌, Some, map, refl}
use Rattle.shape.specs.Shape as spec
use Rattle.shape.specs.Shape.{shapes_of}
use Rattle.shape.specs.View.{shape_view}
use Rattle.shape.proofs.Views.{view_of_tuple_struct, view_of_prefix_struct}
use Rattle.answer.proofs.shape_parts.shapes_within.Goals as goal

pub returns-in-TupleStruct : goal.returns-in-TupleStruct
returns-in-TupleStruct c =
    let seen : shape_view c.args.shape.now ≡ spec.tuple spec.whole (Some c.in-TupleStruct._name) (shapes_of (map shape_view c.in-TupleStruct.row.items)) =
    rw c.in-TupleStruct.is (view_of_tuple_struct c.in-TupleStruct._name c.in-TupleStruct.row) in
    rw (seen, c.deref-in-TupleStruct.ensures.value) refl

pub returns-in-PrefixStruct : goal.returns-in-PrefixStruct
returns-in-PrefixStruct c =
    let seen : shape_view c.args.shape.now ≡ spec.tuple spec.prefix (Some c.in-PrefixStruct._name) (shapes_of (map shape_view c.in-PrefixStruct.row.items)) =
    rw c.in-PrefixStruct.is (view_of_prefix_struct c.in-PrefixStruct._name c.in-PrefixStruct.row) in
    rw (seen, c.deref-in-PrefixStruct.ensures.value) refl
