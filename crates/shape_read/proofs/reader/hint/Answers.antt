use Rattle.std.proofs.Common.{◌≡◌, length, None, Some, arith}
use Rattle.data_core.specs.Ask.{tuple_struct}
use Rattle.shape.specs.Shape.{whole, prefix}
use Rattle.shape.specs.View.{shape_view}
use Rattle.shape.specs.declared.shapes.Shape.{TupleStruct, PrefixStruct}
use Rattle.shape.proofs.Views.{view_of_tuple_struct, view_of_prefix_struct}
use Rattle.shape_read.proofs.Readers.{asks_of_tuple}
use Rattle.shape_read.proofs.reader.hint.Goals as goal

pub returns-in-TupleStruct : goal.returns-in-TupleStruct
returns-in-TupleStruct c =
    let name = c.in-TupleStruct.name in
    let all = c.in-TupleStruct.shapes in
    let number : c.len-in-TupleStruct.result ≡ length all.items = omega (arith, all.ok.0, c.len-in-TupleStruct.ensures) in
    rw (c.in-TupleStruct.is, asks_of_tuple (shape_view (TupleStruct name all)) whole (Some name) all.items (view_of_tuple_struct name all))
    (λ i. tuple_struct (c.as_str-in-TupleStruct.ensures i) (number i))

pub returns-in-PrefixStruct : goal.returns-in-PrefixStruct
returns-in-PrefixStruct c =
    let name = c.in-PrefixStruct.name in
    let all = c.in-PrefixStruct.shapes in
    let number : c.len-in-PrefixStruct.result ≡ length all.items = omega (arith, all.ok.0, c.len-in-PrefixStruct.ensures) in
    rw (c.in-PrefixStruct.is, asks_of_tuple (shape_view (PrefixStruct name all)) prefix (Some name) all.items (view_of_prefix_struct name all))
    (λ i. tuple_struct (c.as_str-in-PrefixStruct.ensures i) (number i))
