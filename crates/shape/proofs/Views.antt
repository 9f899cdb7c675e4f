-- The shapes of a row, and those of variants, as the lists that their vectors hold.
use Rattle.std.proofs.Common.{◌≡◌, ◌∙◌, ℕ, List, [], ◌∷◌, None, Some, ap, refl, map, length, Vec, Global, arith}
use Rattle.shape.specs.declared.shapes.Fields.{Fields}
use Rattle.shape.specs.declared.shapes.Variants.{Variants}
use Rattle.shape.specs.declared.shapes.VariantShape.{VariantShape}
use Rattle.shape.specs.declared.shapes.VariantShape as held
use Rattle.shape.specs.Shape.{whole, prefix, exact, strict, loose, tuple, struct, enum, shape, shapes_of, number_of, payload, payloads_of, tuple_variant, struct_variant}
use Rattle.shape.specs.Upgraded.{upgraded, upgraded_all, upgraded_payload, upgraded_payloads}
use Rattle.shape.specs.declared.shapes.Shape.{Shape, Tuple, Tuple', TupleStruct, TupleStruct', Prefix, Prefix', PrefixStruct, PrefixStruct', Struct, Struct', Strict, Strict', Loose, Loose', Enum, Enum', Row_of-Shape, end_of-Shape, more_of-Shape, items-the_row-Shape, items_hidden-the_row-Shape-0, Row_of-VariantShape, end_of-VariantShape, more_of-VariantShape, items-the_row-VariantShape, items_hidden-the_row-VariantShape-1}
use Rattle.shape.specs.View.{shape_view, shapes_view, variant_shape_view, payloads_view}

shapes_view-items : (n : _) (row : Row_of-Shape n) → shapes_view row ≡ shapes_of (map shape_view (items-the_row-Shape n row))
shapes_view-items n end_of-Shape = refl
shapes_view-items n (more_of-Shape a rest) = ap (shape (shape_view a)) (shapes_view-items _ rest)

-- the row that a shape has, if any
abbrev row_in : Shape → (n : _) × Row_of-Shape n
row_in (Tuple' _ row) = (_, row)
row_in (TupleStruct' _ _ row) = (_, row)
row_in (Prefix' _ row) = (_, row)
row_in (PrefixStruct' _ _ row) = (_, row)
row_in (Struct' _ _ _ row) = (_, row)
row_in (Strict' _ _ _ row) = (_, row)
row_in (Loose' _ _ _ row) = (_, row)
row_in _ = (_, end_of-Shape)

pub view_of_tuple : (all : Vec Shape Global) → shape_view (Tuple all) ≡ tuple whole None (shapes_of (map shape_view all.items))
view_of_tuple all =
    let row = row_in (Tuple all) in
    ap (tuple whole None) (shapes_view-items row.0 row.1 ∙ ap (λ bs. shapes_of (map shape_view bs)) (items_hidden-the_row-Shape-0 all))

pub view_of_tuple_struct : (name : List ℕ) (all : Vec Shape Global) → shape_view (TupleStruct name all) ≡ tuple whole (Some name) (shapes_of (map shape_view all.items))
view_of_tuple_struct name all =
    let row = row_in (TupleStruct name all) in
    ap (tuple whole (Some name)) (shapes_view-items row.0 row.1 ∙ ap (λ bs. shapes_of (map shape_view bs)) (items_hidden-the_row-Shape-0 all))

pub view_of_prefix : (all : Vec Shape Global) → shape_view (Prefix all) ≡ tuple prefix None (shapes_of (map shape_view all.items))
view_of_prefix all =
    let row = row_in (Prefix all) in
    ap (tuple prefix None) (shapes_view-items row.0 row.1 ∙ ap (λ bs. shapes_of (map shape_view bs)) (items_hidden-the_row-Shape-0 all))

pub view_of_prefix_struct : (name : List ℕ) (all : Vec Shape Global) → shape_view (PrefixStruct name all) ≡ tuple prefix (Some name) (shapes_of (map shape_view all.items))
view_of_prefix_struct name all =
    let row = row_in (PrefixStruct name all) in
    ap (tuple prefix (Some name)) (shapes_view-items row.0 row.1 ∙ ap (λ bs. shapes_of (map shape_view bs)) (items_hidden-the_row-Shape-0 all))

pub view_of_struct : (name : List ℕ) (f : Fields) → shape_view (Struct name f) ≡ struct exact name f.names (shapes_of (map shape_view f.shapes.items))
view_of_struct name f =
    let row = row_in (Struct name f) in
    ap (struct exact name f.names) (shapes_view-items row.0 row.1 ∙ ap (λ bs. shapes_of (map shape_view bs)) (items_hidden-the_row-Shape-0 f.shapes))

pub view_of_strict : (name : List ℕ) (f : Fields) → shape_view (Strict name f) ≡ struct strict name f.names (shapes_of (map shape_view f.shapes.items))
view_of_strict name f =
    let row = row_in (Strict name f) in
    ap (struct strict name f.names) (shapes_view-items row.0 row.1 ∙ ap (λ bs. shapes_of (map shape_view bs)) (items_hidden-the_row-Shape-0 f.shapes))

pub view_of_loose : (name : List ℕ) (f : Fields) → shape_view (Loose name f) ≡ struct loose name f.names (shapes_of (map shape_view f.shapes.items))
view_of_loose name f =
    let row = row_in (Loose name f) in
    ap (struct loose name f.names) (shapes_view-items row.0 row.1 ∙ ap (λ bs. shapes_of (map shape_view bs)) (items_hidden-the_row-Shape-0 f.shapes))

payloads_view-items : (n : _) (row : Row_of-VariantShape n) → payloads_view row ≡ payloads_of (map variant_shape_view (items-the_row-VariantShape n row))
payloads_view-items n end_of-VariantShape = refl
payloads_view-items n (more_of-VariantShape a rest) = ap (payload (variant_shape_view a)) (payloads_view-items _ rest)

-- the variants that a shape has, if any
abbrev variants_of_shape : Shape → (n : _) × Row_of-VariantShape n
variants_of_shape (Enum' _ _ _ row) = (_, row)
variants_of_shape _ = (_, end_of-VariantShape)

pub view_of_enum : (name : List ℕ) (all : Variants) → shape_view (Enum name all) ≡ enum name all.names (payloads_of (map variant_shape_view all.shapes.items))
view_of_enum name all =
    let row = variants_of_shape (Enum name all) in
    ap (enum name all.names) (payloads_view-items row.0 row.1 ∙ ap (λ bs. payloads_of (map variant_shape_view bs)) (items_hidden-the_row-VariantShape-1 all.shapes))

-- the row that a variant has, if any
abbrev row_of_variant : VariantShape → (n : _) × Row_of-Shape n
row_of_variant (held.Tuple' _ row) = (_, row)
row_of_variant (held.Struct' _ _ row) = (_, row)
row_of_variant (held.Strict' _ _ row) = (_, row)
row_of_variant (held.Loose' _ _ row) = (_, row)
row_of_variant _ = (_, end_of-Shape)

pub view_of_tuple_variant : (all : Vec Shape Global) → variant_shape_view (held.Tuple all) ≡ tuple_variant (shapes_of (map shape_view all.items))
view_of_tuple_variant all =
    let row = row_of_variant (held.Tuple all) in
    ap tuple_variant (shapes_view-items row.0 row.1 ∙ ap (λ bs. shapes_of (map shape_view bs)) (items_hidden-the_row-Shape-0 all))

pub view_of_struct_variant : (f : Fields) → variant_shape_view (held.Struct f) ≡ struct_variant exact f.names (shapes_of (map shape_view f.shapes.items))
view_of_struct_variant f =
    let row = row_of_variant (held.Struct f) in
    ap (struct_variant exact f.names) (shapes_view-items row.0 row.1 ∙ ap (λ bs. shapes_of (map shape_view bs)) (items_hidden-the_row-Shape-0 f.shapes))

pub view_of_strict_variant : (f : Fields) → variant_shape_view (held.Strict f) ≡ struct_variant strict f.names (shapes_of (map shape_view f.shapes.items))
view_of_strict_variant f =
    let row = row_of_variant (held.Strict f) in
    ap (struct_variant strict f.names) (shapes_view-items row.0 row.1 ∙ ap (λ bs. shapes_of (map shape_view bs)) (items_hidden-the_row-Shape-0 f.shapes))

pub view_of_loose_variant : (f : Fields) → variant_shape_view (held.Loose f) ≡ struct_variant loose f.names (shapes_of (map shape_view f.shapes.items))
view_of_loose_variant f =
    let row = row_of_variant (held.Loose f) in
    ap (struct_variant loose f.names) (shapes_view-items row.0 row.1 ∙ ap (λ bs. shapes_of (map shape_view bs)) (items_hidden-the_row-Shape-0 f.shapes))

pub ruleset views_of_rows = (view_of_tuple, view_of_tuple_struct, view_of_prefix, view_of_prefix_struct, view_of_struct, view_of_strict, view_of_loose, view_of_enum, view_of_tuple_variant, view_of_struct_variant, view_of_strict_variant, view_of_loose_variant)

pub number_of-shapes : (all : List Shape) → number_of (shapes_of (map shape_view all)) ≡ length all
number_of-shapes [] = refl
number_of-shapes (a ∷ rest) = omega (arith, number_of-shapes rest)

pub upgraded-shapes : (all : List Shape) → upgraded_all (shapes_of (map shape_view all)) ≡ shapes_of (map (λ a. upgraded (shape_view a)) all)
upgraded-shapes [] = refl
upgraded-shapes (a ∷ rest) = ap (shape (upgraded (shape_view a))) (upgraded-shapes rest)

pub upgraded-payloads : (all : List VariantShape) → upgraded_payloads (payloads_of (map variant_shape_view all)) ≡ payloads_of (map (λ a. upgraded_payload (variant_shape_view a)) all)
upgraded-payloads [] = refl
upgraded-payloads (a ∷ rest) = ap (payload (upgraded_payload (variant_shape_view a))) (upgraded-payloads rest)

pub ruleset rows = (views_of_rows, number_of-shapes, upgraded-shapes, upgraded-payloads)
