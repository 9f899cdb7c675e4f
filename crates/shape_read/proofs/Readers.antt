-- The readers of rows, of fields and of variants, as those of the lists that their vectors hold.
use Rattle.std.proofs.Common.{◌≡◌, ◌∙◌, ℕ, List, [], ◌∷◌, Bool, Option, ap, refl, map, length}
use Rattle.data_core.specs.Source.{Offer}
use Rattle.data_core.specs.Wanted.{Wanted}
use Rattle.data_core.specs.Wanted as wanted
use Rattle.shape.specs.declared.shapes.Fields.{Fields}
use Rattle.shape.specs.declared.shapes.Variants.{Variants}
use Rattle.shape.specs.declared.shapes.VariantShape.{VariantShape}
use Rattle.shape.specs.declared.shapes.Shape.{Shape}
use Rattle.shape.specs.Shape as spec
use Rattle.shape.specs.Shape.{Exactness, Strictness, is_whole, by_position, is_strict, tuple, struct, enum, PayloadShape, tuple_variant, struct_variant, shapes_of, payloads_of}
use Rattle.shape.specs.View.{shape_view, variant_shape_view}
use Rattle.shape.proofs.Views.{views_of_rows, number_of-shapes}
use Rattle.shape_read.specs.Fields.{fields_of}
use Rattle.shape_read.specs.Variants.{variants_of}
use Rattle.shape_read.specs.First.{first, readers, asks, tuple_asks, visited, tuple_of, struct_of, enum_of, visited_payload, payload_readers, tuple_payload_of, struct_payload_of}
use Rattle.shape_read.specs.Readers.{readers_of, fields_in, payload_readers_of, variants_in}

pub readers-shapes : (all : List Shape) → readers (shapes_of (map shape_view all)) ≡ readers_of all
readers-shapes [] = refl
readers-shapes (a ∷ rest) = ap (λ rs. first (shape_view a) ∷ rs) (readers-shapes rest)

payload_readers-payloads : (all : List VariantShape) → payload_readers (payloads_of (map variant_shape_view all)) ≡ payload_readers_of all
payload_readers-payloads [] = refl
payload_readers-payloads (a ∷ rest) = ap (λ rs. visited_payload (variant_shape_view a) ∷ rs) (payload_readers-payloads rest)

-- what a shape with a row hopes for, and what it makes of an offer

pub asks_of_tuple : (a : spec.Shape) (exactness : Exactness) (name : Option (List ℕ)) (all : List Shape) → a ≡ tuple exactness name (shapes_of (map shape_view all))
    → asks a ≡ tuple_asks name (length all)
asks_of_tuple a exactness name all is = ap asks is ∙ ap (tuple_asks name) (number_of-shapes all)

pub visited_tuple : (a : spec.Shape) (exactness : Exactness) (name : Option (List ℕ)) (all : List Shape) → a ≡ tuple exactness name (shapes_of (map shape_view all))
    → (o : Offer) → visited a o ≡ tuple_of (is_whole exactness) (readers_of all) o
visited_tuple a exactness name all is o = ap (λ b. visited b o) is ∙ ap (λ rs. tuple_of (is_whole exactness) rs o) (readers-shapes all)

pub visited_struct : (a : spec.Shape) (strictness : Strictness) (name : List ℕ) (f : Fields) → a ≡ struct strictness name f.names (shapes_of (map shape_view f.shapes.items))
    → (o : Offer) → visited a o ≡ struct_of (is_whole (by_position strictness)) (is_strict strictness) (fields_in f) (readers_of f.shapes.items) o
visited_struct a strictness name f is o =
    ap (λ b. visited b o) is
    ∙ ap (λ rs. struct_of (is_whole (by_position strictness)) (is_strict strictness) (fields_of f.names (shapes_of (map shape_view f.shapes.items)) rs) rs o) (readers-shapes f.shapes.items)

pub visited_enum : (a : spec.Shape) (name : List ℕ) (all : Variants) → a ≡ enum name all.names (payloads_of (map variant_shape_view all.shapes.items))
    → (o : Offer) → visited a o ≡ enum_of (variants_in all) o
visited_enum a name all is o = ap (λ b. visited b o) is ∙ ap (λ rs. enum_of (variants_of all.names rs) o) (payload_readers-payloads all.shapes.items)

-- what a variant with a row makes of what is offered for its payload

pub visited_tuple_variant : (p : PayloadShape) (all : List Shape) → p ≡ tuple_variant (shapes_of (map shape_view all))
    → (offered : Wanted → Offer) → visited_payload p offered ≡ tuple_payload_of (readers_of all) (offered (wanted.tuple (length all)))
visited_tuple_variant p all is offered =
    ap (λ q. visited_payload q offered) is ∙ (λ i. tuple_payload_of (readers-shapes all i) (offered (wanted.tuple (number_of-shapes all i))))

pub visited_struct_variant : (p : PayloadShape) (strictness : Strictness) (f : Fields) → p ≡ struct_variant strictness f.names (shapes_of (map shape_view f.shapes.items))
    → (offered : Wanted → Offer) → visited_payload p offered ≡ struct_payload_of (is_strict strictness) (fields_in f) (offered (wanted.struct f.names))
visited_struct_variant p strictness f is offered =
    ap (λ q. visited_payload q offered) is
    ∙ ap (λ rs. struct_payload_of (is_strict strictness) (fields_of f.names (shapes_of (map shape_view f.shapes.items)) rs) (offered (wanted.struct f.names))) (readers-shapes f.shapes.items)

pub ruleset rows = (views_of_rows, number_of-shapes, readers-shapes)
