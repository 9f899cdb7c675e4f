-- The readers of the shapes of the code.
use Rattle.std.specs.Prelude.{ℕ, List, map, Option, option_map, Vec}
use Rattle.std.specs.declared.alloc.Global.{Global}
use Rattle.data_core.specs.Source.{Source, Offer}
use Rattle.data_core.specs.Wanted.{Wanted}
use Rattle.data_core.specs.Outcome.{Outcome}
use Rattle.shape.specs.Shape as spec
use Rattle.shape.specs.View.{shape_view, variant_shape_view, data_view}
use Rattle.shape.specs.declared.shapes.Shape.{Shape}
use Rattle.shape.specs.declared.shapes.Fields.{Fields}
use Rattle.shape.specs.declared.shapes.VariantShape.{VariantShape}
use Rattle.shape.specs.declared.shapes.Variants.{Variants}
use Rattle.shape.specs.declared.data.Data.{Data}
use Rattle.shape_read.specs.Fields.{Field, fields_of}
use Rattle.shape_read.specs.Variants.{Variant, variants_of}
use Rattle.shape_read.specs.First.{first, visited_payload}

-- the readers of shapes
abbrev pub readers_of : List Shape → List (Source → Outcome spec.Data)
readers_of all = map (λ a. first (shape_view a)) all

-- names with the shapes at their places
abbrev pub fields_at : List (List ℕ) → List Shape → List (Field Source)
fields_at names all = fields_of names (spec.shapes_of (map shape_view all)) (readers_of all)

abbrev pub fields_in : Fields → List (Field Source)
fields_in f = fields_at f.names f.shapes.items

-- names with the shapes of the payloads at their places
abbrev pub payload_readers_of : List VariantShape → List ((Wanted → Offer) → Outcome spec.PayloadData)
payload_readers_of all = map (λ v. visited_payload (variant_shape_view v)) all

abbrev pub variants_at : List (List ℕ) → List VariantShape → List (Variant (Wanted → Offer))
variants_at names all = variants_of names (payload_readers_of all)

abbrev pub variants_in : Variants → List (Variant (Wanted → Offer))
variants_in v = variants_at v.names v.shapes.items

-- what is in the slots of fields
abbrev pub slot_view : Option Data → Option spec.Data
slot_view slot = option_map data_view slot

abbrev pub slots_view : Vec (Option Data) Global → List (Option spec.Data)
slots_view slots = map slot_view slots.items
