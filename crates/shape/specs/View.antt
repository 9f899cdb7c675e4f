-- The shapes and the data of the code, as those of the specs.
use denote.Ref.{Bor}
use Rattle.std.specs.Prelude.{ℕ, List, Option, None, Some}
use Rattle.shape.specs.Shape as spec
use Rattle.shape.specs.Names.{paired}
use Rattle.shape.specs.declared.shapes.Shape.{Shape, Row_of-Shape, end_of-Shape, more_of-Shape, Row_of-VariantShape, end_of-VariantShape, more_of-VariantShape}
use Rattle.shape.specs.declared.shapes.Shape as shape
use Rattle.shape.specs.declared.shapes.Fields.{Fields}
use Rattle.shape.specs.declared.shapes.VariantShape.{VariantShape}
use Rattle.shape.specs.declared.shapes.VariantShape as variant
use Rattle.shape.specs.declared.shapes.Variants.{Variants}
use Rattle.shape.specs.declared.data.Data.{Data}
use Rattle.shape.specs.declared.data.Data.TheVariants as datum
use Rattle.shape.specs.declared.data.Payload.{Payload}
use Rattle.shape.specs.declared.data.Payload.TheVariants as payload

abbrev mutual
  pub shape_view : Shape → spec.Shape
  shape_view shape.Bool = spec.scalar spec.boolean
  shape_view shape.U8 = spec.scalar spec.u8
  shape_view shape.U16 = spec.scalar spec.u16
  shape_view shape.U32 = spec.scalar spec.u32
  shape_view shape.U64 = spec.scalar spec.u64
  shape_view shape.I8 = spec.scalar spec.i8
  shape_view shape.I16 = spec.scalar spec.i16
  shape_view shape.I32 = spec.scalar spec.i32
  shape_view shape.I64 = spec.scalar spec.i64
  shape_view shape.Char = spec.scalar spec.character
  shape_view shape.Text = spec.scalar spec.text
  shape_view shape.Bytes = spec.scalar spec.bytes
  shape_view shape.Unit = spec.scalar spec.unit
  shape_view (shape.UnitStruct name) = spec.scalar (spec.unit_struct name)
  shape_view (shape.Option' p a) = spec.option (shape_view a)
  shape_view (shape.Seq' p a) = spec.seq (shape_view a)
  shape_view (shape.Tuple' m row) = spec.tuple spec.whole None (shapes_view row)
  shape_view (shape.TupleStruct' name m row) = spec.tuple spec.whole (Some name) (shapes_view row)
  shape_view (shape.Prefix' m row) = spec.tuple spec.prefix None (shapes_view row)
  shape_view (shape.PrefixStruct' name m row) = spec.tuple spec.prefix (Some name) (shapes_view row)
  shape_view (shape.Map' p k v) = spec.map (shape_view k) (shape_view v)
  shape_view (shape.Newtype' name p a) = spec.newtype name (shape_view a)
  shape_view (shape.Struct' name names m row) = spec.struct spec.exact name names (shapes_view row)
  shape_view (shape.Strict' name names m row) = spec.struct spec.strict name names (shapes_view row)
  shape_view (shape.Loose' name names m row) = spec.struct spec.loose name names (shapes_view row)
  shape_view (shape.Enum' name names m row) = spec.enum name names (payloads_view row)

  pub shapes_view : {m : _} → Row_of-Shape m → spec.Shapes
  shapes_view end_of-Shape = spec.no_shapes
  shapes_view (more_of-Shape a rest) = spec.shape (shape_view a) (shapes_view rest)

  pub variant_shape_view : VariantShape → spec.PayloadShape
  variant_shape_view variant.Unit = spec.unit_variant
  variant_shape_view (variant.Newtype' p a) = spec.newtype_variant (shape_view a)
  variant_shape_view (variant.Tuple' m row) = spec.tuple_variant (shapes_view row)
  variant_shape_view (variant.Struct' names m row) = spec.struct_variant spec.exact names (shapes_view row)
  variant_shape_view (variant.Strict' names m row) = spec.struct_variant spec.strict names (shapes_view row)
  variant_shape_view (variant.Loose' names m row) = spec.struct_variant spec.loose names (shapes_view row)

  pub payloads_view : {m : _} → Row_of-VariantShape m → spec.Payloads
  payloads_view end_of-VariantShape = spec.no_payloads
  payloads_view (more_of-VariantShape v rest) = spec.payload (variant_shape_view v) (payloads_view rest)

-- an option, by what its inside is seen as
abbrev pub option_view : Option spec.Data → spec.Data
option_view None = spec.nothing
option_view (Some d) = spec.something d

abbrev pub payload_view : Payload → spec.PayloadData
payload_view payload.Unit = spec.unit_payload
payload_view (payload.Newtype held) = spec.newtype_payload held
payload_view (payload.Tuple items) = spec.tuple_payload (spec.parts_of items)
payload_view (payload.Struct items) = spec.struct_payload (spec.parts_of items)

abbrev pub data_view : Data → spec.Data
data_view (datum.Bool b) = spec.boolean_data b
data_view (datum.Unsigned n) = spec.unsigned n
data_view (datum.Signed z) = spec.signed z
data_view (datum.Char c) = spec.character_data c
data_view (datum.Text t) = spec.text_data t
data_view (datum.Bytes b) = spec.bytes_data b.items
data_view datum.Unit = spec.unit_data
data_view (datum.Option held) = option_view held
data_view (datum.Newtype held) = spec.newtype_data held
data_view (datum.Seq items) = spec.seq_data (spec.parts_of items)
data_view (datum.Map pairs) = spec.map_data (spec.pairs_of pairs)
data_view (datum.Struct items) = spec.struct_data (spec.parts_of items)
data_view (datum.Enum n p) = spec.enum_data n (payload_view p)

abbrev pub pair_view : Data × Data → spec.Data × spec.Data
pair_view p = (data_view p.0, data_view p.1)

abbrev pub lent_pair_view : Bor Data × Bor Data → spec.Data × spec.Data
lent_pair_view p = (data_view p.0.now, data_view p.1.now)

-- names with the shapes at their places
abbrev pub fields_view : Fields → List (List ℕ × spec.Shape)
fields_view f = paired shape_view f.names f.shapes.items

-- names with the shapes of the payloads at their places
abbrev pub variants_view : Variants → List (List ℕ × spec.PayloadShape)
variants_view v = paired variant_shape_view v.names v.shapes.items
