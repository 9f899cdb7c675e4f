-- The line that an answer is written as.
use Rattle.std.specs.Prelude.{ℕ, zero, suc, ◌+◌, List, [], ◌∷◌, ◌++◌, Option, Some, None, slice_get, encode_utf8, codes}
use Rattle.serde_json.specs.Data as json
use Rattle.serde_json.specs.Data.{no_items, item, Items, no_members, member}
use Rattle.serde_json.specs.Find.{of_integer}
use Rattle.serde_json.specs.Written.{compact_text}
use Rattle.data_core.specs.declared.fault.Fault.{Fault}
use Rattle.data_core.specs.declared.fault.Fault.TheVariants as fault
use Rattle.data_core.specs.declared.path.Segment.{Segment}
use Rattle.data_core.specs.declared.path.Segment.TheVariants as segment
use Rattle.data_core.specs.KindName.{kind_name}
use Rattle.data_core.specs.WordText.{word_text}
use Rattle.data_core.specs.PathText.{path_text}
use Rattle.data_core.specs.Outcome.{Outcome, given, refused}
use Rattle.shape.specs.Shape.{Shape, scalar, option, seq, tuple, map, newtype, struct, enum, Shapes, no_shapes, shape, Payloads, no_payloads, payload, PayloadShape, unit_variant, newtype_variant, tuple_variant, struct_variant, Data, boolean_data, unsigned, signed, character_data, text_data, bytes_data, unit_data, nothing, something, newtype_data, seq_data, map_data, struct_data, enum_data, Parts, no_parts, part, DataPairs, no_pairs, pair, PayloadData, unit_payload, newtype_payload, tuple_payload, struct_payload}

abbrev pub whole : ℕ → json.Data
whole n = json.number (json.unsigned n)

-- each element of a list as an item
abbrev pub each : {A : Type 0} → (A → json.Data) → List A → Items
each print [] = no_items
each print (a ∷ rest) = item (print a) (each print rest)

-- the shape at a place of a row, and the payload at a place of those of variants

abbrev pub shape_at : Shapes → ℕ → Option Shape
shape_at no_shapes i = None
shape_at (shape a rest) zero = Some a
shape_at (shape a rest) (suc i) = shape_at rest i

abbrev pub payload_at : Payloads → ℕ → Option PayloadShape
payload_at no_payloads i = None
payload_at (payload p rest) zero = Some p
payload_at (payload p rest) (suc i) = payload_at rest i

-- the shapes of elements: one of all, or one for each place
pub data Elements : Type 0 where
  every : Option Shape → Elements
  each_of : Shapes → Elements

abbrev pub element_at : Elements → ℕ → Option Shape
element_at (every a) i = a
element_at (each_of row) i = shape_at row i

-- the fields of a struct: their names, and the shapes at their places
pub record FieldShapes : Type 0 where
  pub names : List (List ℕ)
  pub shapes : Shapes

abbrev pub no_fields : FieldShapes
no_fields = record { names = []; shapes = no_shapes }

-- the shapes by which the parts of a value are printed: of what an option or a newtype holds, of elements, of the
-- keys and the values of a map, of fields, and of payloads with the names of their variants
pub record PartShapes : Type 0 where
  pub inside : Option Shape
  pub elements : Elements
  pub keys : Option Shape
  pub values : Option Shape
  pub fields : FieldShapes
  pub variants : List (List ℕ)
  pub payloads : Payloads

-- a value that is of no such shape has parts of none
abbrev pub no_part_shapes : PartShapes
no_part_shapes = record { inside = None; elements = every None; keys = None; values = None; fields = no_fields; variants = []; payloads = no_payloads }

abbrev pub part_shapes : Shape → PartShapes
part_shapes (scalar a) = no_part_shapes
part_shapes (option a) = record no_part_shapes { inside = Some a }
part_shapes (seq a) = record no_part_shapes { elements = every (Some a) }
part_shapes (tuple exactness name row) = record no_part_shapes { elements = each_of row }
part_shapes (map k v) = record no_part_shapes { keys = Some k; values = Some v }
part_shapes (newtype name a) = record no_part_shapes { inside = Some a }
part_shapes (struct strictness name names row) = record no_part_shapes { fields = record { names = names; shapes = row } }
part_shapes (enum name names held) = record no_part_shapes { variants = names; payloads = held }

abbrev pub shapes_within : Option Shape → PartShapes
shapes_within None = no_part_shapes
shapes_within (Some a) = part_shapes a

abbrev pub shape_inside : Option Shape → Option Shape
shape_inside a = (shapes_within a).inside

abbrev pub shapes_of_elements : Option Shape → Elements
shapes_of_elements a = (shapes_within a).elements

abbrev pub shape_of_keys : Option Shape → Option Shape
shape_of_keys a = (shapes_within a).keys

abbrev pub shape_of_values : Option Shape → Option Shape
shape_of_values a = (shapes_within a).values

abbrev pub shapes_of_fields : Option Shape → FieldShapes
shapes_of_fields a = (shapes_within a).fields

abbrev pub variant_name : Option Shape → ℕ → Option (List ℕ)
variant_name a n = slice_get (shapes_within a).variants n

abbrev pub shape_of_payload : Option Shape → ℕ → Option PayloadShape
shape_of_payload a n = payload_at (shapes_within a).payloads n

-- the shapes of the parts of a payload

abbrev pub inside_of_payload : Option PayloadShape → Option Shape
inside_of_payload None = None
inside_of_payload (Some unit_variant) = None
inside_of_payload (Some (newtype_variant a)) = Some a
inside_of_payload (Some (tuple_variant row)) = None
inside_of_payload (Some (struct_variant strictness names row)) = None

abbrev pub elements_of_payload : Option PayloadShape → Elements
elements_of_payload None = every None
elements_of_payload (Some unit_variant) = every None
elements_of_payload (Some (newtype_variant a)) = every None
elements_of_payload (Some (tuple_variant row)) = each_of row
elements_of_payload (Some (struct_variant strictness names row)) = every None

abbrev pub fields_of_payload : Option PayloadShape → FieldShapes
fields_of_payload None = no_fields
fields_of_payload (Some unit_variant) = no_fields
fields_of_payload (Some (newtype_variant a)) = no_fields
fields_of_payload (Some (tuple_variant row)) = no_fields
fields_of_payload (Some (struct_variant strictness names row)) = record { names = names; shapes = row }

-- a field with its name
abbrev pub with_name : Option (List ℕ) → json.Data → json.Data
with_name None d = d
with_name (Some name) d = json.array (item (json.string name) (item d no_items))

-- a variant by its name, or by its number where it has none
abbrev pub name_or_number : Option (List ℕ) → ℕ → json.Data
name_or_number None n = whole n
name_or_number (Some name) n = json.string name

abbrev mutual
  -- how a value of a shape is printed
  pub printed : Option Shape → Data → json.Data
  printed a (boolean_data b) = json.boolean b
  printed a (unsigned n) = whole n
  printed a (signed z) = json.number (of_integer z)
  printed a (character_data c) = json.string (encode_utf8 c)
  printed a (text_data t) = json.string t
  printed a (bytes_data b) = json.array (each whole b)
  printed a unit_data = json.null
  printed a nothing = json.array no_items
  printed a (something d) = json.array (item (printed (shape_inside a) d) no_items)
  printed a (newtype_data d) = printed (shape_inside a) d
  printed a (seq_data ds) = json.array (printed_parts (shapes_of_elements a) 0 ds)
  printed a (map_data ps) = json.array (printed_pairs a ps)
  printed a (struct_data ds) = json.array (printed_fields (shapes_of_fields a) 0 ds)
  printed a (enum_data n p) = json.array (item (name_or_number (variant_name a n) n) (printed_payload (shape_of_payload a n) p))

  -- elements, from a place on
  pub printed_parts : Elements → ℕ → Parts → Items
  printed_parts elements i no_parts = no_items
  printed_parts elements i (part d ds) = item (printed (element_at elements i) d) (printed_parts elements (i + 1) ds)

  -- fields, from a place on
  pub printed_fields : FieldShapes → ℕ → Parts → Items
  printed_fields fields i no_parts = no_items
  printed_fields fields i (part d ds) =
      item (with_name (slice_get fields.names i) (printed (shape_at fields.shapes i) d)) (printed_fields fields (i + 1) ds)

  -- arrays of a key and its value
  pub printed_pairs : Option Shape → DataPairs → Items
  printed_pairs a no_pairs = no_items
  printed_pairs a (pair k v ps) =
      item (json.array (item (printed (shape_of_keys a) k) (item (printed (shape_of_values a) v) no_items))) (printed_pairs a ps)

  -- what comes after a variant's name, if anything
  pub printed_payload : Option PayloadShape → PayloadData → Items
  printed_payload p unit_payload = no_items
  printed_payload p (newtype_payload d) = item (printed (inside_of_payload p) d) no_items
  printed_payload p (tuple_payload ds) = item (json.array (printed_parts (elements_of_payload p) 0 ds)) no_items
  printed_payload p (struct_payload ds) = item (json.array (printed_fields (fields_of_payload p) 0 ds)) no_items

-- a name alone, and a name with what it is about
abbrev pub alone : List ℕ → json.Data
alone name = json.array (item (json.string name) no_items)

abbrev pub about : List ℕ → json.Data → json.Data
about name d = json.array (item (json.string name) (item d no_items))

-- how a fault is printed
abbrev pub printed_fault : Fault → json.Data
printed_fault (fault.InvalidType k) = about (codes "InvalidType") (json.string (kind_name k))
printed_fault (fault.InvalidValue k) = about (codes "InvalidValue") (json.string (kind_name k))
printed_fault (fault.InvalidLength n) = about (codes "InvalidLength") (whole n)
printed_fault (fault.UnknownVariant t) = about (codes "UnknownVariant") (json.string t)
printed_fault (fault.UnknownField t) = about (codes "UnknownField") (json.string t)
printed_fault (fault.MissingField t) = about (codes "MissingField") (json.string t)
printed_fault (fault.DuplicateField t) = about (codes "DuplicateField") (json.string t)
printed_fault (fault.Parse w) = about (codes "Parse") (json.string (word_text w))
printed_fault (fault.ImpossibleDeserialization w) = about (codes "ImpossibleDeserialization") (json.string (word_text w))
printed_fault fault.Custom = alone (codes "Custom")
printed_fault (fault.ImpossibleSerialization w) = about (codes "ImpossibleSerialization") (json.string (word_text w))
printed_fault fault.Utf8 = alone (codes "Utf8")

-- how a step of a path is printed
abbrev pub printed_segment : Segment → json.Data
printed_segment (segment.Seq i) = about (codes "seq") (whole i)
printed_segment (segment.Map key) = about (codes "map") (json.string key)
printed_segment (segment.Enum variant) = about (codes "enum") (json.string variant)
printed_segment segment.Unknown = alone (codes "unknown")

-- how an outcome is printed
abbrev pub answer : Shape → Outcome Data → json.Data
answer a (given d) = json.object (member (codes "value") (printed (Some a) d) no_members)
answer a (refused f path) =
    json.object (member (codes "at") (json.string (path_text path)) (member (codes "fault") (printed_fault f) (member (codes "path") (json.array (each printed_segment path)) no_members)))

-- its compact text, and the byte that ends a line
abbrev pub line : Shape → Outcome Data → List ℕ
line a outcome = compact_text (answer a outcome) ++ 10 ∷ []
