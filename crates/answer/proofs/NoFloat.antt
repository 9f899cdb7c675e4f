-- An answer holds no float.
use Rattle.std.proofs.Common.{◌≡◌, ◌∙◌, ℕ, ℤ, pos, negsuc, false, List, [], ◌∷◌, ◌++◌, ◌+◌, Option, Some, None, Result, Ok, Err, String, Global, string_bytes, slice_get, refl}
use Rattle.std.specs.Result.{IfOk}
use Rattle.serde_json.specs.Data.{Data}
use Rattle.serde_json.specs.Find.{of_integer}
use Rattle.serde_json.specs.Data as json
use Rattle.serde_json.specs.Written.{has_float, items_have_float, compact_text}
use Rattle.data_core.specs.declared.fault.Fault.{Fault}
use Rattle.data_core.specs.declared.fault.Fault.TheVariants as fault
use Rattle.data_core.specs.declared.path.Segment.{Segment}
use Rattle.data_core.specs.declared.path.Segment.TheVariants as segment
use Rattle.data_core.specs.Outcome.{Outcome, given, refused}
use Rattle.shape.specs.Shape as shape
use Rattle.answer.specs.Line.{whole, each, shape_inside, Elements, element_at, shapes_of_elements, shape_of_keys, shape_of_values, FieldShapes, shape_at, shapes_of_fields, variant_name, shape_of_payload, inside_of_payload, elements_of_payload, fields_of_payload, with_name, name_or_number, printed, printed_parts, printed_fields, printed_pairs, printed_payload, printed_fault, printed_segment, answer, line}

each_has_none : {A : Type 0} (print : A → Data) → ((a : A) → has_float (print a) ≡ false) → (rest : List A) → items_have_float (each print rest) ≡ false
each_has_none print none [] = refl
each_has_none print none (a ∷ rest) = rw (none a, each_has_none print none rest) refl

integer_has_none : (z : ℤ) → has_float (json.number (of_integer z)) ≡ false
integer_has_none (pos n) = refl
integer_has_none (negsuc n) = refl

named_has_none : (name : Option (List ℕ)) (d : Data) → has_float d ≡ false → has_float (with_name name d) ≡ false
named_has_none None d h = h
named_has_none (Some name) d h = rw h refl

name_has_none : (name : Option (List ℕ)) (n : ℕ) → has_float (name_or_number name n) ≡ false
name_has_none None n = refl
name_has_none (Some name) n = refl

mutual
  printed_has_none : (a : Option shape.Shape) (d : shape.Data) → has_float (printed a d) ≡ false
  printed_has_none a (shape.boolean_data b) = refl
  printed_has_none a (shape.unsigned n) = refl
  printed_has_none a (shape.signed z) = integer_has_none z
  printed_has_none a (shape.character_data c) = refl
  printed_has_none a (shape.text_data t) = refl
  printed_has_none a (shape.bytes_data b) = each_has_none whole (λ n. refl) b
  printed_has_none a shape.unit_data = refl
  printed_has_none a shape.nothing = refl
  printed_has_none a (shape.something d) = rw (printed_has_none (shape_inside a) d) refl
  printed_has_none a (shape.newtype_data d) = printed_has_none (shape_inside a) d
  printed_has_none a (shape.seq_data ds) = parts_have_none (shapes_of_elements a) 0 ds
  printed_has_none a (shape.map_data ps) = pairs_have_none a ps
  printed_has_none a (shape.struct_data ds) = fields_have_none (shapes_of_fields a) 0 ds
  printed_has_none a (shape.enum_data n p) = rw (name_has_none (variant_name a n) n, payload_has_none (shape_of_payload a n) p) refl

  parts_have_none : (elements : Elements) (i : ℕ) (ds : shape.Parts) → items_have_float (printed_parts elements i ds) ≡ false
  parts_have_none elements i shape.no_parts = refl
  parts_have_none elements i (shape.part d ds) = rw (printed_has_none (element_at elements i) d, parts_have_none elements (i + 1) ds) refl

  fields_have_none : (fields : FieldShapes) (i : ℕ) (ds : shape.Parts) → items_have_float (printed_fields fields i ds) ≡ false
  fields_have_none fields i shape.no_parts = refl
  fields_have_none fields i (shape.part d ds) =
      let field = shape_at fields.shapes i in
      rw (named_has_none (slice_get fields.names i) (printed field d) (printed_has_none field d), fields_have_none fields (i + 1) ds) refl

  pairs_have_none : (a : Option shape.Shape) (ps : shape.DataPairs) → items_have_float (printed_pairs a ps) ≡ false
  pairs_have_none a shape.no_pairs = refl
  pairs_have_none a (shape.pair k v ps) = rw (printed_has_none (shape_of_keys a) k, printed_has_none (shape_of_values a) v, pairs_have_none a ps) refl

  payload_has_none : (p : Option shape.PayloadShape) (d : shape.PayloadData) → items_have_float (printed_payload p d) ≡ false
  payload_has_none p shape.unit_payload = refl
  payload_has_none p (shape.newtype_payload d) = rw (printed_has_none (inside_of_payload p) d) refl
  payload_has_none p (shape.tuple_payload ds) = rw (parts_have_none (elements_of_payload p) 0 ds) refl
  payload_has_none p (shape.struct_payload ds) = rw (fields_have_none (fields_of_payload p) 0 ds) refl

fault_has_none : (f : Fault) → has_float (printed_fault f) ≡ false
fault_has_none (fault.InvalidType k) = refl
fault_has_none (fault.InvalidValue k) = refl
fault_has_none (fault.InvalidLength n) = refl
fault_has_none (fault.UnknownVariant t) = refl
fault_has_none (fault.UnknownField t) = refl
fault_has_none (fault.MissingField t) = refl
fault_has_none (fault.DuplicateField t) = refl
fault_has_none (fault.Parse w) = refl
fault_has_none (fault.ImpossibleDeserialization w) = refl
fault_has_none fault.Custom = refl
fault_has_none (fault.ImpossibleSerialization w) = refl
fault_has_none fault.Utf8 = refl

segment_has_none : (s : Segment) → has_float (printed_segment s) ≡ false
segment_has_none (segment.Seq i) = refl
segment_has_none (segment.Map key) = refl
segment_has_none (segment.Enum variant) = refl
segment_has_none segment.Unknown = refl

pub answer_has_none : (a : shape.Shape) (o : Outcome shape.Data) → has_float (answer a o) ≡ false
answer_has_none a (given d) = rw (printed_has_none (Some a) d) refl
answer_has_none a (refused f path) = rw (fault_has_none f, each_has_none printed_segment segment_has_none path) refl

-- the line of an outcome, once its text was printed
pub answered : {E : Type 0} (a : shape.Shape) (o : Outcome shape.Data) (v : Data) (r : Result (String Global) E) → v ≡ answer a o
    → IfOk r (λ s. has_float v ≡ false → string_bytes s ≡ compact_text v ++ 10 ∷ []) → IfOk r (λ s. string_bytes s ≡ line a o)
answered a o v (Ok s) seen text = text (rw seen (answer_has_none a o)) ∙ rw seen refl
answered a o v (Err e) seen text = tt
