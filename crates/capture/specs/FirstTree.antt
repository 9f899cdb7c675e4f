-- The first outcome of a shape over a tree, with no word of sources: its value, or the first fault
-- with the path to it.
use Rattle.std.specs.Prelude.{ℕ, ℤ, ◌^◌, ◌-◌, Bool, true, false, List, [], ◌∷◌, pos, negsuc, nat_le, if◌then◌else◌, Option, Some, None, encode_utf8, codes}
use Rattle.std.specs.Fmt.{decimal, signed_decimal}
use Rattle.std.specs.Str.{chars, is_utf8}
use Rattle.data_core.specs.declared.fault.Fault.TheVariants.{InvalidType, InvalidValue}
use Rattle.data_core.specs.declared.fault.Kind.{Kind}
use Rattle.data_core.specs.declared.fault.Kind.TheVariants as kind
use Rattle.data_core.specs.declared.path.Segment.{Segment}
use Rattle.data_core.specs.declared.path.Segment.TheVariants as segment
use Rattle.data_core.specs.Node.{Node, Nodes, no_nodes, node, Pairs, no_pairs, pair, own_kind}
use Rattle.data_core.specs.Node as node
use Rattle.data_core.specs.Outcome.{Outcome, given, refused, bare, and_then}
use Rattle.shape.specs.Shape.{ScalarShape, boolean, u8, u16, u32, u64, i8, i16, i32, i64, character, text, bytes, unit, unit_struct, Shape, scalar, option, seq, tuple, map, newtype, struct, enum, is_whole, by_position, is_strict, Shapes, no_shapes, shape, Payloads, no_payloads, payload, PayloadShape, unit_variant, newtype_variant, tuple_variant, struct_variant, Data, boolean_data, unsigned, signed, character_data, text_data, bytes_data, unit_data, nothing, something, newtype_data, seq_data, map_data, struct_data, parts_of, pairs_of, PayloadData, unit_payload, newtype_payload, tuple_payload, struct_payload}
use Rattle.capture.specs.Parts.{each_part, row_of_parts, each_pair, put_pair, NamedPart, named_parts, part_named, place_or_none, fields_by_name, NamedPayload, named_payloads, payload_named, variant_or_none, read_payload}

-- the kind that a reader sees: a character's is that of its text
abbrev pub seen : Node → Kind
seen (node.character c) = kind.Str
seen t = own_kind t

abbrev pub refused_as_itself : Node → Outcome Data
refused_as_itself t = refused (InvalidType (seen t)) []

abbrev pub out_of_range : Node → Outcome Data
out_of_range t = refused (InvalidValue (own_kind t)) []

-- the integer that a node holds, if it holds one
abbrev pub integer_in : Node → Option ℤ
integer_in (node.u8 n) = Some (pos n)
integer_in (node.u16 n) = Some (pos n)
integer_in (node.u32 n) = Some (pos n)
integer_in (node.u64 n) = Some (pos n)
integer_in (node.i8 z) = Some z
integer_in (node.i16 z) = Some z
integer_in (node.i32 z) = Some z
integer_in (node.i64 z) = Some z
integer_in t = None

-- an integer from 0 up to the greatest
abbrev pub unsigned_up_to : ℕ → Node → Option ℤ → Outcome Data
unsigned_up_to greatest t (Some (pos n)) = if nat_le n greatest then given (unsigned n) else out_of_range t
unsigned_up_to greatest t (Some (negsuc n)) = out_of_range t
unsigned_up_to greatest t None = refused_as_itself t

-- from - greatest - 1 up to the greatest
abbrev pub is_up_to : ℕ → ℤ → Bool
is_up_to greatest (pos n) = nat_le n greatest
is_up_to greatest (negsuc n) = nat_le n greatest

-- an integer in that range
abbrev pub signed_up_to : ℕ → Node → Option ℤ → Outcome Data
signed_up_to greatest t (Some z) = if is_up_to greatest z then given (signed z) else out_of_range t
signed_up_to greatest t None = refused_as_itself t

-- as a boolean, a character, a text, bytes and a unit

abbrev pub as_boolean : Node → Outcome Data
as_boolean (node.boolean b) = given (boolean_data b)
as_boolean t = refused_as_itself t

-- a text of exactly one character
abbrev pub one_character : List ℕ → Outcome Data
one_character (c ∷ []) = given (character_data c)
one_character cs = refused (InvalidValue kind.Str) []

abbrev pub as_character : Node → Outcome Data
as_character (node.character c) = given (character_data c)
as_character (node.string t) = one_character (chars t)
as_character t = refused_as_itself t

abbrev pub as_text : Node → Outcome Data
as_text (node.string t) = given (text_data t)
as_text (node.character c) = given (text_data (encode_utf8 c))
as_text (node.bytes b) = if is_utf8 b then given (text_data b) else out_of_range (node.bytes b)
as_text t = refused_as_itself t

abbrev pub as_bytes : Node → Outcome Data
as_bytes (node.bytes b) = given (bytes_data b)
as_bytes t = refused_as_itself t

abbrev pub as_unit : Node → Outcome Data
as_unit node.unit = given unit_data
as_unit t = refused_as_itself t

-- as a scalar of this shape
abbrev pub first_scalar : ScalarShape → Node → Outcome Data
first_scalar boolean t = as_boolean t
first_scalar u8 t = unsigned_up_to (2 ^ 8 - 1) t (integer_in t)
first_scalar u16 t = unsigned_up_to (2 ^ 16 - 1) t (integer_in t)
first_scalar u32 t = unsigned_up_to (2 ^ 32 - 1) t (integer_in t)
first_scalar u64 t = unsigned_up_to (2 ^ 64 - 1) t (integer_in t)
first_scalar i8 t = signed_up_to (2 ^ 7 - 1) t (integer_in t)
first_scalar i16 t = signed_up_to (2 ^ 15 - 1) t (integer_in t)
first_scalar i32 t = signed_up_to (2 ^ 31 - 1) t (integer_in t)
first_scalar i64 t = signed_up_to (2 ^ 63 - 1) t (integer_in t)
first_scalar character t = as_character t
first_scalar text t = as_text t
first_scalar bytes t = as_bytes t
first_scalar unit t = as_unit t
first_scalar (unit_struct name) t = as_unit t

-- as an option: nothing and a unit are nothing, and any other node is something
abbrev pub in_option : (Node → Outcome Data) → Node → Outcome Data
in_option read node.none = given nothing
in_option read node.unit = given nothing
in_option read (node.some t) = and_then (read t) (λ d. given (something d))
in_option read t = and_then (read t) (λ d. given (something d))

-- the elements of a sequence, and the pairs of a map, as lists

abbrev pub elements_in : Nodes → List Node
elements_in no_nodes = []
elements_in (node t ts) = t ∷ elements_in ts

abbrev pub pairs_in : Pairs → List (Node × Node)
pairs_in no_pairs = []
pairs_in (pair k v ts) = (k, v) ∷ pairs_in ts

-- what was read of elements, and of fields, as one datum

abbrev pub sequence : Outcome (List Data) → Outcome Data
sequence o = and_then o (λ ds. given (seq_data (parts_of ds)))

abbrev pub structure : Outcome (List Data) → Outcome Data
structure o = and_then o (λ ds. given (struct_data (parts_of ds)))

abbrev pub in_seq : (Nodes → Outcome (List Data)) → Node → Outcome Data
in_seq read (node.seq ts) = sequence (read ts)
in_seq read t = refused_as_itself t

-- the text of a tree that is a key: an integer's digits, true or false, or a text
abbrev pub text_in : Node → Option (List ℕ)
text_in (node.boolean true) = Some (codes "true")
text_in (node.boolean false) = Some (codes "false")
text_in (node.u8 n) = Some (decimal n)
text_in (node.u16 n) = Some (decimal n)
text_in (node.u32 n) = Some (decimal n)
text_in (node.u64 n) = Some (decimal n)
text_in (node.i8 z) = Some (signed_decimal z)
text_in (node.i16 z) = Some (signed_decimal z)
text_in (node.i32 z) = Some (signed_decimal z)
text_in (node.i64 z) = Some (signed_decimal z)
text_in (node.string t) = Some t
text_in t = None

-- what a pair adds to a path, by the text of its key
abbrev pub pair_segment : Option (List ℕ) → Segment
pair_segment (Some t) = segment.Map t
pair_segment None = segment.Unknown

abbrev pub text_at : Node → Segment
text_at k = pair_segment (text_in k)

-- what a variant adds to a path, by the text of its name
abbrev pub enum_segment : Option (List ℕ) → Segment
enum_segment (Some t) = segment.Enum t
enum_segment None = segment.Unknown

-- the same by the shape of its key: an option, a newtype and an enum hide the key's text
abbrev pub key_at : Shape → Node → Segment
key_at (scalar a) k = text_at k
key_at (option a) k = segment.Unknown
key_at (seq a) k = text_at k
key_at (tuple exactness name row) k = text_at k
key_at (map k v) t = text_at t
key_at (newtype name a) k = segment.Unknown
key_at (struct strictness name names row) k = text_at k
key_at (enum name names held) k = segment.Unknown

abbrev pub in_map : (Pairs → Outcome (List (Data × Data))) → Node → Outcome Data
in_map read (node.map ts) = and_then (read ts) (λ ps. given (map_data (pairs_of ps)))
in_map read t = refused_as_itself t

-- what a newtype holds, and any other tree itself
abbrev pub held_in : Node → Node
held_in (node.newtype t) = t
held_in t = t

-- the place of the field that a key names, by its text or its character
abbrev pub field_by_key : Bool → List (NamedPart Node) → Node → Outcome (Option ℕ)
field_by_key strict fields (node.string t) = place_or_none strict t (part_named t fields)
field_by_key strict fields (node.character c) = place_or_none strict (encode_utf8 c) (part_named (encode_utf8 c) fields)
field_by_key strict fields k = refused (InvalidType (seen k)) []

-- the value of each field, from all pairs
abbrev pub named_tree : Bool → List (NamedPart Node) → Pairs → Outcome (List Data)
named_tree strict fields ts = fields_by_name text_at (field_by_key strict fields) fields (pairs_in ts)

-- a struct: a sequence by position, a map by names
abbrev pub in_struct : (Nodes → Outcome (List Data)) → (Pairs → Outcome (List Data)) → Node → Outcome Data
in_struct by_place by_name (node.seq ts) = structure (by_place ts)
in_struct by_place by_name (node.map ts) = structure (by_name ts)
in_struct by_place by_name t = refused_as_itself t

-- the place of the variant that a name names, by its text or its character
abbrev pub variant_by_key : List (NamedPayload (Option Node)) → Node → Outcome ℕ
variant_by_key variants (node.string t) = variant_or_none t (payload_named t variants)
variant_by_key variants (node.character c) = variant_or_none (encode_utf8 c) (payload_named (encode_utf8 c) variants)
variant_by_key variants k = refused (InvalidType (seen k)) []

-- a name, whose refusal is that of the enum itself, and then the payload, if there is one, under the
-- variant's segment
abbrev pub chosen_by : List (NamedPayload (Option Node)) → Node → Option Node → Outcome Data
chosen_by variants k there = and_then (bare (variant_by_key variants k)) (read_payload variants (enum_segment (text_in k)) there)

-- an enum: a map of one pair is a variant and its payload, and a text a variant without one
abbrev pub in_enum : List (NamedPayload (Option Node)) → Node → Outcome Data
in_enum variants (node.string t) = chosen_by variants (node.string t) None
in_enum variants (node.map (pair k v no_pairs)) = chosen_by variants k (Some v)
in_enum variants (node.map ts) = refused (InvalidValue kind.Map) []
in_enum variants t = refused (InvalidType (own_kind t)) []

-- a payload that is not there
abbrev pub not_there : Outcome PayloadData
not_there = refused (InvalidType kind.UnitVariant) []

-- no payload, which a unit stands for, too
abbrev pub unit_payload_in : Option Node → Outcome PayloadData
unit_payload_in None = given unit_payload
unit_payload_in (Some node.unit) = given unit_payload
unit_payload_in (Some t) = refused (InvalidType (seen t)) []

abbrev pub newtype_payload_in : (Node → Outcome Data) → Option Node → Outcome PayloadData
newtype_payload_in read None = not_there
newtype_payload_in read (Some t) = and_then (read t) (λ d. given (newtype_payload d))

-- a tuple's payload is a sequence, and a struct's a map
abbrev pub tuple_payload_in : (Nodes → Outcome (List Data)) → Option Node → Outcome PayloadData
tuple_payload_in read None = not_there
tuple_payload_in read (Some (node.seq ts)) = and_then (read ts) (λ ds. given (tuple_payload (parts_of ds)))
tuple_payload_in read (Some t) = refused (InvalidType (own_kind t)) []

abbrev pub struct_payload_in : (Pairs → Outcome (List Data)) → Option Node → Outcome PayloadData
struct_payload_in read None = not_there
struct_payload_in read (Some (node.map ts)) = and_then (read ts) (λ ds. given (struct_payload (parts_of ds)))
struct_payload_in read (Some t) = refused (InvalidType (own_kind t)) []

abbrev mutual
  pub first_tree : Shape → Node → Outcome Data
  first_tree (scalar a) t = first_scalar a t
  first_tree (option a) t = in_option (first_tree a) t
  first_tree (seq a) t = in_seq (λ ts. each_part (first_tree a) 0 (elements_in ts)) t
  first_tree (tuple exactness name row) t = in_seq (λ ts. row_of_parts (is_whole exactness) (tree_readers row) 0 (elements_in ts)) t
  first_tree (map k v) t = in_map (λ ts. each_pair (put_pair (key_at k) (first_tree k) (first_tree v)) [] (pairs_in ts)) t
  first_tree (newtype name a) t = and_then (first_tree a (held_in t)) (λ d. given (newtype_data d))
  first_tree (struct strictness name names row) t =
      in_struct (λ ts. row_of_parts (is_whole (by_position strictness)) (tree_readers row) 0 (elements_in ts)) (named_tree (is_strict strictness) (named_parts names row (tree_readers row))) t
  first_tree (enum name names held) t = in_enum (named_payloads names (payload_tree_readers held)) t

  pub tree_readers : Shapes → List (Node → Outcome Data)
  tree_readers no_shapes = []
  tree_readers (shape a rest) = first_tree a ∷ tree_readers rest

  -- what becomes of a payload, or of its want
  pub payload_tree : PayloadShape → Option Node → Outcome PayloadData
  payload_tree unit_variant there = unit_payload_in there
  payload_tree (newtype_variant a) there = newtype_payload_in (first_tree a) there
  payload_tree (tuple_variant row) there = tuple_payload_in (λ ts. row_of_parts true (tree_readers row) 0 (elements_in ts)) there
  payload_tree (struct_variant strictness names row) there =
      struct_payload_in (named_tree (is_strict strictness) (named_parts names row (tree_readers row))) there

  pub payload_tree_readers : Payloads → List (Option Node → Outcome PayloadData)
  payload_tree_readers no_payloads = []
  payload_tree_readers (payload p rest) = payload_tree p ∷ payload_tree_readers rest
