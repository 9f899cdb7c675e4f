-- The words of a document that name shapes and trees, over the JSON values that serde_json states.
use Rattle.std.specs.Prelude.{ℕ, ℤ, ◌^◌, ◌-◌, Bool, List, [], ◌∷◌, map, pos, negsuc, nat_le, if◌then◌else◌, Option, Some, None, option_map, option_and_then, codes}
use Rattle.std.specs.Str.{bytes_eq, chars}
use Rattle.serde_json.specs.Data as json
use Rattle.serde_json.specs.Data.{Data, Items, no_items, item, Members, no_members, member}
use Rattle.data_core.specs.Only.{only}
use Rattle.data_core.specs.Node.{Node, nodes_of, pairs_of}
use Rattle.data_core.specs.Node as node
use Rattle.data_core.specs.Order.{node_order}
use Rattle.sorted_pairs.specs.Pairs.{put_all}
use Rattle.shape.specs.Shape.{ScalarShape, Shape, Shapes, shapes_of, PayloadShape, Payloads, payloads_of}
use Rattle.shape.specs.Upgraded.{upgraded}
use Rattle.shape.specs.Shape as shape
use Rattle.document.specs.declared.version.Version.{Version}
use Rattle.document.specs.declared.version.Version.TheVariants as version

-- the name and the value of an object's only member
abbrev pub sole : Members → Option (List ℕ × Data)
sole (member name d no_members) = Some (name, d)
sole ms = None

abbrev pub name_in : Data → Option (List ℕ)
name_in (json.string name) = Some name
name_in d = None

-- a name and what it names, in an array of the two
abbrev pub named_in : Data → Option (List ℕ × Data)
named_in (json.array (item n (item d no_items))) = option_map (λ name. (name, d)) (name_in n)
named_in d = None

-- the two values in an array of two
abbrev pub two_in : Data → Option (Data × Data)
two_in (json.array (item a (item b no_items))) = Some (a, b)
two_in d = None

-- two that are both there
abbrev pub together : {A B : Type 0} → Option A → Option B → Option (A × B)
together (Some a) (Some b) = Some (a, b)
together a b = None

-- a shape that has no parts
abbrev pub word_scalar : List ℕ → Option ScalarShape
word_scalar word =
    if bytes_eq word (codes "bool") then Some shape.boolean else (
    if bytes_eq word (codes "u8") then Some shape.u8 else (
    if bytes_eq word (codes "u16") then Some shape.u16 else (
    if bytes_eq word (codes "u32") then Some shape.u32 else (
    if bytes_eq word (codes "u64") then Some shape.u64 else (
    if bytes_eq word (codes "i8") then Some shape.i8 else (
    if bytes_eq word (codes "i16") then Some shape.i16 else (
    if bytes_eq word (codes "i32") then Some shape.i32 else (
    if bytes_eq word (codes "i64") then Some shape.i64 else (
    if bytes_eq word (codes "char") then Some shape.character else (
    if bytes_eq word (codes "text") then Some shape.text else (
    if bytes_eq word (codes "bytes") then Some shape.bytes else (
    if bytes_eq word (codes "unit") then Some shape.unit else None))))))))))))

abbrev pub word_shape : List ℕ → Option Shape
word_shape word = option_map shape.scalar (word_scalar word)

-- the name of a unit struct
abbrev pub unit_struct_in : Data → Option Shape
unit_struct_in d = option_map (λ name. shape.scalar (shape.unit_struct name)) (name_in d)

-- a word that documents of the second version alone may have
abbrev pub since_second : {A : Type 0} → Version → Option A → Option A
since_second version.First found = None
since_second version.Second found = found

-- names with shapes
abbrev pub NamedShapes : Type 0
NamedShapes = List (List ℕ × Shape)

abbrev pub names_of : NamedShapes → List (List ℕ)
names_of fields = map (λ f. f.0) fields

abbrev pub row_of_fields : NamedShapes → Shapes
row_of_fields fields = shapes_of (map (λ f. f.1) fields)

-- names with the payloads of variants
abbrev pub NamedPayloads : Type 0
NamedPayloads = List (List ℕ × PayloadShape)

abbrev pub variant_names : NamedPayloads → List (List ℕ)
variant_names variants = map (λ v. v.0) variants

abbrev pub row_of_variants : NamedPayloads → Payloads
row_of_variants variants = payloads_of (map (λ v. v.1) variants)

-- what may stand under the tag of a shape: a shape, a row of them, two of them, and with a name a shape, a
-- row, fields and variants
pub record Under : Type 0 where
  pub inside : Option Shape
  pub row : Option (List Shape)
  pub both : Option (Shape × Shape)
  pub named : Option (List ℕ × Shape)
  pub named_row : Option (List ℕ × List Shape)
  pub named_fields : Option (List ℕ × NamedShapes)
  pub named_variants : Option (List ℕ × NamedPayloads)

-- a shape under a tag, by what stands there
abbrev pub tagged_shape : Version → List ℕ → Data → Under → Option Shape
tagged_shape v tag d under =
    if bytes_eq tag (codes "unit_struct") then unit_struct_in d else (
    if bytes_eq tag (codes "option") then option_map shape.option under.inside else (
    if bytes_eq tag (codes "seq") then option_map shape.seq under.inside else (
    if bytes_eq tag (codes "tuple") then option_map (λ a. shape.tuple shape.whole None (shapes_of a)) under.row else (
    if bytes_eq tag (codes "tuple_struct") then option_map (λ a. shape.tuple shape.whole (Some a.0) (shapes_of a.1)) under.named_row else (
    if bytes_eq tag (codes "map") then option_map (λ a. shape.map a.0 a.1) under.both else (
    if bytes_eq tag (codes "newtype") then option_map (λ a. shape.newtype a.0 a.1) under.named else (
    if bytes_eq tag (codes "struct") then option_map (λ a. shape.struct shape.exact a.0 (names_of a.1) (row_of_fields a.1)) under.named_fields else (
    if bytes_eq tag (codes "strict") then option_map (λ a. shape.struct shape.strict a.0 (names_of a.1) (row_of_fields a.1)) under.named_fields else (
    if bytes_eq tag (codes "loose") then since_second v (option_map (λ a. shape.struct shape.loose a.0 (names_of a.1) (row_of_fields a.1)) under.named_fields) else (
    if bytes_eq tag (codes "enum") then option_map (λ a. shape.enum a.0 (variant_names a.1) (row_of_variants a.1)) under.named_variants else (
    if bytes_eq tag (codes "prefix") then since_second v (option_map (λ a. shape.tuple shape.prefix None (shapes_of a)) under.row) else (
    if bytes_eq tag (codes "prefix_struct") then since_second v (option_map (λ a. shape.tuple shape.prefix (Some a.0) (shapes_of a.1)) under.named_row) else None))))))))))))

-- a payload that has no parts
abbrev pub word_payload : List ℕ → Option PayloadShape
word_payload word = if bytes_eq word (codes "unit") then Some shape.unit_variant else None

-- a payload under a tag, by the shape, the row and the fields that may stand there
abbrev pub tagged_payload : Version → List ℕ → Option Shape → Option (List Shape) → Option NamedShapes → Option PayloadShape
tagged_payload v tag inside row fields =
    if bytes_eq tag (codes "newtype") then option_map shape.newtype_variant inside else (
    if bytes_eq tag (codes "tuple") then option_map (λ a. shape.tuple_variant (shapes_of a)) row else (
    if bytes_eq tag (codes "struct") then option_map (λ a. shape.struct_variant shape.exact (names_of a) (row_of_fields a)) fields else (
    if bytes_eq tag (codes "strict") then option_map (λ a. shape.struct_variant shape.strict (names_of a) (row_of_fields a)) fields else (
    if bytes_eq tag (codes "loose") then since_second v (option_map (λ a. shape.struct_variant shape.loose (names_of a) (row_of_fields a)) fields) else None))))

abbrev mutual
  -- the shape that is named in a document of this version
  pub shape_of : Version → Data → Option Shape
  shape_of v (json.string word) = word_shape word
  shape_of v (json.object (member tag d no_members)) =
      tagged_shape v tag d record { inside = shape_of v d; row = row_in v d; both = shapes_in v d; named = named_shape_in v d; named_row = named_row_in v d; named_fields = named_fields_in v d; named_variants = named_variants_in v d }
  shape_of v d = None

  -- an array of shapes
  pub row_in : Version → Data → Option (List Shape)
  row_in v (json.array ds) = row_from v ds
  row_in v d = None

  pub row_from : Version → Items → Option (List Shape)
  row_from v no_items = Some []
  row_from v (item d ds) = option_and_then (λ a. option_map (λ row. a ∷ row) (row_from v ds)) (shape_of v d)

  -- a name and an array of shapes, in an array of the two
  pub named_row_in : Version → Data → Option (List ℕ × List Shape)
  named_row_in v (json.array (item n (item d no_items))) =
      option_and_then (λ name. option_map (λ row. (name, row)) (row_in v d)) (name_in n)
  named_row_in v d = None

  -- the shapes of keys and of values, in an array of the two
  pub shapes_in : Version → Data → Option (Shape × Shape)
  shapes_in v (json.array (item k (item d no_items))) = together (shape_of v k) (shape_of v d)
  shapes_in v d = None

  -- a name and a shape, in an array of the two
  pub named_shape_in : Version → Data → Option (List ℕ × Shape)
  named_shape_in v (json.array (item n (item d no_items))) = together (name_in n) (shape_of v d)
  named_shape_in v d = None

  -- a name and an array of fields, in an array of the two
  pub named_fields_in : Version → Data → Option (List ℕ × NamedShapes)
  named_fields_in v (json.array (item n (item d no_items))) = together (name_in n) (fields_in v d)
  named_fields_in v d = None

  pub fields_in : Version → Data → Option NamedShapes
  fields_in v (json.array ds) = fields_from v ds
  fields_in v d = None

  pub fields_from : Version → Items → Option NamedShapes
  fields_from v no_items = Some []
  fields_from v (item d ds) = option_and_then (λ f. option_map (λ fields. f ∷ fields) (fields_from v ds)) (named_shape_in v d)

  -- a name and an array of variants, in an array of the two
  pub named_variants_in : Version → Data → Option (List ℕ × NamedPayloads)
  named_variants_in v (json.array (item n (item d no_items))) = together (name_in n) (variants_in v d)
  named_variants_in v d = None

  pub variants_in : Version → Data → Option NamedPayloads
  variants_in v (json.array ds) = variants_from v ds
  variants_in v d = None

  pub variants_from : Version → Items → Option NamedPayloads
  variants_from v no_items = Some []
  variants_from v (item d ds) = option_and_then (λ f. option_map (λ variants. f ∷ variants) (variants_from v ds)) (variant_in v d)

  -- a name and a payload, in an array of the two
  pub variant_in : Version → Data → Option (List ℕ × PayloadShape)
  variant_in v (json.array (item n (item d no_items))) = together (name_in n) (payload_in v d)
  variant_in v d = None

  pub payload_in : Version → Data → Option PayloadShape
  payload_in v (json.string word) = word_payload word
  payload_in v (json.object (member tag d no_members)) = tagged_payload v tag (shape_of v d) (row_in v d) (fields_in v d)
  payload_in v d = None

-- what stands under a tag
abbrev pub under_in : Version → Data → Under
under_in v d = record { inside = shape_of v d; row = row_in v d; both = shapes_in v d; named = named_shape_in v d; named_row = named_row_in v d; named_fields = named_fields_in v d; named_variants = named_variants_in v d }

-- the shape that is meant: in a document of the first version the surplus of tuples is passed over
abbrev pub meant : Version → Shape → Shape
meant version.First a = upgraded a
meant version.Second a = a

-- a number up to the greatest, which serde_json does not hold as a float
abbrev pub unsigned_in : ℕ → Data → Option ℕ
unsigned_in greatest (json.number (json.unsigned n)) = if nat_le n greatest then Some n else None
unsigned_in greatest d = None

-- a number from - greatest - 1 up to the greatest
abbrev pub within : ℕ → ℤ → Bool
within greatest (pos n) = nat_le n greatest
within greatest (negsuc n) = nat_le n greatest

-- a number from - greatest - 1 up to the greatest, which serde_json does not hold as a float
abbrev pub signed_in : ℕ → Data → Option ℤ
signed_in greatest (json.number (json.unsigned n)) = if nat_le n greatest then Some (pos n) else None
signed_in greatest (json.number (json.negative z)) = if within greatest z then Some z else None
signed_in greatest d = None

abbrev pub boolean_in : Data → Option Node
boolean_in (json.boolean b) = Some (node.boolean b)
boolean_in d = None

abbrev pub character_in : Data → Option Node
character_in (json.string t) = option_map node.character (only (chars t))
character_in d = None

abbrev pub string_in : Data → Option Node
string_in (json.string t) = Some (node.string t)
string_in d = None

-- numbers from 0 to 255
abbrev pub bytes_from : Items → Option (List ℕ)
bytes_from no_items = Some []
bytes_from (item d ds) = option_and_then (λ n. option_map (λ ns. n ∷ ns) (bytes_from ds)) (unsigned_in (2 ^ 8 - 1) d)

abbrev pub bytes_in : Data → Option Node
bytes_in (json.array ds) = option_map node.bytes (bytes_from ds)
bytes_in d = None

-- a tree without parts under a tag
abbrev pub scalar_under : List ℕ → Data → Option Node
scalar_under tag d =
    if bytes_eq tag (codes "Bool") then boolean_in d else (
    if bytes_eq tag (codes "U8") then option_map node.u8 (unsigned_in (2 ^ 8 - 1) d) else (
    if bytes_eq tag (codes "U16") then option_map node.u16 (unsigned_in (2 ^ 16 - 1) d) else (
    if bytes_eq tag (codes "U32") then option_map node.u32 (unsigned_in (2 ^ 32 - 1) d) else (
    if bytes_eq tag (codes "U64") then option_map node.u64 (unsigned_in (2 ^ 64 - 1) d) else (
    if bytes_eq tag (codes "I8") then option_map node.i8 (signed_in (2 ^ 7 - 1) d) else (
    if bytes_eq tag (codes "I16") then option_map node.i16 (signed_in (2 ^ 15 - 1) d) else (
    if bytes_eq tag (codes "I32") then option_map node.i32 (signed_in (2 ^ 31 - 1) d) else (
    if bytes_eq tag (codes "I64") then option_map node.i64 (signed_in (2 ^ 63 - 1) d) else (
    if bytes_eq tag (codes "Char") then character_in d else (
    if bytes_eq tag (codes "String") then string_in d else (
    if bytes_eq tag (codes "Bytes") then bytes_in d else None)))))))))))

-- a tree under a tag, by what stands there, and the tree, the trees and the pairs of trees that it is; of
-- equal keys the last one counts
abbrev pub tagged_tree : List ℕ → Data → Option Node → Option (List Node) → Option (List (Node × Node)) → Option Node
tagged_tree tag d inside elements entries =
    if bytes_eq tag (codes "Some") then option_map node.some inside else (
    if bytes_eq tag (codes "Newtype") then option_map node.newtype inside else (
    if bytes_eq tag (codes "Seq") then option_map (λ ts. node.seq (nodes_of ts)) elements else (
    if bytes_eq tag (codes "Map") then option_map (λ ps. node.map (pairs_of (put_all node_order [] ps))) entries else scalar_under tag d)))

-- a tree that has no tag
abbrev pub word_tree : List ℕ → Option Node
word_tree word =
    if bytes_eq word (codes "Unit") then Some node.unit else (
    if bytes_eq word (codes "None") then Some node.none else None)

abbrev mutual
  pub tree_of : Data → Option Node
  tree_of (json.string word) = word_tree word
  tree_of (json.object (member tag d no_members)) = tagged_tree tag d (tree_of d) (trees_in d) (entries_in d)
  tree_of d = None

  -- an array of trees
  pub trees_in : Data → Option (List Node)
  trees_in (json.array ds) = trees_from ds
  trees_in d = None

  pub trees_from : Items → Option (List Node)
  trees_from no_items = Some []
  trees_from (item d ds) = option_and_then (λ t. option_map (λ ts. t ∷ ts) (trees_from ds)) (tree_of d)

  -- an array of pairs
  pub entries_in : Data → Option (List (Node × Node))
  entries_in (json.array ds) = entries_from ds
  entries_in d = None

  pub entries_from : Items → Option (List (Node × Node))
  entries_from no_items = Some []
  entries_from (item d ds) = option_and_then (λ p. option_map (λ ps. p ∷ ps) (entries_from ds)) (entry_in d)

  -- a key and its value, in an array of the two
  pub entry_in : Data → Option (Node × Node)
  entry_in (json.array (item k (item d no_items))) = together (tree_of k) (tree_of d)
  entry_in d = None
