-- Shapes, and the data that is read by them, as plain data.
use Rattle.std.specs.Prelude.{ℕ, ℤ, ◌+◌, Bool, true, false, List, [], ◌∷◌, Option}

-- what is read that has no parts
pub data ScalarShape : Type 0 where
  boolean : ScalarShape
  u8 : ScalarShape
  u16 : ScalarShape
  u32 : ScalarShape
  u64 : ScalarShape
  i8 : ScalarShape
  i16 : ScalarShape
  i32 : ScalarShape
  i64 : ScalarShape
  character : ScalarShape
  text : ScalarShape
  bytes : ScalarShape
  unit : ScalarShape
  unit_struct : List ℕ → ScalarShape

-- a tuple as a whole, and a prefix, after which more elements may come
pub data Exactness : Type 0 where
  whole : Exactness
  prefix : Exactness

-- a struct beside whose fields nothing may come, one after whose elements more may come, and one between whose
-- fields others may come, too
pub data Strictness : Type 0 where
  exact : Strictness
  strict : Strictness
  loose : Strictness

mutual
  pub data Shape : Type 0 where
    scalar : ScalarShape → Shape
    option : Shape → Shape
    seq : Shape → Shape
    -- elements, each of a shape of its own, and the name of a tuple struct
    tuple : Exactness → Option (List ℕ) → Shapes → Shape
    -- the shape of the keys, and that of the values
    map : Shape → Shape → Shape
    newtype : List ℕ → Shape → Shape
    -- a struct: its name, the names of its fields, and the shapes at their places
    struct : Strictness → List ℕ → List (List ℕ) → Shapes → Shape
    -- an enum: its name, the names of its variants, and what they hold at their places
    enum : List ℕ → List (List ℕ) → Payloads → Shape

  pub data Shapes : Type 0 where
    no_shapes : Shapes
    shape : Shape → Shapes → Shapes

  -- what variants hold
  pub data Payloads : Type 0 where
    no_payloads : Payloads
    payload : PayloadShape → Payloads → Payloads

  -- what a variant holds: nothing, one part, elements, or fields with the shapes at their places
  pub data PayloadShape : Type 0 where
    unit_variant : PayloadShape
    newtype_variant : Shape → PayloadShape
    tuple_variant : Shapes → PayloadShape
    struct_variant : Strictness → List (List ℕ) → Shapes → PayloadShape

-- more elements than there are shapes are refused
abbrev pub is_whole : Exactness → Bool
is_whole whole = true
is_whole prefix = false

-- how a struct takes elements
abbrev pub by_position : Strictness → Exactness
by_position exact = whole
by_position strict = prefix
by_position loose = prefix

-- a name that is none of the fields' is refused
abbrev pub is_strict : Strictness → Bool
is_strict exact = true
is_strict strict = true
is_strict loose = false

abbrev pub shapes_of : List Shape → Shapes
shapes_of [] = no_shapes
shapes_of (a ∷ rest) = shape a (shapes_of rest)

abbrev pub payloads_of : List PayloadShape → Payloads
payloads_of [] = no_payloads
payloads_of (p ∷ rest) = payload p (payloads_of rest)

abbrev pub number_of : Shapes → ℕ
number_of no_shapes = 0
number_of (shape a rest) = number_of rest + 1

mutual
  pub data Data : Type 0 where
    boolean_data : Bool → Data
    unsigned : ℕ → Data
    signed : ℤ → Data
    character_data : ℕ → Data
    text_data : List ℕ → Data
    bytes_data : List ℕ → Data
    unit_data : Data
    nothing : Data
    something : Data → Data
    newtype_data : Data → Data
    -- what was read of elements in order
    seq_data : Parts → Data
    -- what was read of entries, by rising key
    map_data : DataPairs → Data
    -- the values of fields, in the order of the shape
    struct_data : Parts → Data
    -- a variant's number, and what it holds
    enum_data : ℕ → PayloadData → Data

  pub data Parts : Type 0 where
    no_parts : Parts
    part : Data → Parts → Parts

  pub data DataPairs : Type 0 where
    no_pairs : DataPairs
    pair : Data → Data → DataPairs → DataPairs

  pub data PayloadData : Type 0 where
    unit_payload : PayloadData
    newtype_payload : Data → PayloadData
    tuple_payload : Parts → PayloadData
    struct_payload : Parts → PayloadData

abbrev pub parts_of : List Data → Parts
parts_of [] = no_parts
parts_of (d ∷ ds) = part d (parts_of ds)

abbrev pub pairs_of : List (Data × Data) → DataPairs
pairs_of [] = no_pairs
pairs_of (p ∷ ps) = pair p.0 p.1 (pairs_of ps)
