-- The data of a shape: all that can be read by it.
use Rattle.std.specs.Prelude.{ℕ, zero, suc, ℤ, ◌^◌, ◌-◌, ◌≤◌, ◌≡◌, ◌⊎◌, Bool, true, List, ◌∷◌}
use Rattle.shape.specs.Shape.{ScalarShape, boolean, u8, u16, u32, u64, i8, i16, i32, i64, character, text, bytes, unit, unit_struct, Shape, scalar, option, seq, tuple, map, newtype, struct, enum, Shapes, no_shapes, shape, Payloads, no_payloads, payload, PayloadShape, unit_variant, newtype_variant, tuple_variant, struct_variant, Data, boolean_data, unsigned, signed, character_data, text_data, bytes_data, unit_data, nothing, something, newtype_data, seq_data, map_data, struct_data, enum_data, Parts, no_parts, part, DataPairs, no_pairs, pair, PayloadData, unit_payload, newtype_payload, tuple_payload, struct_payload}
use Rattle.shape_read.specs.Scalars.{within}

abbrev pub IsUnsigned : ℕ → Data → Type 0
IsUnsigned greatest d = (n : ℕ) × (d ≡ unsigned n) × (n ≤ greatest)

-- from - greatest - 1 up to the greatest
abbrev pub IsSigned : ℕ → Data → Type 0
IsSigned greatest d = (z : ℤ) × (d ≡ signed z) × (within greatest z ≡ true)

abbrev pub IsOption : (Data → Type 0) → Data → Type 0
IsOption is d = (d ≡ nothing) ⊎ ((inside : Data) × (d ≡ something inside) × is inside)

-- a sequence, and a struct, by what their parts are
abbrev pub IsSeq : (Parts → Type 0) → Data → Type 0
IsSeq are d = (ds : Parts) × (d ≡ seq_data ds) × are ds

abbrev pub IsStruct : (Parts → Type 0) → Data → Type 0
IsStruct are d = (ds : Parts) × (d ≡ struct_data ds) × are ds

-- each part is so
abbrev pub Every : (Data → Type 0) → Parts → Type 0
Every is no_parts = Unit {0}
Every is (part d ds) = is d × Every is ds

-- a first part that is so, and others that are so
abbrev pub IsPart : (Data → Type 0) → (Parts → Type 0) → Parts → Type 0
IsPart is are no_parts = ⊥
IsPart is are (part d ds) = is d × are ds

-- each key is so, and each value
abbrev pub EveryPair : (Data → Type 0) → (Data → Type 0) → DataPairs → Type 0
EveryPair key value no_pairs = Unit {0}
EveryPair key value (pair k v ps) = key k × value v × EveryPair key value ps

-- a map, by what its keys and its values are
abbrev pub IsMap : (Data → Type 0) → (Data → Type 0) → Data → Type 0
IsMap key value d = (ps : DataPairs) × (d ≡ map_data ps) × EveryPair key value ps

-- the fields of a variant, by what they are
abbrev pub IsStructPayload : (Parts → Type 0) → PayloadData → Type 0
IsStructPayload are p = (ds : Parts) × (p ≡ struct_payload ds) × are ds

abbrev pub IsScalar : ScalarShape → Data → Type 0
IsScalar boolean d = (b : Bool) × (d ≡ boolean_data b)
IsScalar u8 d = IsUnsigned (2 ^ 8 - 1) d
IsScalar u16 d = IsUnsigned (2 ^ 16 - 1) d
IsScalar u32 d = IsUnsigned (2 ^ 32 - 1) d
IsScalar u64 d = IsUnsigned (2 ^ 64 - 1) d
IsScalar i8 d = IsSigned (2 ^ 7 - 1) d
IsScalar i16 d = IsSigned (2 ^ 15 - 1) d
IsScalar i32 d = IsSigned (2 ^ 31 - 1) d
IsScalar i64 d = IsSigned (2 ^ 63 - 1) d
IsScalar character d = (c : ℕ) × (d ≡ character_data c)
IsScalar text d = (t : List ℕ) × (d ≡ text_data t)
IsScalar bytes d = (b : List ℕ) × (d ≡ bytes_data b)
IsScalar unit d = d ≡ unit_data
IsScalar (unit_struct name) d = d ≡ unit_data

abbrev mutual
  pub IsOf : Shape → Data → Type 0
  IsOf (scalar a) d = IsScalar a d
  IsOf (option a) d = IsOption (λ inside. IsOf a inside) d
  IsOf (seq a) d = IsSeq (λ ds. Every (λ e. IsOf a e) ds) d
  IsOf (tuple exactness name row) d = IsSeq (λ ds. AreOf row ds) d
  IsOf (map k v) d = IsMap (λ e. IsOf k e) (λ e. IsOf v e) d
  IsOf (newtype name a) d = (inside : Data) × (d ≡ newtype_data inside) × IsOf a inside
  IsOf (struct strictness name names row) d = IsStruct (λ ds. AreOf row ds ⊎ AreFields names row ds) d
  IsOf (enum name names held) d = (i : ℕ) × (p : PayloadData) × (d ≡ enum_data i p) × IsHeldAt held i p

  -- one part of each shape
  pub AreOf : Shapes → Parts → Type 0
  AreOf no_shapes ds = ds ≡ no_parts
  AreOf (shape a rest) ds = IsPart (λ d. IsOf a d) (λ es. AreOf rest es) ds

  -- one part of each shape that has a name
  pub AreFields : List (List ℕ) → Shapes → Parts → Type 0
  AreFields (n ∷ names) (shape a rest) ds = IsPart (λ d. IsOf a d) (λ es. AreFields names rest es) ds
  AreFields names row ds = ds ≡ no_parts

  -- what the variant of this number holds
  pub IsHeldAt : Payloads → ℕ → PayloadData → Type 0
  IsHeldAt no_payloads i p = ⊥
  IsHeldAt (payload held rest) zero p = IsHeld held p
  IsHeldAt (payload held rest) (suc i) p = IsHeldAt rest i p

  pub IsHeld : PayloadShape → PayloadData → Type 0
  IsHeld unit_variant p = p ≡ unit_payload
  IsHeld (newtype_variant a) p = (inside : Data) × (p ≡ newtype_payload inside) × IsOf a inside
  IsHeld (tuple_variant row) p = (ds : Parts) × (p ≡ tuple_payload ds) × AreOf row ds
  IsHeld (struct_variant strictness names row) p = IsStructPayload (λ ds. AreFields names row ds) p
