-- What is made of parts in order, up to the first fault: of elements, of rows, of the pairs of a map and of a struct.
-- How a part is read is left open, and so is what a part is.
use Rattle.std.specs.Prelude.{ℕ, suc, ◌+◌, Bool, true, false, List, [], ◌∷◌, length, set, slice_get, Option, Some, None, option_map, if◌then◌else◌, bytes_eq}
use Rattle.data_core.specs.declared.fault.Fault.TheVariants.{Custom, InvalidLength, UnknownField, DuplicateField, MissingField, UnknownVariant}
use Rattle.data_core.specs.declared.path.Segment.{Segment}
use Rattle.data_core.specs.declared.path.Segment.TheVariants.{Seq}
use Rattle.data_core.specs.Outcome.{Outcome, given, refused, under, bare, and_then}
use Rattle.sorted_pairs.specs.Pairs.{put}
use Rattle.shape.specs.Shape.{Shape, scalar, option, seq, tuple, newtype, struct, enum, Shapes, no_shapes, shape, Data, nothing, enum_data, PayloadData}
use Rattle.shape.specs.Shape as spec
use Rattle.shape.specs.DataOrder.{data_order}

-- each element, from a place on
abbrev pub each_part : {P : Type 0} → (P → Outcome Data) → ℕ → List P → Outcome (List Data)
each_part read i [] = given []
each_part read i (p ∷ ps) =
    and_then (under (Seq i) (read p)) (λ d. and_then (each_part read (i + 1) ps) (λ ds. given (d ∷ ds)))

-- elements that are left after a row; a whole row refuses them
abbrev pub left_over : {P : Type 0} → Bool → ℕ → List P → Outcome (List Data)
left_over true i (p ∷ ps) = refused (InvalidLength (i + length (p ∷ ps))) []
left_over whole i ps = given []

-- an element for each reader in order, from a place on
abbrev pub row_of_parts : {P : Type 0} → Bool → List (P → Outcome Data) → ℕ → List P → Outcome (List Data)
row_of_parts whole [] i ps = left_over whole i ps
row_of_parts whole (read ∷ reads) i [] = refused (InvalidLength i) []
row_of_parts whole (read ∷ reads) i (p ∷ ps) =
    and_then (under (Seq i) (read p)) (λ d. and_then (row_of_parts whole reads (i + 1) ps) (λ ds. given (d ∷ ds)))

-- each pair in order, by a step from what was made of those before it
abbrev pub each_pair : {P A : Type 0} → (A → P → P → Outcome A) → A → List (P × P) → Outcome A
each_pair step made [] = given made
each_pair step made (p ∷ ps) = and_then (step made p.0 p.1) (λ next. each_pair step next ps)

-- the outcome of a key: what is refused within it is refused at its pair
abbrev pub at_pair : {A : Type 0} → Segment → Outcome A → Outcome A
at_pair segment o = under segment (bare o)

-- a pair of a map, put into those before it: its key and then its value, both at the segment of the pair
abbrev pub put_pair : {P : Type 0} → (P → Segment) → (P → Outcome Data) → (P → Outcome Data) → List (Data × Data) → P → P → Outcome (List (Data × Data))
put_pair at key value ps k v =
    and_then (at_pair (at k) (key k)) (λ d. and_then (under (at k) (value v)) (λ w. given (put data_order d w ps)))

-- a field: its name, whether it may be missing, and what its value is read as
pub record NamedPart (P : Type 0) : Type 0 where
  pub name : List ℕ
  pub may_be_missing : Bool
  pub read : P → Outcome Data

-- a field of an option may be missing
abbrev pub is_optional : Shape → Bool
is_optional (scalar a) = false
is_optional (option a) = true
is_optional (seq a) = false
is_optional (tuple exactness name row) = false
is_optional (spec.map k v) = false
is_optional (newtype name a) = false
is_optional (struct strictness name names row) = false
is_optional (enum name names held) = false

-- each name with the shape and the reader at its place
abbrev pub named_parts : {P : Type 0} → List (List ℕ) → Shapes → List (P → Outcome Data) → List (NamedPart P)
named_parts (n ∷ names) (shape a rest) (read ∷ reads) =
    record { name = n; may_be_missing = is_optional a; read = read } ∷ named_parts names rest reads
named_parts names row reads = []

-- the place of the first field of a name
abbrev pub part_named : {P : Type 0} → List ℕ → List (NamedPart P) → Option ℕ
part_named t [] = None
part_named t (f ∷ fs) = if bytes_eq f.name t then Some 0 else option_map suc (part_named t fs)

-- a name that is none of the fields' is refused where the struct is strict
abbrev pub place_or_none : Bool → List ℕ → Option ℕ → Outcome (Option ℕ)
place_or_none true t None = refused (UnknownField t) []
place_or_none false t None = given None
place_or_none strict t (Some i) = given (Some i)

-- a value, put into the slot of its field, unless an earlier pair named that field
abbrev pub put_slot : {P : Type 0} → Segment → P → List (Option Data) → ℕ → Option (NamedPart P) → Option (Option Data) → Outcome (List (Option Data))
put_slot segment v slots i (Some f) (Some None) = and_then (under segment (f.read v)) (λ d. given (set slots i (Some d)))
put_slot segment v slots i (Some f) (Some (Some d)) = refused (DuplicateField f.name) []
put_slot segment v slots i f slot = given slots

-- the value of a pair, by the place of its field; one that no field is named for is passed over
abbrev pub put_at : {P : Type 0} → List (NamedPart P) → Segment → P → List (Option Data) → Option ℕ → Outcome (List (Option Data))
put_at fields segment v slots (Some i) = put_slot segment v slots i (slice_get fields i) (slice_get slots i)
put_at fields segment v slots None = given slots

-- a pair of a struct: its key, which names a field or none, and then its value, put into the slot of its field
abbrev pub put_named : {P : Type 0} → (P → Segment) → (P → Outcome (Option ℕ)) → List (NamedPart P) → List (Option Data) → P → P → Outcome (List (Option Data))
put_named at place fields slots k v = and_then (at_pair (at k) (place k)) (put_at fields (at k) v slots)

-- what is in a field's slot, or nothing, where the field may be missing
abbrev pub slot_value : {P : Type 0} → NamedPart P → Option Data → Outcome Data
slot_value f (Some d) = given d
slot_value f None = if f.may_be_missing then given nothing else refused (MissingField f.name) []

-- the value of each field in order, up to the first that is missing
abbrev pub slot_values : {P : Type 0} → List (NamedPart P) → List (Option Data) → Outcome (List Data)
slot_values (f ∷ fields) (slot ∷ slots) = and_then (slot_value f slot) (λ d. and_then (slot_values fields slots) (λ ds. given (d ∷ ds)))
slot_values fields slots = given []

-- no field has its value yet
abbrev pub no_slots : {P : Type 0} → List (NamedPart P) → List (Option Data)
no_slots [] = []
no_slots (f ∷ fields) = None ∷ no_slots fields

-- the value of each field, from all pairs
abbrev pub fields_by_name : {P : Type 0} → (P → Segment) → (P → Outcome (Option ℕ)) → List (NamedPart P) → List (P × P) → Outcome (List Data)
fields_by_name at place fields ps = and_then (each_pair (put_named at place fields) (no_slots fields) ps) (slot_values fields)

-- a variant: its name, and what its payload is read as
pub record NamedPayload (P : Type 0) : Type 0 where
  pub name : List ℕ
  pub read : P → Outcome PayloadData

-- each name with the reader at its place
abbrev pub named_payloads : {P : Type 0} → List (List ℕ) → List (P → Outcome PayloadData) → List (NamedPayload P)
named_payloads (n ∷ names) (read ∷ reads) = record { name = n; read = read } ∷ named_payloads names reads
named_payloads names reads = []

-- the place of the first variant of a name
abbrev pub payload_named : {P : Type 0} → List ℕ → List (NamedPayload P) → Option ℕ
payload_named t [] = None
payload_named t (v ∷ vs) = if bytes_eq v.name t then Some 0 else option_map suc (payload_named t vs)

-- a name that is none of the variants' is refused
abbrev pub variant_or_none : List ℕ → Option ℕ → Outcome ℕ
variant_or_none t None = refused (UnknownVariant t) []
variant_or_none t (Some i) = given i

-- a variant by its number and its payload, at the payload's segment; a number that is none of the variants'
-- never comes
abbrev pub read_variant : {P : Type 0} → Segment → P → ℕ → Option (NamedPayload P) → Outcome Data
read_variant segment p i (Some v) = and_then (under segment (v.read p)) (λ d. given (enum_data i d))
read_variant segment p i None = refused Custom []

abbrev pub read_payload : {P : Type 0} → List (NamedPayload P) → Segment → P → ℕ → Outcome Data
read_payload variants segment p i = read_variant segment p i (slice_get variants i)
