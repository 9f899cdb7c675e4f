-- The fields of a struct, read from entries in any order.
use Rattle.std.specs.Prelude.{ℕ, Bool, true, false, List, [], ◌∷◌, map, length, replicate, set, slice_get, Option, Some, None, if◌then◌else◌, encode_utf8}
use Rattle.data_core.specs.declared.fault.Fault.TheVariants.{UnknownField, DuplicateField, MissingField}
use Rattle.data_core.specs.Ask.{identifier}
use Rattle.data_core.specs.Source.{Source, Offer, Entries, entries, offer_of}
use Rattle.data_core.specs.Source as offer
use Rattle.data_core.specs.Outcome.{Outcome, given, refused, under, and_then, not_taken}
use Rattle.data_core.specs.declared.path.Segment.{Segment}
use Rattle.data_core.specs.Table.{segment_of_key}
use Rattle.data_std.specs.Ignored.{ignored, at_key}
use Rattle.shape.specs.Names.{place_in}
use Rattle.shape.specs.Shape as spec
use Rattle.shape.specs.Shape.{Shape, scalar, option, seq, tuple, newtype, struct, enum, Shapes, no_shapes, shape, Data, nothing}
use Rattle.shape_read.specs.Parts.{each_entry}

-- a field: its name, whether it may be missing, and what its value is read as, over sources or over trees
pub record Field (S : Type 0) : Type 0 where
  pub name : List ℕ
  pub may_be_missing : Bool
  pub read : S → Outcome Data

abbrev pub is_option : Shape → Bool
is_option (scalar a) = false
is_option (option a) = true
is_option (seq a) = false
is_option (tuple exactness name row) = false
is_option (spec.map k v) = false
is_option (newtype name a) = false
is_option (struct strictness name names row) = false
is_option (enum name names held) = false

-- each name with the shape and the reader at its place
abbrev pub fields_of : {S : Type 0} → List (List ℕ) → Shapes → List (S → Outcome Data) → List (Field S)
fields_of (n ∷ names) (shape a rest) (read ∷ reads) =
    record { name = n; may_be_missing = is_option a; read = read } ∷ fields_of names rest reads
fields_of names row reads = []

-- the place of the first field of a name
abbrev pub place_of : {S : Type 0} → List ℕ → List (Field S) → Option ℕ
place_of t fields = place_in t (map (λ f. f.name) fields)

-- a name that is none of the fields' is refused where the reader is strict
abbrev pub known : Bool → List ℕ → Option ℕ → Outcome (Option ℕ)
known true t None = refused (UnknownField t) []
known strict t place = given place

-- the place of the field that a key names: by its text, or by its character's text
abbrev pub place_of_key : {S : Type 0} → Bool → List (Field S) → Offer → Outcome (Option ℕ)
place_of_key strict fields (offer.scalar (offer.text t)) = known strict t (place_of t fields)
place_of_key strict fields (offer.scalar (offer.character c)) = known strict (encode_utf8 c) (place_of (encode_utf8 c) fields)
place_of_key strict fields o = not_taken o

-- a value, put into the slot of its field, unless an earlier entry named that field
abbrev pub put_field : {S : Type 0} → Segment → S → List (Option Data) → ℕ → Option (Field S) → Option (Option Data) → Outcome (List (Option Data))
put_field segment v slots i (Some f) (Some None) = and_then (under segment (f.read v)) (λ d. given (set slots i (Some d)))
put_field segment v slots i (Some f) (Some (Some d)) = refused (DuplicateField f.name) []
put_field segment v slots i f slot = given slots

-- the value of an entry, by the place of its field; one that no field is named for is dropped
abbrev pub put_value : {S : Type 0} → (S → Outcome (Unit {0})) → List (Field S) → Segment → S → List (Option Data) → Option ℕ → Outcome (List (Option Data))
put_value drop fields segment v slots (Some i) = put_field segment v slots i (slice_get fields i) (slice_get slots i)
put_value drop fields segment v slots None = and_then (under segment (drop v)) (λ u. given slots)

-- an entry: its key, and then its value
abbrev pub field_step : Bool → List (Field Source) → List (Option Data) → Source → Source → Outcome (List (Option Data))
field_step strict fields slots k v =
    and_then (at_key (segment_of_key identifier k) (place_of_key strict fields (offer_of k identifier)))
    (put_value ignored fields (segment_of_key identifier k) v slots)

-- what is in a field's slot, or nothing, where the field may be missing
abbrev pub filled : {S : Type 0} → Field S → Option Data → Outcome Data
filled f (Some d) = given d
filled f None = if f.may_be_missing then given nothing else refused (MissingField f.name) []

-- the value of each field in order, up to the first that is missing
abbrev pub completed : {S : Type 0} → List (Field S) → List (Option Data) → Outcome (List Data)
completed (f ∷ fields) (slot ∷ slots) = and_then (filled f slot) (λ d. and_then (completed fields slots) (λ ds. given (d ∷ ds)))
completed fields slots = given []

-- no field has its value yet
abbrev pub no_values : {S : Type 0} → List (Field S) → List (Option Data)
no_values fields = replicate (length fields) None

-- the value of each field, from all entries
abbrev pub named : Bool → List (Field Source) → Entries → Outcome (List Data)
named strict fields es = and_then (each_entry (field_step strict fields) (no_values fields) es) (completed fields)

-- the fields of a struct, by name
abbrev pub entries_of : Bool → List (Field Source) → Offer → Outcome (List Data)
entries_of strict fields (entries checks es) = named strict fields es
entries_of strict fields o = not_taken o
