-- The first outcome of a shape over a source: its value, or the first fault with the path to it.
use Rattle.std.specs.Prelude.{ℕ, Bool, true, List, [], ◌∷◌, Option, Some, None}
use Rattle.data_core.specs.Ask as ask
use Rattle.data_core.specs.Ask.{Ask}
use Rattle.data_core.specs.Source.{Source, Offer, elements, entries, offer_of}
use Rattle.data_core.specs.Source as offer
use Rattle.data_core.specs.Outcome.{Outcome, given, under, bare, and_then, not_taken}
use Rattle.data_core.specs.declared.path.Segment.{Segment}
use Rattle.data_core.specs.Table.{segment_of_key}
use Rattle.data_core.specs.Wanted.{Wanted}
use Rattle.data_core.specs.Wanted as wanted
use Rattle.data_core.specs.Choice.{segment_of_variant}
use Rattle.sorted_pairs.specs.Pairs.{put}
use Rattle.data_std.specs.Ignored.{at_key}
use Rattle.shape.specs.DataOrder.{data_order}
use Rattle.shape.specs.Shape.{Shape, scalar, option, seq, tuple, map, newtype, struct, enum, is_whole, by_position, is_strict, number_of, Shapes, no_shapes, shape, Payloads, no_payloads, payload, PayloadShape, unit_variant, newtype_variant, tuple_variant, struct_variant, Data, nothing, something, newtype_data, seq_data, map_data, struct_data, PayloadData, unit_payload, newtype_payload, tuple_payload, struct_payload, parts_of, pairs_of}
use Rattle.shape_read.specs.Scalars.{scalar_asks, scalar_of}
use Rattle.shape_read.specs.Parts.{each, elements_of, each_entry}
use Rattle.shape_read.specs.Fields.{Field, fields_of, entries_of}
use Rattle.shape_read.specs.Variants.{Variant, variants_of, variant_place, with_payload}

-- what a tuple hopes for, and a tuple struct
abbrev pub tuple_asks : Option (List ℕ) → ℕ → Ask
tuple_asks None n = ask.tuple n
tuple_asks (Some name) n = ask.tuple_struct name n

-- what a shape hopes for
abbrev pub asks : Shape → Ask
asks (scalar a) = scalar_asks a
asks (option a) = ask.option
asks (seq a) = ask.seq
asks (tuple exactness name row) = tuple_asks name (number_of row)
asks (map k v) = ask.map
asks (newtype name a) = ask.newtype_struct name
asks (struct strictness name names row) = ask.struct name names
asks (enum name names held) = ask.enum name names

-- nothing for what is absent or a unit, and else something of what the inside is read as
abbrev pub option_of : (Source → Outcome Data) → Offer → Outcome Data
option_of read (offer.scalar offer.none) = given nothing
option_of read (offer.scalar offer.unit) = given nothing
option_of read (offer.some s) = and_then (read s) (λ d. given (something d))
option_of read o = not_taken o

-- what was read of elements, as one datum
abbrev pub elements_data : Outcome (List Data) → Outcome Data
elements_data o = and_then o (λ ds. given (seq_data (parts_of ds)))

-- each element of a sequence
abbrev pub seq_of : (Source → Outcome Data) → Offer → Outcome Data
seq_of read (elements checks ss) = elements_data (each read 0 ss)
seq_of read o = not_taken o

-- a tuple, whole or not
abbrev pub tuple_of : Bool → List (Source → Outcome Data) → Offer → Outcome Data
tuple_of whole reads o = elements_data (elements_of whole reads o)

-- the inside of a newtype struct
abbrev pub newtype_of : (Source → Outcome Data) → Offer → Outcome Data
newtype_of read (offer.newtype_struct s) = and_then (read s) (λ d. given (newtype_data d))
newtype_of read o = not_taken o

abbrev pub both : Data → Data → Outcome (Data × Data)
both k v = given (k, v)

-- a key and then its value, both at the segment of their entry
abbrev pub pair_of : Segment → Outcome Data → Outcome Data → Outcome (Data × Data)
pair_of segment key value = and_then (at_key segment key) (λ k. and_then (under segment value) (λ v. both k v))

-- an entry, put into the pairs of those before it
abbrev pub pair_step : Ask → (Source → Outcome Data) → (Source → Outcome Data) → List (Data × Data) → Source → Source → Outcome (List (Data × Data))
pair_step a key value ps k v = and_then (pair_of (segment_of_key a k) (key k) (value v)) (λ p. given (put data_order p.0 p.1 ps))

-- the entries of a map, by what the reader of its keys asks and by both readers
abbrev pub map_of : Ask → (Source → Outcome Data) → (Source → Outcome Data) → Offer → Outcome Data
map_of a key value (entries checks es) = and_then (each_entry (pair_step a key value) [] es) (λ ps. given (map_data (pairs_of ps)))
map_of a key value o = not_taken o

-- what was read of fields, as one datum
abbrev pub fields_data : Outcome (List Data) → Outcome Data
fields_data o = and_then o (λ ds. given (struct_data (parts_of ds)))

-- a struct, from elements by position or from entries by name
abbrev pub struct_of : Bool → Bool → List (Field Source) → List (Source → Outcome Data) → Offer → Outcome Data
struct_of whole strict fields reads (elements checks ss) = fields_data (elements_of whole reads (elements checks ss))
struct_of whole strict fields reads o = fields_data (entries_of strict fields o)

-- a variant without a payload
abbrev pub unit_payload_of : Offer → Outcome PayloadData
unit_payload_of (offer.scalar offer.unit) = given unit_payload
unit_payload_of o = not_taken o

-- the inside of a newtype variant
abbrev pub newtype_payload_of : (Source → Outcome Data) → Offer → Outcome PayloadData
newtype_payload_of read (offer.newtype_struct s) = and_then (read s) (λ d. given (newtype_payload d))
newtype_payload_of read o = not_taken o

-- a tuple variant, from a whole row
abbrev pub tuple_payload_of : List (Source → Outcome Data) → Offer → Outcome PayloadData
tuple_payload_of reads o = and_then (elements_of true reads o) (λ ds. given (tuple_payload (parts_of ds)))

-- a struct variant, from entries by name
abbrev pub struct_payload_of : Bool → List (Field Source) → Offer → Outcome PayloadData
struct_payload_of strict fields o = and_then (entries_of strict fields o) (λ ds. given (struct_payload (parts_of ds)))

-- a variant: its name, whose refusal is that of the enum itself, and then its payload under the variant's
-- segment
abbrev pub enum_of : List (Variant (Wanted → Offer)) → Offer → Outcome Data
enum_of variants (offer.variant name offered) =
    and_then (bare (variant_place variants (offer_of name ask.identifier))) (with_payload variants (segment_of_variant ask.identifier name) offered)
enum_of variants o = not_taken o

abbrev mutual
  -- what a shape makes of an offer
  pub visited : Shape → Offer → Outcome Data
  visited (scalar a) o = scalar_of a o
  visited (option a) o = option_of (λ s. visited a (offer_of s (asks a))) o
  visited (seq a) o = seq_of (λ s. visited a (offer_of s (asks a))) o
  visited (tuple exactness name row) o = tuple_of (is_whole exactness) (readers row) o
  visited (map k v) o = map_of (asks k) (λ s. visited k (offer_of s (asks k))) (λ s. visited v (offer_of s (asks v))) o
  visited (newtype name a) o = newtype_of (λ s. visited a (offer_of s (asks a))) o
  visited (struct strictness name names row) o =
      struct_of (is_whole (by_position strictness)) (is_strict strictness) (fields_of names row (readers row)) (readers row) o
  visited (enum name names held) o = enum_of (variants_of names (payload_readers held)) o

  -- what a variant's payload is read as, by what is offered for it
  pub visited_payload : PayloadShape → (Wanted → Offer) → Outcome PayloadData
  visited_payload unit_variant offered = unit_payload_of (offered wanted.unit)
  visited_payload (newtype_variant a) offered = newtype_payload_of (λ s. visited a (offer_of s (asks a))) (offered wanted.newtype)
  visited_payload (tuple_variant row) offered = tuple_payload_of (readers row) (offered (wanted.tuple (number_of row)))
  visited_payload (struct_variant strictness names row) offered =
      struct_payload_of (is_strict strictness) (fields_of names row (readers row)) (offered (wanted.struct names))

  pub readers : Shapes → List (Source → Outcome Data)
  readers no_shapes = []
  readers (shape a rest) = (λ s. visited a (offer_of s (asks a))) ∷ readers rest

  pub payload_readers : Payloads → List ((Wanted → Offer) → Outcome PayloadData)
  payload_readers no_payloads = []
  payload_readers (payload p rest) = (λ offered. visited_payload p offered) ∷ payload_readers rest

abbrev pub first : Shape → Source → Outcome Data
first a s = visited a (offer_of s (asks a))
