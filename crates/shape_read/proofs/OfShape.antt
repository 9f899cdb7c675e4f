-- Whatever is read by a shape is data of that shape.
use Rattle.std.proofs.Common.{◌≡◌, ℕ, zero, suc, ◌+◌, ◌^◌, ◌-◌, ◌⊎◌, ◌∙◌, ℤ, pos, nat_le, Bool, true, false, List, [], ◌∷◌, set, slice_get, encode_utf8, Option, Some, None, if◌then◌else◌, inl, inr, refl, ap}
use Rattle.std.proofs.lemmas.Bool.{leb-true}
use Rattle.std.proofs.lemmas.Option.{same_Some}
use Rattle.std.specs.Str.{chars, is_utf8}
use Rattle.std.specs.Ordering.{match_ordering}
use Rattle.std.specs.declared.cmp.Ordering.{Ordering}
use Rattle.std.specs.declared.cmp.Ordering.TheVariants.{Less, Equal, Greater}
use Rattle.data_core.specs.declared.fault.Fault.{Fault}
use Rattle.data_core.specs.declared.fault.Fault.TheVariants.{InvalidValue, MissingField}
use Rattle.data_core.specs.declared.fault.Kind.TheVariants as kind
use Rattle.data_core.specs.declared.path.Segment.{Segment}
use Rattle.data_core.specs.declared.path.Segment.TheVariants.{Seq}
use Rattle.data_core.specs.Ask.{Ask, identifier}
use Rattle.data_core.specs.Only.{only}
use Rattle.sorted_pairs.specs.Pairs.{put}
use Rattle.data_core.specs.Table.{segment_of_key}
use Rattle.data_core.specs.Choice.{segment_of_variant}
use Rattle.data_core.specs.Wanted.{Wanted}
use Rattle.data_core.specs.Wanted as wanted
use Rattle.data_core.specs.Source.{Source, Sources, end, more, Entries, no_entries, entry, Offer, Scalar, scalar, elements, entries, offer_of}
use Rattle.data_core.specs.Source as offer
use Rattle.data_core.specs.Outcome.{Outcome, given, refused, under, bare, and_then}
use Rattle.data_std.specs.Ignored.{ignored, at_key}
use Rattle.shape.specs.DataOrder.{data_order}
use Rattle.shape.specs.Shape.{ScalarShape, boolean, u8, u16, u32, u64, i8, i16, i32, i64, character, text, bytes, unit, unit_struct, is_whole, by_position, is_strict, Shape, option, seq, tuple, newtype, struct, enum, Shapes, no_shapes, shape, Payloads, no_payloads, payload, PayloadShape, unit_variant, newtype_variant, tuple_variant, struct_variant, Data, boolean_data, unsigned, signed, character_data, text_data, bytes_data, unit_data, nothing, something, newtype_data, seq_data, map_data, struct_data, enum_data, PayloadData, unit_payload, newtype_payload, tuple_payload, struct_payload, parts_of, pairs_of, Parts, number_of}
use Rattle.shape.specs.Shape as spec
use Rattle.shape_read.specs.Fields.{Field, is_option, fields_of, place_of_key, put_field, put_value, field_step, filled, completed, no_values, named, entries_of}
use Rattle.shape_read.specs.Variants.{Variant, variants_of, variant_place, at_variant, with_payload}
use Rattle.shape_read.specs.Scalars.{boolean_of, unsigned_of, signed_of, within, character_from, character_of, text_of, bytes_of, unit_of, scalar_of}
use Rattle.shape_read.specs.Parts.{each, row_of, rest_of_row, elements_of, each_entry}
use Rattle.shape_read.specs.First.{elements_data, fields_data, both, asks, visited, visited_payload, readers, payload_readers, first, option_of, seq_of, tuple_of, newtype_of, pair_of, pair_step, map_of, struct_of, unit_payload_of, newtype_payload_of, tuple_payload_of, struct_payload_of, enum_of}
use Rattle.shape_read.specs.OfShape.{IsUnsigned, IsSigned, IsScalar, IsOption, IsSeq, IsStruct, IsMap, IsStructPayload, Every, EveryPair, IsOf, AreOf, AreFields, IsHeldAt, IsHeld}

-- whatever a reader gives is so
abbrev GivesOnly : {S A : Type 0} → (A → Type 0) → (S → Outcome A) → Type 0
GivesOnly {S} {A} is read = (s : S) (a : A) → read s ≡ given a → is a

-- a step that was gone on from gave a value
through : {A B : Type 0} (o : Outcome A) (next : A → Outcome B) (b : B) → and_then o next ≡ given b → (a : A) × (o ≡ given a) × (next a ≡ given b)
through (given a) next b e = (a, refl, e)
through (refused f path) next b e = absurd (cc)

from_under : {A : Type 0} (segment : Segment) (o : Outcome A) (a : A) → under segment o ≡ given a → o ≡ given a
from_under segment (given b) a e = e
from_under segment (refused f path) a e = absurd (cc)

from_key : {A : Type 0} (segment : Segment) (o : Outcome A) (a : A) → at_key segment o ≡ given a → o ≡ given a
from_key segment (given b) a e = e
from_key segment (refused f path) a e = absurd (cc)

from_bare : {A : Type 0} (o : Outcome A) (a : A) → bare o ≡ given a → o ≡ given a
from_bare (given b) a e = e
from_bare (refused f path) a e = absurd (cc)

the_value : {A : Type 0} (a b : A) → given a ≡ given b → b ≡ a
the_value a b e = cc

-- a value that is given where a test holds
where_true : {A : Type 0} (test : Bool) (a : A) (f : Fault) (b : A) → (if test then given a else refused f []) ≡ given b → (test ≡ true) × (b ≡ a)
where_true true a f b e = (refl, the_value a b e)
where_true false a f b e = absurd (cc)

-- whatever each step keeps, all entries do
entries_keep : {A : Type 0} (is : A → Type 0) (step : A → Source → Source → Outcome A) → ((before after : A) (k v : Source) → is before → step before k v ≡ given after → is after)
    → (es : Entries) (before after : A) → is before → each_entry step before es ≡ given after → is after
entries_keep is step keeps no_entries before after holds e = rw (the_value before after e) holds
entries_keep is step keeps (entry k v es) before after holds e =
    let one = through (step before k v) (λ next. each_entry step next es) after e in
    entries_keep is step keeps es one.0 after (keeps before one.0 k v holds one.1) one.2

-- scalars

boolean_is : (o : Offer) (d : Data) → boolean_of o ≡ given d → (b : Bool) × (d ≡ boolean_data b)
boolean_is (scalar (offer.boolean b)) d e = (b, the_value (boolean_data b) d e)
boolean_is o d e = absurd (cc)

up_to : (greatest n : ℕ) (f : Fault) (d : Data) → (if nat_le n greatest then given (unsigned n) else refused f []) ≡ given d → IsUnsigned greatest d
up_to greatest n f d e = let w = where_true (nat_le n greatest) (unsigned n) f d e in (n, w.1, leb-true n greatest w.0)

unsigned_is : (greatest : ℕ) (o : Offer) (d : Data) → unsigned_of greatest o ≡ given d → IsUnsigned greatest d
unsigned_is greatest (scalar (offer.unsigned width n)) d e = up_to greatest n (InvalidValue kind.Unsigned) d e
unsigned_is greatest (scalar (offer.signed width (pos n))) d e = up_to greatest n (InvalidValue kind.Signed) d e
unsigned_is greatest o d e = absurd (cc)

in_range : (greatest : ℕ) (z : ℤ) (f : Fault) (d : Data) → (if within greatest z then given (signed z) else refused f []) ≡ given d → IsSigned greatest d
in_range greatest z f d e = let w = where_true (within greatest z) (signed z) f d e in (z, w.1, w.0)

signed_is : (greatest : ℕ) (o : Offer) (d : Data) → signed_of greatest o ≡ given d → IsSigned greatest d
signed_is greatest (scalar (offer.unsigned width n)) d e = in_range greatest (pos n) (InvalidValue kind.Unsigned) d e
signed_is greatest (scalar (offer.signed width z)) d e = in_range greatest z (InvalidValue kind.Signed) d e
signed_is greatest o d e = absurd (cc)

character_from_is : (c : Option ℕ) (d : Data) → character_from c ≡ given d → (c : ℕ) × (d ≡ character_data c)
character_from_is (Some c) d e = (c, the_value (character_data c) d e)
character_from_is None d e = absurd (cc)

character_is : (o : Offer) (d : Data) → character_of o ≡ given d → (c : ℕ) × (d ≡ character_data c)
character_is (scalar (offer.character c)) d e = (c, the_value (character_data c) d e)
character_is (scalar (offer.text t)) d e = character_from_is (only (chars t)) d e
character_is o d e = absurd (cc)

text_is : (o : Offer) (d : Data) → text_of o ≡ given d → (t : List ℕ) × (d ≡ text_data t)
text_is (scalar (offer.text t)) d e = (t, the_value (text_data t) d e)
text_is (scalar (offer.character c)) d e = (encode_utf8 c, the_value (text_data (encode_utf8 c)) d e)
text_is (scalar (offer.bytes b)) d e = (b, (where_true (is_utf8 b) (text_data b) (InvalidValue kind.Bytes) d e).1)
text_is o d e = absurd (cc)

bytes_is : (o : Offer) (d : Data) → bytes_of o ≡ given d → (b : List ℕ) × (d ≡ bytes_data b)
bytes_is (scalar (offer.bytes b)) d e = (b, the_value (bytes_data b) d e)
bytes_is o d e = absurd (cc)

unit_is : (o : Offer) (d : Data) → unit_of o ≡ given d → d ≡ unit_data
unit_is (scalar offer.unit) d e = the_value unit_data d e
unit_is o d e = absurd (cc)

-- one part, and elements and entries of one shape

option_is : (is : Data → Type 0) (read : Source → Outcome Data) (o : Offer) (d : Data) → GivesOnly is read → option_of read o ≡ given d → IsOption is d
option_is is read (scalar offer.none) d gives e = inl (the_value nothing d e)
option_is is read (scalar offer.unit) d gives e = inl (the_value nothing d e)
option_is is read (offer.some s) d gives e =
    let inside = through (read s) (λ a. given (something a)) d e in
    inr (inside.0, the_value (something inside.0) d inside.2, gives s inside.0 inside.1)
option_is is read o d gives e = absurd (cc)

newtype_is : (is : Data → Type 0) (read : Source → Outcome Data) (o : Offer) (d : Data) → GivesOnly is read → newtype_of read o ≡ given d → (inside : Data) × (d ≡ newtype_data inside) × is inside
newtype_is is read (offer.newtype_struct s) d gives e =
    let inside = through (read s) (λ a. given (newtype_data a)) d e in
    (inside.0, the_value (newtype_data inside.0) d inside.2, gives s inside.0 inside.1)
newtype_is is read o d gives e = absurd (cc)

each_is : (is : Data → Type 0) (read : Source → Outcome Data) (i : ℕ) (ss : Sources) (ds : List Data) → GivesOnly is read → each read i ss ≡ given ds → Every is (parts_of ds)
each_is is read i end ds gives e = rw (the_value [] ds e) tt
each_is is read i (more s ss) ds gives e =
    let one = through (under (Seq i) (read s)) (λ d. and_then (each read (i + 1) ss) (λ rest. given (d ∷ rest))) ds e in
    let others = through (each read (i + 1) ss) (λ rest. given (one.0 ∷ rest)) ds one.2 in
    rw (the_value (one.0 ∷ others.0) ds others.2)
    (gives s one.0 (from_under (Seq i) (read s) one.0 one.1), each_is is read (i + 1) ss others.0 gives others.1)

-- what was read of elements, as one datum
seq_data_is : (are : Parts → Type 0) (o : Outcome (List Data)) (d : Data) → ((ds : List Data) → o ≡ given ds → are (parts_of ds)) → elements_data o ≡ given d → IsSeq are d
seq_data_is are o d all e =
    let read = through o (λ ds. given (seq_data (parts_of ds))) d e in
    (parts_of read.0, the_value (seq_data (parts_of read.0)) d read.2, all read.0 read.1)

seq_is : (is : Data → Type 0) (read : Source → Outcome Data) (o : Offer) (d : Data) → GivesOnly is read → seq_of read o ≡ given d → IsSeq (λ ds. Every is ds) d
seq_is is read (elements checks ss) d gives e = seq_data_is (λ ds. Every is ds) (each read 0 ss) d (λ ds. each_is is read 0 ss ds gives) e
seq_is is read o d gives e = absurd (cc)

module _ (key value : Data → Type 0) where
  abbrev ArePairs : List (Data × Data) → Type 0
  ArePairs ps = EveryPair key value (pairs_of ps)

  put_step : (o : Ordering) (k v : Data) (p : Data × Data) (ps rest : List (Data × Data)) → key k → value v → ArePairs (p ∷ ps) → ArePairs rest
      → ArePairs (match_ordering o ((k, v) ∷ p ∷ ps) ((p.0, v) ∷ ps) (p ∷ rest))
  put_step Less k v p ps rest is_key is_value are others = (is_key, is_value, are)
  put_step Equal k v p ps rest is_key is_value are others = (are.0, is_value, are.2)
  put_step Greater k v p ps rest is_key is_value are others = (are.0, are.1, others)

  put_is : (k v : Data) (ps : List (Data × Data)) → key k → value v → ArePairs ps → ArePairs (put data_order k v ps)
  put_is k v [] is_key is_value are = (is_key, is_value, tt)
  put_is k v (p ∷ ps) is_key is_value are =
      put_step (data_order k p.0) k v p ps (put data_order k v ps) is_key is_value are (put_is k v ps is_key is_value are.2)

  module _ (a : Ask) (read_key read_value : Source → Outcome Data) (keys : GivesOnly key read_key) (values : GivesOnly value read_value) where
    pair_is : (segment : Segment) (k v : Source) (p : Data × Data) → pair_of segment (read_key k) (read_value v) ≡ given p → key p.0 × value p.1
    pair_is segment k v p e =
        let one = through (at_key segment (read_key k)) (λ d. and_then (under segment (read_value v)) (λ w. both d w)) p e in
        let other = through (under segment (read_value v)) (λ w. both one.0 w) p one.2 in
        rw (the_value (one.0, other.0) p other.2)
        (keys k one.0 (from_key segment (read_key k) one.0 one.1), values v other.0 (from_under segment (read_value v) other.0 other.1))

    pair_keeps : (before after : List (Data × Data)) (k v : Source) → ArePairs before → pair_step a read_key read_value before k v ≡ given after → ArePairs after
    pair_keeps before after k v are e =
        let one = through (pair_of (segment_of_key a k) (read_key k) (read_value v)) (λ p. given (put data_order p.0 p.1 before)) after e in
        let is = pair_is (segment_of_key a k) k v one.0 one.1 in
        rw (the_value (put data_order one.0.0 one.0.1 before) after one.2) (put_is one.0.0 one.0.1 before is.0 is.1 are)

    map_is : (o : Offer) (d : Data) → map_of a read_key read_value o ≡ given d → IsMap key value d
    map_is (entries checks es) d e =
        let step = pair_step a read_key read_value in
        let read = through (each_entry step [] es) (λ ps. given (map_data (pairs_of ps))) d e in
        (pairs_of read.0, the_value (map_data (pairs_of read.0)) d read.2, entries_keep ArePairs step pair_keeps es [] read.0 tt read.1)
    map_is o d e = absurd (cc)

-- a part of each shape of a row

abbrev RowReads : Shapes → Type 0
RowReads no_shapes = Unit {0}
RowReads (shape a rest) = GivesOnly (λ d. IsOf a d) (first a) × RowReads rest

rows_are : (after : ℕ → Sources → Outcome (Unit {0})) (row : Shapes) (i : ℕ) (ss : Sources) (ds : List Data) → RowReads row → row_of after (readers row) i ss ≡ given ds → AreOf row (parts_of ds)
rows_are after no_shapes i ss ds reads e =
    let ended = through (after i ss) (λ u. given []) ds e in
    rw (the_value [] ds ended.2) refl
rows_are after (shape a rest) i end ds reads e = absurd (cc)
rows_are after (shape a rest) i (more s ss) ds reads e =
    let one = through (under (Seq i) (first a s)) (λ d. and_then (row_of after (readers rest) (i + 1) ss) (λ others. given (d ∷ others))) ds e in
    let others = through (row_of after (readers rest) (i + 1) ss) (λ others. given (one.0 ∷ others)) ds one.2 in
    rw (the_value (one.0 ∷ others.0) ds others.2)
    (reads.0 s one.0 (from_under (Seq i) (first a s) one.0 one.1), rows_are after rest (i + 1) ss others.0 reads.1 others.1)

elements_are : (whole : Bool) (row : Shapes) (o : Offer) (ds : List Data) → RowReads row → elements_of whole (readers row) o ≡ given ds → AreOf row (parts_of ds)
elements_are whole row (elements checks ss) ds reads e = rows_are (rest_of_row whole checks) row 0 ss ds reads e
elements_are whole row o ds reads e = absurd (cc)

-- a part of each shape that has a name

abbrev fields_in : List (List ℕ) → Shapes → List (Field Source)
fields_in names row = fields_of names row (readers row)

-- what is in the slots so far
abbrev IsSlot : (Data → Type 0) → Option Data → Type 0
IsSlot is None = Unit {0}
IsSlot is (Some d) = is d

abbrev AreSlots : List (List ℕ) → Shapes → List (Option Data) → Type 0
AreSlots (n ∷ names) (shape a rest) (slot ∷ slots) = IsSlot (λ d. IsOf a d) slot × AreSlots names rest slots
AreSlots (n ∷ names) (shape a rest) [] = ⊥
AreSlots names row slots = Unit {0}

no_values_are : (names : List (List ℕ)) (row : Shapes) → AreSlots names row (no_values (fields_in names row))
no_values_are (n ∷ names) (shape a rest) = (tt, no_values_are names rest)
no_values_are (n ∷ names) no_shapes = tt
no_values_are [] row = tt

set_slot : (names : List (List ℕ)) (row : Shapes) (slots : List (Option Data)) (i : ℕ) (f : Field Source) (s : Source) (d : Data) → RowReads row
    → slice_get (fields_in names row) i ≡ Some f → f.read s ≡ given d → AreSlots names row slots → AreSlots names row (set slots i (Some d))
set_slot [] row slots i f s d reads at e are = tt
set_slot (n ∷ names) no_shapes slots i f s d reads at e are = tt
set_slot (n ∷ names) (shape a rest) [] i f s d reads at e are = absurd are
set_slot (n ∷ names) (shape a rest) (slot ∷ slots) zero f s d reads at e are =
    let same = same_Some (record { name = n; may_be_missing = is_option a; read = first a }) f at in
    (reads.0 s d (ap (λ g. g.read s) same ∙ e), are.1)
set_slot (n ∷ names) (shape a rest) (slot ∷ slots) (suc i) f s d reads at e are = (are.0, set_slot names rest slots i f s d reads.1 at e are.1)

module _ (names : List (List ℕ)) (row : Shapes) (reads : RowReads row) where
  put_keeps : (segment : Segment) (v : Source) (slots after : List (Option Data)) (i : ℕ) (f : Option (Field Source)) (slot : Option (Option Data))
      → slice_get (fields_in names row) i ≡ f → AreSlots names row slots → put_field segment v slots i f slot ≡ given after → AreSlots names row after
  put_keeps segment v slots after i (Some f) (Some None) at are e =
      let one = through (under segment (f.read v)) (λ d. given (set slots i (Some d))) after e in
      rw (the_value (set slots i (Some one.0)) after one.2)
      (set_slot names row slots i f v one.0 reads at (from_under segment (f.read v) one.0 one.1) are)
  put_keeps segment v slots after i (Some f) (Some (Some d)) at are e = absurd (cc)
  put_keeps segment v slots after i (Some f) None at are e = rw (the_value slots after e) are
  put_keeps segment v slots after i None slot at are e = rw (the_value slots after e) are

  value_keeps : (segment : Segment) (v : Source) (slots after : List (Option Data)) (place : Option ℕ)
      → AreSlots names row slots → put_value ignored (fields_in names row) segment v slots place ≡ given after → AreSlots names row after
  value_keeps segment v slots after (Some i) are e =
      put_keeps segment v slots after i (slice_get (fields_in names row) i) (slice_get slots i) refl are e
  value_keeps segment v slots after None are e =
      let dropped = through (under segment (ignored v)) (λ u. given slots) after e in
      rw (the_value slots after dropped.2) are

  field_keeps : (strict : Bool) (slots after : List (Option Data)) (k v : Source) → AreSlots names row slots → field_step strict (fields_in names row) slots k v ≡ given after → AreSlots names row after
  field_keeps strict slots after k v are e =
      let fields = fields_in names row in
      let segment = segment_of_key identifier k in
      let key = through (at_key segment (place_of_key strict fields (offer_of k identifier))) (put_value ignored fields segment v slots) after e in
      value_keeps segment v slots after key.0 are key.2

missing_is : (a : Shape) (f : Fault) (d : Data) → (if is_option a then given nothing else refused f []) ≡ given d → IsOf a d
missing_is (option a) f d e = inl (the_value nothing d e)
missing_is a f d e = absurd (cc)

filled_is : (n : List ℕ) (a : Shape) (slot : Option Data) (d : Data) → IsSlot (λ d. IsOf a d) slot
    → filled (record { name = n; may_be_missing = is_option a; read = first a }) slot ≡ given d → IsOf a d
filled_is n a (Some b) d is e = rw (the_value b d e) is
filled_is n a None d is e = missing_is a (MissingField n) d e

completed_are : (names : List (List ℕ)) (row : Shapes) (slots : List (Option Data)) (ds : List Data) → AreSlots names row slots → completed (fields_in names row) slots ≡ given ds → AreFields names row (parts_of ds)
completed_are [] row slots ds are e = rw (the_value [] ds e) refl
completed_are (n ∷ names) no_shapes slots ds are e = rw (the_value [] ds e) refl
completed_are (n ∷ names) (shape a rest) [] ds are e = absurd are
completed_are (n ∷ names) (shape a rest) (slot ∷ slots) ds are e =
    let f : Field Source = record { name = n; may_be_missing = is_option a; read = first a } in
    let one = through (filled f slot) (λ d. and_then (completed (fields_in names rest) slots) (λ others. given (d ∷ others))) ds e in
    let others = through (completed (fields_in names rest) slots) (λ others. given (one.0 ∷ others)) ds one.2 in
    rw (the_value (one.0 ∷ others.0) ds others.2) (filled_is n a slot one.0 are.0 one.1, completed_are names rest slots others.0 are.1 others.1)

named_are : (strict : Bool) (names : List (List ℕ)) (row : Shapes) (o : Offer) (ds : List Data) → RowReads row → entries_of strict (fields_in names row) o ≡ given ds → AreFields names row (parts_of ds)
named_are strict names row (entries checks es) ds reads e =
    let fields = fields_in names row in
    let step = field_step strict fields in
    let slots = through (each_entry step (no_values fields) es) (completed fields) ds e in
    completed_are names row slots.0 ds (entries_keep (AreSlots names row) step (field_keeps names row reads strict) es (no_values fields) slots.0 (no_values_are names row) slots.1) slots.2
named_are strict names row o ds reads e = absurd (cc)

struct_data_is : (are : Parts → Type 0) (o : Outcome (List Data)) (d : Data) → ((ds : List Data) → o ≡ given ds → are (parts_of ds)) → fields_data o ≡ given d → IsStruct are d
struct_data_is are o d all e =
    let read = through o (λ ds. given (struct_data (parts_of ds))) d e in
    (parts_of read.0, the_value (struct_data (parts_of read.0)) d read.2, all read.0 read.1)

struct_is : (whole strict : Bool) (names : List (List ℕ)) (row : Shapes) (o : Offer) (d : Data) → RowReads row
    → struct_of whole strict (fields_in names row) (readers row) o ≡ given d → IsStruct (λ ds. AreOf row ds ⊎ AreFields names row ds) d
struct_is whole strict names row (elements checks ss) d reads e =
    let o = elements checks ss in
    struct_data_is (λ ds. AreOf row ds ⊎ AreFields names row ds) (elements_of whole (readers row) o) d (λ ds given_all. inl (elements_are whole row o ds reads given_all)) e
struct_is whole strict names row (entries checks es) d reads e =
    let o = entries checks es in
    struct_data_is (λ ds. AreOf row ds ⊎ AreFields names row ds) (entries_of strict (fields_in names row) o) d (λ ds given_all. inr (named_are strict names row o ds reads given_all)) e
struct_is whole strict names row o d reads e = absurd (cc)

-- payloads

unit_payload_is : (o : Offer) (p : PayloadData) → unit_payload_of o ≡ given p → p ≡ unit_payload
unit_payload_is (scalar offer.unit) p e = the_value unit_payload p e
unit_payload_is o p e = absurd (cc)

newtype_payload_is : (is : Data → Type 0) (read : Source → Outcome Data) (o : Offer) (p : PayloadData) → GivesOnly is read
    → newtype_payload_of read o ≡ given p → (inside : Data) × (p ≡ newtype_payload inside) × is inside
newtype_payload_is is read (offer.newtype_struct s) p gives e =
    let inside = through (read s) (λ d. given (newtype_payload d)) p e in
    (inside.0, the_value (newtype_payload inside.0) p inside.2, gives s inside.0 inside.1)
newtype_payload_is is read o p gives e = absurd (cc)

tuple_payload_is : (row : Shapes) (o : Offer) (p : PayloadData) → RowReads row → tuple_payload_of (readers row) o ≡ given p → IsHeld (tuple_variant row) p
tuple_payload_is row o p reads e =
    let read = through (elements_of true (readers row) o) (λ ds. given (tuple_payload (parts_of ds))) p e in
    (parts_of read.0, the_value (tuple_payload (parts_of read.0)) p read.2, elements_are true row o read.0 reads read.1)

struct_payload_is : (strict : Bool) (names : List (List ℕ)) (row : Shapes) (o : Offer) (p : PayloadData) → RowReads row
    → struct_payload_of strict (fields_in names row) o ≡ given p → IsStructPayload (λ ds. AreFields names row ds) p
struct_payload_is strict names row o p reads e =
    let read = through (entries_of strict (fields_in names row) o) (λ ds. given (struct_payload (parts_of ds))) p e in
    (parts_of read.0, the_value (struct_payload (parts_of read.0)) p read.2, named_are strict names row o read.0 reads read.1)

-- variants

abbrev PayloadsRead : Payloads → Type 0
PayloadsRead no_payloads = Unit {0}
PayloadsRead (payload held rest) = GivesOnly (λ p. IsHeld held p) (visited_payload held) × PayloadsRead rest

variant_is : (names : List (List ℕ)) (held : Payloads) (i : ℕ) (v : Variant (Wanted → Offer)) → PayloadsRead held
    → slice_get (variants_of names (payload_readers held)) i ≡ Some v → GivesOnly (λ p. IsHeldAt held i p) (λ offered. v.read offered)
variant_is [] held i v reads at offered p e = absurd (cc)
variant_is (n ∷ names) no_payloads i v reads at offered p e = absurd (cc)
variant_is (n ∷ names) (payload held rest) zero v reads at offered p e =
    let same = same_Some (record { name = n; read = visited_payload held }) v at in
    reads.0 offered p (ap (λ w. w.read offered) same ∙ e)
variant_is (n ∷ names) (payload held rest) (suc i) v reads at offered p e = variant_is names rest i v reads.1 at offered p e

chosen_is : (names : List (List ℕ)) (held : Payloads) (segment : Segment) (offered : Wanted → Offer) (i : ℕ) (v : Option (Variant (Wanted → Offer))) (d : Data) → PayloadsRead held
    → slice_get (variants_of names (payload_readers held)) i ≡ v → at_variant segment offered i v ≡ given d → (i : ℕ) × (p : PayloadData) × (d ≡ enum_data i p) × IsHeldAt held i p
chosen_is names held segment offered i (Some v) d reads at e =
    let read = through (under segment (v.read offered)) (λ p. given (enum_data i p)) d e in
    (i, read.0, the_value (enum_data i read.0) d read.2, variant_is names held i v reads at offered read.0 (from_under segment (v.read offered) read.0 read.1))
chosen_is names held segment offered i None d reads at e = absurd (cc)

enum_is : (names : List (List ℕ)) (held : Payloads) (o : Offer) (d : Data) → PayloadsRead held → enum_of (variants_of names (payload_readers held)) o ≡ given d
    → (i : ℕ) × (p : PayloadData) × (d ≡ enum_data i p) × IsHeldAt held i p
enum_is names held (offer.variant name offered) d reads e =
    let variants = variants_of names (payload_readers held) in
    let segment = segment_of_variant identifier name in
    let place = through (bare (variant_place variants (offer_of name identifier))) (with_payload variants segment offered) d e in
    chosen_is names held segment offered place.0 (slice_get variants place.0) d reads refl place.2
enum_is names held o d reads e = absurd (cc)

scalar_is : (a : ScalarShape) (o : Offer) (d : Data) → scalar_of a o ≡ given d → IsScalar a d
scalar_is boolean o d e = boolean_is o d e
scalar_is u8 o d e = unsigned_is (2 ^ 8 - 1) o d e
scalar_is u16 o d e = unsigned_is (2 ^ 16 - 1) o d e
scalar_is u32 o d e = unsigned_is (2 ^ 32 - 1) o d e
scalar_is u64 o d e = unsigned_is (2 ^ 64 - 1) o d e
scalar_is i8 o d e = signed_is (2 ^ 7 - 1) o d e
scalar_is i16 o d e = signed_is (2 ^ 15 - 1) o d e
scalar_is i32 o d e = signed_is (2 ^ 31 - 1) o d e
scalar_is i64 o d e = signed_is (2 ^ 63 - 1) o d e
scalar_is character o d e = character_is o d e
scalar_is text o d e = text_is o d e
scalar_is bytes o d e = bytes_is o d e
scalar_is unit o d e = unit_is o d e
scalar_is (unit_struct name) o d e = unit_is o d e

mutual
  pub visited_is : (a : Shape) (o : Offer) (d : Data) → visited a o ≡ given d → IsOf a d
  visited_is (spec.scalar a) o d e = scalar_is a o d e
  visited_is (option a) o d e = option_is (λ b. IsOf a b) (first a) o d (λ s. visited_is a (offer_of s (asks a))) e
  visited_is (seq a) o d e = seq_is (λ b. IsOf a b) (first a) o d (λ s. visited_is a (offer_of s (asks a))) e
  visited_is (tuple exactness name row) o d e =
      seq_data_is (λ ds. AreOf row ds) (elements_of (is_whole exactness) (readers row) o) d (λ ds given_all. elements_are (is_whole exactness) row o ds (row_reads row) given_all) e
  visited_is (spec.map k v) o d e =
      map_is (λ b. IsOf k b) (λ b. IsOf v b) (asks k) (first k) (first v) (λ s. visited_is k (offer_of s (asks k))) (λ s. visited_is v (offer_of s (asks v))) o d e
  visited_is (newtype name a) o d e = newtype_is (λ b. IsOf a b) (first a) o d (λ s. visited_is a (offer_of s (asks a))) e
  visited_is (struct strictness name names row) o d e = struct_is (is_whole (by_position strictness)) (is_strict strictness) names row o d (row_reads row) e
  visited_is (enum name names held) o d e = enum_is names held o d (payloads_read held) e

  payload_is : (held : PayloadShape) (offered : Wanted → Offer) (p : PayloadData) → visited_payload held offered ≡ given p → IsHeld held p
  payload_is unit_variant offered p e = unit_payload_is (offered wanted.unit) p e
  payload_is (newtype_variant a) offered p e =
      newtype_payload_is (λ b. IsOf a b) (first a) (offered wanted.newtype) p (λ s. visited_is a (offer_of s (asks a))) e
  payload_is (tuple_variant row) offered p e = tuple_payload_is row (offered (wanted.tuple (number_of row))) p (row_reads row) e
  payload_is (struct_variant strictness names row) offered p e = struct_payload_is (is_strict strictness) names row (offered (wanted.struct names)) p (row_reads row) e

  row_reads : (row : Shapes) → RowReads row
  row_reads no_shapes = tt
  row_reads (shape a rest) = (λ s. visited_is a (offer_of s (asks a)), row_reads rest)

  payloads_read : (held : Payloads) → PayloadsRead held
  payloads_read no_payloads = tt
  payloads_read (payload held rest) = (λ offered. payload_is held offered, payloads_read rest)

pub first_is : (a : Shape) (s : Source) (d : Data) → first a s ≡ given d → IsOf a d
first_is a s d e = visited_is a (offer_of s (asks a)) d e
