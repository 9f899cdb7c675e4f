-- The fields of a struct, their slots, and the variants of an enum, place by place.
use Rattle.std.proofs.Common.{◌≡◌, ℕ, zero, suc, ◌+◌, ◌<◌, ◌≤◌, min, Bool, true, false, List, [], ◌∷◌, ◌++◌, add-one, length, get_or, slice_get, take, drop, set, map, is_some, replicate, Option, Some, None, Result, Ok, Err, IfSome, IfOk, option_map, if◌then◌else◌, bytes_eq, Contains, ap, sym, refl, arith}
use Rattle.std.proofs.lemmas.List.{take_all, map-set, length-map}
use Rattle.std.proofs.lemmas.Slice.Eq.{bytes_eq-Decides}
use Rattle.data_core.specs.declared.fault.Fault.{Fault}
use Rattle.data_core.specs.declared.fault.Fault.TheVariants.{MissingField, DuplicateField}
use Rattle.data_core.specs.Fault.{IsCalled}
use Rattle.data_core.specs.Wanted.{Wanted}
use Rattle.data_core.specs.Source.{Source, Offer, scalar}
use Rattle.data_core.specs.Source as offer
use Rattle.data_core.specs.Tracking.{Refusal}
use Rattle.data_core.specs.Outcome.{Outcome, given, refused, under, and_then, Answers, AnswersErr, IsRefused, Gives}
use Rattle.data_core.proofs.Refusals.{IsRefused-whole, IsRefused-here, Carries-and_then}
use Rattle.data_core.specs.declared.path.Segment.{Segment}
use Rattle.shape.specs.Shape as spec
use Rattle.shape_read.specs.First.{first, visited_payload}
use Rattle.shape_read.specs.Variants.{Variant, place_of_variant, known_variant, variant_place}
use Rattle.shape.specs.Names.{paired, place_in, place_of_name}
use Rattle.shape.proofs.Places.{length_paired}
use Rattle.shape_read.specs.Fields.{Field, is_option, place_of, put_field, known, place_of_key, filled, completed}
use Rattle.shape.specs.declared.data.Data as code
use Rattle.shape.specs.declared.shapes.Shape.{Shape}
use Rattle.shape.specs.declared.shapes.VariantShape.{VariantShape}
use Rattle.shape.specs.View.{shape_view, variant_shape_view, data_view}
use Rattle.shape_read.specs.Readers.{fields_at, variants_at, slot_view}
use Rattle.shape_read.proofs.Steps.{front, front_push}

-- a name with its shape
abbrev pub field : List ℕ → Shape → Field Source
field n a = record { name = n; may_be_missing = is_option (shape_view a); read = first (shape_view a) }

pub length_fields : (names : List (List ℕ)) (shapes : List Shape) → length (fields_at names shapes) ≡ min (length names) (length shapes)
length_fields [] shapes = omega arith
length_fields (n ∷ names) [] = omega arith
length_fields (n ∷ names) (a ∷ shapes) = omega (arith, length_fields names shapes)

pub name_at : (names : List (List ℕ)) (i : ℕ) → i < length names → slice_get names i ≡ Some (get_or names i [])
name_at [] i h = absurd (omega arith)
name_at (n ∷ names) zero h = refl
name_at (n ∷ names) (suc i) h = name_at names i (omega arith)

pub field_at : (names : List (List ℕ)) (shapes : List Shape) (i : ℕ) (n : List ℕ) (a : Shape) → slice_get names i ≡ Some n → i < length shapes → a ≡ get_or shapes i a
    → slice_get (fields_at names shapes) i ≡ Some (field n a)
field_at [] shapes i n a e h is = cc
field_at (m ∷ names) [] i n a e h is = absurd (omega arith)
field_at (m ∷ names) (b ∷ shapes) zero n a e h is = let same : m ≡ n = cc in rw (same, is) refl
field_at (m ∷ names) (b ∷ shapes) (suc i) n a e h is = field_at names shapes i n a e (omega arith) is

pub slot_at : (slots : List (Option code.Data)) (i : ℕ) (s : Option code.Data) → i < length slots → s ≡ get_or slots i s → slice_get (map slot_view slots) i ≡ Some (slot_view s)
slot_at [] i s h is = absurd (omega arith)
slot_at (r ∷ slots) zero s h is = rw is refl
slot_at (r ∷ slots) (suc i) s h is = slot_at slots i s (omega arith) is

-- the names of fields, and of variants
pub names_at : (names : List (List ℕ)) (shapes : List Shape) → map (λ f. f.name) (fields_at names shapes) ≡ map (λ p. p.0) (paired shape_view names shapes)
names_at [] shapes = refl
names_at (n ∷ names) [] = refl
names_at (n ∷ names) (a ∷ shapes) = ap (λ rest. n ∷ rest) (names_at names shapes)

pub names_of_variants_at : (names : List (List ℕ)) (all : List VariantShape) → map (λ v. v.name) (variants_at names all) ≡ map (λ p. p.0) (paired variant_shape_view names all)
names_of_variants_at [] all = refl
names_of_variants_at (n ∷ names) [] = refl
names_of_variants_at (n ∷ names) (a ∷ all) = ap (λ rest. n ∷ rest) (names_of_variants_at names all)

-- names and shapes side by side, as fields and as variants

pub length_view : (names : List (List ℕ)) (shapes : List Shape) → length (paired shape_view names shapes) ≡ length (fields_at names shapes)
length_view names shapes = omega (arith, length_paired shape_view names shapes, length_fields names shapes)

pub place_in_fields : (t : List ℕ) (names : List (List ℕ)) (shapes : List Shape) → place_of_name t (paired shape_view names shapes) ≡ place_of t (fields_at names shapes)
place_in_fields t names shapes = ap (place_in t) (sym (names_at names shapes))

pub place_in_variants : (t : List ℕ) (names : List (List ℕ)) (all : List VariantShape) → place_of_name t (paired variant_shape_view names all) ≡ place_of_variant t (variants_at names all)
place_in_variants t names all = ap (place_in t) (sym (names_of_variants_at names all))

within_step : (b : Bool) (p : Option ℕ) (n : ℕ) → IfSome p (λ i. i < n) → IfSome (if b then Some 0 else option_map suc p) (λ i. i < suc n)
within_step true p n h = omega arith
within_step false None n h = tt
within_step false (Some i) n h = omega (arith, h)

name_within : (t : List ℕ) (names : List (List ℕ)) → IfSome (place_in t names) (λ i. i < length names)
name_within t [] = tt
name_within t (n ∷ names) = within_step (bytes_eq n t) (place_in t names) (length names) (name_within t names)

place_within : (t : List ℕ) (fields : List (Field Source)) → IfSome (place_of t fields) (λ i. i < length fields)
place_within t fields = rw (← length-map fields (λ f. f.name)) (name_within t (map (λ f. f.name) fields))

known_within : (strict : Bool) (t : List ℕ) (p place : Option ℕ) (n : ℕ) → known strict t p ≡ given place → IfSome p (λ i. i < n) → IfSome place (λ i. i < n)
known_within true t None place n e h = cc
known_within true t (Some i) place n e h = let same : Some i ≡ place = cc in rw (← same) h
known_within false t p place n e h = let same : p ≡ place = cc in rw (← same) h

key_within : (strict : Bool) (fields : List (Field Source)) (o : Offer) (place : Option ℕ) → place_of_key strict fields o ≡ given place → IfSome place (λ i. i < length fields)
key_within strict fields (scalar (offer.text t)) place e = known_within strict t (place_of t fields) place (length fields) e (place_within t fields)
key_within strict fields (scalar (offer.character c)) place e = known_within strict _ (place_of _ fields) place (length fields) e (place_within _ fields)
key_within strict fields o place e = cc

pub answer_within : {E : Type 0} (fault : E → Option Fault) (strict : Bool) (fields : List (Field Source)) (o : Offer) (r : Result (Option ℕ) E)
    → (n : ℕ) → length fields ≤ n → Answers fault (λ place. place) r (place_of_key strict fields o) → IfOk r (λ place. IfSome place (λ i. i < n))
answer_within fault strict fields o (Ok None) n h a = tt
answer_within fault strict fields o (Ok (Some i)) n h a = omega (arith, h, key_within strict fields o (Some i) a)
answer_within fault strict fields o (Err e) n h a = tt

-- the variants of an enum

pub length_variants : (names : List (List ℕ)) (all : List VariantShape) → length (variants_at names all) ≡ min (length names) (length all)
length_variants [] all = omega arith
length_variants (n ∷ names) [] = omega arith
length_variants (n ∷ names) (a ∷ all) = omega (arith, length_variants names all)

-- a name with what is read of its payload
abbrev pub variant : List ℕ → VariantShape → Variant (Wanted → Offer)
variant n a = record { name = n; read = visited_payload (variant_shape_view a) }

pub variant_at : (names : List (List ℕ)) (all : List VariantShape) (i : ℕ) (a : VariantShape) → i < length (variants_at names all) → a ≡ get_or all i a
    → slice_get (variants_at names all) i ≡ Some (variant (get_or names i []) a)
variant_at [] all i a h is = absurd (omega arith)
variant_at (n ∷ names) [] i a h is = absurd (omega arith)
variant_at (n ∷ names) (b ∷ all) zero a h is = rw is refl
variant_at (n ∷ names) (b ∷ all) (suc i) a h is = variant_at names all i a (omega arith) is

known_variant_within : (t : List ℕ) (p : Option ℕ) (i n : ℕ) → known_variant t p ≡ given i → IfSome p (λ j. j < n) → i < n
known_variant_within t None i n e h = cc
known_variant_within t (Some j) i n e h = let same : j ≡ i = cc in rw (← same) h

variant_within : (t : List ℕ) (variants : List (Variant (Wanted → Offer))) → IfSome (place_of_variant t variants) (λ i. i < length variants)
variant_within t variants = rw (← length-map variants (λ v. v.name)) (name_within t (map (λ v. v.name) variants))

variant_place_within : (variants : List (Variant (Wanted → Offer))) (o : Offer) (i : ℕ) → variant_place variants o ≡ given i → i < length variants
variant_place_within variants (scalar (offer.text t)) i e = known_variant_within t (place_of_variant t variants) i (length variants) e (variant_within t variants)
variant_place_within variants (scalar (offer.character c)) i e = known_variant_within _ (place_of_variant _ variants) i (length variants) e (variant_within _ variants)
variant_place_within variants o i e = cc

pub answer_variant_within : {E : Type 0} (fault : E → Option Fault) (variants : List (Variant (Wanted → Offer))) (o : Offer) (r : Result ℕ E)
    → (n : ℕ) → length variants ≤ n → Answers fault (λ place. place) r (variant_place variants o) → IfOk r (λ place. place < n)
answer_variant_within fault variants o (Ok i) n h a = omega (arith, h, variant_place_within variants o i a)
answer_variant_within fault variants o (Err e) n h a = tt

-- the values of all fields

completed_next : (fields : List (Field Source)) (i : ℕ) (slot : Option spec.Data) (slots : List (Option spec.Data)) (ds : List code.Data) (d : code.Data)
    → i < length fields → IfSome (slice_get fields i) (λ f. filled f slot ≡ given (data_view d))
    → front ds (completed (drop i fields) (slot ∷ slots)) ≡ front (ds ++ d ∷ []) (completed (drop (suc i) fields) slots)
completed_next [] i slot slots ds d h e = absurd (omega arith)
completed_next (f ∷ fields) zero slot slots ds d h e =
    rw e (sym (front_push ds d (completed fields slots)))
completed_next (f ∷ fields) (suc i) slot slots ds d h e = completed_next fields i slot slots ds d (omega arith) e

pub completed_step : (fields : List (Field Source)) (i : ℕ) (slot : Option spec.Data) (slots : List (Option spec.Data)) (ds : List code.Data) (d : code.Data)
    → i < length fields → IfSome (slice_get fields i) (λ f. filled f slot ≡ given (data_view d))
    → front ds (completed (drop i fields) (slot ∷ slots)) ≡ front (ds ++ d ∷ []) (completed (drop (i + 1) fields) slots)
completed_step fields i slot slots ds d h e = rw add-one (completed_next fields i slot slots ds d h e)

front_refused : (fault : Option Fault) (o : Outcome spec.Data) (next : spec.Data → Outcome (List spec.Data)) (ds : List code.Data)
    → AnswersErr fault o → AnswersErr fault (front ds (and_then o next))
front_refused None o next ds h = tt
front_refused (Some g) o next ds h = rw h refl

pub completed_stops : (fault : Option Fault) (fields : List (Field Source)) (i : ℕ) (slot : Option spec.Data) (slots : List (Option spec.Data)) (ds : List code.Data)
    → i < length fields → IfSome (slice_get fields i) (λ f. AnswersErr fault (filled f slot)) → AnswersErr fault (front ds (completed (drop i fields) (slot ∷ slots)))
completed_stops fault [] i slot slots ds h e = absurd (omega arith)
completed_stops fault (f ∷ fields) zero slot slots ds h e =
    front_refused fault (filled f slot) (λ d. and_then (completed fields slots) (λ rest. given (d ∷ rest))) ds e
completed_stops fault (f ∷ fields) (suc i) slot slots ds h e = completed_stops fault fields i slot slots ds (omega arith) e

pub front_none : (o : Outcome (List spec.Data)) → front [] o ≡ o
front_none (given ds) = refl
front_none (refused f path) = refl

pub completed_end : (fields : List (Field Source)) → completed fields [] ≡ given []
completed_end [] = refl
completed_end (f ∷ fields) = refl

pub filled_there : (f : Option (Field Source)) (d : spec.Data) → IfSome f (λ field. filled field (Some d) ≡ given d)
filled_there None d = tt
filled_there (Some f) d = refl

pub nothing_at : (names : List (List ℕ)) (shapes : List Shape) (i : ℕ) (a : Shape) → i < length (fields_at names shapes) → a ≡ get_or shapes i a
    → true ≡ is_option (shape_view a) → IfSome (slice_get (fields_at names shapes) i) (λ f. filled f None ≡ given spec.nothing)
nothing_at names shapes i a h is option =
    let all = length_fields names shapes in
    rw (field_at names shapes i (get_or names i []) a (name_at names i (omega (arith, h, all))) (omega (arith, h, all)) is, ← option) refl

pub missing_at : (fault : Option Fault) (names : List (List ℕ)) (shapes : List Shape) (i : ℕ) (n : List ℕ) (a : Shape) → Some n ≡ slice_get names i → i < length (fields_at names shapes) → a ≡ get_or shapes i a
    → false ≡ is_option (shape_view a) → IsCalled fault (MissingField n) → IfSome (slice_get (fields_at names shapes) i) (λ f. AnswersErr fault (filled f None))
missing_at None names shapes i n a named h is option called =
    rw (field_at names shapes i n a (sym named) (omega (arith, h, length_fields names shapes)) is) tt
missing_at (Some g) names shapes i n a named h is option called =
    rw (field_at names shapes i n a (sym named) (omega (arith, h, length_fields names shapes)) is, ← option, called) refl

-- the slot of a field that an entry names

shape_at : (shapes : List Shape) (i : ℕ) → i < length shapes → (a : Shape) × (a ≡ get_or shapes i a)
shape_at [] i h = absurd (omega arith)
shape_at (a ∷ shapes) zero h = (a, refl)
shape_at (a ∷ shapes) (suc i) h = shape_at shapes i (omega arith)

module _ (tracks : Bool) (segment : Segment) (v : Source) (names : List (List ℕ)) (shapes : List Shape) (slots : List (Option code.Data)) (i : ℕ) where
  abbrev put_at : Outcome (List (Option spec.Data))
  put_at = put_field segment v (map slot_view slots) i (slice_get (fields_at names shapes) i) (slice_get (map slot_view slots) i)

  pub put_taken : (fault : Option Fault) (s : Option code.Data) (old : Refusal) → i < length names → i < length shapes → i < length slots → s ≡ get_or slots i s → is_some s ≡ true
      → IfSome (slice_get names i) (λ n. IsCalled fault (DuplicateField n)) → IsRefused tracks fault put_at old old
  put_taken fault None old named shaped slot is there called = absurd (cc)
  put_taken fault (Some d) old named shaped slot is there called =
      let n = get_or names i [] in
      let a = shape_at shapes i shaped in
      let here : put_at ≡ refused (DuplicateField n) [] =
      rw (field_at names shapes i n a.0 (name_at names i named) shaped a.1, slot_at slots i (Some d) slot is) refl in
      let call : IsCalled fault (DuplicateField n) = rw (name_at names i named) at called in
      IsRefused-here tracks fault (DuplicateField n) put_at old old call here (λ e. e)

  abbrev pub put_next : spec.Data → Outcome (List (Option spec.Data))
  put_next d = given (set (map slot_view slots) i (Some d))

  pub put_open : (s : Option code.Data) (a : Shape) → i < length names → i < length shapes → i < length slots → s ≡ get_or slots i s → is_some s ≡ false → a ≡ get_or shapes i a
      → put_at ≡ and_then (under segment (first (shape_view a) v)) put_next
  put_open (Some d) a named shaped slot is there is_a = absurd (cc)
  put_open None a named shaped slot is there is_a =
      rw (field_at names shapes i (get_or names i []) a (name_at names i named) shaped is_a, slot_at slots i None slot is) refl

pub put_given : (slots : List (Option code.Data)) (i : ℕ) (o : Outcome spec.Data) (d : code.Data) → o ≡ given (data_view d)
    → and_then o (λ x. given (set (map slot_view slots) i (Some x))) ≡ given (map slot_view (set slots i (Some d)))
put_given slots i o d e = rw e (ap given (sym (map-set slot_view slots i (Some d))))

-- a value that was read and dropped
pub Gives-dropped : {A E : Type 0} (fault : E → Option Fault) (tracks : Bool) (r : Result (Unit {0}) E) (o : Outcome (Unit {0})) (a : A) (old new : Refusal)
    → Gives fault tracks (λ u. u) r o old new → Gives fault tracks (λ u. a) r (and_then o (λ u. given a)) old new
Gives-dropped fault tracks (Ok u) o a old new h = (rw h.0 refl, h.1)
Gives-dropped fault tracks (Err e) o a old new h =
    IsRefused-whole tracks (fault e) o (and_then o (λ u. given a)) old old new (λ c. c) (Carries-and_then o (λ u. given a)) h

pub all_empty : (n : ℕ) → map slot_view (replicate n None) ≡ replicate n None
all_empty zero = refl
all_empty (suc n) = ap (λ slots. None ∷ slots) (all_empty n)
