-- A struct is read from a map exactly where its pairs name its fields, each once.
use Rattle.std.proofs.Common.{◌≡◌, ◌∙◌, ◌↔◌, ℕ, zero, suc, Bool, true, false, List, [], ◌∷◌, map, set, slice_get, Option, Some, None, inl, inr, ◌⊎◌, option_map, if◌then◌else◌, bytes_eq, encode_utf8, refl, ap, sym, subst}
use Rattle.data_core.specs.declared.fault.Fault.TheVariants.{MissingField}
use Rattle.data_core.specs.declared.path.Segment.{Segment}
use Rattle.data_core.specs.Node.{Node, Pairs, no_pairs, pair}
use Rattle.data_core.specs.Node as node
use Rattle.data_core.specs.Outcome.{Outcome, given, refused, under, and_then}
use Rattle.shape.specs.Names.{place_in}
use Rattle.shape.specs.Shape.{Strictness, exact, strict, loose, Shape, scalar, option, seq, tuple, newtype, struct, enum, Shapes, no_shapes, shape, Data, nothing, struct_data, parts_of}
use Rattle.shape.specs.Shape as spec
use Rattle.capture.specs.Parts.{each_pair, at_pair, NamedPart, is_optional, named_parts, part_named, place_or_none, put_slot, put_at, put_named, slot_value, slot_values, no_slots}
use Rattle.capture.specs.FirstTree.{first_tree, tree_readers, text_at, field_by_key, pairs_in, named_tree}
use Rattle.document.specs.Input.{Input, tree}
use Rattle.capture.specs.First.{first}
use Rattle.capture.specs.ByName.{ReadsByName, names_in, place_named, IsName, IsNameOf, AllKeys, with_value, values_named, IsFieldOf, AreFieldsOf}

-- a step that was gone on from gave a value
through : {A B : Type 0} (o : Outcome A) (next : A → Outcome B) (b : B) → and_then o next ≡ given b → (a : A) × (o ≡ given a) × (next a ≡ given b)
through (given a) next b e = (a, refl, e)
through (refused f path) next b e = absurd (cc)

from_under : {A : Type 0} (segment : Segment) (o : Outcome A) (a : A) → under segment o ≡ given a → o ≡ given a
from_under segment (given b) a e = e
from_under segment (refused f path) a e = absurd (cc)

from_key : {A : Type 0} (segment : Segment) (o : Outcome A) (a : A) → at_pair segment o ≡ given a → o ≡ given a
from_key segment (given b) a e = e
from_key segment (refused f path) a e = absurd (cc)

the_value : {A : Type 0} (a b : A) → given a ≡ given b → b ≡ a
the_value a b e = cc

-- the names of fields
abbrev names_of : List (NamedPart Node) → List (List ℕ)
names_of fields = map (λ f. f.name) fields

-- the place of a key's name, as the reading finds it

known_place : (strict : Bool) (t : List ℕ) (p place : Option ℕ) → place_or_none strict t p ≡ given place → place ≡ p
known_place true t None place e = absurd (cc)
known_place false t None place e = the_value None place e
known_place true t (Some i) place e = the_value (Some i) place e
known_place false t (Some i) place e = the_value (Some i) place e

strict_place : (t : List ℕ) (p place : Option ℕ) → place_or_none true t p ≡ given place → (i : ℕ) × (p ≡ Some i)
strict_place t None place e = absurd (cc)
strict_place t (Some i) place e = (i, refl)

any_place : (t : List ℕ) (p : Option ℕ) → place_or_none false t p ≡ given p
any_place t None = refl
any_place t (Some i) = refl

-- the place of a name among the fields is its place among their names
part_place : (t : List ℕ) (fields : List (NamedPart Node)) → part_named t fields ≡ place_in t (names_of fields)
part_place t [] = refl
part_place t (f ∷ fs) = ap (λ p. if bytes_eq f.name t then Some 0 else option_map suc p) (part_place t fs)

-- a key that a struct takes, strict or not
abbrev Takes : Bool → List (List ℕ) → Node → Type 0
Takes true names k = IsNameOf names k
Takes false names k = IsName k

key_place : (b : Bool) (fields : List (NamedPart Node)) (k : Node) (place : Option ℕ) → field_by_key b fields k ≡ given place → Takes b (names_of fields) k × (place ≡ place_named (names_of fields) k)
key_place true fields (node.string t) place e =
    let known = rw (part_place t fields) at e in
    (strict_place t (place_in t (names_of fields)) place known, known_place true t (place_in t (names_of fields)) place known)
key_place false fields (node.string t) place e = (tt, known_place false t (place_in t (names_of fields)) place (rw (part_place t fields) at e))
key_place true fields (node.character c) place e =
    let known = rw (part_place (encode_utf8 c) fields) at e in
    (strict_place (encode_utf8 c) (place_in (encode_utf8 c) (names_of fields)) place known, known_place true (encode_utf8 c) (place_in (encode_utf8 c) (names_of fields)) place known)
key_place false fields (node.character c) place e =
    (tt, known_place false (encode_utf8 c) (place_in (encode_utf8 c) (names_of fields)) place (rw (part_place (encode_utf8 c) fields) at e))
key_place b fields k place e = absurd (cc)

nowhere : (i : ℕ) → None ≡ Some i → ⊥
nowhere i e = cc

place_key : (b : Bool) (fields : List (NamedPart Node)) (k : Node) → Takes b (names_of fields) k → field_by_key b fields k ≡ given (place_named (names_of fields) k)
place_key true fields (node.string t) h = ap (place_or_none true t) (part_place t fields ∙ h.1) ∙ ap given (sym h.1)
place_key false fields (node.string t) h = ap (place_or_none false t) (part_place t fields) ∙ any_place t (place_in t (names_of fields))
place_key true fields (node.character c) h =
    ap (place_or_none true (encode_utf8 c)) (part_place (encode_utf8 c) fields ∙ h.1) ∙ ap given (sym h.1)
place_key false fields (node.character c) h =
    ap (place_or_none false (encode_utf8 c)) (part_place (encode_utf8 c) fields) ∙ any_place (encode_utf8 c) (place_in (encode_utf8 c) (names_of fields))
place_key true fields k h = absurd (nowhere h.0 h.1)
place_key false fields k h = absurd h

-- a field stands at the place of a name

stands_step : (b : Bool) (p : Option ℕ) (i : ℕ) (f : NamedPart Node) (fs : List (NamedPart Node)) → ((j : ℕ) → p ≡ Some j → (g : NamedPart Node) × (slice_get fs j ≡ Some g))
    → (if b then Some 0 else option_map suc p) ≡ Some i → (g : NamedPart Node) × (slice_get (f ∷ fs) i ≡ Some g)
stands_step true p i f fs h e = let same : 0 ≡ i = cc in rw (← same) (f, refl)
stands_step false None i f fs h e = absurd (cc)
stands_step false (Some j) i f fs h e = let same : suc j ≡ i = cc in rw (← same) (h j refl)

stands_in : (fields : List (NamedPart Node)) (t : List ℕ) (i : ℕ) → place_in t (names_of fields) ≡ Some i → (f : NamedPart Node) × (slice_get fields i ≡ Some f)
stands_in [] t i e = absurd (cc)
stands_in (f ∷ fs) t i e = stands_step (bytes_eq f.name t) (place_in t (names_of fs)) i f fs (stands_in fs t) e

stands : (fields : List (NamedPart Node)) (k : Node) (i : ℕ) → place_named (names_of fields) k ≡ Some i → (f : NamedPart Node) × (slice_get fields i ≡ Some f)
stands fields (node.string t) i e = stands_in fields t i e
stands fields (node.character c) i e = stands_in fields (encode_utf8 c) i e
stands fields k i e = absurd (cc)

-- a slot for each field
abbrev AreFor : List (NamedPart Node) → List (Option Data) → Type 0
AreFor [] [] = Unit {0}
AreFor (f ∷ fs) (o ∷ s) = AreFor fs s
AreFor [] (o ∷ s) = ⊥
AreFor (f ∷ fs) [] = ⊥

slot_at : (fields : List (NamedPart Node)) (s : List (Option Data)) (i : ℕ) (f : NamedPart Node) → AreFor fields s → slice_get fields i ≡ Some f → (o : Option Data) × (slice_get s i ≡ Some o)
slot_at [] s i f h e = absurd (cc)
slot_at (g ∷ fs) [] i f h e = absurd h
slot_at (g ∷ fs) (o ∷ s) zero f h e = (o, refl)
slot_at (g ∷ fs) (o ∷ s) (suc i) f h e = slot_at fs s i f h e

set_for : (fields : List (NamedPart Node)) (s : List (Option Data)) (i : ℕ) (o : Option Data) → AreFor fields s → AreFor fields (set s i o)
set_for [] [] i o h = tt
set_for [] (p ∷ s) i o h = absurd h
set_for (f ∷ fs) [] i o h = absurd h
set_for (f ∷ fs) (p ∷ s) zero o h = h
set_for (f ∷ fs) (p ∷ s) (suc i) o h = set_for fs s i o h

none_for : (fields : List (NamedPart Node)) → AreFor fields (no_slots fields)
none_for [] = tt
none_for (f ∷ fs) = none_for fs

-- what values make of a slot: none leaves it, and one is read into it where it has none yet
abbrev IsAfter : NamedPart Node → Option Data → List Node → Option Data → Type 0
IsAfter f o [] after = o ≡ after
IsAfter f None (v ∷ vs) after = (d : Data) × (f.read v ≡ given d) × IsAfter f (Some d) vs after
IsAfter f (Some d) (v ∷ vs) after = ⊥

abbrev AreAfter : (ℕ → List Node) → List (NamedPart Node) → List (Option Data) → List (Option Data) → Type 0
AreAfter at [] [] [] = Unit {0}
AreAfter at (f ∷ fs) (o ∷ s) (p ∷ after) = IsAfter f o (at 0) p × AreAfter (λ j. at (suc j)) fs s after
AreAfter at fs s after = ⊥

still : (fields : List (NamedPart Node)) (s : List (Option Data)) → AreFor fields s → AreAfter (λ j. []) fields s s
still [] [] h = tt
still [] (o ∷ s) h = absurd h
still (f ∷ fs) [] h = absurd h
still (f ∷ fs) (o ∷ s) h = (refl, still fs s h)

unmoved : (fields : List (NamedPart Node)) (s after : List (Option Data)) → AreAfter (λ j. []) fields s after → s ≡ after
unmoved [] [] [] h = refl
unmoved (f ∷ fs) (o ∷ s) (p ∷ after) h = rw (h.0, unmoved fs s after h.1) refl
unmoved fs s after h = absurd h

-- one value more at a place is read first
first_read : (at : ℕ → List Node) (v : Node) (i : ℕ) (fields : List (NamedPart Node)) (s after : List (Option Data)) (f : NamedPart Node) (d : Data)
    → slice_get fields i ≡ Some f → slice_get s i ≡ Some None → f.read v ≡ given d → AreAfter at fields (set s i (Some d)) after → AreAfter (with_value (Some i) v at) fields s after
first_read at v i [] s after f d e slot read h = absurd (cc)
first_read at v i (g ∷ fs) [] after f d e slot read h = absurd (cc)
first_read at v zero (g ∷ fs) (None ∷ s) [] f d e slot read h = absurd h
first_read at v zero (g ∷ fs) (Some c ∷ s) after f d e slot read h = absurd (cc)
first_read at v zero (g ∷ fs) (None ∷ s) (p ∷ after) f d e slot read h = let same : f ≡ g = cc in ((d, rw same at read, h.0), h.1)
first_read at v (suc i) (g ∷ fs) (o ∷ s) [] f d e slot read h = absurd h
first_read at v (suc i) (g ∷ fs) (o ∷ s) (p ∷ after) f d e slot read h = (h.0, first_read (λ j. at (suc j)) v i fs s after f d e slot read h.1)

read_first : (at : ℕ → List Node) (v : Node) (i : ℕ) (fields : List (NamedPart Node)) (s after : List (Option Data)) (f : NamedPart Node)
    → slice_get fields i ≡ Some f → AreAfter (with_value (Some i) v at) fields s after
    → (slice_get s i ≡ Some None) × (d : Data) × (f.read v ≡ given d) × AreAfter at fields (set s i (Some d)) after
read_first at v i [] s after f e h = absurd (cc)
read_first at v i (g ∷ fs) [] after f e h = absurd h
read_first at v i (g ∷ fs) (o ∷ s) [] f e h = absurd h
read_first at v zero (g ∷ fs) (None ∷ s) (p ∷ after) f e h = let same : g ≡ f = cc in (refl, h.0.0, rw same at h.0.1, (h.0.2, h.1))
read_first at v zero (g ∷ fs) (Some c ∷ s) (p ∷ after) f e h = absurd h.0
read_first at v (suc i) (g ∷ fs) (o ∷ s) (p ∷ after) f e h =
    let more = read_first (λ j. at (suc j)) v i fs s after f e h.1 in
    (more.0, more.1, more.2, (h.0, more.3))

-- a value that was put into a slot was read, and the slot had none
was_put : (segment : Segment) (v : Node) (s next : List (Option Data)) (i : ℕ) (f : NamedPart Node) (o : Option Data) → put_slot segment v s i (Some f) (Some o) ≡ given next
    → (o ≡ None) × (d : Data) × (f.read v ≡ given d) × (next ≡ set s i (Some d))
was_put segment v s next i f None e =
    let read = through (under segment (f.read v)) (λ d. given (set s i (Some d))) next e in
    (refl, read.0, from_under segment (f.read v) read.0 read.1, the_value (set s i (Some read.0)) next read.2)
was_put segment v s next i f (Some c) e = absurd (cc)

module _ (b : Bool) (fields : List (NamedPart Node)) where
  abbrev step : List (Option Data) → Node → Node → Outcome (List (Option Data))
  step = put_named text_at (field_by_key b fields) fields

  -- a pair that was gone on from: its value was put into the slot of its field, or passed over
  abbrev IsRead : Node → Node → List (Option Data) → List (Option Data) → Type 0
  IsRead k v s next =
      (i : ℕ) × (place_named (names_of fields) k ≡ Some i) × (f : NamedPart Node) × (slice_get fields i ≡ Some f) × (slice_get s i ≡ Some None)
      × (d : Data) × (f.read v ≡ given d) × (next ≡ set s i (Some d))

  abbrev IsTaken : Node → Node → List (Option Data) → List (Option Data) → Type 0
  IsTaken k v s next = IsRead k v s next ⊎ ((place_named (names_of fields) k ≡ None) × (next ≡ s))

  taken_field : (k v : Node) (s next : List (Option Data)) (i : ℕ) (f : NamedPart Node) (o : Option Data) → place_named (names_of fields) k ≡ Some i → slice_get fields i ≡ Some f → slice_get s i ≡ Some o
      → put_at fields (text_at k) v s (Some i) ≡ given next → IsRead k v s next
  taken_field k v s next i f o place field slot e =
      let put = was_put (text_at k) v s next i f o (rw (field, slot) at e) in
      (i, place, f, field, slot ∙ ap Some put.0, put.1, put.2, put.3)

  taken_at : (k v : Node) (s next : List (Option Data)) (p : Option ℕ) → place_named (names_of fields) k ≡ p → AreFor fields s → put_at fields (text_at k) v s p ≡ given next → IsTaken k v s next
  taken_at k v s next None place for e = inr (place, the_value s next e)
  taken_at k v s next (Some i) place for e =
      let field = stands fields k i place in
      let slot = slot_at fields s i field.0 for field.1 in
      inl (taken_field k v s next i field.0 slot.0 place field.1 slot.1 e)

  taken : (k v : Node) (s next : List (Option Data)) → AreFor fields s → step s k v ≡ given next → Takes b (names_of fields) k × IsTaken k v s next
  taken k v s next for e =
      let one = through (at_pair (text_at k) (field_by_key b fields k)) (put_at fields (text_at k) v s) next e in
      let key = key_place b fields k one.0 (from_key (text_at k) (field_by_key b fields k) one.0 one.1) in
      (key.0, taken_at k v s next (place_named (names_of fields) k) refl for (subst (λ p. put_at fields (text_at k) v s p ≡ given next) key.1 one.2))

  -- the values that are named from a pair on, with what a pair was taken as
  next_named : (k v : Node) (ts : Pairs) (s next after : List (Option Data)) → AreFor fields s → IsTaken k v s next
      → (AreFor fields next → AllKeys (Takes b (names_of fields)) ts × AreAfter (values_named (names_of fields) ts) fields next after)
      → AllKeys (Takes b (names_of fields)) ts × AreAfter (values_named (names_of fields) (pair k v ts)) fields s after
  next_named k v ts s next after for (inl t) rest =
      let r = rest (subst (λ x. AreFor fields x) (sym t.7) (set_for fields s t.0 (Some t.5) for)) in
      let h = subst (λ x. AreAfter (values_named (names_of fields) ts) fields x after) t.7 r.1 in
      (r.0, subst (λ p. AreAfter (λ j. with_value p v (values_named (names_of fields) ts) j) fields s after) (sym t.1) (first_read (values_named (names_of fields) ts) v t.0 fields s after t.2 t.5 t.3 t.4 t.6 h))
  next_named k v ts s next after for (inr t) rest =
      let r = rest (subst (λ x. AreFor fields x) (sym t.1) for) in
      let h = subst (λ x. AreAfter (values_named (names_of fields) ts) fields x after) t.1 r.1 in
      (r.0, subst (λ p. AreAfter (λ j. with_value p v (values_named (names_of fields) ts) j) fields s after) (sym t.0) h)

  pairs_named : (ts : Pairs) (s after : List (Option Data)) → AreFor fields s → each_pair step s (pairs_in ts) ≡ given after
      → AllKeys (Takes b (names_of fields)) ts × AreAfter (values_named (names_of fields) ts) fields s after
  pairs_named no_pairs s after for e = (tt, rw (the_value s after e) (still fields s for))
  pairs_named (pair k v ts) s after for e =
      let one = through (step s k v) (λ next. each_pair step next (pairs_in ts)) after e in
      let t = taken k v s one.0 for one.1 in
      let rest = next_named k v ts s one.0 after for t.1 (λ f. pairs_named ts one.0 after f one.2) in
      ((t.0, rest.0), rest.1)

  named_at : (k v : Node) (ts : Pairs) (s after : List (Option Data)) (p : Option ℕ) → place_named (names_of fields) k ≡ p → Takes b (names_of fields) k
      → AreAfter (λ j. with_value p v (values_named (names_of fields) ts) j) fields s after
      → (next : List (Option Data)) × (step s k v ≡ given next) × AreAfter (values_named (names_of fields) ts) fields next after
  named_at k v ts s after None place key h = (s, rw (place_key b fields k key, place) refl, h)
  named_at k v ts s after (Some i) place key h =
      let field = stands fields k i place in
      let read = read_first (values_named (names_of fields) ts) v i fields s after field.0 field.1 h in
      (set s i (Some read.1), rw (place_key b fields k key, place, field.1, read.0, read.2) refl, read.3)

  named_pairs : (ts : Pairs) (s after : List (Option Data)) → AllKeys (Takes b (names_of fields)) ts → AreAfter (values_named (names_of fields) ts) fields s after
      → each_pair step s (pairs_in ts) ≡ given after
  named_pairs no_pairs s after named h = ap given (unmoved fields s after h)
  named_pairs (pair k v ts) s after named h =
      let one = named_at k v ts s after (place_named (names_of fields) k) refl named.0 h in
      ap (λ o. and_then o (λ next. each_pair step next (pairs_in ts))) one.1 ∙ named_pairs ts one.0 after named.1 one.2

-- what is in the slots, as the values of fields

abbrev field : List ℕ → Shape → NamedPart Node
field n a = record { name = n; may_be_missing = is_optional a; read = first_tree a }

missing : (a : Shape) (n : List ℕ) (d : Data) → (if is_optional a then given nothing else refused (MissingField n) []) ≡ given d → ((b : Shape) × (a ≡ option b)) × (d ≡ nothing)
missing (option b) n d e = ((b, refl), the_value nothing d e)
missing (scalar a) n d e = absurd (cc)
missing (seq a) n d e = absurd (cc)
missing (tuple exactness name row) n d e = absurd (cc)
missing (spec.map k v) n d e = absurd (cc)
missing (newtype name a) n d e = absurd (cc)
missing (struct strictness name names row) n d e = absurd (cc)
missing (enum name names held) n d e = absurd (cc)

field_is : (a : Shape) (n : List ℕ) (vs : List Node) (o : Option Data) (d : Data) → IsAfter (field n a) None vs o → slot_value (field n a) o ≡ given d → IsFieldOf a vs d
field_is a n [] None d h e = missing a n d e
field_is a n [] (Some c) d h e = absurd (cc)
field_is a n (v ∷ []) None d h e = absurd (cc)
field_is a n (v ∷ []) (Some c) d h e = let same : h.0 ≡ d = cc in rw (← same) h.1
field_is a n (v ∷ w ∷ vs) o d h e = h.2

is_field : (a : Shape) (n : List ℕ) (vs : List Node) (d : Data) → IsFieldOf a vs d → (o : Option Data) × IsAfter (field n a) None vs o × (slot_value (field n a) o ≡ given d)
is_field a n [] d h = (None, refl, rw (h.0.1, h.1) refl)
is_field a n (v ∷ []) d h = (Some d, (d, h, refl), refl)
is_field a n (v ∷ w ∷ vs) d h = absurd h

abbrev fields_in : List (List ℕ) → Shapes → List (NamedPart Node)
fields_in names row = named_parts names row (tree_readers row)

names_agree : (names : List (List ℕ)) (row : Shapes) → names_of (fields_in names row) ≡ names_in names row
names_agree [] row = refl
names_agree (n ∷ names) no_shapes = refl
names_agree (n ∷ names) (shape a rest) = ap (λ ns. n ∷ ns) (names_agree names rest)

fields_are : (at : ℕ → List Node) (names : List (List ℕ)) (row : Shapes) (after : List (Option Data)) (ds : List Data)
    → AreAfter at (fields_in names row) (no_slots (fields_in names row)) after → slot_values (fields_in names row) after ≡ given ds → AreFieldsOf at names row ds
fields_are at [] row after ds h e = the_value [] ds e
fields_are at (n ∷ names) no_shapes after ds h e = the_value [] ds e
fields_are at (n ∷ names) (shape a rest) [] ds h e = absurd h
fields_are at (n ∷ names) (shape a rest) (o ∷ after) ds h e =
    let one = through (slot_value (field n a) o) (λ d. and_then (slot_values (fields_in names rest) after) (λ more. given (d ∷ more))) ds e in
    let others = through (slot_values (fields_in names rest) after) (λ more. given (one.0 ∷ more)) ds one.2 in
    rw (the_value (one.0 ∷ others.0) ds others.2)
    (field_is a n (at 0) o one.0 h.0 one.1, fields_are (λ j. at (suc j)) names rest after others.0 h.1 others.1)

are_fields : (at : ℕ → List Node) (names : List (List ℕ)) (row : Shapes) (ds : List Data) → AreFieldsOf at names row ds
    → (after : List (Option Data)) × AreAfter at (fields_in names row) (no_slots (fields_in names row)) after × (slot_values (fields_in names row) after ≡ given ds)
are_fields at [] row ds h = ([], tt, rw h refl)
are_fields at (n ∷ names) no_shapes ds h = ([], tt, rw h refl)
are_fields at (n ∷ names) (shape a rest) [] h = absurd h
are_fields at (n ∷ names) (shape a rest) (d ∷ ds) h =
    let one = is_field a n (at 0) d h.0 in
    let others = are_fields (λ j. at (suc j)) names rest ds h.1 in
    (one.0 ∷ others.0, (one.1, others.1), rw (one.2, others.2) refl)

-- the pairs of a struct, and its values

abbrev slots_of : Bool → List (List ℕ) → Shapes → Pairs → Outcome (List (Option Data))
slots_of b names row ts = each_pair (step b (fields_in names row)) (no_slots (fields_in names row)) (pairs_in ts)

values_by_name : (b : Bool) (names : List (List ℕ)) (row : Shapes) (ts : Pairs) (ds : List Data) → named_tree b (fields_in names row) ts ≡ given ds
    → AllKeys (Takes b (names_in names row)) ts × AreFieldsOf (values_named (names_in names row) ts) names row ds
values_by_name b names row ts ds e =
    let fields = fields_in names row in
    let slots = through (slots_of b names row ts) (slot_values fields) ds e in
    let named = pairs_named b fields ts (no_slots fields) slots.0 (none_for fields) slots.1 in
    rw (← names_agree names row) (named.0, fields_are (values_named (names_of fields) ts) names row slots.0 ds named.1 slots.2)

by_name_values : (b : Bool) (names : List (List ℕ)) (row : Shapes) (ts : Pairs) (ds : List Data) → AllKeys (Takes b (names_of (fields_in names row))) ts
    → AreFieldsOf (values_named (names_of (fields_in names row)) ts) names row ds → named_tree b (fields_in names row) ts ≡ given ds
by_name_values b names row ts ds named fields =
    let slots = are_fields (values_named (names_of (fields_in names row)) ts) names row ds fields in
    ap (λ o. and_then o (slot_values (fields_in names row))) (named_pairs b (fields_in names row) ts (no_slots (fields_in names row)) slots.0 named slots.1) ∙ slots.2

abbrev ByName : Bool → List (List ℕ) → Shapes → Pairs → Data → Type 0
ByName b names row ts d =
    (ds : List Data) × (d ≡ struct_data (parts_of ds)) × AllKeys (Takes b (names_in names row)) ts × AreFieldsOf (values_named (names_in names row) ts) names row ds

struct_by_name : (b : Bool) (names : List (List ℕ)) (row : Shapes) (ts : Pairs) (d : Data)
    → and_then (named_tree b (fields_in names row) ts) (λ ds. given (struct_data (parts_of ds))) ≡ given d ↔ ByName b names row ts d
struct_by_name b names row ts d = (
  (λ e. let read = through (named_tree b (fields_in names row) ts) (λ ds. given (struct_data (parts_of ds))) d e in
      let named = values_by_name b names row ts read.0 read.1 in
      (read.0, the_value (struct_data (parts_of read.0)) d read.2, named.0, named.1)),
  (λ h. rw (by_name_values b names row ts h.0 (rw (names_agree names row) h.2) (rw (names_agree names row) h.3), h.1) refl),
)

-- the law: over a map, a value is read of a struct exactly where its pairs are those of that value
pub reads_by_name : (a : Shape) (i : Input) → ReadsByName a i (λ d. first a i ≡ given d)
reads_by_name (struct exact name names row) (tree (node.map ts)) = λ d. struct_by_name true names row ts d
reads_by_name (struct strict name names row) (tree (node.map ts)) = λ d. struct_by_name true names row ts d
reads_by_name (struct loose name names row) (tree (node.map ts)) = λ d. struct_by_name false names row ts d
reads_by_name a i = tt
