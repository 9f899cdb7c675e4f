-- Over the source of a tree, the first outcome of a shape is that of the tree.
use Rattle.std.specs.Str.{chars}
use Rattle.std.proofs.Common.{◌≡◌, ◌∙◌, ℕ, zero, suc, ◌+◌, Bool, true, false, List, [], ◌∷◌, length, Option, Some, None, slice_get, encode_utf8, negsuc, refl, ap, arith}
use Rattle.data_core.specs.declared.fault.Fault.TheVariants.{InvalidLength}
use Rattle.data_core.specs.declared.path.Segment.{Segment}
use Rattle.data_core.specs.Ask.{Ask, identifier}
use Rattle.data_core.specs.Node.{Node, Nodes, no_nodes, Pairs, no_pairs, pair, own_kind, no_payload, payload_of, plain, wrapped, inside, chosen, of_node, of_nodes, of_pairs}
use Rattle.data_core.specs.Node as node
use Rattle.data_core.specs.Source.{Source, Offer, count, resolved, offer_of}
use Rattle.data_core.specs.Wanted.{Wanted}
use Rattle.data_core.specs.Wanted as wanted
use Rattle.data_core.specs.Choice.{variant_segment, segment_of_variant}
use Rattle.data_core.specs.Table.{offer_text as text_caught, entry_segment, segment_of_key}
use Rattle.data_core.specs.Outcome.{Outcome, given, refused, under, bare, and_then}
use Rattle.sorted_pairs.specs.Pairs.{put}
use Rattle.shape.specs.DataOrder.{data_order}
use Rattle.data_core.specs.Only.{only}
use Rattle.data_std.specs.Ignored.{ignored, ignored_rest, ignored_entries, at_key}
use Rattle.shape.specs.Shape.{ScalarShape, boolean, u8, u16, u32, u64, i8, i16, i32, i64, character, text, bytes, unit, unit_struct, Shape, scalar, option, seq, tuple, map, newtype, struct, enum, is_whole, by_position, is_strict, Shapes, no_shapes, shape, number_of, Payloads, no_payloads, payload, PayloadShape, unit_variant, newtype_variant, tuple_variant, struct_variant, Data, newtype_data, newtype_payload}
use Rattle.shape_read.specs.Scalars.{boolean_of, unsigned_of, signed_of, character_from, character_of, text_of, bytes_of, unit_of, scalar_asks, scalar_of}
use Rattle.shape_read.specs.Parts.{each, row_of, rest_of_row, each_entry}
use Rattle.shape_read.specs.Fields.{Field, is_option, fields_of, place_of, known, place_of_key, put_field, put_value, no_values, field_step, filled, completed, named}
use Rattle.shape_read.specs.First.{first, asks, readers, option_of, seq_of, tuple_of, pair_of, pair_step, map_of, newtype_of, struct_of, unit_payload_of, newtype_payload_of, tuple_payload_of, struct_payload_of, enum_of, visited_payload, payload_readers}
use Rattle.shape_read.specs.Variants.{Variant, variants_of, place_of_variant, variant_place, known_variant, at_variant, with_payload}
use Rattle.capture.specs.Parts.{each_part, left_over, row_of_parts, each_pair, at_pair, put_pair, NamedPart, is_optional, named_parts, part_named, place_or_none, put_slot, put_at, put_named, slot_value, slot_values, no_slots, NamedPayload, named_payloads, payload_named, variant_or_none, read_variant}
use Rattle.capture.specs.FirstTree.{integer_in, unsigned_up_to, signed_up_to, as_boolean, one_character, as_character, as_text, as_bytes, as_unit, first_scalar, in_option, elements_in, pairs_in, in_seq, text_in, pair_segment, text_at, enum_segment, key_at, in_map, held_in, field_by_key, named_tree, in_struct, variant_by_key, chosen_by, in_enum, unit_payload_in, tuple_payload_in, struct_payload_in, first_tree, tree_readers, payload_tree, payload_tree_readers}

-- what is offered for a payload, or for the want of it
abbrev offered : Option Node → Wanted → Offer
offered None = no_payload
offered (Some t) = payload_of (own_kind t) (of_node t) (plain t)

-- the elements of a row, and what becomes of those that are left
abbrev row_read : Bool → List (Source → Outcome Data) → Nodes → Outcome (List Data)
row_read whole reads ts = row_of (rest_of_row whole true) reads 0 (of_nodes ts)

-- what a reader makes of a node as it is shown for every ask but an option's, a newtype's and an enum's
record Agrees (t : Node) : Type 0 where
  booleans : boolean_of (plain t) ≡ as_boolean t
  unsigned_integers : (greatest : ℕ) → unsigned_of greatest (plain t) ≡ unsigned_up_to greatest t (integer_in t)
  signed_integers : (greatest : ℕ) → signed_of greatest (plain t) ≡ signed_up_to greatest t (integer_in t)
  characters : character_of (plain t) ≡ as_character t
  texts : text_of (plain t) ≡ as_text t
  byte_strings : bytes_of (plain t) ≡ as_bytes t
  units : unit_of (plain t) ≡ as_unit t
  sequences : (read : Source → Outcome Data) → seq_of read (plain t) ≡ in_seq (λ ts. each read 0 (of_nodes ts)) t
  tuples : (whole : Bool) (reads : List (Source → Outcome Data)) → tuple_of whole reads (plain t) ≡ in_seq (row_read whole reads) t
  maps : (a : Ask) (key value : Source → Outcome Data) → map_of a key value (plain t) ≡ in_map (λ ts. each_entry (pair_step a key value) [] (of_pairs ts)) t
  structs : (whole strict : Bool) (fields : List (Field Source)) (reads : List (Source → Outcome Data)) → struct_of whole strict fields reads (plain t) ≡ in_struct (row_read whole reads) (λ ts. named strict fields (of_pairs ts)) t
  nothings : unit_payload_of (offered (Some t) wanted.unit) ≡ unit_payload_in (Some t)
  insides : (read : Source → Outcome Data) → newtype_payload_of read (offered (Some t) wanted.newtype) ≡ and_then (read (of_node t)) (λ d. given (newtype_payload d))
  tuple_payloads : (reads : List (Source → Outcome Data)) (n : ℕ) → tuple_payload_of reads (offered (Some t) (wanted.tuple n)) ≡ tuple_payload_in (row_read true reads) (Some t)
  struct_payloads : (strict : Bool) (fields : List (Field Source)) (names : List (List ℕ)) → struct_payload_of strict fields (offered (Some t) (wanted.struct names)) ≡ struct_payload_in (λ ts. named strict fields (of_pairs ts)) (Some t)

the_character : (cs : List ℕ) → character_from (only cs) ≡ one_character cs
the_character [] = refl
the_character (c ∷ []) = refl
the_character (c ∷ d ∷ cs) = refl

agrees : (t : Node) → Agrees t
agrees (node.string s) = record { booleans = refl; unsigned_integers = λ g. refl; signed_integers = λ g. refl; characters = the_character (chars s); texts = refl; byte_strings = refl; units = refl; sequences = λ read. refl; tuples = λ whole reads. refl; maps = λ a key value. refl; structs = λ whole strict fields reads. refl; nothings = refl; insides = λ read. refl; tuple_payloads = λ reads n. refl; struct_payloads = λ strict fields names. refl }
agrees (node.i8 (negsuc n)) = record { booleans = refl; unsigned_integers = λ g. refl; signed_integers = λ g. refl; characters = refl; texts = refl; byte_strings = refl; units = refl; sequences = λ read. refl; tuples = λ whole reads. refl; maps = λ a key value. refl; structs = λ whole strict fields reads. refl; nothings = refl; insides = λ read. refl; tuple_payloads = λ reads n. refl; struct_payloads = λ strict fields names. refl }
agrees (node.i16 (negsuc n)) = record { booleans = refl; unsigned_integers = λ g. refl; signed_integers = λ g. refl; characters = refl; texts = refl; byte_strings = refl; units = refl; sequences = λ read. refl; tuples = λ whole reads. refl; maps = λ a key value. refl; structs = λ whole strict fields reads. refl; nothings = refl; insides = λ read. refl; tuple_payloads = λ reads n. refl; struct_payloads = λ strict fields names. refl }
agrees (node.i32 (negsuc n)) = record { booleans = refl; unsigned_integers = λ g. refl; signed_integers = λ g. refl; characters = refl; texts = refl; byte_strings = refl; units = refl; sequences = λ read. refl; tuples = λ whole reads. refl; maps = λ a key value. refl; structs = λ whole strict fields reads. refl; nothings = refl; insides = λ read. refl; tuple_payloads = λ reads n. refl; struct_payloads = λ strict fields names. refl }
agrees (node.i64 (negsuc n)) = record { booleans = refl; unsigned_integers = λ g. refl; signed_integers = λ g. refl; characters = refl; texts = refl; byte_strings = refl; units = refl; sequences = λ read. refl; tuples = λ whole reads. refl; maps = λ a key value. refl; structs = λ whole strict fields reads. refl; nothings = refl; insides = λ read. refl; tuple_payloads = λ reads n. refl; struct_payloads = λ strict fields names. refl }
agrees t = record { booleans = refl; unsigned_integers = λ g. refl; signed_integers = λ g. refl; characters = refl; texts = refl; byte_strings = refl; units = refl; sequences = λ read. refl; tuples = λ whole reads. refl; maps = λ a key value. refl; structs = λ whole strict fields reads. refl; nothings = refl; insides = λ read. refl; tuple_payloads = λ reads n. refl; struct_payloads = λ strict fields names. refl }

scalar_agrees : (a : ScalarShape) (t : Node) → scalar_of a (offer_of (of_node t) (scalar_asks a)) ≡ first_scalar a t
scalar_agrees boolean t = (agrees t).booleans
scalar_agrees u8 t = (agrees t).unsigned_integers _
scalar_agrees u16 t = (agrees t).unsigned_integers _
scalar_agrees u32 t = (agrees t).unsigned_integers _
scalar_agrees u64 t = (agrees t).unsigned_integers _
scalar_agrees i8 t = (agrees t).signed_integers _
scalar_agrees i16 t = (agrees t).signed_integers _
scalar_agrees i32 t = (agrees t).signed_integers _
scalar_agrees i64 t = (agrees t).signed_integers _
scalar_agrees character t = (agrees t).characters
scalar_agrees text t = (agrees t).texts
scalar_agrees bytes t = (agrees t).byte_strings
scalar_agrees unit t = (agrees t).units
scalar_agrees (unit_struct name) t = (agrees t).units

-- the same for an option's ask, and for a newtype's
option_agrees : (read : Source → Outcome Data) (t : Node) → option_of read (resolved (of_node t) (wrapped t)) ≡ in_option (λ s. read (of_node s)) t
option_agrees read node.none = refl
option_agrees read t = refl

newtype_agrees : (read : Source → Outcome Data) (t : Node) → newtype_of read (resolved (of_node t) (inside t)) ≡ and_then (read (of_node (held_in t))) (λ d. given (newtype_data d))
newtype_agrees read node.none = refl
newtype_agrees read t = refl

-- a tree is ignored without a fault
mutual
  node_ignored : (t : Node) → ignored (of_node t) ≡ given tt
  node_ignored (node.some t) = node_ignored t
  node_ignored (node.newtype t) = node_ignored t
  node_ignored (node.seq ts) = nodes_ignored 0 ts
  node_ignored (node.map ts) = pairs_ignored ts
  node_ignored t = refl

  nodes_ignored : (i : ℕ) (ts : Nodes) → ignored_rest i (of_nodes ts) ≡ given tt
  nodes_ignored i no_nodes = refl
  nodes_ignored i (node.node t ts) = rw (node_ignored t, nodes_ignored (i + 1) ts) refl

  pairs_ignored : (ts : Pairs) → ignored_entries (of_pairs ts) ≡ given tt
  pairs_ignored no_pairs = refl
  pairs_ignored (pair k v ts) = rw (node_ignored k, node_ignored v, pairs_ignored ts) refl

count_agrees : (ts : Nodes) → count (of_nodes ts) ≡ length (elements_in ts)
count_agrees no_nodes = refl
count_agrees (node.node t ts) = omega (arith, count_agrees ts)

each_agrees : (read : Source → Outcome Data) (tree : Node → Outcome Data) → ((t : Node) → read (of_node t) ≡ tree t) → (i : ℕ) (ts : Nodes) → each read i (of_nodes ts) ≡ each_part tree i (elements_in ts)
each_agrees read tree same i no_nodes = refl
each_agrees read tree same i (node.node t ts) = rw (same t, each_agrees read tree same (i + 1) ts) refl

-- what becomes of elements that are left
rest_agrees : (whole : Bool) (i : ℕ) (ts : Nodes) → and_then (rest_of_row whole true i (of_nodes ts)) (λ u. given []) ≡ left_over whole i (elements_in ts)
rest_agrees true i no_nodes = refl
rest_agrees true i (node.node t ts) = ap (λ n. refused (InvalidLength (i + n)) []) (count_agrees (node.node t ts))
rest_agrees false i ts = rw (nodes_ignored i ts) refl

-- what a key shows is caught as the tree's text, but of the key of an option, a newtype and an enum nothing
text_agrees : (t : Node) → text_caught (plain t) ≡ text_in t
text_agrees (node.boolean true) = refl
text_agrees t = refl

scalar_text : (a : ScalarShape) (t : Node) → text_caught (offer_of (of_node t) (scalar_asks a)) ≡ text_in t
scalar_text boolean t = text_agrees t
scalar_text a t = text_agrees t

option_text : (t : Node) → text_caught (resolved (of_node t) (wrapped t)) ≡ None
option_text node.none = refl
option_text t = refl

newtype_text : (t : Node) → text_caught (resolved (of_node t) (inside t)) ≡ None
newtype_text node.none = refl
newtype_text t = refl

enum_text : (t : Node) → text_caught (resolved (of_node t) (chosen t)) ≡ None
enum_text (node.map (pair k v no_pairs)) = refl
enum_text t = refl

-- what a text adds to a path
text_segment : (t : Option (List ℕ)) → entry_segment t ≡ pair_segment t
text_segment None = refl
text_segment (Some t) = refl

segment_agrees : (t : Node) → entry_segment (text_caught (plain t)) ≡ text_at t
segment_agrees t = ap entry_segment (text_agrees t) ∙ text_segment (text_in t)

name_segment : (t : Option (List ℕ)) → variant_segment t ≡ enum_segment t
name_segment None = refl
name_segment (Some t) = refl

key_agrees : (a : Shape) (t : Node) → segment_of_key (asks a) (of_node t) ≡ key_at a t
key_agrees (scalar a) t = ap entry_segment (scalar_text a t) ∙ text_segment (text_in t)
key_agrees (option a) t = ap entry_segment (option_text t)
key_agrees (seq a) t = segment_agrees t
key_agrees (tuple exactness None row) t = segment_agrees t
key_agrees (tuple exactness (Some name) row) t = segment_agrees t
key_agrees (map k v) t = segment_agrees t
key_agrees (newtype name a) t = ap entry_segment (newtype_text t)
key_agrees (struct strictness name names row) t = segment_agrees t
key_agrees (enum name names held) t = ap entry_segment (enum_text t)

-- pairs are read alike where each step is
pairs_agree : {A : Type 0} (step : A → Source → Source → Outcome A) (tree_step : A → Node → Node → Outcome A) → ((made : A) (k v : Node) → step made (of_node k) (of_node v) ≡ tree_step made k v)
    → (made : A) (ts : Pairs) → each_entry step made (of_pairs ts) ≡ each_pair tree_step made (pairs_in ts)
pairs_agree step tree_step same made no_pairs = refl
pairs_agree step tree_step same made (pair k v ts) =
    rw (same made k v) (ap (and_then (tree_step made k v)) (λ i next. pairs_agree step tree_step same next ts i))

at_pair_agrees : {A : Type 0} (segment : Segment) (o : Outcome A) → at_key segment o ≡ at_pair segment o
at_pair_agrees segment (given a) = refl
at_pair_agrees segment (refused f path) = refl

put_pair_agrees : (segment : Segment) (key value : Outcome Data) (ps : List (Data × Data))
    → and_then (pair_of segment key value) (λ p. given (put data_order p.0 p.1 ps)) ≡ and_then (at_pair segment key) (λ d. and_then (under segment value) (λ w. given (put data_order d w ps)))
put_pair_agrees segment (refused f path) value ps = refl
put_pair_agrees segment (given d) (refused f path) ps = refl
put_pair_agrees segment (given d) (given w) ps = refl

pair_agrees : (a : Ask) (at : Node → Segment) (key value : Source → Outcome Data) (tree_key tree_value : Node → Outcome Data)
    → ((t : Node) → segment_of_key a (of_node t) ≡ at t) → ((t : Node) → key (of_node t) ≡ tree_key t) → ((t : Node) → value (of_node t) ≡ tree_value t)
    → (ps : List (Data × Data)) (k v : Node) → pair_step a key value ps (of_node k) (of_node v) ≡ put_pair at tree_key tree_value ps k v
pair_agrees a at key value tree_key tree_value same keys values ps k v = rw (same k, keys k, values v) (put_pair_agrees (at k) (tree_key k) (tree_value v) ps)

-- fields that are alike, over sources and over trees
abbrev AreAlike : List (Field Source) → List (NamedPart Node) → Type 0
AreAlike [] [] = Unit {0}
AreAlike [] (g ∷ gs) = ⊥
AreAlike (f ∷ fs) [] = ⊥
AreAlike (f ∷ fs) (g ∷ gs) = (f.name ≡ g.name) × (f.may_be_missing ≡ g.may_be_missing) × ((t : Node) → f.read (of_node t) ≡ g.read t) × AreAlike fs gs

place_alike : (x : List ℕ) (fs : List (Field Source)) (gs : List (NamedPart Node)) → AreAlike fs gs → place_of x fs ≡ part_named x gs
place_alike x [] [] h = refl
place_alike x [] (g ∷ gs) h = absurd h
place_alike x (f ∷ fs) [] h = absurd h
place_alike x (f ∷ fs) (g ∷ gs) h = rw (h.0, place_alike x fs gs h.3) refl

known_alike : (strict : Bool) (t : List ℕ) (p : Option ℕ) → known strict t p ≡ place_or_none strict t p
known_alike true t None = refl
known_alike false t None = refl
known_alike true t (Some i) = refl
known_alike false t (Some i) = refl

key_alike : (strict : Bool) (fs : List (Field Source)) (gs : List (NamedPart Node)) (k : Node) → AreAlike fs gs → place_of_key strict fs (offer_of (of_node k) identifier) ≡ field_by_key strict gs k
key_alike strict fs gs (node.character c) h =
    ap (known strict (encode_utf8 c)) (place_alike (encode_utf8 c) fs gs h) ∙ known_alike strict (encode_utf8 c) (part_named (encode_utf8 c) gs)
key_alike strict fs gs (node.string s) h = ap (known strict s) (place_alike s fs gs h) ∙ known_alike strict s (part_named s gs)
key_alike strict fs gs k h = refl

put_alike : (segment : Segment) (v : Node) (slots : List (Option Data)) (i : ℕ) (slot : Option (Option Data)) (fs : List (Field Source)) (gs : List (NamedPart Node)) (j : ℕ)
    → AreAlike fs gs → put_field segment (of_node v) slots i (slice_get fs j) slot ≡ put_slot segment v slots i (slice_get gs j) slot
put_alike segment v slots i slot [] [] j h = refl
put_alike segment v slots i slot [] (g ∷ gs) j h = absurd h
put_alike segment v slots i slot (f ∷ fs) [] j h = absurd h
put_alike segment v slots i None (f ∷ fs) (g ∷ gs) zero h = refl
put_alike segment v slots i (Some None) (f ∷ fs) (g ∷ gs) zero h = rw (h.2 v) refl
put_alike segment v slots i (Some (Some d)) (f ∷ fs) (g ∷ gs) zero h = rw (h.0) refl
put_alike segment v slots i slot (f ∷ fs) (g ∷ gs) (suc j) h = put_alike segment v slots i slot fs gs j h.3

value_alike : (segment : Segment) (v : Node) (slots : List (Option Data)) (fs : List (Field Source)) (gs : List (NamedPart Node)) (place : Option ℕ)
    → AreAlike fs gs → put_value ignored fs segment (of_node v) slots place ≡ put_at gs segment v slots place
value_alike segment v slots fs gs None h = rw (node_ignored v) refl
value_alike segment v slots fs gs (Some i) h = put_alike segment v slots i (slice_get slots i) fs gs i h

step_alike : (strict : Bool) (fs : List (Field Source)) (gs : List (NamedPart Node)) → AreAlike fs gs → (slots : List (Option Data)) (k v : Node)
    → field_step strict fs slots (of_node k) (of_node v) ≡ put_named text_at (field_by_key strict gs) gs slots k v
step_alike strict fs gs h slots k v =
    rw (segment_agrees k, key_alike strict fs gs k h, at_pair_agrees (text_at k) (field_by_key strict gs k))
    (ap (and_then (at_pair (text_at k) (field_by_key strict gs k))) (λ i place. value_alike (text_at k) v slots fs gs place h i))

filled_alike : (f : Field Source) (g : NamedPart Node) (slot : Option Data) → f.name ≡ g.name → f.may_be_missing ≡ g.may_be_missing → filled f slot ≡ slot_value g slot
filled_alike f g (Some d) n m = refl
filled_alike f g None n m = rw (n, m) refl

completed_alike : (fs : List (Field Source)) (gs : List (NamedPart Node)) (slots : List (Option Data)) → AreAlike fs gs → completed fs slots ≡ slot_values gs slots
completed_alike [] [] slots h = refl
completed_alike [] (g ∷ gs) slots h = absurd h
completed_alike (f ∷ fs) [] slots h = absurd h
completed_alike (f ∷ fs) (g ∷ gs) [] h = refl
completed_alike (f ∷ fs) (g ∷ gs) (slot ∷ slots) h = rw (filled_alike f g slot h.0 h.1, completed_alike fs gs slots h.3) refl

no_values_alike : (fs : List (Field Source)) (gs : List (NamedPart Node)) → AreAlike fs gs → no_values fs ≡ no_slots gs
no_values_alike [] [] h = refl
no_values_alike [] (g ∷ gs) h = absurd h
no_values_alike (f ∷ fs) [] h = absurd h
no_values_alike (f ∷ fs) (g ∷ gs) h = ap (λ slots. None ∷ slots) (no_values_alike fs gs h.3)

named_alike : (strict : Bool) (fs : List (Field Source)) (gs : List (NamedPart Node)) (ts : Pairs) → AreAlike fs gs → named strict fs (of_pairs ts) ≡ named_tree strict gs ts
named_alike strict fs gs ts h =
    let tree_step = put_named text_at (field_by_key strict gs) gs in
    rw (no_values_alike fs gs h, pairs_agree (field_step strict fs) tree_step (step_alike strict fs gs h) (no_slots gs) ts)
    (ap (and_then (each_pair tree_step (no_slots gs) (pairs_in ts))) (λ i slots. completed_alike fs gs slots h i))

-- variants that are alike, over sources and over trees
abbrev VariantsAlike : List (Variant (Wanted → Offer)) → List (NamedPayload (Option Node)) → Type 0
VariantsAlike [] [] = Unit {0}
VariantsAlike [] (w ∷ ws) = ⊥
VariantsAlike (v ∷ vs) [] = ⊥
VariantsAlike (v ∷ vs) (w ∷ ws) = (v.name ≡ w.name) × ((t : Option Node) → v.read (offered t) ≡ w.read t) × VariantsAlike vs ws

variant_places_alike : (vs : List (Variant (Wanted → Offer))) (ws : List (NamedPayload (Option Node))) → VariantsAlike vs ws → (t : List ℕ) → place_of_variant t vs ≡ payload_named t ws
variant_places_alike [] [] h t = refl
variant_places_alike [] (w ∷ ws) h t = absurd h
variant_places_alike (v ∷ vs) [] h t = absurd h
variant_places_alike (v ∷ vs) (w ∷ ws) h t = rw (h.0, variant_places_alike vs ws h.2 t) refl

known_variant_alike : (t : List ℕ) (p : Option ℕ) → known_variant t p ≡ variant_or_none t p
known_variant_alike t None = refl
known_variant_alike t (Some i) = refl

name_alike : (vs : List (Variant (Wanted → Offer))) (ws : List (NamedPayload (Option Node))) (k : Node) → VariantsAlike vs ws → variant_place vs (offer_of (of_node k) identifier) ≡ variant_by_key ws k
name_alike vs ws (node.character c) h =
    ap (known_variant (encode_utf8 c)) (variant_places_alike vs ws h (encode_utf8 c)) ∙ known_variant_alike (encode_utf8 c) (payload_named (encode_utf8 c) ws)
name_alike vs ws (node.string s) h = ap (known_variant s) (variant_places_alike vs ws h s) ∙ known_variant_alike s (payload_named s ws)
name_alike vs ws k h = refl

payload_alike : (segment : Segment) (there : Option Node) (place i : ℕ) (vs : List (Variant (Wanted → Offer))) (ws : List (NamedPayload (Option Node)))
    → VariantsAlike vs ws → at_variant segment (offered there) place (slice_get vs i) ≡ read_variant segment there place (slice_get ws i)
payload_alike segment there place i [] [] h = refl
payload_alike segment there place i [] (w ∷ ws) h = absurd h
payload_alike segment there place i (v ∷ vs) [] h = absurd h
payload_alike segment there place zero (v ∷ vs) (w ∷ ws) h = rw (h.1 there) refl
payload_alike segment there place (suc i) (v ∷ vs) (w ∷ ws) h = payload_alike segment there place i vs ws h.2

chosen_alike : (vs : List (Variant (Wanted → Offer))) (ws : List (NamedPayload (Option Node))) (k : Node) (there : Option Node)
    → VariantsAlike vs ws → and_then (bare (variant_place vs (offer_of (of_node k) identifier))) (with_payload vs (segment_of_variant identifier (of_node k)) (offered there)) ≡ chosen_by ws k there
chosen_alike vs ws k there h =
    rw (ap variant_segment (text_agrees k) ∙ name_segment (text_in k), name_alike vs ws k h)
    (ap (and_then (bare (variant_by_key ws k))) (λ i place. payload_alike (enum_segment (text_in k)) there place place vs ws h i))

enum_agrees : (vs : List (Variant (Wanted → Offer))) (ws : List (NamedPayload (Option Node))) → VariantsAlike vs ws → (t : Node) → enum_of vs (resolved (of_node t) (chosen t)) ≡ in_enum ws t
enum_agrees vs ws h (node.string s) = chosen_alike vs ws (node.string s) None h
enum_agrees vs ws h (node.map (pair k v no_pairs)) = chosen_alike vs ws k (Some v) h
enum_agrees vs ws h t = refl

optional_agrees : (a : Shape) → is_option a ≡ is_optional a
optional_agrees (scalar a) = refl
optional_agrees (option a) = refl
optional_agrees (seq a) = refl
optional_agrees (tuple exactness name row) = refl
optional_agrees (map k v) = refl
optional_agrees (newtype name a) = refl
optional_agrees (struct strictness name names row) = refl
optional_agrees (enum name names held) = refl

mutual
  pub first_agrees : (a : Shape) (t : Node) → first a (of_node t) ≡ first_tree a t
  first_agrees (scalar a) t = scalar_agrees a t
  first_agrees (option a) t = option_agrees (first a) t ∙ (λ i. in_option (λ s. first_agrees a s i) t)
  first_agrees (seq a) t = (agrees t).sequences (first a) ∙ (λ i. in_seq (λ ts. each_agrees (first a) (first_tree a) (first_agrees a) 0 ts i) t)
  first_agrees (tuple exactness None row) t = (agrees t).tuples (is_whole exactness) (readers row) ∙ (λ i. in_seq (λ ts. row_agrees (is_whole exactness) row 0 ts i) t)
  first_agrees (tuple exactness (Some name) row) t = (agrees t).tuples (is_whole exactness) (readers row) ∙ (λ i. in_seq (λ ts. row_agrees (is_whole exactness) row 0 ts i) t)
  first_agrees (map k v) t =
      let same = pair_agrees (asks k) (key_at k) (first k) (first v) (first_tree k) (first_tree v) (key_agrees k) (first_agrees k) (first_agrees v) in
      (agrees t).maps (asks k) (first k) (first v) ∙ (λ i. in_map (λ ts. pairs_agree (pair_step (asks k) (first k) (first v)) (put_pair (key_at k) (first_tree k) (first_tree v)) same [] ts i) t)
  first_agrees (newtype name a) t = newtype_agrees (first a) t ∙ ap (λ o. and_then o (λ d. given (newtype_data d))) (first_agrees a (held_in t))
  first_agrees (struct strictness name names row) t =
      let whole = is_whole (by_position strictness) in
      let strict = is_strict strictness in
      (agrees t).structs whole strict (fields_of names row (readers row)) (readers row)
      ∙ (λ i. in_struct (λ ts. row_agrees whole row 0 ts i) (λ ts. named_alike strict (fields_of names row (readers row)) (named_parts names row (tree_readers row)) ts (fields_alike names row) i) t)
  first_agrees (enum name names held) t =
      enum_agrees (variants_of names (payload_readers held)) (named_payloads names (payload_tree_readers held)) (variants_alike names held) t

  fields_alike : (names : List (List ℕ)) (row : Shapes) → AreAlike (fields_of names row (readers row)) (named_parts names row (tree_readers row))
  fields_alike [] row = tt
  fields_alike (n ∷ names) no_shapes = tt
  fields_alike (n ∷ names) (shape a rest) = (refl, optional_agrees a, first_agrees a, fields_alike names rest)

  row_agrees : (whole : Bool) (row : Shapes) (i : ℕ) (ts : Nodes) → row_of (rest_of_row whole true) (readers row) i (of_nodes ts) ≡ row_of_parts whole (tree_readers row) i (elements_in ts)
  row_agrees whole no_shapes i ts = rest_agrees whole i ts
  row_agrees whole (shape a rest) i no_nodes = refl
  row_agrees whole (shape a rest) i (node.node t ts) = rw (first_agrees a t, row_agrees whole rest (i + 1) ts) refl

  variants_alike : (names : List (List ℕ)) (held : Payloads) → VariantsAlike (variants_of names (payload_readers held)) (named_payloads names (payload_tree_readers held))
  variants_alike [] held = tt
  variants_alike (n ∷ names) no_payloads = tt
  variants_alike (n ∷ names) (payload p rest) = (refl, payload_agrees p, variants_alike names rest)

  payload_agrees : (p : PayloadShape) (there : Option Node) → visited_payload p (offered there) ≡ payload_tree p there
  payload_agrees unit_variant None = refl
  payload_agrees unit_variant (Some t) = (agrees t).nothings
  payload_agrees (newtype_variant a) None = refl
  payload_agrees (newtype_variant a) (Some t) = (agrees t).insides (first a) ∙ ap (λ o. and_then o (λ d. given (newtype_payload d))) (first_agrees a t)
  payload_agrees (tuple_variant row) None = refl
  payload_agrees (tuple_variant row) (Some t) = (agrees t).tuple_payloads (readers row) (number_of row) ∙ (λ i. tuple_payload_in (λ ts. row_agrees true row 0 ts i) (Some t))
  payload_agrees (struct_variant strictness names row) None = refl
  payload_agrees (struct_variant strictness names row) (Some t) =
      let strict = is_strict strictness in
      (agrees t).struct_payloads strict (fields_of names row (readers row)) names
      ∙ (λ i. struct_payload_in (λ ts. named_alike strict (fields_of names row (readers row)) (named_parts names row (tree_readers row)) ts (fields_alike names row) i) (Some t))
