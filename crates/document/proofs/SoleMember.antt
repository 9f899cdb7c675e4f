-- A map of one entry is an object of one member.
use Rattle.std.proofs.Common.{◌≡◌, ℕ, List, [], ◌∷◌, length, Option, Some, None, option_map, unwrap_or, ◌<◌, String, Global, string_bytes, IsSome, slice_get, Bor, refl, ap, arith, true, false}
use Rattle.std.specs.Option.{IfSome}
use Rattle.serde_json.specs.declared.value.Value.{Value}
use Rattle.serde_json.specs.Data.{Data, object, Members, no_members, member, depth}
use Rattle.serde_json.specs.View.{view, members_view}
use Rattle.document.specs.declared.version.Version.{Version}
use Rattle.document.specs.Words.{sole, shape_of, row_in, fields_in, under_in, tagged_shape, payload_in, tagged_payload, tree_of, trees_in, entries_in, tagged_tree}

abbrev Entry : Type 0
Entry = String Global × Value

pub sole-other : (es : List Entry) → (length es ≡ 1 → ⊥) → sole (members_view es) ≡ None
sole-other [] h = refl
sole-other (e ∷ []) h = absurd (h refl)
sole-other (e ∷ f ∷ es) h = refl

abbrev named : Bor (String Global) × Bor Value → List ℕ × Data
named m = (string_bytes m.0.now, view m.1.now)

pub sole-first : (es : List Entry) (r : Option (Bor (String Global) × Bor Value)) → length es ≡ 1 → IsSome r → IfSome r (λ p. slice_get es 0 ≡ Some (p.0.now, p.1.now))
    → option_map named r ≡ sole (members_view es)
sole-first [] r one some h = absurd (omega arith)
sole-first (e ∷ []) None one some h = let wrong : false ≡ true = some in cc
sole-first (e ∷ []) (Some p) one some h =
    let same : ◌≡◌ {A = Entry} (p.0.now, p.1.now) e = cc in
    ap (λ (m : Entry). Some (string_bytes m.0, view m.1)) same
sole-first (e ∷ f ∷ es) r one some h = absurd (omega arith)

-- an only member is all there is
sole-alone : (ms : Members) (tag : List ℕ) (d : Data) → sole ms ≡ Some (tag, d) → ms ≡ member tag d no_members
sole-alone no_members tag d e = cc
sole-alone (member name f no_members) tag d e =
    let same : ◌≡◌ {A = List ℕ × Data} (name, f) (tag, d) = ap (λ (o : Option (List ℕ × Data)). unwrap_or o (name, f)) e in
    ap (λ (m : List ℕ × Data). member m.0 m.1 no_members) same
sole-alone (member name f (member other g ms)) tag d e = cc

-- the word of an only member, and of none
pub shape_of-sole : (v : Version) (ms : Members) (tag : List ℕ) (d : Data) → sole ms ≡ Some (tag, d) → shape_of v (object ms) ≡ tagged_shape v tag d (under_in v d)
shape_of-sole v ms tag d e = rw (sole-alone ms tag d e) refl

pub shape_of-none : (v : Version) (ms : Members) → sole ms ≡ None → shape_of v (object ms) ≡ None
shape_of-none v no_members e = refl
shape_of-none v (member name f no_members) e = cc
shape_of-none v (member name f (member other g ms)) e = refl

pub payload_in-sole : (v : Version) (ms : Members) (tag : List ℕ) (d : Data) → sole ms ≡ Some (tag, d) → payload_in v (object ms) ≡ tagged_payload v tag (shape_of v d) (row_in v d) (fields_in v d)
payload_in-sole v ms tag d e = rw (sole-alone ms tag d e) refl

pub payload_in-none : (v : Version) (ms : Members) → sole ms ≡ None → payload_in v (object ms) ≡ None
payload_in-none v no_members e = refl
payload_in-none v (member name f no_members) e = cc
payload_in-none v (member name f (member other g ms)) e = refl

pub tree_of-sole : (ms : Members) (tag : List ℕ) (d : Data) → sole ms ≡ Some (tag, d) → tree_of (object ms) ≡ tagged_tree tag d (tree_of d) (trees_in d) (entries_in d)
tree_of-sole ms tag d e = rw (sole-alone ms tag d e) refl

pub tree_of-none : (ms : Members) → sole ms ≡ None → tree_of (object ms) ≡ None
tree_of-none no_members e = refl
tree_of-none (member name f no_members) e = cc
tree_of-none (member name f (member other g ms)) e = refl

-- an only member nests less deep than its object
pub depth-sole : (ms : Members) (tag : List ℕ) (d : Data) → sole ms ≡ Some (tag, d) → depth d < depth (object ms)
depth-sole ms tag d e = rw (sole-alone ms tag d e) omega arith

pub ruleset soles = (shape_of-sole, shape_of-none, payload_in-sole, payload_in-none, tree_of-sole, tree_of-none, depth-sole)
