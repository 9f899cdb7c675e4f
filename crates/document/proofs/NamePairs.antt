-- A name and what it names, in an array of the two.
use Rattle.std.proofs.Common.{◌≡◌, ℕ, ◌<◌, List, [], ◌∷◌, length, get_or, Option, Some, None, option_map, option_and_then, unwrap_or, refl, ap, arith}
use Rattle.serde_json.specs.Data as json
use Rattle.serde_json.specs.Data.{Data, array, no_items, item, depth}
use Rattle.serde_json.specs.View.{view, items_view}
use Rattle.serde_json.specs.declared.value.Value.{Value}
use Rattle.shape.specs.Shape.{Shape, PayloadShape}
use Rattle.document.specs.declared.version.Version.{Version}
use Rattle.document.specs.Words.{NamedShapes, together, name_in, named_in, shape_of, row_in, named_row_in, named_shape_in, named_fields_in, fields_in, NamedPayloads, variants_in, named_variants_in, variant_in, payload_in}

pub named-two : (xs : List Value) (a b : Value) → length xs ≡ 2 → named_in (array (items_view xs)) ≡ option_map (λ name. (name, view (get_or xs 1 b))) (name_in (view (get_or xs 0 a)))
named-two [] a b two = absurd (omega arith)
named-two (x ∷ []) a b two = absurd (omega arith)
named-two (x ∷ y ∷ []) a b two = refl
named-two (x ∷ y ∷ z ∷ rest) a b two = absurd (omega arith)

pub named-other : (xs : List Value) → (length xs ≡ 2 → ⊥) → named_in (array (items_view xs)) ≡ None
named-other [] h = refl
named-other (x ∷ []) h = refl
named-other (x ∷ y ∷ []) h = absurd (h refl)
named-other (x ∷ y ∷ z ∷ rest) h = refl

pub ruleset names = (named-two, named-other)

abbrev with_value : {A : Type 0} → A → List ℕ → List ℕ × A
with_value a name = (name, a)

-- the row that is named, by the name and what it names
abbrev pub row_under : Version → List ℕ × Data → Option (List ℕ × List Shape)
row_under v n = option_map (λ row. with_value row n.0) (row_in v n.1)

named_row_by : (v : Version) (d : Data) (o : Option (List ℕ))
    → option_and_then (λ name. option_map (λ row. with_value row name) (row_in v d)) o ≡ option_and_then (row_under v) (option_map (with_value d) o)
named_row_by v d None = refl
named_row_by v d (Some name) = refl

-- a named row, by the name and what it names
pub named_row-by_name : (v : Version) (d : Data) → named_row_in v d ≡ option_and_then (row_under v) (named_in d)
named_row-by_name v json.null = refl
named_row-by_name v (json.boolean b) = refl
named_row-by_name v (json.number n) = refl
named_row-by_name v (json.string t) = refl
named_row-by_name v (json.array no_items) = refl
named_row-by_name v (json.array (item n no_items)) = refl
named_row-by_name v (json.array (item n (item d no_items))) = named_row_by v d (name_in n)
named_row-by_name v (json.array (item n (item d (item e ds)))) = refl
named_row-by_name v (json.object ms) = refl

depth_by : (n d : Data) (o : Option (List ℕ)) (name : List ℕ) (e : Data) → option_map (with_value d) o ≡ Some (name, e) → depth e < depth (array (item n (item d no_items)))
depth_by n d None name e h = cc
depth_by n d (Some t) name e h =
    let same : d ≡ e = ap (λ (r : Option (List ℕ × Data)). (unwrap_or r (t, d)).1) h in rw same omega arith

-- what is named nests less deep than the array
pub depth-named : (d : Data) (name : List ℕ) (e : Data) → named_in d ≡ Some (name, e) → depth e < depth d
depth-named json.null name e h = cc
depth-named (json.boolean b) name e h = cc
depth-named (json.number n) name e h = cc
depth-named (json.string t) name e h = cc
depth-named (json.array no_items) name e h = cc
depth-named (json.array (item n no_items)) name e h = cc
depth-named (json.array (item n (item d no_items))) name e h = depth_by n d (name_in n) name e h
depth-named (json.array (item n (item d (item f ds)))) name e h = cc
depth-named (json.object ms) name e h = cc

pub ruleset rows = (named_row-by_name, depth-named)

together_of : {A : Type 0} (name : List ℕ) (o : Option A) → together (Some name) o ≡ option_map (λ a. with_value a name) o
together_of name None = refl
together_of name (Some a) = refl

abbrev pub shape_under : Version → List ℕ × Data → Option (List ℕ × Shape)
shape_under v n = option_map (λ a. with_value a n.0) (shape_of v n.1)

named_shape_by : (v : Version) (d : Data) (o : Option (List ℕ)) → together o (shape_of v d) ≡ option_and_then (shape_under v) (option_map (with_value d) o)
named_shape_by v d None = refl
named_shape_by v d (Some name) = together_of name (shape_of v d)

-- a named shape, and named fields, by the name and what it names
pub named_shape-by_name : (v : Version) (d : Data) → named_shape_in v d ≡ option_and_then (shape_under v) (named_in d)
named_shape-by_name v json.null = refl
named_shape-by_name v (json.boolean b) = refl
named_shape-by_name v (json.number n) = refl
named_shape-by_name v (json.string t) = refl
named_shape-by_name v (json.array no_items) = refl
named_shape-by_name v (json.array (item n no_items)) = refl
named_shape-by_name v (json.array (item n (item d no_items))) = named_shape_by v d (name_in n)
named_shape-by_name v (json.array (item n (item d (item e ds)))) = refl
named_shape-by_name v (json.object ms) = refl

abbrev pub fields_under : Version → List ℕ × Data → Option (List ℕ × NamedShapes)
fields_under v n = option_map (λ a. with_value a n.0) (fields_in v n.1)

named_fields_by : (v : Version) (d : Data) (o : Option (List ℕ)) → together o (fields_in v d) ≡ option_and_then (fields_under v) (option_map (with_value d) o)
named_fields_by v d None = refl
named_fields_by v d (Some name) = together_of name (fields_in v d)

pub named_fields-by_name : (v : Version) (d : Data) → named_fields_in v d ≡ option_and_then (fields_under v) (named_in d)
named_fields-by_name v json.null = refl
named_fields-by_name v (json.boolean b) = refl
named_fields-by_name v (json.number n) = refl
named_fields-by_name v (json.string t) = refl
named_fields-by_name v (json.array no_items) = refl
named_fields-by_name v (json.array (item n no_items)) = refl
named_fields-by_name v (json.array (item n (item d no_items))) = named_fields_by v d (name_in n)
named_fields-by_name v (json.array (item n (item d (item e ds)))) = refl
named_fields-by_name v (json.object ms) = refl

abbrev pub variants_under : Version → List ℕ × Data → Option (List ℕ × NamedPayloads)
variants_under v n = option_map (λ a. with_value a n.0) (variants_in v n.1)

named_variants_by : (v : Version) (d : Data) (o : Option (List ℕ)) → together o (variants_in v d) ≡ option_and_then (variants_under v) (option_map (with_value d) o)
named_variants_by v d None = refl
named_variants_by v d (Some name) = together_of name (variants_in v d)

-- named variants, and a variant's payload, by the name and what it names
pub named_variants-by_name : (v : Version) (d : Data) → named_variants_in v d ≡ option_and_then (variants_under v) (named_in d)
named_variants-by_name v json.null = refl
named_variants-by_name v (json.boolean b) = refl
named_variants-by_name v (json.number n) = refl
named_variants-by_name v (json.string t) = refl
named_variants-by_name v (json.array no_items) = refl
named_variants-by_name v (json.array (item n no_items)) = refl
named_variants-by_name v (json.array (item n (item d no_items))) = named_variants_by v d (name_in n)
named_variants-by_name v (json.array (item n (item d (item e ds)))) = refl
named_variants-by_name v (json.object ms) = refl

abbrev pub payload_under : Version → List ℕ × Data → Option (List ℕ × PayloadShape)
payload_under v n = option_map (λ a. with_value a n.0) (payload_in v n.1)

variant_by : (v : Version) (d : Data) (o : Option (List ℕ)) → together o (payload_in v d) ≡ option_and_then (payload_under v) (option_map (with_value d) o)
variant_by v d None = refl
variant_by v d (Some name) = together_of name (payload_in v d)

pub variant-by_name : (v : Version) (d : Data) → variant_in v d ≡ option_and_then (payload_under v) (named_in d)
variant-by_name v json.null = refl
variant-by_name v (json.boolean b) = refl
variant-by_name v (json.number n) = refl
variant-by_name v (json.string t) = refl
variant-by_name v (json.array no_items) = refl
variant-by_name v (json.array (item n no_items)) = refl
variant-by_name v (json.array (item n (item d no_items))) = variant_by v d (name_in n)
variant-by_name v (json.array (item n (item d (item e ds)))) = refl
variant-by_name v (json.object ms) = refl

pub ruleset variants = (named_variants-by_name, depth-named)

pub ruleset payloads = (variant-by_name, depth-named)

pub ruleset shapes = (named_shape-by_name, depth-named)

pub ruleset structs = (named_fields-by_name, depth-named)
