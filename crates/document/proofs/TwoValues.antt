-- Two values in an array.
use Rattle.std.proofs.Common.{◌≡◌, ◌<◌, List, [], ◌∷◌, length, get_or, Option, Some, None, option_and_then, unwrap_or, refl, ap, arith}
use Rattle.serde_json.specs.Data as json
use Rattle.serde_json.specs.Data.{Data, array, no_items, item, depth}
use Rattle.serde_json.specs.View.{view, items_view}
use Rattle.serde_json.specs.declared.value.Value.{Value}
use Rattle.data_core.specs.Node.{Node}
use Rattle.shape.specs.Shape.{Shape}
use Rattle.document.specs.declared.version.Version.{Version}
use Rattle.document.specs.Words.{two_in, together, shape_of, shapes_in, tree_of, entry_in}

abbrev both : Data → Data → Data × Data
both a b = (a, b)

pub two-at : (xs : List Value) (a b : Value) → length xs ≡ 2 → two_in (array (items_view xs)) ≡ Some (both (view (get_or xs 0 a)) (view (get_or xs 1 b)))
two-at [] a b two = absurd (omega arith)
two-at (x ∷ []) a b two = absurd (omega arith)
two-at (x ∷ y ∷ []) a b two = refl
two-at (x ∷ y ∷ z ∷ rest) a b two = absurd (omega arith)

pub two-other : (xs : List Value) → (length xs ≡ 2 → ⊥) → two_in (array (items_view xs)) ≡ None
two-other [] h = refl
two-other (x ∷ []) h = refl
two-other (x ∷ y ∷ []) h = absurd (h refl)
two-other (x ∷ y ∷ z ∷ rest) h = refl

pub ruleset twos = (two-at, two-other)

-- two values nest less deep than their array
depths-two : (d a b : Data) → two_in d ≡ Some (both a b) → (depth a < depth d) × (depth b < depth d)
depths-two json.null a b h = cc
depths-two (json.boolean x) a b h = cc
depths-two (json.number n) a b h = cc
depths-two (json.string t) a b h = cc
depths-two (json.array no_items) a b h = cc
depths-two (json.array (item x no_items)) a b h = cc
depths-two (json.array (item x (item y no_items))) a b h =
    let same : both x y ≡ both a b = ap (λ (r : Option (Data × Data)). unwrap_or r (both x y)) h in
    let first : x ≡ a = ap (λ (p : Data × Data). p.0) same in
    let second : y ≡ b = ap (λ (p : Data × Data). p.1) same in
    rw (← first, ← second) (omega arith, omega arith)
depths-two (json.array (item x (item y (item z ds)))) a b h = cc
depths-two (json.object ms) a b h = cc

pub depth-first : (d a b : Data) → two_in d ≡ Some (both a b) → depth a < depth d
depth-first d a b h = (depths-two d a b h).0

pub depth-second : (d a b : Data) → two_in d ≡ Some (both a b) → depth b < depth d
depth-second d a b h = (depths-two d a b h).1

abbrev pub shapes_from : Version → Data × Data → Option (Shape × Shape)
shapes_from v p = together (shape_of v p.0) (shape_of v p.1)

pub shapes-by_two : (v : Version) (d : Data) → shapes_in v d ≡ option_and_then (shapes_from v) (two_in d)
shapes-by_two v json.null = refl
shapes-by_two v (json.boolean b) = refl
shapes-by_two v (json.number n) = refl
shapes-by_two v (json.string t) = refl
shapes-by_two v (json.array no_items) = refl
shapes-by_two v (json.array (item a no_items)) = refl
shapes-by_two v (json.array (item a (item b no_items))) = refl
shapes-by_two v (json.array (item a (item b (item c ds)))) = refl
shapes-by_two v (json.object ms) = refl

abbrev pub entry_from : Data × Data → Option (Node × Node)
entry_from p = together (tree_of p.0) (tree_of p.1)

pub entry-by_two : (d : Data) → entry_in d ≡ option_and_then entry_from (two_in d)
entry-by_two json.null = refl
entry-by_two (json.boolean b) = refl
entry-by_two (json.number n) = refl
entry-by_two (json.string t) = refl
entry-by_two (json.array no_items) = refl
entry-by_two (json.array (item a no_items)) = refl
entry-by_two (json.array (item a (item b no_items))) = refl
entry-by_two (json.array (item a (item b (item c ds)))) = refl
entry-by_two (json.object ms) = refl

pub ruleset shapes = (shapes-by_two, depth-first, depth-second)

pub ruleset trees = (entry-by_two, depth-first, depth-second)
