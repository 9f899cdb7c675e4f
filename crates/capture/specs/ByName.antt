-- A struct that was read by name, as its pairs alone say it.
use Rattle.std.specs.Prelude.{ℕ, zero, suc, ◌≡◌, ◌↔◌, Bool, true, false, List, [], ◌∷◌, Option, Some, None, if◌then◌else◌, encode_utf8}
use Rattle.data_core.specs.Node.{Node, Pairs, no_pairs, pair}
use Rattle.data_core.specs.Node as node
use Rattle.data_core.specs.Outcome.{given}
use Rattle.shape.specs.Names.{place_in}
use Rattle.shape.specs.Shape as spec
use Rattle.shape.specs.Shape.{Strictness, exact, strict, loose, Shape, option, Shapes, no_shapes, shape, Data, nothing, struct_data, parts_of}
use Rattle.document.specs.Input.{Input, tree}
use Rattle.capture.specs.FirstTree.{first_tree}

-- the names that have shapes at their places
abbrev pub names_in : List (List ℕ) → Shapes → List (List ℕ)
names_in (n ∷ names) (shape a rest) = n ∷ names_in names rest
names_in names row = []

-- the place of the name that a key is: a text, or the text of a character
abbrev pub place_named : List (List ℕ) → Node → Option ℕ
place_named names (node.string t) = place_in t names
place_named names (node.character c) = place_in (encode_utf8 c) names
place_named names k = None

-- a key that is a name: a text or a character
abbrev pub IsName : Node → Type 0
IsName (node.string t) = Unit {0}
IsName (node.character c) = Unit {0}
IsName k = ⊥

abbrev pub IsNameOf : List (List ℕ) → Node → Type 0
IsNameOf names k = (i : ℕ) × (place_named names k ≡ Some i)

-- a key that a struct takes: the name of a field, and of a loose struct any name
abbrev pub TakesKey : Strictness → List (List ℕ) → Node → Type 0
TakesKey exact names k = IsNameOf names k
TakesKey strict names k = IsNameOf names k
TakesKey loose names k = IsName k

abbrev pub AllKeys : (Node → Type 0) → Pairs → Type 0
AllKeys takes no_pairs = Unit {0}
AllKeys takes (pair k v ts) = takes k × AllKeys takes ts

abbrev pub same_place : ℕ → ℕ → Bool
same_place zero zero = true
same_place zero (suc j) = false
same_place (suc i) zero = false
same_place (suc i) (suc j) = same_place i j

-- a value more at a place
abbrev pub with_value : Option ℕ → Node → (ℕ → List Node) → ℕ → List Node
with_value None v at j = at j
with_value (Some i) v at j = if same_place i j then v ∷ at j else at j

-- the values of the pairs whose key is the name at a place
abbrev pub values_named : List (List ℕ) → Pairs → ℕ → List Node
values_named names no_pairs j = []
values_named names (pair k v ts) j = with_value (place_named names k) v (values_named names ts) j

-- a field whose name stands in no pair is nothing, and its shape an option; else one pair has it, whose value it is
abbrev pub IsFieldOf : Shape → List Node → Data → Type 0
IsFieldOf a [] d = ((b : Shape) × (a ≡ option b)) × (d ≡ nothing)
IsFieldOf a (v ∷ []) d = first_tree a v ≡ given d
IsFieldOf a (v ∷ w ∷ vs) d = ⊥

abbrev pub AreFieldsOf : (ℕ → List Node) → List (List ℕ) → Shapes → List Data → Type 0
AreFieldsOf at (n ∷ names) (shape a rest) (d ∷ ds) = IsFieldOf a (at 0) d × AreFieldsOf (λ j. at (suc j)) names rest ds
AreFieldsOf at (n ∷ names) (shape a rest) [] = ⊥
AreFieldsOf at names row ds = ds ≡ []

-- each key is taken, and each field has the value of the one pair that has its name
abbrev pub IsByName : Strictness → List (List ℕ) → Shapes → Pairs → Data → Type 0
IsByName s names row ts d =
    (ds : List Data) × (d ≡ struct_data (parts_of ds)) × AllKeys (TakesKey s (names_in names row)) ts
    × AreFieldsOf (values_named (names_in names row) ts) names row ds

-- of a struct and of a map, the values are those that its pairs name
abbrev pub ReadsByName : Shape → Input → (Data → Type 0) → Type 0
ReadsByName (spec.struct s name names row) (tree (node.map ts)) IsValue = (d : Data) → IsValue d ↔ IsByName s names row ts d
ReadsByName a i IsValue = Unit {0}
