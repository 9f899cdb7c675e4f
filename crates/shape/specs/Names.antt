-- Names beside what they name: the fields of a struct, the variants of an enum.
use Rattle.std.specs.Prelude.{ℕ, suc, List, [], ◌∷◌, map, Option, Some, None, option_map, if◌then◌else◌, bytes_eq}

-- each name with what stands at its place, as it is seen
abbrev pub paired : {A B : Type 0} → (A → B) → List (List ℕ) → List A → List (List ℕ × B)
paired view (n ∷ names) (a ∷ rest) = (n, view a) ∷ paired view names rest
paired view names rest = []

-- the first place of a name
abbrev pub place_in : List ℕ → List (List ℕ) → Option ℕ
place_in t [] = None
place_in t (n ∷ names) = if bytes_eq n t then Some 0 else option_map suc (place_in t names)

-- the first place of a name among names with what they name
abbrev pub place_of_name : {A : Type 0} → List ℕ → List (List ℕ × A) → Option ℕ
place_of_name t all = place_in t (map (λ p. p.0) all)
