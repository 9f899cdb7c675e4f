-- How an error at a path is shown.
use Rattle.std.specs.Prelude.{ℕ, List, [], ◌∷◌, Bool, true, false, Option, Some, codes, if◌then◌else◌}
use Rattle.std.specs.Fmt.{◌++?◌}
use Rattle.data_core.specs.PathText.{path_text}
use Rattle.data_core.specs.declared.path.Segment.{Segment}
use Rattle.data_core.specs.declared.path.Segment.TheVariants.{Unknown}

-- some segment is known
abbrev pub has_place : List Segment → Bool
has_place [] = false
has_place (Unknown ∷ rest) = has_place rest
has_place (known ∷ rest) = true

-- the path before a text, where it says a place
abbrev pub with_place : List Segment → Option (List ℕ) → Option (List ℕ)
with_place path text = if has_place path then Some (path_text path) ++? Some (codes ": ") ++? text else text
