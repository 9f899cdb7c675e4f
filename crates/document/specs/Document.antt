-- The document of a stream: a shape and an input.
use Rattle.std.specs.Prelude.{ℕ, List, ◌&&◌, ◌||◌, ◌==◌, Bool, true, false, if◌then◌else◌, Option, Some, None, option_map, option_and_then, codes}
use Rattle.std.specs.Str.{bytes_eq, is_utf8}
use Rattle.serde_json.specs.Data as json
use Rattle.serde_json.specs.Data.{Data, Members, no_members, member}
use Rattle.serde_json.specs.Find.{get}
use Rattle.serde_json.specs.Read.{read}
use Rattle.shape.specs.Shape.{Shape}
use Rattle.shape.specs.View.{shape_view}
use Rattle.document.specs.Input.{Input, tree, input_view}
use Rattle.document.specs.Words.{shape_of, meant, tree_of}
use Rattle.document.specs.declared.version.Version.{Version}
use Rattle.document.specs.declared.version.Version.TheVariants.{First, Second}
use Rattle.document.specs.declared.parser.Document as code

pub record Document : Type 0 where
  pub shape : Shape
  pub input : Input

abbrev pub document_view : code.Document → Document
document_view d = record { shape = shape_view d.shape; input = input_view d.input }

abbrev pub is_known : List ℕ → Bool
is_known name = bytes_eq name (codes "shape") || bytes_eq name (codes "kind") || bytes_eq name (codes "input") || bytes_eq name (codes "v")

-- an object has no other members than these
abbrev pub all_known : Members → Bool
all_known no_members = true
all_known (member name d ms) = is_known name && all_known ms

abbrev pub has_known : Data → Bool
has_known (json.object ms) = all_known ms
has_known d = false

-- the version is 1 or 2, and 1 where none is given
abbrev pub version_of : Option Data → Option Version
version_of None = Some First
version_of (Some (json.number (json.unsigned n))) = if n == 1 then Some First else (if n == 2 then Some Second else None)
version_of (Some d) = None

-- the input is a tree
abbrev pub is_tree : Option Data → Bool
is_tree (Some (json.string word)) = bytes_eq word (codes "tree")
is_tree d = false

-- the members that are known by name, and the kind of the input
abbrev pub is_framed : Data → Bool
is_framed d = has_known d && is_tree (get (codes "kind") d)

-- the shape that is meant in a document of this version
abbrev pub shape_in : Version → Data → Option Shape
shape_in v d = option_map (meant v) (option_and_then (shape_of v) (get (codes "shape") d))

-- a shape and a tree, where both are there
abbrev pub both : Option Shape → Option Input → Option Document
both s i = option_and_then (λ shape. option_map (λ input. record { shape = shape; input = input }) i) s

abbrev pub document_in : Data → Option Document
document_in d =
    if is_framed d
    then option_and_then (λ v. both (shape_in v d) (option_and_then (λ t. option_map tree (tree_of t)) (get (codes "input") d))) (version_of (get (codes "v") d))
    else None

-- the document that the bytes are, if they are one
abbrev pub document : List ℕ → Option Document
document bytes = if is_utf8 bytes then option_and_then document_in (read bytes) else None
