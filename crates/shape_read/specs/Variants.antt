-- The variants of an enum, over sources or over trees: what a payload is read from is left open.
use Rattle.std.specs.Prelude.{ℕ, List, [], ◌∷◌, map, slice_get, Option, Some, None, encode_utf8}
use Rattle.data_core.specs.declared.fault.Fault.TheVariants.{Custom, UnknownVariant}
use Rattle.data_core.specs.declared.path.Segment.{Segment}
use Rattle.data_core.specs.Source.{Offer, scalar}
use Rattle.data_core.specs.Source as offer
use Rattle.data_core.specs.Outcome.{Outcome, given, refused, under, and_then, not_taken}
use Rattle.shape.specs.Shape.{Data, enum_data, PayloadData}
use Rattle.shape.specs.Names.{place_in}

-- a variant: its name, and what its payload is read as
pub record Variant (P : Type 0) : Type 0 where
  pub name : List ℕ
  pub read : P → Outcome PayloadData

-- each name with the reader at its place
abbrev pub variants_of : {P : Type 0} → List (List ℕ) → List (P → Outcome PayloadData) → List (Variant P)
variants_of (n ∷ names) (read ∷ reads) = record { name = n; read = read } ∷ variants_of names reads
variants_of names reads = []

-- the place of the first variant of a name
abbrev pub place_of_variant : {P : Type 0} → List ℕ → List (Variant P) → Option ℕ
place_of_variant t variants = place_in t (map (λ v. v.name) variants)

-- a name that is none of the variants' is refused
abbrev pub known_variant : List ℕ → Option ℕ → Outcome ℕ
known_variant t None = refused (UnknownVariant t) []
known_variant t (Some i) = given i

-- the place of the variant that a name names: by its text, or by its character's text
abbrev pub variant_place : {P : Type 0} → List (Variant P) → Offer → Outcome ℕ
variant_place variants (scalar (offer.text t)) = known_variant t (place_of_variant t variants)
variant_place variants (scalar (offer.character c)) = known_variant (encode_utf8 c) (place_of_variant (encode_utf8 c) variants)
variant_place variants o = not_taken o

-- a variant by its number and its payload, at the payload's segment; a number that is none of the variants'
-- never comes
abbrev pub at_variant : {P : Type 0} → Segment → P → ℕ → Option (Variant P) → Outcome Data
at_variant segment p i (Some v) = and_then (under segment (v.read p)) (λ d. given (enum_data i d))
at_variant segment p i None = refused Custom []

abbrev pub with_payload : {P : Type 0} → List (Variant P) → Segment → P → ℕ → Outcome Data
with_payload variants segment p i = at_variant segment p i (slice_get variants i)
