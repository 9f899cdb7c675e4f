-- A variant under way is what is offered for its payload.
use Rattle.std.specs.Prelude.{ℕ, ◌≡◌, List, [], Option, Some, None}
use Rattle.data_core.specs.declared.fault.Fault.TheVariants.{Custom}
use Rattle.data_core.specs.declared.path.Segment.{Segment}
use Rattle.data_core.specs.declared.path.Segment.TheVariants.{Enum, Unknown}
use Rattle.data_core.specs.Ask.{Ask}
use Rattle.data_core.specs.Outcome.{Outcome, given, refused}
use Rattle.data_core.specs.Wanted.{Wanted}
use Rattle.data_core.specs.Source.{Source, Offer, scalar, newtype_struct, offer_of}
use Rattle.data_core.specs.Source as offer
use Rattle.data_core.specs.Table.{offer_text}
use Rattle.data_core.specs.Tracking.{Refusal}

-- what is offered once the payload was taken
abbrev pub spent : Wanted → Offer
spent wants = offer.refused Custom

-- the segment of a payload whose variant's name was caught as this text
abbrev pub variant_segment : Option (List ℕ) → Segment
variant_segment None = Unknown
variant_segment (Some t) = Enum t

-- the segment of a payload whose variant's name is read by this ask
abbrev pub segment_of_variant : Ask → Source → Segment
segment_of_variant a name = variant_segment (offer_text (offer_of name a))

-- the outcomes of a variant's name: its refusal is that of the enum itself
abbrev pub IsName : {A : Type 0} → (Source → Outcome A → Type 0) → Source → Outcome A → Type 0
IsName reads name (given a) = reads name (given a)
IsName reads name (refused f path) = (inner : List Segment) × reads name (refused f inner) × (path ≡ [])

-- a payload that is not there is accepted
abbrev pub IsNothing : Offer → Outcome (Unit {0}) → Type 0
IsNothing (scalar offer.unit) outcome = outcome ≡ given tt
IsNothing (offer.refused f) outcome = outcome ≡ refused f []
IsNothing offered outcome = ⊥

-- the outcomes of a newtype's payload are those of its inside
abbrev pub IsInside : {A : Type 0} → (Source → Outcome A → Type 0) → Offer → Outcome A → Type 0
IsInside reads (newtype_struct inside) outcome = reads inside outcome
IsInside reads (offer.refused f) outcome = outcome ≡ refused f []
IsInside reads offered outcome = ⊥

-- what the read of a newtype's payload leaves of a clear track is what the read of its inside does
abbrev pub LeavesInside : (Source → Refusal → Type 0) → Offer → Refusal → Type 0
LeavesInside leaves (newtype_struct inside) now = leaves inside now
LeavesInside leaves offered now = ⊥
