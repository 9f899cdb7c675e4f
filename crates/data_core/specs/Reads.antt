-- What a reader handed out, as the outcome that its row gives, and outcomes of readers in some steps.
use Rattle.std.specs.Prelude.{◌≡◌, ◌⊎◌, List, [], ◌∷◌}
use Rattle.data_core.specs.declared.fault.Fault.{Fault}
use Rattle.data_core.specs.declared.path.Segment.{Segment}
use Rattle.data_core.specs.Ask.{Ask}
use Rattle.data_core.specs.Source.{Source, Offer, offer_of}
use Rattle.data_core.specs.Source as offers
use Rattle.data_core.specs.Outcome.{Outcome, given, refused}
use Rattle.data_core.specs.Tracking.{Refusal}

-- what was handed out, seen through a view, is this outcome
abbrev pub IsOutcome : {A B : Type 0} → (B → A) → Outcome A → Outcome B → Type 0
IsOutcome view o (given b) = o ≡ given (view b)
IsOutcome view o (refused f path) = o ≡ refused f path

-- a refusal that was handed out is that one alone
pub only_refusal : {A B : Type 0} (view : B → A) (f : Fault) (o : Outcome B) → IsOutcome view (refused f []) o → o ≡ refused f []
only_refusal view f (given b) h = cc
only_refusal view f (refused g path) h = cc

-- the outcomes of a source, by what its reader asks and makes of an offer
abbrev pub ReadsFrom : {A : Type 0} → Ask → (Offer → Outcome A → Type 0) → Source → Outcome A → Type 0
ReadsFrom asks reads s = reads (offer_of s asks)

-- the outcomes of a key of the entry that this segment leads to, whose inner path is dropped
abbrev pub AtKey : {A : Type 0} → Segment → (Outcome A → Type 0) → Outcome A → Type 0
AtKey segment reads (given a) = reads (given a)
AtKey segment reads (refused f path) = (inner : List Segment) × reads (refused f inner) × (path ≡ segment ∷ [])

abbrev pub FailsAs : {A B : Type 0} → (Outcome A → Type 0) → Outcome B → Type 0
FailsAs first (given b) = ⊥
FailsAs first (refused f path) = first (refused f path)

-- the outcomes of a step, and of the next one, which goes on from what the first gave
abbrev pub AndThen : {A B : Type 0} → (Outcome A → Type 0) → (A → Outcome B → Type 0) → Outcome B → Type 0
AndThen {A} first next outcome = FailsAs first outcome ⊎ ((a : A) × first (given a) × next a outcome)

-- whatever the first leaves of a clear track, the second may leave
abbrev pub LeavesWithin : (Offer → Refusal → Type 0) → (Offer → Refusal → Type 0) → Type 0
LeavesWithin leaves all = (offer : Offer) (now : Refusal) → leaves offer now → all offer now

-- what is left of a clear track by a read from a source, by what its reader asks
abbrev pub LeavesFrom : Ask → (Offer → Refusal → Type 0) → Source → Refusal → Type 0
LeavesFrom asks leaves s = leaves (offer_of s asks)

-- nothing is said of what is read, but that a refusal is passed on
abbrev pub Unsaid : {A : Type 0} → Offer → Outcome A → Type 0
Unsaid (offers.refused f) outcome = outcome ≡ refused f []
Unsaid offer outcome = Unit {0}
