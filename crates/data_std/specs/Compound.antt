-- What the readers of options, boxes, lists and tuples make of an offer.
use Rattle.std.specs.Prelude.{◌≡◌, ℕ, ◌+◌, List, [], ◌∷◌, Bool, Option, Some, None}
use Rattle.data_core.specs.declared.fault.Fault.{Fault}
use Rattle.data_core.specs.declared.fault.Fault.TheVariants.{InvalidLength}
use Rattle.data_core.specs.declared.path.Segment.TheVariants.{Seq}
use Rattle.data_core.specs.Source.{Source, Offer, scalar, none, unit, some, elements, Sources, end, more}
use Rattle.data_core.specs.Sequence.{rest_of, surplus}
use Rattle.data_core.specs.Outcome.{Outcome, given, refused, IsUnder, not_taken}
use Rattle.data_core.specs.Source as source
use Rattle.data_core.specs.Tracking.{Refusal, clear}
use Rattle.data_core.specs.Reads.{IsOutcome, AndThen}

-- nothing for what is absent or a unit, and else something of what the inside is read as
abbrev pub OptionReads : {T : Type 0} → (Source → Outcome T → Type 0) → Offer → Outcome (Option T) → Type 0
OptionReads reads (scalar none) outcome = outcome ≡ given None
OptionReads reads (scalar unit) outcome = outcome ≡ given None
OptionReads reads (some s) outcome = AndThen (reads s) (λ x o. o ≡ given (Some x)) outcome
OptionReads reads offer outcome = outcome ≡ not_taken offer

-- what the read of an option leaves of a clear track is what the read of its inside does
abbrev pub OptionLeaves : (Source → Refusal → Type 0) → Offer → Refusal → Type 0
OptionLeaves leaves (some s) now = leaves s now
OptionLeaves leaves offer now = now ≡ clear

-- what the inside is read as, seen through a view of what holds it
abbrev pub BoxReads : {T V : Type 0} → (V → T) → (Offer → Outcome T → Type 0) → Offer → Outcome V → Type 0
BoxReads view reads offer (given v) = reads offer (given (view v))
BoxReads view reads offer (refused f path) = reads offer (refused f path)

-- where the inside's reader reads a refusal as that alone, the box's reader does
pub box_refusal : {T V : Type 0} (view : V → T) (reads : Offer → Outcome T → Type 0) (f : Fault) → ((o : Outcome T) → reads (source.refused f) o → o ≡ refused f [])
    → (o : Outcome V) → BoxReads view reads (source.refused f) o → o ≡ refused f []
box_refusal view reads f alone (given v) h = let same : given (view v) ≡ refused f [] = alone (given (view v)) h in cc
box_refusal {T} view reads f alone (refused g path) h = let inside : Outcome T = refused g path in let same : inside ≡ refused f [] = alone inside h in cc

-- each element in turn, from a place in the sequence on, up to the first fault
abbrev pub EachReads : {T : Type 0} → (Source → Outcome T → Type 0) → ℕ → Sources → Outcome (List T) → Type 0
EachReads reads i end outcome = outcome ≡ given []
EachReads reads i (more s ss) outcome =
    AndThen (IsUnder (Seq i) (reads s)) (λ x. AndThen (EachReads reads (i + 1) ss) (λ xs o. o ≡ given (x ∷ xs))) outcome

-- a sequence, read by what is made of its elements
abbrev pub SequenceReads : {T : Type 0} → (Bool → Sources → Outcome T → Type 0) → Offer → Outcome T → Type 0
SequenceReads reads (elements checks ss) outcome = reads checks ss outcome
SequenceReads reads offer outcome = outcome ≡ not_taken offer

-- the elements from a place on as a list, seen through a view
abbrev pub ElementsRead : {T V : Type 0} → (V → List T) → (Source → Outcome T → Type 0) → ℕ → Sources → Outcome V → Type 0
ElementsRead view reads i ss = AndThen (EachReads reads i ss) (λ xs. IsOutcome view (given xs))

abbrev pub ListReads : {T V : Type 0} → (V → List T) → (Source → Outcome T → Type 0) → Offer → Outcome V → Type 0
ListReads view reads = SequenceReads (λ checks. ElementsRead view reads 0)

-- the element at a place of a tuple, which must be there
abbrev pub PartReads : {T : Type 0} → (Source → Outcome T → Type 0) → ℕ → Sources → Outcome T → Type 0
PartReads reads i end outcome = outcome ≡ refused (InvalidLength i) []
PartReads reads i (more s ss) outcome = IsUnder (Seq i) (reads s) outcome

-- a value, unless this is refused in its place
abbrev pub unless : {T : Type 0} → Option Fault → T → Outcome T
unless None x = given x
unless (Some f) x = refused f []

-- one, two, three and four elements from a place on, and none that is left where the end is checked
abbrev pub Parts1 : {A : Type 0} → (Source → Outcome A → Type 0) → Bool → ℕ → Sources → Outcome (record { 0 : A }) → Type 0
Parts1 {A} first checks i ss =
    AndThen (PartReads first i ss) (λ a o. let all : record { 0 : A } = record { 0 = a } in o ≡ unless (surplus checks (i + 1) (rest_of ss)) all)

abbrev pub Parts2 : {A B : Type 0} → (Source → Outcome A → Type 0) → (Source → Outcome B → Type 0) → Bool → ℕ → Sources → Outcome (A × B) → Type 0
Parts2 {A} {B} first second checks i ss =
    AndThen (PartReads first i ss) (λ a. AndThen (Parts1 second checks (i + 1) (rest_of ss)) (λ rest o. let all : A × B = (a, rest.0) in o ≡ given all))

abbrev pub Parts3 : {A B C : Type 0} → (Source → Outcome A → Type 0) → (Source → Outcome B → Type 0) → (Source → Outcome C → Type 0) → Bool → ℕ → Sources → Outcome (A × B × C) → Type 0
Parts3 {A} {B} {C} first second third checks i ss =
    AndThen (PartReads first i ss) (λ a. AndThen (Parts2 second third checks (i + 1) (rest_of ss)) (λ rest o. let all : A × B × C = (a, rest.0, rest.1) in o ≡ given all))

abbrev pub Parts4 : {A B C D : Type 0} → (Source → Outcome A → Type 0) → (Source → Outcome B → Type 0) → (Source → Outcome C → Type 0) → (Source → Outcome D → Type 0) → Bool → ℕ → Sources → Outcome (A × B × C × D) → Type 0
Parts4 {A} {B} {C} {D} first second third fourth checks i ss =
    AndThen (PartReads first i ss) (λ a. AndThen (Parts3 second third fourth checks (i + 1) (rest_of ss)) (λ rest o. let all : A × B × C × D = (a, rest.0, rest.1, rest.2) in o ≡ given all))
