-- Readers that have exactly one outcome of each offer.
use Rattle.std.specs.Prelude.{◌≡◌, ℕ, ◌+◌, List, [], ◌∷◌, Bool, map, Option, Some, None, option_map}
use Rattle.std.proofs.Common.{refl, sym, inl, inr}
use Rattle.data_core.specs.declared.fault.Fault.{Fault}
use Rattle.data_core.specs.declared.fault.Fault.TheVariants.{InvalidLength}
use Rattle.data_core.specs.declared.path.Segment.{Segment}
use Rattle.data_core.specs.declared.path.Segment.TheVariants.{Seq}
use Rattle.data_core.specs.Ask.{Ask}
use Rattle.data_core.specs.Source.{Source, Offer, offer_of, scalar, some_itself, some, elements, newtype_itself, newtype_struct, entries, variant_itself, variant, Sources, end, more}
use Rattle.data_core.specs.Source as offer
use Rattle.data_core.specs.Sequence.{rest_of, surplus}
use Rattle.data_core.specs.Outcome.{Outcome, given, refused, under, and_then, not_taken, IsUnder, seen, IsTold}
use Rattle.data_core.specs.Reads.{IsOutcome, ReadsFrom, AndThen}
use Rattle.data_std.specs.Compound.{OptionReads, BoxReads, EachReads, SequenceReads, ElementsRead, ListReads, PartReads, unless, Parts1, Parts2, Parts3, Parts4}

-- what a part's reader makes of each source is one outcome
abbrev pub IsToldFrom : {A V : Type 0} → (A → V) → (Source → Outcome V) → (Source → Outcome A → Type 0) → Type 0
IsToldFrom {A} see of_source reads = (s : Source) (o : Outcome A) → reads s o → seen see o ≡ of_source s

told_outcome : {A B : Type 0} (view : B → A) (p : Outcome A) (o : Outcome B) → IsOutcome view p o → seen view o ≡ p
told_outcome view p (given b) h = sym h
told_outcome view p (refused f path) h = cc

-- a reader whose outcomes are given by a function
pub told_by : {A B : Type 0} (view : B → A) (of_offer : Offer → Outcome A) → IsTold view of_offer (λ offer outcome. IsOutcome view (of_offer offer) outcome)
told_by view of_offer offer o h = told_outcome view (of_offer offer) o h

-- a step, and the next one
pub told_step : {A B V W : Type 0} (see : A → V) (see_whole : B → W) (first : Outcome A → Type 0) (next : A → Outcome B → Type 0) (p : Outcome V) (q : V → Outcome W)
    → ((o : Outcome A) → first o → seen see o ≡ p) → ((a : A) (o : Outcome B) → next a o → seen see_whole o ≡ q (see a))
    → (o : Outcome B) → AndThen first next o → seen see_whole o ≡ and_then p q
told_step see see_whole first next p q of_first of_next (given b) (inl h) = absurd h
told_step {A} {B} {V} see see_whole first next p q of_first of_next (refused f path) (inl h) =
    let step : Outcome A = refused f path in let gone : Outcome V = refused f path in let same : gone ≡ p = of_first step h in rw (← same) refl
told_step see see_whole first next p q of_first of_next o (inr (a, h, k)) =
    let same : given (see a) ≡ p = of_first (given a) h in rw (← same) (of_next a o k)

pub told_under : {A V : Type 0} (see : A → V) (segment : Segment) (is_outcome : Outcome A → Type 0) (p : Outcome V)
    → ((o : Outcome A) → is_outcome o → seen see o ≡ p) → (o : Outcome A) → IsUnder segment is_outcome o → seen see o ≡ under segment p
told_under see segment is_outcome p told (given a) h = let same : given (see a) ≡ p = told (given a) h in rw (← same) refl
told_under {A} {V} see segment is_outcome p told (refused f path) (inner, h, e) =
    let part : Outcome A = refused f inner in let gone : Outcome V = refused f inner in let same : gone ≡ p = told part h in rw (← same, e) refl

pub not_taken_as : {L V : Type 0} (see : L → V) (offer : Offer) (o : Outcome L) → o ≡ not_taken offer → seen see o ≡ not_taken offer
not_taken_as see offer o h = rw h refl

-- nothing, or what the inside is
abbrev pub option_outcome : {V : Type 0} → (Source → Outcome V) → Offer → Outcome (Option V)
option_outcome of_source (scalar offer.none) = given None
option_outcome of_source (scalar offer.unit) = given None
option_outcome of_source (some s) = and_then (of_source s) (λ x. given (Some x))
option_outcome of_source offer = not_taken offer

told_inside : {A V : Type 0} (see : A → V) (of_source : Source → Outcome V) (reads : Source → Outcome A → Type 0) → IsToldFrom see of_source reads → IsTold (option_map see) (option_outcome of_source) (OptionReads reads)
told_inside see of_source reads told (scalar (offer.boolean b)) o h = not_taken_as (option_map see) (scalar (offer.boolean b)) o h
told_inside see of_source reads told (scalar (offer.unsigned width n)) o h = not_taken_as (option_map see) (scalar (offer.unsigned width n)) o h
told_inside see of_source reads told (scalar (offer.signed width z)) o h = not_taken_as (option_map see) (scalar (offer.signed width z)) o h
told_inside see of_source reads told (scalar (offer.wide_unsigned n)) o h = not_taken_as (option_map see) (scalar (offer.wide_unsigned n)) o h
told_inside see of_source reads told (scalar (offer.wide_signed z)) o h = not_taken_as (option_map see) (scalar (offer.wide_signed z)) o h
told_inside see of_source reads told (scalar (offer.character c)) o h = not_taken_as (option_map see) (scalar (offer.character c)) o h
told_inside see of_source reads told (scalar (offer.text t)) o h = not_taken_as (option_map see) (scalar (offer.text t)) o h
told_inside see of_source reads told (scalar (offer.bytes b)) o h = not_taken_as (option_map see) (scalar (offer.bytes b)) o h
told_inside see of_source reads told (scalar offer.none) o h = rw h refl
told_inside see of_source reads told (scalar offer.unit) o h = rw h refl
told_inside see of_source reads told some_itself o h = not_taken_as (option_map see) some_itself o h
told_inside see of_source reads told (some s) o h =
    told_step see (option_map see) (reads s) (λ x p. p ≡ given (Some x)) (of_source s) (λ x. given (Some x)) (told s) (λ x p e. rw e refl) o h
told_inside see of_source reads told (elements checks ss) o h = not_taken_as (option_map see) (elements checks ss) o h
told_inside see of_source reads told newtype_itself o h = not_taken_as (option_map see) newtype_itself o h
told_inside see of_source reads told (newtype_struct s) o h = not_taken_as (option_map see) (newtype_struct s) o h
told_inside see of_source reads told (entries checks es) o h = not_taken_as (option_map see) (entries checks es) o h
told_inside see of_source reads told (variant_itself payload) o h = not_taken_as (option_map see) (variant_itself payload) o h
told_inside see of_source reads told (variant name payload) o h = not_taken_as (option_map see) (variant name payload) o h
told_inside see of_source reads told (offer.refused f) o h = not_taken_as (option_map see) (offer.refused f) o h

-- a part's outcome, by what its reader asks
abbrev pub from_source : {V : Type 0} → Ask → (Offer → Outcome V) → Source → Outcome V
from_source asks outcome s = outcome (offer_of s asks)

pub told_from : {A V : Type 0} (see : A → V) (asks : Ask) (reads : Offer → Outcome A → Type 0) (outcome : Offer → Outcome V) → IsTold see outcome reads → IsToldFrom see (from_source asks outcome) (ReadsFrom asks reads)
told_from see asks reads outcome told s o h = told (offer_of s asks) o h

pub told_option : {A V : Type 0} (see : A → V) (asks : Ask) (reads : Offer → Outcome A → Type 0) (outcome : Offer → Outcome V) → IsTold see outcome reads
    → IsTold (option_map see) (option_outcome (from_source asks outcome)) (OptionReads (ReadsFrom asks reads))
told_option see asks reads outcome told = told_inside see (from_source asks outcome) (ReadsFrom asks reads) (told_from see asks reads outcome told)

-- a box is what its inside is
pub told_box : {A V B : Type 0} (view : B → A) (see : A → V) (reads : Offer → Outcome A → Type 0) (outcome : Offer → Outcome V) → IsTold see outcome reads
    → IsTold (λ b. see (view b)) outcome (BoxReads view reads)
told_box view see reads outcome told offer (given b) h = told offer (given (view b)) h
told_box {A} view see reads outcome told offer (refused f path) h = let inside : Outcome A = refused f path in told offer inside h

-- a sequence, by what is made of its elements
abbrev pub sequence_outcome : {V : Type 0} → (Bool → Sources → Outcome V) → Offer → Outcome V
sequence_outcome of_elements (elements checks ss) = of_elements checks ss
sequence_outcome of_elements offer = not_taken offer

told_sequence : {A V : Type 0} (see : A → V) (of_elements : Bool → Sources → Outcome V) (reads : Bool → Sources → Outcome A → Type 0)
    → ((checks : Bool) (ss : Sources) (o : Outcome A) → reads checks ss o → seen see o ≡ of_elements checks ss) → IsTold see (sequence_outcome of_elements) (SequenceReads reads)
told_sequence see of_elements reads told (elements checks ss) o h = told checks ss o h
told_sequence see of_elements reads told (scalar s) o h = not_taken_as see (scalar s) o h
told_sequence see of_elements reads told some_itself o h = not_taken_as see some_itself o h
told_sequence see of_elements reads told (some s) o h = not_taken_as see (some s) o h
told_sequence see of_elements reads told newtype_itself o h = not_taken_as see newtype_itself o h
told_sequence see of_elements reads told (newtype_struct s) o h = not_taken_as see (newtype_struct s) o h
told_sequence see of_elements reads told (entries checks es) o h = not_taken_as see (entries checks es) o h
told_sequence see of_elements reads told (variant_itself payload) o h = not_taken_as see (variant_itself payload) o h
told_sequence see of_elements reads told (variant name payload) o h = not_taken_as see (variant name payload) o h
told_sequence see of_elements reads told (offer.refused f) o h = not_taken_as see (offer.refused f) o h

-- the outcome of each element in turn, up to the first fault
abbrev pub each_outcome : {V : Type 0} → (Source → Outcome V) → ℕ → Sources → Outcome (List V)
each_outcome of_source i end = given []
each_outcome of_source i (more s ss) =
    and_then (under (Seq i) (of_source s)) (λ x. and_then (each_outcome of_source (i + 1) ss) (λ xs. given (x ∷ xs)))

abbrev pub list_outcome : {V : Type 0} → (Source → Outcome V) → Offer → Outcome (List V)
list_outcome of_source = sequence_outcome (λ checks. each_outcome of_source 0)

told_each : {A V : Type 0} (see : A → V) (of_source : Source → Outcome V) (reads : Source → Outcome A → Type 0) → IsToldFrom see of_source reads
    → (i : ℕ) (ss : Sources) (o : Outcome (List A)) → EachReads reads i ss o → seen (λ xs. map see xs) o ≡ each_outcome of_source i ss
told_each see of_source reads told i end o h = rw h refl
told_each see of_source reads told i (more s ss) o h =
    told_step see (λ xs. map see xs) (IsUnder (Seq i) (reads s)) (λ x. AndThen (EachReads reads (i + 1) ss) (λ xs p. p ≡ given (x ∷ xs))) (under (Seq i) (of_source s)) (λ x. and_then (each_outcome of_source (i + 1) ss) (λ xs. given (x ∷ xs)))
    (told_under see (Seq i) (reads s) (of_source s) (told s))
    (λ x p k. told_step (λ xs. map see xs) (λ xs. map see xs) (EachReads reads (i + 1) ss) (λ xs q. q ≡ given (x ∷ xs)) (each_outcome of_source (i + 1) ss) (λ xs. given (see x ∷ xs)) (told_each see of_source reads told (i + 1) ss) (λ xs q e. rw e refl) p k)
    o h

told_elements : {A V L : Type 0} (view : L → List A) (see : A → V) (of_source : Source → Outcome V) (reads : Source → Outcome A → Type 0) → IsToldFrom see of_source reads
    → (ss : Sources) (o : Outcome L) → ElementsRead view reads 0 ss o → seen (λ l. map see (view l)) o ≡ each_outcome of_source 0 ss
told_elements view see of_source reads told ss (given l) (inl h) = absurd h
told_elements view see of_source reads told ss (refused f path) (inl h) = told_each see of_source reads told 0 ss (refused f path) h
told_elements view see of_source reads told ss (given l) (inr (xs, h, e)) =
    let whole = told_each see of_source reads told 0 ss (given xs) h in
    rw (← whole) (let same : xs ≡ view l = cc in rw same refl)
told_elements view see of_source reads told ss (refused f path) (inr (xs, h, e)) = cc

pub told_list : {A V L : Type 0} (view : L → List A) (see : A → V) (asks : Ask) (reads : Offer → Outcome A → Type 0) (outcome : Offer → Outcome V) → IsTold see outcome reads
    → IsTold (λ l. map see (view l)) (list_outcome (from_source asks outcome)) (ListReads view (ReadsFrom asks reads))
told_list view see asks reads outcome told =
    told_sequence (λ l. map see (view l)) (λ checks. each_outcome (from_source asks outcome) 0) (λ checks. ElementsRead view (ReadsFrom asks reads) 0)
    (λ checks ss o h. told_elements view see (from_source asks outcome) (ReadsFrom asks reads) (told_from see asks reads outcome told) ss o h)

-- the element at a place of a tuple, which must be there
abbrev pub part_outcome : {V : Type 0} → (Source → Outcome V) → ℕ → Sources → Outcome V
part_outcome of_source i end = refused (InvalidLength i) []
part_outcome of_source i (more s ss) = under (Seq i) (of_source s)

told_part : {A V : Type 0} (see : A → V) (of_source : Source → Outcome V) (reads : Source → Outcome A → Type 0) → IsToldFrom see of_source reads
    → (i : ℕ) (ss : Sources) (o : Outcome A) → PartReads reads i ss o → seen see o ≡ part_outcome of_source i ss
told_part see of_source reads told i end o h = rw h refl
told_part see of_source reads told i (more s ss) o h = told_under see (Seq i) (reads s) (of_source s) (told s) o h

told_unless : {A V : Type 0} (see : A → V) (fault : Option Fault) (a : A) (o : Outcome A) → o ≡ unless fault a → seen see o ≡ unless fault (see a)
told_unless see None a o h = rw h refl
told_unless see (Some f) a o h = rw h refl

-- one, two, three and four elements from a place on, and none that is left where the end is checked
abbrev pub parts1_outcome : {V : Type 0} → (Source → Outcome V) → Bool → ℕ → Sources → Outcome V
parts1_outcome first checks i ss = and_then (part_outcome first i ss) (λ a. unless (surplus checks (i + 1) (rest_of ss)) a)

abbrev pub parts2_outcome : {V W : Type 0} → (Source → Outcome V) → (Source → Outcome W) → Bool → ℕ → Sources → Outcome (V × W)
parts2_outcome {V} {W} first second checks i ss =
    and_then (part_outcome first i ss) (λ a. and_then (parts1_outcome second checks (i + 1) (rest_of ss)) (λ b. let all : V × W = (a, b) in given all))

abbrev pub parts3_outcome : {V W X : Type 0} → (Source → Outcome V) → (Source → Outcome W) → (Source → Outcome X) → Bool → ℕ → Sources → Outcome (V × W × X)
parts3_outcome {V} {W} {X} first second third checks i ss =
    and_then (part_outcome first i ss) (λ a. and_then (parts2_outcome second third checks (i + 1) (rest_of ss)) (λ rest. let all : V × W × X = (a, rest.0, rest.1) in given all))

abbrev pub parts4_outcome : {V W X Y : Type 0} → (Source → Outcome V) → (Source → Outcome W) → (Source → Outcome X) → (Source → Outcome Y) → Bool → ℕ → Sources → Outcome (V × W × X × Y)
parts4_outcome {V} {W} {X} {Y} first second third fourth checks i ss =
    and_then (part_outcome first i ss) (λ a. and_then (parts3_outcome second third fourth checks (i + 1) (rest_of ss)) (λ rest. let all : V × W × X × Y = (a, rest.0, rest.1, rest.2) in given all))

told_parts1 : {A V : Type 0} (see : A → V) (first : Source → Outcome V) (reads : Source → Outcome A → Type 0) → IsToldFrom see first reads
    → (checks : Bool) (i : ℕ) (ss : Sources) (o : Outcome (record { 0 : A })) → Parts1 reads checks i ss o → seen (λ t. see t.0) o ≡ parts1_outcome first checks i ss
told_parts1 {A} see first reads told checks i ss o h =
    let left = surplus checks (i + 1) (rest_of ss) in
    let see_all : record { 0 : A } → _ = λ t. see t.0 in
    told_step see see_all (PartReads reads i ss) (λ a p. let all : record { 0 : A } = record { 0 = a } in p ≡ unless left all) (part_outcome first i ss) (λ a. unless left a)
    (told_part see first reads told i ss) (λ a p e. let all : record { 0 : A } = record { 0 = a } in told_unless see_all left all p e) o h

told_parts2 : {A B V W : Type 0} (see_a : A → V) (see_b : B → W) (first : Source → Outcome V) (second : Source → Outcome W) (reads_a : Source → Outcome A → Type 0) (reads_b : Source → Outcome B → Type 0)
    → IsToldFrom see_a first reads_a → IsToldFrom see_b second reads_b
    → (checks : Bool) (i : ℕ) (ss : Sources) (o : Outcome (A × B)) → Parts2 reads_a reads_b checks i ss o → seen (λ t. let all : V × W = (see_a t.0, see_b t.1) in all) o ≡ parts2_outcome first second checks i ss
told_parts2 {A} {B} {V} {W} see_a see_b first second reads_a reads_b told_a told_b checks i ss o h =
    let see_all : A × B → V × W = λ t. (see_a t.0, see_b t.1) in
    let see_rest : record { 0 : B } → W = λ t. see_b t.0 in
    told_step see_a see_all (PartReads reads_a i ss) (λ a. AndThen (Parts1 reads_b checks (i + 1) (rest_of ss)) (λ rest p. let all : A × B = (a, rest.0) in p ≡ given all))
    (part_outcome first i ss) (λ a. and_then (parts1_outcome second checks (i + 1) (rest_of ss)) (λ b. let all : V × W = (a, b) in given all))
    (told_part see_a first reads_a told_a i ss)
    (λ a p k. told_step see_rest see_all (Parts1 reads_b checks (i + 1) (rest_of ss)) (λ rest q. let all : A × B = (a, rest.0) in q ≡ given all) (parts1_outcome second checks (i + 1) (rest_of ss)) (λ b. let all : V × W = (see_a a, b) in given all)
    (told_parts1 see_b second reads_b told_b checks (i + 1) (rest_of ss)) (λ rest q e. rw e refl) p k)
    o h

told_parts3 : {A B C V W X : Type 0} (see_a : A → V) (see_b : B → W) (see_c : C → X) (first : Source → Outcome V) (second : Source → Outcome W) (third : Source → Outcome X)
    (reads_a : Source → Outcome A → Type 0) (reads_b : Source → Outcome B → Type 0) (reads_c : Source → Outcome C → Type 0)
    → IsToldFrom see_a first reads_a → IsToldFrom see_b second reads_b → IsToldFrom see_c third reads_c
    → (checks : Bool) (i : ℕ) (ss : Sources) (o : Outcome (A × B × C)) → Parts3 reads_a reads_b reads_c checks i ss o
    → seen (λ t. let all : V × W × X = (see_a t.0, see_b t.1, see_c t.2) in all) o ≡ parts3_outcome first second third checks i ss
told_parts3 {A} {B} {C} {V} {W} {X} see_a see_b see_c first second third reads_a reads_b reads_c told_a told_b told_c checks i ss o h =
    let see_all : A × B × C → V × W × X = λ t. (see_a t.0, see_b t.1, see_c t.2) in
    let see_rest : B × C → W × X = λ t. (see_b t.0, see_c t.1) in
    told_step see_a see_all (PartReads reads_a i ss) (λ a. AndThen (Parts2 reads_b reads_c checks (i + 1) (rest_of ss)) (λ rest p. let all : A × B × C = (a, rest.0, rest.1) in p ≡ given all))
    (part_outcome first i ss) (λ a. and_then (parts2_outcome second third checks (i + 1) (rest_of ss)) (λ rest. let all : V × W × X = (a, rest.0, rest.1) in given all))
    (told_part see_a first reads_a told_a i ss)
    (λ a p k. told_step see_rest see_all (Parts2 reads_b reads_c checks (i + 1) (rest_of ss)) (λ rest q. let all : A × B × C = (a, rest.0, rest.1) in q ≡ given all) (parts2_outcome second third checks (i + 1) (rest_of ss)) (λ rest. let all : V × W × X = (see_a a, rest.0, rest.1) in given all)
    (told_parts2 see_b see_c second third reads_b reads_c told_b told_c checks (i + 1) (rest_of ss)) (λ rest q e. rw e refl) p k)
    o h

told_parts4 : {A B C D V W X Y : Type 0} (see_a : A → V) (see_b : B → W) (see_c : C → X) (see_d : D → Y) (first : Source → Outcome V) (second : Source → Outcome W) (third : Source → Outcome X) (fourth : Source → Outcome Y)
    (reads_a : Source → Outcome A → Type 0) (reads_b : Source → Outcome B → Type 0) (reads_c : Source → Outcome C → Type 0) (reads_d : Source → Outcome D → Type 0)
    → IsToldFrom see_a first reads_a → IsToldFrom see_b second reads_b → IsToldFrom see_c third reads_c → IsToldFrom see_d fourth reads_d
    → (checks : Bool) (i : ℕ) (ss : Sources) (o : Outcome (A × B × C × D)) → Parts4 reads_a reads_b reads_c reads_d checks i ss o
    → seen (λ t. let all : V × W × X × Y = (see_a t.0, see_b t.1, see_c t.2, see_d t.3) in all) o ≡ parts4_outcome first second third fourth checks i ss
told_parts4 {A} {B} {C} {D} {V} {W} {X} {Y} see_a see_b see_c see_d first second third fourth reads_a reads_b reads_c reads_d told_a told_b told_c told_d checks i ss o h =
    let see_all : A × B × C × D → V × W × X × Y = λ t. (see_a t.0, see_b t.1, see_c t.2, see_d t.3) in
    let see_rest : B × C × D → W × X × Y = λ t. (see_b t.0, see_c t.1, see_d t.2) in
    told_step see_a see_all (PartReads reads_a i ss) (λ a. AndThen (Parts3 reads_b reads_c reads_d checks (i + 1) (rest_of ss)) (λ rest p. let all : A × B × C × D = (a, rest.0, rest.1, rest.2) in p ≡ given all))
    (part_outcome first i ss) (λ a. and_then (parts3_outcome second third fourth checks (i + 1) (rest_of ss)) (λ rest. let all : V × W × X × Y = (a, rest.0, rest.1, rest.2) in given all))
    (told_part see_a first reads_a told_a i ss)
    (λ a p k. told_step see_rest see_all (Parts3 reads_b reads_c reads_d checks (i + 1) (rest_of ss)) (λ rest q. let all : A × B × C × D = (a, rest.0, rest.1, rest.2) in q ≡ given all) (parts3_outcome second third fourth checks (i + 1) (rest_of ss)) (λ rest. let all : V × W × X × Y = (see_a a, rest.0, rest.1, rest.2) in given all)
    (told_parts3 see_b see_c see_d second third fourth reads_b reads_c reads_d told_b told_c told_d checks (i + 1) (rest_of ss)) (λ rest q e. rw e refl) p k)
    o h

-- the tuples' readers
pub told_tuple1 : {A V : Type 0} (see : A → V) (asks : Ask) (reads : Offer → Outcome A → Type 0) (outcome : Offer → Outcome V) → IsTold see outcome reads
    → IsTold (λ t. see t.0) (sequence_outcome (λ checks. parts1_outcome (from_source asks outcome) checks 0)) (SequenceReads (λ checks. Parts1 (ReadsFrom asks reads) checks 0))
told_tuple1 see asks reads outcome told =
    told_sequence (λ t. see t.0) (λ checks. parts1_outcome (from_source asks outcome) checks 0) (λ checks. Parts1 (ReadsFrom asks reads) checks 0)
    (λ checks ss o h. told_parts1 see (from_source asks outcome) (ReadsFrom asks reads) (told_from see asks reads outcome told) checks 0 ss o h)

pub told_tuple2 : {A B V W : Type 0} (see_a : A → V) (see_b : B → W) (asks_a asks_b : Ask) (reads_a : Offer → Outcome A → Type 0) (reads_b : Offer → Outcome B → Type 0) (outcome_a : Offer → Outcome V) (outcome_b : Offer → Outcome W)
    → IsTold see_a outcome_a reads_a → IsTold see_b outcome_b reads_b
    → IsTold (λ t. let all : V × W = (see_a t.0, see_b t.1) in all) (sequence_outcome (λ checks. parts2_outcome (from_source asks_a outcome_a) (from_source asks_b outcome_b) checks 0))
    (SequenceReads (λ checks. Parts2 (ReadsFrom asks_a reads_a) (ReadsFrom asks_b reads_b) checks 0))
told_tuple2 {A} {B} {V} {W} see_a see_b asks_a asks_b reads_a reads_b outcome_a outcome_b told_a told_b =
    told_sequence (λ t. let all : V × W = (see_a t.0, see_b t.1) in all) (λ checks. parts2_outcome (from_source asks_a outcome_a) (from_source asks_b outcome_b) checks 0)
    (λ checks. Parts2 (ReadsFrom asks_a reads_a) (ReadsFrom asks_b reads_b) checks 0)
    (λ checks ss o h. told_parts2 see_a see_b (from_source asks_a outcome_a) (from_source asks_b outcome_b) (ReadsFrom asks_a reads_a) (ReadsFrom asks_b reads_b)
    (told_from see_a asks_a reads_a outcome_a told_a) (told_from see_b asks_b reads_b outcome_b told_b) checks 0 ss o h)

pub told_tuple3 : {A B C V W X : Type 0} (see_a : A → V) (see_b : B → W) (see_c : C → X) (asks_a asks_b asks_c : Ask) (reads_a : Offer → Outcome A → Type 0) (reads_b : Offer → Outcome B → Type 0) (reads_c : Offer → Outcome C → Type 0)
    (outcome_a : Offer → Outcome V) (outcome_b : Offer → Outcome W) (outcome_c : Offer → Outcome X) → IsTold see_a outcome_a reads_a → IsTold see_b outcome_b reads_b → IsTold see_c outcome_c reads_c
    → IsTold (λ t. let all : V × W × X = (see_a t.0, see_b t.1, see_c t.2) in all)
    (sequence_outcome (λ checks. parts3_outcome (from_source asks_a outcome_a) (from_source asks_b outcome_b) (from_source asks_c outcome_c) checks 0))
    (SequenceReads (λ checks. Parts3 (ReadsFrom asks_a reads_a) (ReadsFrom asks_b reads_b) (ReadsFrom asks_c reads_c) checks 0))
told_tuple3 {A} {B} {C} {V} {W} {X} see_a see_b see_c asks_a asks_b asks_c reads_a reads_b reads_c outcome_a outcome_b outcome_c told_a told_b told_c =
    told_sequence (λ t. let all : V × W × X = (see_a t.0, see_b t.1, see_c t.2) in all)
    (λ checks. parts3_outcome (from_source asks_a outcome_a) (from_source asks_b outcome_b) (from_source asks_c outcome_c) checks 0)
    (λ checks. Parts3 (ReadsFrom asks_a reads_a) (ReadsFrom asks_b reads_b) (ReadsFrom asks_c reads_c) checks 0)
    (λ checks ss o h. told_parts3 see_a see_b see_c (from_source asks_a outcome_a) (from_source asks_b outcome_b) (from_source asks_c outcome_c) (ReadsFrom asks_a reads_a) (ReadsFrom asks_b reads_b) (ReadsFrom asks_c reads_c)
    (told_from see_a asks_a reads_a outcome_a told_a) (told_from see_b asks_b reads_b outcome_b told_b) (told_from see_c asks_c reads_c outcome_c told_c) checks 0 ss o h)

pub told_tuple4 : {A B C D V W X Y : Type 0} (see_a : A → V) (see_b : B → W) (see_c : C → X) (see_d : D → Y) (asks_a asks_b asks_c asks_d : Ask)
    (reads_a : Offer → Outcome A → Type 0) (reads_b : Offer → Outcome B → Type 0) (reads_c : Offer → Outcome C → Type 0) (reads_d : Offer → Outcome D → Type 0)
    (outcome_a : Offer → Outcome V) (outcome_b : Offer → Outcome W) (outcome_c : Offer → Outcome X) (outcome_d : Offer → Outcome Y)
    → IsTold see_a outcome_a reads_a → IsTold see_b outcome_b reads_b → IsTold see_c outcome_c reads_c → IsTold see_d outcome_d reads_d
    → IsTold (λ t. let all : V × W × X × Y = (see_a t.0, see_b t.1, see_c t.2, see_d t.3) in all)
    (sequence_outcome (λ checks. parts4_outcome (from_source asks_a outcome_a) (from_source asks_b outcome_b) (from_source asks_c outcome_c) (from_source asks_d outcome_d) checks 0))
    (SequenceReads (λ checks. Parts4 (ReadsFrom asks_a reads_a) (ReadsFrom asks_b reads_b) (ReadsFrom asks_c reads_c) (ReadsFrom asks_d reads_d) checks 0))
told_tuple4 {A} {B} {C} {D} {V} {W} {X} {Y} see_a see_b see_c see_d asks_a asks_b asks_c asks_d reads_a reads_b reads_c reads_d outcome_a outcome_b outcome_c outcome_d told_a told_b told_c told_d =
    told_sequence (λ t. let all : V × W × X × Y = (see_a t.0, see_b t.1, see_c t.2, see_d t.3) in all)
    (λ checks. parts4_outcome (from_source asks_a outcome_a) (from_source asks_b outcome_b) (from_source asks_c outcome_c) (from_source asks_d outcome_d) checks 0)
    (λ checks. Parts4 (ReadsFrom asks_a reads_a) (ReadsFrom asks_b reads_b) (ReadsFrom asks_c reads_c) (ReadsFrom asks_d reads_d) checks 0)
    (λ checks ss o h. told_parts4 see_a see_b see_c see_d (from_source asks_a outcome_a) (from_source asks_b outcome_b) (from_source asks_c outcome_c) (from_source asks_d outcome_d)
    (ReadsFrom asks_a reads_a) (ReadsFrom asks_b reads_b) (ReadsFrom asks_c reads_c) (ReadsFrom asks_d reads_d)
    (told_from see_a asks_a reads_a outcome_a told_a) (told_from see_b asks_b reads_b outcome_b told_b) (told_from see_c asks_c reads_c outcome_c told_c) (told_from see_d asks_d reads_d outcome_d told_d) checks 0 ss o h)
