-- Maps whose readers have exactly one outcome of each offer.
use Rattle.std.specs.Prelude.{◌≡◌, ℕ, ℤ, pos, negsuc, List, [], ◌∷◌, map}
use Rattle.std.specs.Ordering.{match_ordering, nat_cmp}
use Rattle.std.specs.declared.cmp.Ordering.{Ordering}
use Rattle.std.specs.declared.cmp.Ordering.TheVariants.{Less, Equal, Greater}
use Rattle.std.specs.BTreeMap.{insert_entry}
use Rattle.std.proofs.Common.{◌∙◌, refl, ap}
use Rattle.data_core.specs.declared.path.Segment.{Segment}
use Rattle.data_core.specs.Ask.{Ask}
use Rattle.data_core.specs.Source.{Source, Offer, scalar, some_itself, some, elements, newtype_itself, newtype_struct, entries, variant_itself, variant, Entries, no_entries, entry}
use Rattle.data_core.specs.Source as offer
use Rattle.data_core.specs.Table.{segment_of_key}
use Rattle.data_core.specs.Outcome.{Outcome, given, refused, under, and_then, not_taken, IsUnder, seen, IsTold}
use Rattle.data_core.specs.Reads.{IsOutcome, ReadsFrom, AtKey, AndThen}
use Rattle.data_std.specs.Ignored.{at_key}
use Rattle.data_std.specs.Pairs.{PairReads, EntriesRead, inserted, MapReads}
use Rattle.data_std.specs.Told.{IsToldFrom, from_source, told_from, told_step, told_under, not_taken_as}

-- the order of numbers that are not negative
abbrev pub natural : ℤ → ℕ
natural (pos n) = n
natural (negsuc n) = 0

abbrev pub natural_cmp : ℤ → ℤ → Ordering
natural_cmp x y = nat_cmp (natural x) (natural y)

-- a pair, by what each of its parts is seen as
abbrev pub pair_seen : {K V W X : Type 0} → (K → W) → (V → X) → K × V → W × X
pair_seen see_key see_value both = (see_key both.0, see_value both.1)

-- a key and then its value, both at the segment of their entry
abbrev pub pair_outcome : {W X : Type 0} → Segment → Outcome W → Outcome X → Outcome (W × X)
pair_outcome {W} {X} segment key value = and_then (at_key segment key) (λ x. and_then (under segment value) (λ y. let both : W × X = (x, y) in given both))

-- each entry in turn, up to the first fault
abbrev pub entries_outcome : {W X : Type 0} → Ask → (Source → Outcome W) → (Source → Outcome X) → Entries → Outcome (List (W × X))
entries_outcome asks key value no_entries = given []
entries_outcome asks key value (entry k v es) =
    and_then (pair_outcome (segment_of_key asks k) (key k) (value v)) (λ both. and_then (entries_outcome asks key value es) (λ rest. given (both ∷ rest)))

-- the entries as those of a map
abbrev pub map_outcome : {W X : Type 0} → (W → W → Ordering) → Ask → (Source → Outcome W) → (Source → Outcome X) → Offer → Outcome (List (W × X))
map_outcome order asks key value (entries checks es) = and_then (entries_outcome asks key value es) (λ pairs. given (inserted order [] pairs))
map_outcome order asks key value offer = not_taken offer

match_seen : {A B : Type 0} (f : A → B) (o : Ordering) (a b c : List A) → map f (match_ordering o a b c) ≡ match_ordering o (map f a) (map f b) (map f c)
match_seen f Less a b c = refl
match_seen f Equal a b c = refl
match_seen f Greater a b c = refl

-- keys are put where what they are seen as is put
insert_seen : {K V W X : Type 0} (cmp : K → K → Ordering) (order : W → W → Ordering) (see_key : K → W) (see_value : V → X) → ((x y : K) → cmp x y ≡ order (see_key x) (see_key y))
    → (es : List (K × V)) (k : K) (v : V) → map (pair_seen see_key see_value) (insert_entry cmp es k v) ≡ insert_entry order (map (pair_seen see_key see_value) es) (see_key k) (see_value v)
insert_seen cmp order see_key see_value agrees [] k v = refl
insert_seen {K} {V} cmp order see_key see_value agrees (e ∷ es) k v =
    let own : K × V = (k, v) in
    let new : K × V = (e.0, v) in
    let later = insert_seen cmp order see_key see_value agrees es k v in
    rw (agrees k e.0, match_seen (pair_seen see_key see_value) (order (see_key k) (see_key e.0)) (own ∷ e ∷ es) (new ∷ es) (e ∷ insert_entry cmp es k v), later) refl

inserted_seen : {K V W X : Type 0} (cmp : K → K → Ordering) (order : W → W → Ordering) (see_key : K → W) (see_value : V → X) → ((x y : K) → cmp x y ≡ order (see_key x) (see_key y))
    → (es pairs : List (K × V)) → map (pair_seen see_key see_value) (inserted cmp es pairs) ≡ inserted order (map (pair_seen see_key see_value) es) (map (pair_seen see_key see_value) pairs)
inserted_seen cmp order see_key see_value agrees es [] = refl
inserted_seen cmp order see_key see_value agrees es (both ∷ rest) =
    inserted_seen cmp order see_key see_value agrees (insert_entry cmp es both.0 both.1) rest
    ∙ ap (λ all. inserted order all (map (pair_seen see_key see_value) rest)) (insert_seen cmp order see_key see_value agrees es both.0 both.1)

told_key : {A V : Type 0} (see : A → V) (segment : Segment) (is_outcome : Outcome A → Type 0) (p : Outcome V)
    → ((o : Outcome A) → is_outcome o → seen see o ≡ p) → (o : Outcome A) → AtKey segment is_outcome o → seen see o ≡ at_key segment p
told_key see segment is_outcome p told (given a) h = let same : given (see a) ≡ p = told (given a) h in rw (← same) refl
told_key {A} {V} see segment is_outcome p told (refused f path) (inner, h, e) =
    let part : Outcome A = refused f inner in let gone : Outcome V = refused f inner in let same : gone ≡ p = told part h in rw (← same, e) refl

told_pair : {K V W X : Type 0} (see_key : K → W) (see_value : V → X) (segment : Segment) (key : Outcome K → Type 0) (value : Outcome V → Type 0) (p : Outcome W) (q : Outcome X)
    → ((o : Outcome K) → key o → seen see_key o ≡ p) → ((o : Outcome V) → value o → seen see_value o ≡ q)
    → (o : Outcome (K × V)) → PairReads segment key value o → seen (pair_seen see_key see_value) o ≡ pair_outcome segment p q
told_pair {K} {V} {W} {X} see_key see_value segment key value p q of_key of_value o h =
    told_step see_key (pair_seen see_key see_value) (AtKey segment key) (λ x. AndThen (IsUnder segment value) (λ y r. let both : K × V = (x, y) in r ≡ given both))
    (at_key segment p) (λ x. and_then (under segment q) (λ y. let both : W × X = (x, y) in given both))
    (told_key see_key segment key p of_key)
    (λ x r k. told_step see_value (pair_seen see_key see_value) (IsUnder segment value) (λ y s. let both : K × V = (x, y) in s ≡ given both) (under segment q) (λ y. let both : W × X = (see_key x, y) in given both)
    (told_under see_value segment value q of_value) (λ y s e. rw e refl) r k)
    o h

told_entries : {K V W X : Type 0} (see_key : K → W) (see_value : V → X) (asks : Ask) (of_key : Source → Outcome W) (of_value : Source → Outcome X) (key : Source → Outcome K → Type 0) (value : Source → Outcome V → Type 0)
    → IsToldFrom see_key of_key key → IsToldFrom see_value of_value value
    → (es : Entries) (o : Outcome (List (K × V))) → EntriesRead asks key value es o → seen (λ pairs. map (pair_seen see_key see_value) pairs) o ≡ entries_outcome asks of_key of_value es
told_entries see_key see_value asks of_key of_value key value told_k told_v no_entries o h = rw h refl
told_entries see_key see_value asks of_key of_value key value told_k told_v (entry k v es) o h =
    let see = pair_seen see_key see_value in
    told_step see (λ pairs. map see pairs) (PairReads (segment_of_key asks k) (key k) (value v)) (λ both. AndThen (EntriesRead asks key value es) (λ rest r. r ≡ given (both ∷ rest)))
    (pair_outcome (segment_of_key asks k) (of_key k) (of_value v)) (λ both. and_then (entries_outcome asks of_key of_value es) (λ rest. given (both ∷ rest)))
    (told_pair see_key see_value (segment_of_key asks k) (key k) (value v) (of_key k) (of_value v) (told_k k) (told_v v))
    (λ both r j. told_step (λ pairs. map see pairs) (λ pairs. map see pairs) (EntriesRead asks key value es) (λ rest s. s ≡ given (both ∷ rest)) (entries_outcome asks of_key of_value es) (λ rest. given (see both ∷ rest))
    (told_entries see_key see_value asks of_key of_value key value told_k told_v es) (λ rest s e. rw e refl) r j)
    o h

told_whole : {K V W X M : Type 0} (view : M → List (K × V)) (cmp : K → K → Ordering) (order : W → W → Ordering) (see_key : K → W) (see_value : V → X) → ((x y : K) → cmp x y ≡ order (see_key x) (see_key y))
    → (pairs : List (K × V)) (o : Outcome M) → IsOutcome view (given (inserted cmp [] pairs)) o
    → seen (λ m. map (pair_seen see_key see_value) (view m)) o ≡ given (inserted order [] (map (pair_seen see_key see_value) pairs))
told_whole view cmp order see_key see_value agrees pairs (given m) h =
    let same : inserted cmp [] pairs ≡ view m = cc in rw (← same) (ap given (inserted_seen cmp order see_key see_value agrees [] pairs))
told_whole view cmp order see_key see_value agrees pairs (refused f path) h = absurd (cc)

told_table : {K V W X M : Type 0} (view : M → List (K × V)) (cmp : K → K → Ordering) (order : W → W → Ordering) (see_key : K → W) (see_value : V → X) → ((x y : K) → cmp x y ≡ order (see_key x) (see_key y))
    → (asks : Ask) (of_key : Source → Outcome W) (of_value : Source → Outcome X) (key : Source → Outcome K → Type 0) (value : Source → Outcome V → Type 0)
    → IsToldFrom see_key of_key key → IsToldFrom see_value of_value value
    → IsTold (λ m. map (pair_seen see_key see_value) (view m)) (map_outcome order asks of_key of_value) (MapReads view cmp asks key value)
told_table view cmp order see_key see_value agrees asks of_key of_value key value told_k told_v (entries checks es) o h =
    told_step (λ pairs. map (pair_seen see_key see_value) pairs) (λ m. map (pair_seen see_key see_value) (view m)) (EntriesRead asks key value es) (λ pairs. IsOutcome view (given (inserted cmp [] pairs)))
    (entries_outcome asks of_key of_value es) (λ pairs. given (inserted order [] pairs))
    (told_entries see_key see_value asks of_key of_value key value told_k told_v es) (told_whole view cmp order see_key see_value agrees) o h
told_table view cmp order see_key see_value agrees asks of_key of_value key value told_k told_v (scalar s) o h = not_taken_as (λ m. map (pair_seen see_key see_value) (view m)) (scalar s) o h
told_table view cmp order see_key see_value agrees asks of_key of_value key value told_k told_v some_itself o h = not_taken_as (λ m. map (pair_seen see_key see_value) (view m)) some_itself o h
told_table view cmp order see_key see_value agrees asks of_key of_value key value told_k told_v (some s) o h = not_taken_as (λ m. map (pair_seen see_key see_value) (view m)) (some s) o h
told_table view cmp order see_key see_value agrees asks of_key of_value key value told_k told_v (elements checks ss) o h = not_taken_as (λ m. map (pair_seen see_key see_value) (view m)) (elements checks ss) o h
told_table view cmp order see_key see_value agrees asks of_key of_value key value told_k told_v newtype_itself o h = not_taken_as (λ m. map (pair_seen see_key see_value) (view m)) newtype_itself o h
told_table view cmp order see_key see_value agrees asks of_key of_value key value told_k told_v (newtype_struct s) o h = not_taken_as (λ m. map (pair_seen see_key see_value) (view m)) (newtype_struct s) o h
told_table view cmp order see_key see_value agrees asks of_key of_value key value told_k told_v (variant_itself payload) o h = not_taken_as (λ m. map (pair_seen see_key see_value) (view m)) (variant_itself payload) o h
told_table view cmp order see_key see_value agrees asks of_key of_value key value told_k told_v (variant name payload) o h = not_taken_as (λ m. map (pair_seen see_key see_value) (view m)) (variant name payload) o h
told_table view cmp order see_key see_value agrees asks of_key of_value key value told_k told_v (offer.refused f) o h = not_taken_as (λ m. map (pair_seen see_key see_value) (view m)) (offer.refused f) o h

pub told_map : {K V W X M : Type 0} (view : M → List (K × V)) (cmp : K → K → Ordering) (order : W → W → Ordering) (see_key : K → W) (see_value : V → X) → ((x y : K) → cmp x y ≡ order (see_key x) (see_key y))
    → (asks_key asks_value : Ask) (reads_key : Offer → Outcome K → Type 0) (reads_value : Offer → Outcome V → Type 0) (outcome_key : Offer → Outcome W) (outcome_value : Offer → Outcome X)
    → IsTold see_key outcome_key reads_key → IsTold see_value outcome_value reads_value
    → IsTold (λ m. map (pair_seen see_key see_value) (view m)) (map_outcome order asks_key (from_source asks_key outcome_key) (from_source asks_value outcome_value))
    (MapReads view cmp asks_key (ReadsFrom asks_key reads_key) (ReadsFrom asks_value reads_value))
told_map view cmp order see_key see_value agrees asks_key asks_value reads_key reads_value outcome_key outcome_value told_k told_v =
    told_table view cmp order see_key see_value agrees asks_key (from_source asks_key outcome_key) (from_source asks_value outcome_value) (ReadsFrom asks_key reads_key) (ReadsFrom asks_value reads_value)
    (told_from see_key asks_key reads_key outcome_key told_k) (told_from see_value asks_value reads_value outcome_value told_v)
