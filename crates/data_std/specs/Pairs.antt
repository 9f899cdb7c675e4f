-- What the reader of maps makes of an offer.
use Rattle.std.specs.Prelude.{◌≡◌, List, [], ◌∷◌, Option, Some, None}
use Rattle.std.specs.declared.cmp.Ordering.{Ordering}
use Rattle.std.specs.BTreeMap.{insert_entry}
use Rattle.data_core.specs.declared.path.Segment.{Segment}
use Rattle.data_core.specs.Ask.{Ask}
use Rattle.data_core.specs.Source.{Source, Offer, entries, Entries, no_entries, entry}
use Rattle.data_core.specs.Table.{segment_of_key}
use Rattle.data_core.specs.Outcome.{Outcome, given, IsUnder, not_taken}
use Rattle.data_core.specs.Reads.{IsOutcome, AtKey, AndThen}

-- a key and then its value, both at the segment of their entry
abbrev pub PairReads : {K V : Type 0} → Segment → (Outcome K → Type 0) → (Outcome V → Type 0) → Outcome (K × V) → Type 0
PairReads {K} {V} segment key value =
    AndThen (AtKey segment key) (λ x. AndThen (IsUnder segment value) (λ y o. let both : K × V = (x, y) in o ≡ given both))

-- the next entry, and nothing where none is left
abbrev pub NextReads : {K V : Type 0} → Ask → (Source → Outcome K → Type 0) → (Source → Outcome V → Type 0) → Entries → Outcome (Option (K × V)) → Type 0
NextReads asks key value no_entries outcome = outcome ≡ given None
NextReads asks key value (entry k v es) outcome =
    AndThen (PairReads (segment_of_key asks k) (key k) (value v)) (λ both o. o ≡ given (Some both)) outcome

-- each entry in turn, up to the first fault
abbrev pub EntriesRead : {K V : Type 0} → Ask → (Source → Outcome K → Type 0) → (Source → Outcome V → Type 0) → Entries → Outcome (List (K × V)) → Type 0
EntriesRead asks key value no_entries outcome = outcome ≡ given []
EntriesRead asks key value (entry k v es) outcome =
    AndThen (PairReads (segment_of_key asks k) (key k) (value v)) (λ both. AndThen (EntriesRead asks key value es) (λ rest o. o ≡ given (both ∷ rest))) outcome

-- entries in the order of their keys, once these pairs are put there in turn: a later value replaces
-- that of an equal key
abbrev pub inserted : {K V : Type 0} → (K → K → Ordering) → List (K × V) → List (K × V) → List (K × V)
inserted cmp es [] = es
inserted cmp es (both ∷ rest) = inserted cmp (insert_entry cmp es both.0 both.1) rest

-- the entries as those of a map, seen through a view
abbrev pub TableRead : {K V M : Type 0} → (M → List (K × V)) → (K → K → Ordering) → Ask → (Source → Outcome K → Type 0) → (Source → Outcome V → Type 0) → Entries → Outcome M → Type 0
TableRead view cmp asks key value es =
    AndThen (EntriesRead asks key value es) (λ pairs. IsOutcome view (given (inserted cmp [] pairs)))

abbrev pub MapReads : {K V M : Type 0} → (M → List (K × V)) → (K → K → Ordering) → Ask → (Source → Outcome K → Type 0) → (Source → Outcome V → Type 0) → Offer → Outcome M → Type 0
MapReads view cmp asks key value (entries checks es) outcome = TableRead view cmp asks key value es outcome
MapReads view cmp asks key value offer outcome = outcome ≡ not_taken offer
