-- The entries of a map, read one after the other.
use Rattle.std.proofs.Common.{◌≡◌, List, [], ◌∷◌, ◌++◌, Some, None, refl, inl, inr}
use Rattle.std.specs.declared.cmp.Ordering.{Ordering}
use Rattle.std.specs.BTreeMap.{insert_entry}
use Rattle.data_core.specs.declared.fault.Fault.{Fault}
use Rattle.data_core.specs.declared.path.Segment.{Segment}
use Rattle.data_core.specs.Ask.{Ask}
use Rattle.data_core.specs.Source.{Source, Entries, no_entries, entry}
use Rattle.data_core.specs.Table.{IsKey, IsValue, entry_segment, next_text, rest_of_entries, value_of}
use Rattle.data_core.specs.Outcome.{Outcome, given, refused}
use Rattle.data_std.specs.Pairs.{NextReads, EntriesRead, inserted}
use Rattle.data_std.proofs.Elements.{after}

-- the next entry, by its key and then its value
pub NextReads-key : {K V : Type 0} (asks : Ask) (key : Source → Outcome K → Type 0) (value : Source → Outcome V → Type 0) (es : Entries) (f : Fault) (path : List Segment)
    → IsKey asks key es (refused f path) → NextReads asks key value es (refused f path)
NextReads-key asks key value no_entries f path h = absurd (cc)
NextReads-key asks key value (entry k v es) f path h = inl (inl h)

pub NextReads-value : {K V : Type 0} (asks : Ask) (key : Source → Outcome K → Type 0) (value : Source → Outcome V → Type 0) (es : Entries) (x : K) (f : Fault) (path : List Segment)
    → IsKey asks key es (given (Some x)) → IsValue (entry_segment (next_text asks es)) value (value_of es) (refused f path) → NextReads asks key value es (refused f path)
NextReads-value asks key value no_entries x f path read h = absurd h
NextReads-value asks key value (entry k v es) x f path read h = inl (inr (x, read, inl h))

pub NextReads-both : {K V : Type 0} (asks : Ask) (key : Source → Outcome K → Type 0) (value : Source → Outcome V → Type 0) (es : Entries) (x : K) (y : V)
    → IsKey asks key es (given (Some x)) → IsValue (entry_segment (next_text asks es)) value (value_of es) (given y) → NextReads asks key value es (given (Some (x, y)))
NextReads-both asks key value no_entries x y read h = absurd h
NextReads-both asks key value (entry k v es) x y read h = inr ((x, y), inr (x, read, inr (y, h, refl)), refl)

-- all entries, by the next one and those after it
pub EntriesRead-more : {K V : Type 0} (asks : Ask) (key : Source → Outcome K → Type 0) (value : Source → Outcome V → Type 0) (es : Entries) (both : K × V) (o : Outcome (List (K × V)))
    → NextReads asks key value es (given (Some both)) → EntriesRead asks key value (rest_of_entries es) o → EntriesRead asks key value es (after (both ∷ []) o)
EntriesRead-more asks key value no_entries both o h rest = absurd (cc)
EntriesRead-more asks key value (entry k v es) both o (inl fails) rest = absurd fails
EntriesRead-more asks key value (entry k v es) both (given pairs) (inr read) rest =
    let same : both ≡ read.0 = cc in inr (both, rw same read.1, inr (pairs, rest, refl))
EntriesRead-more asks key value (entry k v es) both (refused f path) (inr read) rest =
    let same : both ≡ read.0 = cc in inr (both, rw same read.1, inl rest)

pub EntriesRead-fails : {K V : Type 0} (asks : Ask) (key : Source → Outcome K → Type 0) (value : Source → Outcome V → Type 0) (es : Entries) (f : Fault) (path : List Segment)
    → NextReads asks key value es (refused f path) → EntriesRead asks key value es (refused f path)
EntriesRead-fails asks key value no_entries f path h = absurd (cc)
EntriesRead-fails asks key value (entry k v es) f path (inl h) = inl h
EntriesRead-fails asks key value (entry k v es) f path (inr read) = absurd (cc)

pub EntriesRead-ends : {K V : Type 0} (asks : Ask) (key : Source → Outcome K → Type 0) (value : Source → Outcome V → Type 0) (es : Entries)
    → NextReads asks key value es (given None) → EntriesRead asks key value es (given [])
EntriesRead-ends asks key value no_entries h = refl
EntriesRead-ends asks key value (entry k v es) (inl fails) = absurd fails
EntriesRead-ends asks key value (entry k v es) (inr read) = absurd (cc)

pub inserted_push : {K V : Type 0} (cmp : K → K → Ordering) (es pairs : List (K × V)) (both : K × V)
    → inserted cmp es (pairs ++ both ∷ []) ≡ insert_entry cmp (inserted cmp es pairs) both.0 both.1
inserted_push cmp es [] both = refl
inserted_push cmp es (p ∷ ps) both = inserted_push cmp (insert_entry cmp es p.0 p.1) ps both
