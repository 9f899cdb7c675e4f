-- What is left of a clear track by the readers of compounds, whose parts' readers may go on from refusals.
use Rattle.std.specs.Prelude.{◌≡◌, ◌⊎◌, ℕ, ◌+◌}
use Rattle.data_core.specs.declared.path.Segment.TheVariants.{Seq}
use Rattle.data_core.specs.Ask.{Ask}
use Rattle.data_core.specs.Source.{Source, Offer, elements, entries, Sources, end, more, Entries, no_entries, entry}
use Rattle.data_core.specs.Sequence.{rest_of, LeavesNext}
use Rattle.data_core.specs.Tracking.{Refusal, clear, held, marked, LeavesUnder}
use Rattle.data_std.specs.Entry.{LeavesEntry}

-- what later parts leave after an earlier one: a path that is held stays or is lost
abbrev pub ThenLeaves : Refusal → (Refusal → Type 0) → Refusal → Type 0
ThenLeaves clear later now = later now
ThenLeaves (held p) later now = (now ≡ held p) ⊎ (now ≡ marked)
ThenLeaves marked later now = now ≡ marked

-- a part and the later ones: the first path that is swallowed stays
abbrev pub LeavesThen : (Refusal → Type 0) → (Refusal → Type 0) → Refusal → Type 0
LeavesThen first later now = (mid : Refusal) × first mid × ThenLeaves mid later now

-- a sequence, by what is left of its elements
abbrev pub SequenceLeaves : (Sources → Refusal → Type 0) → Offer → Refusal → Type 0
SequenceLeaves leaves (elements checks ss) now = leaves ss now
SequenceLeaves leaves offer now = now ≡ clear

-- each element in turn, from a place in the sequence on
abbrev pub EachLeaves : (Source → Refusal → Type 0) → ℕ → Sources → Refusal → Type 0
EachLeaves leaves i end now = now ≡ clear
EachLeaves leaves i (more s ss) now = LeavesThen (LeavesUnder (Seq i) (leaves s)) (EachLeaves leaves (i + 1) ss) now

-- two, three and four elements from a place on
abbrev pub PartsLeave2 : (Source → Refusal → Type 0) → (Source → Refusal → Type 0) → ℕ → Sources → Refusal → Type 0
PartsLeave2 first second i ss = LeavesThen (LeavesNext first i ss) (LeavesNext second (i + 1) (rest_of ss))

abbrev pub PartsLeave3 : (Source → Refusal → Type 0) → (Source → Refusal → Type 0) → (Source → Refusal → Type 0) → ℕ → Sources → Refusal → Type 0
PartsLeave3 first second third i ss = LeavesThen (LeavesNext first i ss) (PartsLeave2 second third (i + 1) (rest_of ss))

abbrev pub PartsLeave4 : (Source → Refusal → Type 0) → (Source → Refusal → Type 0) → (Source → Refusal → Type 0) → (Source → Refusal → Type 0) → ℕ → Sources → Refusal → Type 0
PartsLeave4 first second third fourth i ss = LeavesThen (LeavesNext first i ss) (PartsLeave3 second third fourth (i + 1) (rest_of ss))

-- each entry in turn; what a key swallows is told elsewhere
abbrev pub EntriesLeave : Ask → (Source → Refusal → Type 0) → Entries → Refusal → Type 0
EntriesLeave asks leaves no_entries now = LeavesEntry asks leaves no_entries now
EntriesLeave asks leaves (entry k v es) now = LeavesThen (LeavesEntry asks leaves (entry k v es)) (EntriesLeave asks leaves es) now

abbrev pub MapLeaves : Ask → (Source → Refusal → Type 0) → Offer → Refusal → Type 0
MapLeaves asks leaves (entries checks es) now = EntriesLeave asks leaves es now
MapLeaves asks leaves offer now = now ≡ clear
