-- What the read of an entry leaves of a map and of the track, by how far it came.
use Rattle.std.specs.Prelude.{◌≡◌, ◌⊎◌, ℕ, List, Option, Some, None, Result, Ok, Err}
use Rattle.data_core.specs.declared.fault.Fault.{Fault}
use Rattle.data_core.specs.declared.path.Segment.{Segment}
use Rattle.data_core.specs.Ask.{Ask}
use Rattle.data_core.specs.Source.{Source, Entries, no_entries, entry}
use Rattle.data_core.specs.Table.{Table, key_taken, entry_taken, segment_of_key}
use Rattle.data_core.specs.Tracking.{Refusal, marked, LeavesUnder, Swallows}
use Rattle.data_core.specs.Outcome.{Outcome, given, refused}

-- the next key is refused for this fault
abbrev pub KeyFails : {K : Type 0} → (Source → Outcome K → Type 0) → Entries → Fault → Type 0
KeyFails key no_entries f = ⊥
KeyFails key (entry k v es) f = (inner : List Segment) × key k (refused f inner)

-- the next key is read
abbrev pub KeyGives : {K : Type 0} → (Source → Outcome K → Type 0) → Entries → Type 0
KeyGives {K} key no_entries = ⊥
KeyGives {K} key (entry k v es) = (x : K) × key k (given x)

-- the value of a key that was refused waits, and that of one that was read is taken
abbrev pub TookEntryUnless : {K : Type 0} → Option Fault → (Source → Outcome K → Type 0) → Table → Table → Type 0
TookEntryUnless None key t now = (now ≡ t) ⊎ (now ≡ key_taken t) ⊎ (now ≡ entry_taken t)
TookEntryUnless (Some f) key t now = (KeyFails key t.left f × (now ≡ key_taken t)) ⊎ (KeyGives key t.left × (now ≡ entry_taken t))

abbrev pub TookEntry : {A E K : Type 0} → (E → Option Fault) → Result A E → (Source → Outcome K → Type 0) → Table → Table → Type 0
TookEntry fault (Ok a) key t now = now ≡ entry_taken t
TookEntry fault (Err e) key t now = TookEntryUnless (fault e) key t now

-- what is caught once a key was read by the reader of its type: for want of memory before it, what was caught earlier
abbrev pub KeepsOwnUnless : Option Fault → Option (List ℕ) → Option (List ℕ) → Option (List ℕ) → Type 0
KeepsOwnUnless None key earlier caught = (caught ≡ key) ⊎ (caught ≡ None) ⊎ (caught ≡ earlier)
KeepsOwnUnless (Some f) key earlier caught = caught ≡ None

abbrev pub KeepsOwnText : {A E : Type 0} → (E → Option Fault) → Result A E → Option (List ℕ) → Option (List ℕ) → Option (List ℕ) → Type 0
KeepsOwnText fault (Ok a) key earlier caught = caught ≡ key
KeepsOwnText fault (Err e) key earlier caught = KeepsOwnUnless (fault e) key earlier caught

-- after a whole entry nothing is caught
abbrev pub ForgetsText : {A E : Type 0} → (E → Option Fault) → Result A E → Option (List ℕ) → Option (List ℕ) → Option (List ℕ) → Type 0
ForgetsText fault (Ok a) key earlier caught = caught ≡ None
ForgetsText fault (Err e) key earlier caught = KeepsOwnUnless (fault e) key earlier caught

-- what the read of the next entry leaves of a clear track: what its value swallowed, at its segment, or a lost path
abbrev pub LeavesEntry : Ask → (Source → Refusal → Type 0) → Entries → Refusal → Type 0
LeavesEntry asks leaves no_entries now = Swallows now
LeavesEntry asks leaves (entry k v es) now = LeavesUnder (segment_of_key asks k) (leaves v) now ⊎ (now ≡ marked)

-- what is caught once a name was read by the reader of its type: for want of memory before it, what was caught earlier
abbrev pub CatchesOwnUnless : Option Fault → Option (List ℕ) → Option (List ℕ) → Option (List ℕ) → Type 0
CatchesOwnUnless None name earlier caught = (caught ≡ name) ⊎ (caught ≡ None) ⊎ (caught ≡ earlier)
CatchesOwnUnless (Some f) name earlier caught = caught ≡ name

abbrev pub CatchesOwn : {A E : Type 0} → (E → Option Fault) → Result A E → Option (List ℕ) → Option (List ℕ) → Option (List ℕ) → Type 0
CatchesOwn fault (Ok a) name earlier caught = caught ≡ name
CatchesOwn fault (Err e) name earlier caught = CatchesOwnUnless (fault e) name earlier caught
