-- A map under way: what is left of it, how many keys were taken, the value that waits, whether the end is
-- checked, and whether it tells how many entries are left. And the text that is caught of a key.
use Rattle.std.specs.Prelude.{ℕ, ◌+◌, ◌≡◌, ◌⊎◌, List, [], ◌∷◌, Bool, true, false, Option, Some, None, Result, Ok, Err, codes}
use Rattle.std.specs.Fmt.{decimal, signed_decimal}
use Rattle.data_core.specs.declared.fault.Fault.{Fault}
use Rattle.data_core.specs.declared.fault.Fault.TheVariants.{InvalidLength}
use Rattle.data_core.specs.declared.path.Segment.{Segment}
use Rattle.data_core.specs.declared.path.Segment.TheVariants.{Map, Unknown}
use Rattle.data_core.specs.Ask.{Ask}
use Rattle.data_core.specs.Outcome.{Outcome, given, refused, IsUnder}
use Rattle.data_core.specs.Tracking.{Refusal, LeavesUnder}
use Rattle.data_core.specs.Source.{Source, Scalar, boolean, unsigned, signed, wide_unsigned, wide_signed, text, Offer, scalar, offer_of, Entries, no_entries, entry, count_entries}

pub record Table : Type 0 where
  pub left : Entries
  pub taken : ℕ
  -- the value whose key was taken last, until it is taken
  pub waiting : Option Source
  pub checks : Bool
  pub tells : Bool

-- what is left after the next entry, how many keys were taken then, and the value that waits
abbrev pub rest_of_entries : Entries → Entries
rest_of_entries no_entries = no_entries
rest_of_entries (entry k v es) = es

abbrev pub taken_after : Entries → ℕ → ℕ
taken_after no_entries i = i
taken_after (entry k v es) i = i + 1

abbrev pub value_of : Entries → Option Source
value_of no_entries = None
value_of (entry k v es) = Some v

-- after the next key was taken, and its value waits; where none is left, none waits
abbrev pub key_taken : Table → Table
key_taken t =
    record { left = rest_of_entries t.left; taken = taken_after t.left t.taken; waiting = value_of t.left; checks = t.checks; tells = t.tells }

-- after the value was taken
abbrev pub value_taken : Table → Table
value_taken t = record { left = t.left; taken = t.taken; waiting = None; checks = t.checks; tells = t.tells }

-- after the next entry was taken, key and value
abbrev pub entry_taken : Table → Table
entry_taken t = value_taken (key_taken t)

-- a map that begins: nothing was taken, nothing waits, and nothing is caught
abbrev pub BeginsMap : Table → Option (List ℕ) → Type 0
BeginsMap t caught = (t.taken ≡ 0) × (t.waiting ≡ None) × (caught ≡ None)

-- what is caught of a key: an integer's digits, true or false, or a text
abbrev pub text_of_scalar : Scalar → Option (List ℕ)
text_of_scalar (boolean true) = Some (codes "true")
text_of_scalar (boolean false) = Some (codes "false")
text_of_scalar (unsigned width n) = Some (decimal n)
text_of_scalar (signed width z) = Some (signed_decimal z)
text_of_scalar (wide_unsigned n) = Some (decimal n)
text_of_scalar (wide_signed z) = Some (signed_decimal z)
text_of_scalar (text t) = Some t
text_of_scalar s = None

abbrev pub offer_text : Offer → Option (List ℕ)
offer_text (scalar s) = text_of_scalar s
offer_text offer = None

-- the segment of an entry whose key was caught as this text
abbrev pub entry_segment : Option (List ℕ) → Segment
entry_segment None = Unknown
entry_segment (Some t) = Map t

-- the segment of an entry whose key is read by this ask
abbrev pub segment_of_key : Ask → Source → Segment
segment_of_key a k = entry_segment (offer_text (offer_of k a))

-- what a reader that stops is refused for: entries that are left where the end is checked
abbrev pub surplus_entries : Bool → ℕ → Entries → Option Fault
surplus_entries true taken (entry k v es) = Some (InvalidLength (taken + count_entries (entry k v es)))
surplus_entries checks taken es = None

-- what is handed out is the next key, whose value then waits, and none where none is left
abbrev pub TakesKey : {D E : Type 0} → (D → Source) → (E → Option Fault) → Result (Option D) E → Table → Table → Type 0
TakesKey source fault (Ok (Some d)) old new = (v : Source) × (old.left ≡ entry (source d) v new.left) × (new.waiting ≡ Some v)
TakesKey source fault (Ok None) old new = old.left ≡ no_entries
TakesKey source fault (Err e) old new = fault e ≡ None

-- what is caught of a key or a name once it was shown: its text, and for want of memory it may be nothing
abbrev pub CatchesUnless : Option Fault → Option (List ℕ) → Option (List ℕ) → Type 0
CatchesUnless None key caught = (caught ≡ key) ⊎ (caught ≡ None)
CatchesUnless (Some f) key caught = caught ≡ key

abbrev pub Catches : {A E : Type 0} → (E → Option Fault) → Result A E → Option (List ℕ) → Option (List ℕ) → Type 0
Catches fault (Ok a) key caught = caught ≡ key
Catches fault (Err e) key caught = CatchesUnless (fault e) key caught

-- what is caught after the way out of a key: the text of one that was read stays, for its value
abbrev pub caught_after : Bool → Option (List ℕ) → Option (List ℕ)
caught_after true caught = None
caught_after false caught = caught

-- what the taking of the value that waits answers
abbrev pub TakesValue : {D E : Type 0} → (D → Source) → (E → Option Fault) → Result D E → Option Source → Type 0
TakesValue source fault (Ok d) waiting = waiting ≡ Some (source d)
TakesValue source fault (Err e) waiting = fault e ≡ None

-- the outcomes of the next key, by what its reader asks: a refusal's path is the entry's one segment
abbrev pub IsKey : {A : Type 0} → Ask → (Source → Outcome A → Type 0) → Entries → Outcome (Option A) → Type 0
IsKey asks reads no_entries outcome = outcome ≡ given None
IsKey asks reads (entry k v es) (given None) = ⊥
IsKey asks reads (entry k v es) (given (Some a)) = reads k (given a)
IsKey asks reads (entry k v es) (refused f path) =
    (inner : List Segment) × reads k (refused f inner) × (path ≡ segment_of_key asks k ∷ [])

-- the text of the next key, by what its reader asks
abbrev pub next_text : Ask → Entries → Option (List ℕ)
next_text asks no_entries = None
next_text asks (entry k v es) = offer_text (offer_of k asks)

-- what is caught once a key was read: its text, and nothing where it was refused
abbrev pub KeepsUnless : Option Fault → Option (List ℕ) → Option (List ℕ) → Type 0
KeepsUnless None key caught = (caught ≡ key) ⊎ (caught ≡ None)
KeepsUnless (Some f) key caught = caught ≡ None

abbrev pub KeepsText : {A E : Type 0} → (E → Option Fault) → Result A E → Option (List ℕ) → Option (List ℕ) → Type 0
KeepsText fault (Ok a) key caught = caught ≡ key
KeepsText fault (Err e) key caught = KeepsUnless (fault e) key caught

-- the outcomes of the value that waits, under its entry's segment
abbrev pub IsValue : {A : Type 0} → Segment → (Source → Outcome A → Type 0) → Option Source → Outcome A → Type 0
IsValue segment reads None outcome = ⊥
IsValue segment reads (Some s) outcome = IsUnder segment (reads s) outcome

-- what the read of the value that waits leaves of a clear track: what it swallowed, under its entry's segment
abbrev pub LeavesValue : Segment → (Source → Refusal → Type 0) → Option Source → Refusal → Type 0
LeavesValue segment leaves None new = ⊥
LeavesValue segment leaves (Some s) new = LeavesUnder segment (leaves s) new
