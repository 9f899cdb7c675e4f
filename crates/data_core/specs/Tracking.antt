-- The path of the first refusal, as it grows on the way out of nested reads.
use Rattle.std.specs.Prelude.{List, [], ◌∷◌, ◌≡◌, ◌≢◌, ◌⊎◌, Bool, true, false, Option, Some, None, Result, Ok, Err}
use Rattle.data_core.specs.declared.fault.Fault.{Fault}
use Rattle.data_core.specs.declared.path.Segment.{Segment}

pub data Refusal : Type 0 where
  clear : Refusal
  held : List Segment → Refusal
  -- a path was lost for want of memory
  marked : Refusal

-- the path of a refusal, outermost segment first; nothing is held where it came at the outside
abbrev pub HoldsPath : Refusal → List Segment → Type 0
HoldsPath clear path = path ≡ []
HoldsPath (held p) path = p ≡ path
HoldsPath marked path = ⊥

-- the path that is handed out of a refusal; the empty one where there is none or it was lost
abbrev pub path_of : Refusal → List Segment
path_of clear = []
path_of (held p) = p
path_of marked = []

-- a refusal at this path, or at one that was lost, is noted: the first one stays
abbrev pub noted : Option (List Segment) → Refusal → Refusal
noted (Some path) clear = held path
noted None clear = marked
noted path (held p) = held p
noted path marked = marked

-- a refusal came from within this segment: its path begins there
abbrev pub added : Segment → Refusal → Refusal
added segment clear = clear
added segment (held p) = held (segment ∷ p)
added segment marked = marked

-- after a nested read that failed, or not: a refusal that was swallowed in it gets the segment too
abbrev pub left_with : Segment → Bool → Refusal → Refusal
left_with segment true now = added segment (noted (Some []) now)
left_with segment false now = added segment now

-- a deserializer that tracks adds its segment, unless a refusal was noted before the nested read
abbrev pub left : Bool → Segment → Bool → Bool → Refusal → Refusal
left false segment before failed now = now
left true segment true failed now = now
left true segment false failed now = left_with segment failed now

-- a refusal that is dropped; a path that was lost stays lost
abbrev pub dropped : Refusal → Refusal
dropped clear = clear
dropped (held p) = clear
dropped marked = marked

-- after the read of a key: its refusal has the entry's segment alone, whatever stood inside the key
abbrev pub left_key : Bool → Segment → Bool → Bool → Refusal → Refusal
left_key false segment before failed now = now
left_key true segment true failed now = now
left_key true segment false failed now = left_with segment failed (dropped now)

-- after the read of a variant's name: its refusal is that of the enum itself, whatever stood inside the name
abbrev pub left_name : Bool → Bool → Bool → Refusal → Refusal
left_name false before failed now = now
left_name true true failed now = now
left_name true false true now = noted (Some []) (dropped now)
left_name true false false now = dropped now

-- a way out that fails for want of memory loses the path of a deserializer that tracks
abbrev pub lost : Bool → Refusal → Refusal
lost true now = marked
lost false now = now

-- a path that was held before is held still, or lost; one that was lost stays lost
abbrev pub Stays : Refusal → Refusal → Type 0
Stays old new = (old ≡ clear) ⊎ (new ≡ old) ⊎ (new ≡ marked)

-- a path that was held is held still after a refusal; it is lost for want of memory alone
abbrev pub HoldsOnUnless : Option Fault → Refusal → Refusal → Type 0
HoldsOnUnless None old new = Unit {0}
HoldsOnUnless (Some f) old new = (old ≡ clear) ⊎ (new ≡ old)

-- a value leaves the track as it was, and a refusal a path that was held
abbrev pub HoldsOn : {A E : Type 0} → (E → Option Fault) → Result A E → Refusal → Refusal → Type 0
HoldsOn fault (Ok a) old new = new ≡ old
HoldsOn fault (Err e) old new = HoldsOnUnless (fault e) old new

-- what a read leaves of the track: a reader that passes refusals on and notes none by itself changes nothing
-- where nothing tracks, nor with a value, and loses a path that was held for want of memory alone
abbrev pub Keeps : {A E : Type 0} → (E → Option Fault) → Type 0 → Bool → Result A E → Refusal → Refusal → Type 0
Keeps fault quiet tracks result old new = Stays old new × (quiet → (tracks ≡ false → new ≡ old) × HoldsOn fault result old new)

-- the same after reads that all gave values
abbrev pub Kept : Type 0 → Refusal → Refusal → Type 0
Kept quiet old new = Stays old new × (quiet → new ≡ old)

-- a refusal that is told where something tracks is noted, and its path was not lost
abbrev pub NotesUnless : Option Fault → Refusal → Type 0
NotesUnless None now = Unit {0}
NotesUnless (Some f) now = (now ≢ clear) × (now ≢ marked)

abbrev pub Notes : {A E : Type 0} → (E → Option Fault) → Result A E → Refusal → Type 0
Notes fault (Ok a) now = Unit {0}
Notes fault (Err e) now = NotesUnless (fault e) now

-- what a part leaves of a clear track, once its segment is put before it
abbrev pub LeavesUnder : Segment → (Refusal → Type 0) → Refusal → Type 0
LeavesUnder segment leaves now = (inner : Refusal) × leaves inner × (now ≡ added segment inner)

-- what is left of a clear track by a read whose refusals are told elsewhere, as of a key or a name: nothing, or a lost path
abbrev pub Swallows : Refusal → Type 0
Swallows now = (now ≡ clear) ⊎ (now ≡ marked)

-- what the way out of a nested read answers, by the track before and after
abbrev pub Leaves : {E : Type 0} → (E → Option Fault) → Bool → Segment → Bool → Bool → Refusal → Refusal → Result (Unit {0}) E → Type 0
Leaves fault tracks segment before failed old new (Ok u) = new ≡ left tracks segment before failed old
Leaves fault tracks segment before failed old new (Err e) = (fault e ≡ None) × (new ≡ lost tracks old)

-- the same of the read of a key
abbrev pub LeavesKey : {E : Type 0} → (E → Option Fault) → Bool → Segment → Bool → Bool → Refusal → Refusal → Result (Unit {0}) E → Type 0
LeavesKey fault tracks segment before failed old new (Ok u) = new ≡ left_key tracks segment before failed old
LeavesKey fault tracks segment before failed old new (Err e) = (fault e ≡ None) × (new ≡ lost tracks old)

-- the same of the read of a variant's name
abbrev pub LeavesName : {E : Type 0} → (E → Option Fault) → Bool → Bool → Bool → Refusal → Refusal → Result (Unit {0}) E → Type 0
LeavesName fault tracks before failed old new (Ok u) = new ≡ left_name tracks before failed old
LeavesName fault tracks before failed old new (Err e) = (fault e ≡ None) × (new ≡ lost tracks old)
