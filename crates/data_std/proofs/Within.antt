-- What a reader gives that gives no more than another does.
use Rattle.std.proofs.Common.{ℕ, Bool, Option, Some, None, Result, Ok, Err}
use Rattle.data_core.specs.declared.fault.Fault.{Fault}
use Rattle.data_core.specs.declared.path.Segment.{Segment}
use Rattle.data_core.specs.Source.{Source, Offer, scalar, some_itself, some, elements, newtype_itself, newtype_struct, entries, variant_itself, variant}
use Rattle.data_core.specs.Source as offer
use Rattle.data_core.specs.Source.{Sources, end, more}
use Rattle.data_core.specs.Sequence.{LeavesNext}
use Rattle.data_core.specs.Table.{IsValue, LeavesValue}
use Rattle.data_core.specs.Choice.{IsInside, LeavesInside}
use Rattle.data_core.specs.Tracking.{Refusal, LeavesUnder}
use Rattle.data_core.specs.Outcome.{Outcome, given, refused, IsUnder, RefusedAmong, Among}

-- what is among some outcomes is among more
RefusedAmong-within : {A : Type 0} (placed : Type 0) (tracks : Bool) (fault : Option Fault) (P Q : Outcome A → Type 0) (old new : Refusal)
    → ((o : Outcome A) → P o → Q o) → RefusedAmong placed tracks fault P old new → RefusedAmong placed tracks fault Q old new
RefusedAmong-within placed tracks None P Q old new within h = tt
RefusedAmong-within placed tracks (Some f) P Q old new within h = (h.0, within (refused f h.0) h.1, h.2)

pub Among-within : {A E : Type 0} (fault : E → Option Fault) (placed : Type 0) (tracks : Bool) (r : Result A E) (P Q : Outcome A → Type 0) (old new : Refusal)
    → ((o : Outcome A) → P o → Q o) → Among fault placed tracks r P old new → Among fault placed tracks r Q old new
Among-within fault placed tracks (Ok a) P Q old new within h = within (given a) h
Among-within fault placed tracks (Err e) P Q old new within h = RefusedAmong-within placed tracks (fault e) P Q old new within h

IsUnder-within : {A : Type 0} (segment : Segment) (P Q : Outcome A → Type 0) → ((o : Outcome A) → P o → Q o) → (o : Outcome A) → IsUnder segment P o → IsUnder segment Q o
IsUnder-within segment P Q within (given a) h = within (given a) h
IsUnder-within segment P Q within (refused f path) h = (h.0, within (refused f h.0) h.1, h.2)

pub IsValue-within : {A : Type 0} (segment : Segment) (reads all : Source → Outcome A → Type 0) (waiting : Option Source) → ((s : Source) (o : Outcome A) → reads s o → all s o)
    → (o : Outcome A) → IsValue segment reads waiting o → IsValue segment all waiting o
IsValue-within segment reads all None within o h = absurd h
IsValue-within segment reads all (Some s) within o h = IsUnder-within segment (reads s) (all s) (within s) o h

IsInside-within : {A : Type 0} (reads all : Source → Outcome A → Type 0) → ((s : Source) (o : Outcome A) → reads s o → all s o)
    → (offered : Offer) (o : Outcome A) → IsInside reads offered o → IsInside all offered o
IsInside-within reads all within (scalar s) o h = absurd h
IsInside-within reads all within some_itself o h = absurd h
IsInside-within reads all within (some s) o h = absurd h
IsInside-within reads all within (elements checks ss) o h = absurd h
IsInside-within reads all within newtype_itself o h = absurd h
IsInside-within reads all within (newtype_struct s) o h = within s o h
IsInside-within reads all within (entries checks es) o h = absurd h
IsInside-within reads all within (variant_itself payload) o h = absurd h
IsInside-within reads all within (variant name payload) o h = absurd h
IsInside-within reads all within (offer.refused f) o h = h

pub IsUnder-inside : {A : Type 0} (segment : Segment) (reads all : Source → Outcome A → Type 0) (offered : Offer) → ((s : Source) (o : Outcome A) → reads s o → all s o)
    → (o : Outcome A) → IsUnder segment (IsInside reads offered) o → IsUnder segment (IsInside all offered) o
IsUnder-inside segment reads all offered within =
    IsUnder-within segment (IsInside reads offered) (IsInside all offered) (IsInside-within reads all within offered)

-- what may be left of a clear track may be left by a reader that may leave more
pub LeavesUnder-within : (segment : Segment) (leaves all : Refusal → Type 0) (now : Refusal) → ((r : Refusal) → leaves r → all r) → LeavesUnder segment leaves now → LeavesUnder segment all now
LeavesUnder-within segment leaves all now within h = (h.0, within h.0 h.1, h.2)

pub LeavesNext-within : (leaves all : Source → Refusal → Type 0) (i : ℕ) (ss : Sources) (now : Refusal) → ((s : Source) (r : Refusal) → leaves s r → all s r) → LeavesNext leaves i ss now → LeavesNext all i ss now
LeavesNext-within leaves all i end now within h = h
LeavesNext-within leaves all i (more s ss) now within h = (h.0, within s h.0 h.1, h.2)

pub LeavesValue-within : (segment : Segment) (leaves all : Source → Refusal → Type 0) (waiting : Option Source) (now : Refusal) → ((s : Source) (r : Refusal) → leaves s r → all s r) → LeavesValue segment leaves waiting now → LeavesValue segment all waiting now
LeavesValue-within segment leaves all None now within h = absurd h
LeavesValue-within segment leaves all (Some s) now within h = (h.0, within s h.0 h.1, h.2)

LeavesInside-within : (leaves all : Source → Refusal → Type 0) (offered : Offer) (now : Refusal) → ((s : Source) (r : Refusal) → leaves s r → all s r) → LeavesInside leaves offered now → LeavesInside all offered now
LeavesInside-within leaves all (scalar s) now within h = absurd h
LeavesInside-within leaves all some_itself now within h = absurd h
LeavesInside-within leaves all (some s) now within h = absurd h
LeavesInside-within leaves all (elements checks ss) now within h = absurd h
LeavesInside-within leaves all newtype_itself now within h = absurd h
LeavesInside-within leaves all (newtype_struct s) now within h = within s now h
LeavesInside-within leaves all (entries checks es) now within h = absurd h
LeavesInside-within leaves all (variant_itself payload) now within h = absurd h
LeavesInside-within leaves all (variant name payload) now within h = absurd h
LeavesInside-within leaves all (offer.refused f) now within h = absurd h

pub LeavesUnder-inside : (segment : Segment) (leaves all : Source → Refusal → Type 0) (offered : Offer) (now : Refusal) → ((s : Source) (r : Refusal) → leaves s r → all s r)
    → LeavesUnder segment (LeavesInside leaves offered) now → LeavesUnder segment (LeavesInside all offered) now
LeavesUnder-inside segment leaves all offered now within h = (h.0, LeavesInside-within leaves all offered h.0 within h.1, h.2)
