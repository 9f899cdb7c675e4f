-- Answers of readers of which nothing is said but that they pass refusals on.
use Rattle.std.proofs.Common.{◌≡◌, Bool, true, Option, Some, None, Result, Ok, Err, refl}
use Rattle.data_core.specs.declared.fault.Fault.{Fault}
use Rattle.data_core.specs.declared.path.Segment.{Segment}
use Rattle.data_core.specs.Tracking.{Refusal, Stays}
use Rattle.data_core.specs.Outcome.{Outcome, RefusedAmong, Among}
use Rattle.data_core.proofs.Relations.{Kept-then}

abbrev pub anything : {A : Type 0} → Outcome A → Type 0
anything o = Unit {0}

-- a refusal of some part is one of the whole
pub refused_as : {A : Type 0} (B : Type 0) (tracks : Bool) (fault : Option Fault) (P : Outcome A → Type 0) (old new : Refusal) → RefusedAmong (Unit {0}) tracks fault P old new → RefusedAmong {A = B} (Unit {0}) tracks fault anything old new
refused_as B tracks None P old new h = tt
refused_as B tracks (Some f) P old new h = (h.0, tt, h.2)

pub told_as : {A E : Type 0} (fault : E → Option Fault) (tracks : Bool) (r : Result A E) (P : Outcome A → Type 0) (old new : Refusal) → Among fault (Unit {0}) tracks r P old new → Among fault (Unit {0}) tracks r anything old new
told_as fault tracks (Ok a) P old new h = tt
told_as {A} fault tracks (Err e) P old new h = refused_as A tracks (fault e) P old new h

-- what is answered of a payload, whose segment counts where the deserializer tracks
pub told_payload : {A E : Type 0} (fault : E → Option Fault) (tracks : Bool) (r : Result A E) (own : Segment) (P : Segment → Outcome A → Type 0) (old new : Refusal)
    → ((segment : Segment) → (tracks ≡ true → segment ≡ own) → Among fault (Unit {0}) tracks r (P segment) old new) → Among fault (Unit {0}) tracks r anything old new
told_payload fault tracks r own P old new h = told_as fault tracks r (P own) old new (h own (λ t. refl))

-- the track after reads of which it is only said that they keep a held path
pub stays_then : (old mid new : Refusal) → Stays old mid → Stays mid new → Stays old new
stays_then old mid new h k = (Kept-then ⊥ true old mid new (h, λ q. absurd q) (k, λ q. absurd q)).0
