-- Outcomes of readers that are told by relations.
use Rattle.std.proofs.Common.{◌≡◌, ◌≢◌, ◌↔◌, ℕ, Bool, true, false, IsTrue, List, [], ◌∷◌, Option, Some, None, Result, Ok, Err, is_err, inl, inr, refl}
use Rattle.data_core.specs.declared.fault.Fault.{Fault}
use Rattle.data_core.specs.declared.path.Segment.{Segment}
use Rattle.data_core.specs.declared.path.Segment.TheVariants.{Seq}
use Rattle.data_core.specs.Fault.{IsCalled}
use Rattle.data_core.specs.Ask.{Ask}
use Rattle.data_core.specs.Source.{Source, Sources, more, Entries, entry, Offer, scalar, unit, offer_of}
use Rattle.data_core.specs.Sequence.{IsNext}
use Rattle.data_core.specs.Table.{IsKey, CatchesUnless, entry_segment, segment_of_key, offer_text}
use Rattle.data_core.specs.Choice.{IsNothing}
use Rattle.data_core.specs.Show.{Refuses, Hands}
use Rattle.data_core.specs.Tracking.{Refusal, clear, held, marked, HoldsPath, path_of, left, left_key, Stays, Kept, HoldsOnUnless}
use Rattle.data_core.specs.Outcome.{Outcome, refused, RefusedAmong, Among, IsUnder}
use Rattle.data_core.proofs.Refusals.{HoldsPath-left, HoldsPath-left_key}

-- the track after reads one after the other

Stays-then : (old mid new : Refusal) → Stays old mid → Stays mid new → Stays old new
Stays-then old mid new (inl c) k = inl c
Stays-then old mid new (inr (inl e)) k = rw e at k
Stays-then old mid new (inr (inr e)) (inl c) = absurd (cc)
Stays-then old mid new (inr (inr e)) (inr (inl f)) = inr (inr (rw f e))
Stays-then old mid new (inr (inr e)) (inr (inr m)) = inr (inr m)

-- a read after others that gave values: one that gives a value too, and one that fails
pub Kept-then : (quiet : Type 0) (tracks : Bool) (old mid new : Refusal) → Kept quiet old mid → Stays mid new × (quiet → (tracks ≡ false → new ≡ mid) × (new ≡ mid)) → Kept quiet old new
Kept-then quiet tracks old mid new h k = (Stays-then old mid new h.0 k.0, λ q. rw (h.1 q) at ((k.1 q).1))

pub Keeps-then : (quiet : Type 0) (tracks : Bool) (fault : Option Fault) (old mid new : Refusal) → Kept quiet old mid → Stays mid new × (quiet → (tracks ≡ false → new ≡ mid) × HoldsOnUnless fault mid new)
    → Stays old new × (quiet → (tracks ≡ false → new ≡ old) × HoldsOnUnless fault old new)
Keeps-then quiet tracks fault old mid new h k = (Stays-then old mid new h.0 k.0, λ q. rw (h.1 q) at (k.1 q))

-- an element's refusal, once its segment is put before the path
pub RefusedAmong-next : {A : Type 0} (placed : Type 0) (tracks before : Bool) (reads : Source → Outcome A → Type 0) (i : ℕ) (s : Source) (ss : Sources) (fault : Option Fault) (old mid new : Refusal)
    → (IsTrue before ↔ (old ≢ clear)) → RefusedAmong placed tracks fault (reads s) old mid → new ≡ left tracks (Seq i) before true mid → RefusedAmong placed tracks fault (IsNext reads i (more s ss)) old new
RefusedAmong-next placed tracks before reads i s ss None old mid new w h e = tt
RefusedAmong-next placed tracks before reads i s ss (Some f) old mid new w h e =
    rw e (Seq i ∷ h.0, (h.0, h.1, refl), λ q. HoldsPath-left tracks before (Seq i) old mid h.0 w (h.2 q))

-- a key's refusal, once its path is the entry's segment alone
pub RefusedAmong-key : {A : Type 0} (placed : Type 0) (tracks before : Bool) (asks : Ask) (reads : Source → Outcome A → Type 0) (caught : Option (List ℕ)) (k v : Source) (es : Entries) (fault : Option Fault) (old mid new : Refusal)
    → (IsTrue before ↔ (old ≢ clear)) → (tracks ≡ true → CatchesUnless fault (offer_text (offer_of k asks)) caught) → RefusedAmong placed tracks fault (reads k) old mid
    → new ≡ left_key tracks (entry_segment caught) before true mid → RefusedAmong placed tracks fault (IsKey asks reads (entry k v es)) old new
RefusedAmong-key placed tracks before asks reads caught k v es None old mid new w same h e = tt
RefusedAmong-key placed tracks before asks reads caught k v es (Some f) old mid new w same h e =
    rw e
    (segment_of_key asks k ∷ [], (h.0, h.1, refl), λ q t c. rw (← same t) (HoldsPath-left_key tracks before (entry_segment caught) old mid h.0 w (h.2 q) t c))

-- a part's answer, once its segment is put before the path
RefusedAmong-under : {A : Type 0} (placed : Type 0) (tracks before : Bool) (is_outcome : Outcome A → Type 0) (own segment : Segment) (fault : Option Fault) (old mid new : Refusal)
    → (IsTrue before ↔ (old ≢ clear)) → (tracks ≡ true → segment ≡ own) → RefusedAmong placed tracks fault is_outcome old mid → new ≡ left tracks own before true mid
    → RefusedAmong placed tracks fault (IsUnder segment is_outcome) old new
RefusedAmong-under placed tracks before is_outcome own segment None old mid new w same h e = tt
RefusedAmong-under placed tracks before is_outcome own segment (Some f) old mid new w same h e =
    rw e (segment ∷ h.0, (h.0, h.1, refl), λ q t c. rw (same t) (HoldsPath-left tracks before own old mid h.0 w (h.2 q) t c))

pub Among-under : {A E : Type 0} (fault : E → Option Fault) (placed : Type 0) (tracks before : Bool) (is_outcome : Outcome A → Type 0) (own segment : Segment) (r : Result A E) (old mid new : Refusal)
    → (IsTrue before ↔ (old ≢ clear)) → (tracks ≡ true → segment ≡ own) → Among fault placed tracks r is_outcome old mid → new ≡ left tracks own before (is_err r) mid
    → Among fault placed tracks r (IsUnder segment is_outcome) old new
Among-under fault placed tracks before is_outcome own segment (Ok a) old mid new w same h e = h
Among-under fault placed tracks before is_outcome own segment (Err x) old mid new w same h e =
    RefusedAmong-under placed tracks before is_outcome own segment (fault x) old mid new w same h e

HoldsPath-path_of : (r : Refusal) → r ≢ marked → HoldsPath r (path_of r)
HoldsPath-path_of clear h = refl
HoldsPath-path_of (held p) h = refl
HoldsPath-path_of marked h = h refl

-- a refusal of the reader's own, after others that it went on from: it is told at the path of the first
pub refused_after : {A : Type 0} (placed : Type 0) (tracks : Bool) (fault : Option Fault) (f : Fault) (P : Outcome A → Type 0) (old new : Refusal)
    → IsCalled fault f → ((path : List Segment) → P (refused f path)) → new ≢ marked → RefusedAmong placed tracks fault P old new
refused_after placed tracks None f P old new called all lost = tt
refused_after placed tracks (Some g) f P old new called all lost = rw called (path_of new, all (path_of new), λ q t c. HoldsPath-path_of new lost)

refused_payload : (placed : Type 0) (tracks : Bool) (fault : Option Fault) (offered : Offer) (old : Refusal) → Refuses fault offered → RefusedAmong placed tracks fault (IsNothing offered) old old
refused_payload placed tracks None offered old h = tt
refused_payload placed tracks (Some f) offered old h = rw h ([], refl, λ q t c. rw c refl)

-- the end of a variant that has no payload
pub Among-nothing : {E : Type 0} (fault : E → Option Fault) (placed : Type 0) (tracks : Bool) (r : Result (Unit {0}) E) (offered : Offer) (old : Refusal)
    → Hands (λ u. scalar unit) fault r offered → Among fault placed tracks r (IsNothing offered) old old
Among-nothing fault placed tracks (Ok u) offered old h = rw h refl
Among-nothing fault placed tracks (Err e) offered old h = refused_payload placed tracks (fault e) offered old h
