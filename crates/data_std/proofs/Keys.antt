-- The answers to a key and to its value, on their way out of the entry.
use Rattle.std.proofs.Common.{◌≡◌, ◌≢◌, ◌↔◌, ℕ, Bool, true, false, IsTrue, List, Option, Some, None, Result, Ok, Err, is_err, refl}
use Rattle.data_core.specs.declared.fault.Fault.{Fault}
use Rattle.data_core.specs.declared.path.Segment.{Segment}
use Rattle.data_core.specs.Table.{Catches, CatchesUnless, entry_segment}
use Rattle.data_core.specs.Tracking.{Refusal, clear, left, left_key}
use Rattle.data_core.specs.Outcome.{Outcome, given, refused, under, and_then, IsRefused, Gives}
use Rattle.data_core.proofs.Refusals.{HoldsPath-left_key, Gives-left, IsRefused-whole}
use Rattle.data_std.specs.Ignored.{at_key}

-- the refusal of a key, once its path is the entry's segment alone; the text counts only where the
-- deserializer tracks
IsRefused-left_key : {A : Type 0} (tracks before : Bool) (caught text : Option (List ℕ)) (fault : Option Fault) (o : Outcome A) (old mid new : Refusal)
    → (IsTrue before ↔ (old ≢ clear)) → (tracks ≡ true → CatchesUnless fault text caught) → IsRefused tracks fault o old mid
    → new ≡ left_key tracks (entry_segment caught) before true mid → IsRefused tracks fault (at_key (entry_segment text) o) old new
IsRefused-left_key tracks before caught text None o old mid new w same h e = tt
IsRefused-left_key tracks before caught text (Some f) (given a) old mid new w same h e = absurd h
IsRefused-left_key tracks before caught text (Some f) (refused g path) old mid new w same h e =
    rw e (h.0, λ t c. rw (← same t) (HoldsPath-left_key tracks before (entry_segment caught) old mid path w h.1 t c))

left_key-clear : (tracks before : Bool) (segment : Segment) (mid : Refusal) → mid ≡ clear → left_key tracks segment before false mid ≡ clear
left_key-clear false before segment mid e = e
left_key-clear true true segment mid e = e
left_key-clear true false segment mid e = rw e refl

-- what the read of a key answered, once its path is the entry's segment alone
pub Gives-left_key : {A B E : Type 0} (fault : E → Option Fault) (tracks before : Bool) (caught text : Option (List ℕ)) (view : B → A) (r : Result B E) (o : Outcome A) (old mid new : Refusal)
    → (IsTrue before ↔ (old ≢ clear)) → (tracks ≡ true → Catches fault r text caught) → Gives fault tracks view r o old mid
    → new ≡ left_key tracks (entry_segment caught) before (is_err r) mid → Gives fault tracks view r (at_key (entry_segment text) o) old new
Gives-left_key fault tracks before caught text view (Ok b) o old mid new w same h e =
    rw (h.0, e) (refl, λ c. left_key-clear tracks before (entry_segment caught) mid (h.1 c))
Gives-left_key fault tracks before caught text view (Err x) o old mid new w same h e =
    IsRefused-left_key tracks before caught text (fault x) o old mid new w same h e

-- the path counts only where the deserializer tracks
IsRefused-place : {A : Type 0} (tracks : Bool) (own segment : Segment) (fault : Option Fault) (o : Outcome A) (old new : Refusal)
    → (tracks ≡ true → segment ≡ own) → IsRefused tracks fault (under own o) old new → IsRefused tracks fault (under segment o) old new
IsRefused-place tracks own segment None o old new same h = tt
IsRefused-place tracks own segment (Some f) (given a) old new same h = absurd h
IsRefused-place tracks own segment (Some f) (refused g path) old new same h =
    (h.0, λ t c. rw (same t) (h.1 t c))

Gives-place : {A B E : Type 0} (fault : E → Option Fault) (tracks : Bool) (own segment : Segment) (view : B → A) (r : Result B E) (o : Outcome A) (old new : Refusal)
    → (tracks ≡ true → segment ≡ own) → Gives fault tracks view r (under own o) old new → Gives fault tracks view r (under segment o) old new
Gives-place fault tracks own segment view (Ok b) (given a) old new same h = h
Gives-place fault tracks own segment view (Ok b) (refused f path) old new same h = absurd (cc)
Gives-place fault tracks own segment view (Err x) o old new same h = IsRefused-place tracks own segment (fault x) o old new same h

-- what the read of a value answered, once its entry's segment is put before the path
pub Gives-value : {A B E : Type 0} (fault : E → Option Fault) (tracks before : Bool) (own segment : Segment) (view : B → A) (r : Result B E) (o : Outcome A) (old mid new : Refusal)
    → (IsTrue before ↔ (old ≢ clear)) → (tracks ≡ true → segment ≡ own) → Gives fault tracks view r o old mid
    → new ≡ left tracks own before (is_err r) mid → Gives fault tracks view r (under segment o) old new
Gives-value fault tracks before own segment view r o old mid new w same h e =
    Gives-place fault tracks own segment view r o old new same (Gives-left fault tracks before own view r o old mid new w h e)

-- what a step answered is the answer of the whole, where the steps before it went well
pub Gives-and_then : {A B C E : Type 0} (fault : E → Option Fault) (tracks : Bool) (view : C → B) (r : Result C E) (o : Outcome A) (next : A → Outcome B) (a : A) (old mid new : Refusal)
    → o ≡ given a → (old ≡ clear → mid ≡ clear) → Gives fault tracks view r (next a) mid new → Gives fault tracks view r (and_then o next) old new
Gives-and_then fault tracks view (Ok c) o next a old mid new e clears h = rw e (h.0, λ was. h.1 (clears was))
Gives-and_then fault tracks view (Err x) o next a old mid new e clears h =
    rw e (IsRefused-whole tracks (fault x) (next a) (next a) old mid new clears (λ f path is. is) h)
