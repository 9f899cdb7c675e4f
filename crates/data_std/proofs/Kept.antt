-- What reads leave of the track, one after the other and on their ways out.
use Rattle.std.proofs.Common.{◌≡◌, ◌≢◌, ◌↔◌, Bool, true, false, IsTrue, Option, Some, None, Result, Ok, Err, is_err, refl, inl, inr}
use Rattle.data_core.specs.declared.fault.Fault.{Fault}
use Rattle.data_core.specs.declared.path.Segment.{Segment}
use Rattle.data_core.specs.Tracking.{Refusal, clear, held, marked, left, lost, HoldsOnUnless, Stays, Kept, Keeps}

-- at the end of reads that all gave values, with a value
pub Keeps-kept : {A E : Type 0} (fault : E → Option Fault) (quiet : Type 0) (tracks : Bool) (a : A) (old new : Refusal) → Kept quiet old new → Keeps fault quiet tracks (Ok a) old new
Keeps-kept fault quiet tracks a old new h = (h.0, λ q. (λ t. h.1 q, h.1 q))

HoldsOnUnless-same : (fault : Option Fault) (old new : Refusal) → new ≡ old → HoldsOnUnless fault old new
HoldsOnUnless-same None old new e = tt
HoldsOnUnless-same (Some f) old new e = inr e

-- the same with a refusal of the reader's own, or for want of memory
pub Keeps-own : (quiet : Type 0) (tracks : Bool) (fault : Option Fault) (old new : Refusal) → Kept quiet old new → Stays old new × (quiet → (tracks ≡ false → new ≡ old) × HoldsOnUnless fault old new)
Keeps-own quiet tracks fault old new h = (h.0, λ q. (λ t. h.1 q, HoldsOnUnless-same fault old new (h.1 q)))

-- a nested read and its way out: a path that is held gets no segment
Stays-out : (tracks before failed : Bool) (segment : Segment) (old mid new : Refusal) → (IsTrue before ↔ (old ≢ clear)) → Stays old mid → new ≡ left tracks segment before failed mid → Stays old new
Stays-out false before failed segment old mid new w h e = rw e h
Stays-out true true failed segment old mid new w h e = rw e h
Stays-out true false failed segment clear mid new w h e = inl refl
Stays-out true false failed segment (held p) mid new w h e = absurd (let is_true : false ≡ true = w.1 (λ k. cc) in cc)
Stays-out true false failed segment marked mid new w h e = absurd (let is_true : false ≡ true = w.1 (λ k. cc) in cc)

-- a value leaves the track as it was
same-out : (tracks before : Bool) (segment : Segment) (old mid new : Refusal) → (IsTrue before ↔ (old ≢ clear)) → mid ≡ old → new ≡ left tracks segment before false mid → new ≡ old
same-out false before segment old mid new w h e = rw (e, h) refl
same-out true true segment old mid new w h e = rw (e, h) refl
same-out true false segment clear mid new w h e = rw (e, h) refl
same-out true false segment (held p) mid new w h e = absurd (let is_true : false ≡ true = w.1 (λ k. cc) in cc)
same-out true false segment marked mid new w h e = absurd (let is_true : false ≡ true = w.1 (λ k. cc) in cc)

-- a refusal leaves a path that was held
holds-out : (tracks before : Bool) (fault : Option Fault) (segment : Segment) (old mid new : Refusal) → (IsTrue before ↔ (old ≢ clear)) → HoldsOnUnless fault old mid → new ≡ left tracks segment before true mid → HoldsOnUnless fault old new
holds-out tracks before None segment old mid new w h e = tt
holds-out tracks before (Some f) segment old mid new w (inl c) e = inl c
holds-out false before (Some f) segment old mid new w (inr h) e = inr (rw (e, h) refl)
holds-out true true (Some f) segment old mid new w (inr h) e = inr (rw (e, h) refl)
holds-out true false (Some f) segment clear mid new w (inr h) e = inl refl
holds-out true false (Some f) segment (held p) mid new w (inr h) e = absurd (let is_true : false ≡ true = w.1 (λ k. cc) in cc)
holds-out true false (Some f) segment marked mid new w (inr h) e = absurd (let is_true : false ≡ true = w.1 (λ k. cc) in cc)

untracked : (tracks before failed : Bool) (segment : Segment) (mid new : Refusal) → tracks ≡ false → new ≡ left tracks segment before failed mid → new ≡ mid
untracked false before failed segment mid new t e = e
untracked true before failed segment mid new t e = absurd (cc)

-- what the read of a part and its way out leave
pub Keeps-out : {A E : Type 0} (fault : E → Option Fault) (tracks before : Bool) (segment : Segment) (r : Result A E) (old mid new : Refusal)
    → (IsTrue before ↔ (old ≢ clear)) → Keeps fault (Unit {0}) tracks r old mid → new ≡ left tracks segment before (is_err r) mid → Keeps fault (Unit {0}) tracks r old new
Keeps-out fault tracks before segment (Ok a) old mid new w h e =
    let same = same-out tracks before segment old mid new w (h.1 tt).1 e in
    (Stays-out tracks before false segment old mid new w h.0 e, λ q. (λ t. same, same))
Keeps-out fault tracks before segment (Err x) old mid new w h e = (
  Stays-out tracks before true segment old mid new w h.0 e,
  λ q. (λ t. rw (untracked tracks before true segment mid new t e) ((h.1 tt).0 t), holds-out tracks before (fault x) segment old mid new w (h.1 tt).1 e),
)

Stays-lost : (tracks : Bool) (old mid new : Refusal) → Stays old mid → new ≡ lost tracks mid → Stays old new
Stays-lost true old mid new h e = inr (inr e)
Stays-lost false old mid new h e = rw e h

not-lost : (tracks : Bool) (mid new : Refusal) → tracks ≡ false → new ≡ lost tracks mid → new ≡ mid
not-lost true mid new t e = absurd (cc)
not-lost false mid new t e = e

HoldsOnUnless-memory : (fault : Option Fault) (old new : Refusal) → fault ≡ None → HoldsOnUnless fault old new
HoldsOnUnless-memory None old new e = tt
HoldsOnUnless-memory (Some f) old new e = absurd (cc)

-- where the way out found no memory
pub Keeps-lost : {A E : Type 0} (fault : E → Option Fault) (tracks : Bool) (r : Result A E) (told : Option Fault) (old mid new : Refusal)
    → told ≡ None → Keeps fault (Unit {0}) tracks r old mid → new ≡ lost tracks mid → Stays old new × (Unit {0} → (tracks ≡ false → new ≡ old) × HoldsOnUnless told old new)
Keeps-lost fault tracks r told old mid new none h e =
    (Stays-lost tracks old mid new h.0 e, λ q. (λ t. rw (not-lost tracks mid new t e) ((h.1 tt).0 t), HoldsOnUnless-memory told old new none))
