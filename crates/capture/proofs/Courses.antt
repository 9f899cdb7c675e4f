-- Streams that are called no more once they are over.
use Rattle.std.proofs.Common.{◌≡◌, ◌∙◌, ℕ, ◌<◌, Bool, false, List, length, Option, Some, None, refl, arith, ne_eqb}
use Rattle.byte_streams.specs.declared.course.Course.{Course}
use Rattle.byte_streams.specs.Course.{is_empty, Called, Spared, Goes}

pub Goes-same : (course : Option Course) → Goes course course
Goes-same None = refl
Goes-same (Some c) = λ fresh. (fresh, refl)

pub Spared-same : (course : Option Course) → Spared course course
Spared-same None = tt
Spared-same (Some c) = λ fresh. refl

pub Goes-spared : (old new : Option Course) → Goes old new → Spared old new
Goes-spared None new g = tt
Goes-spared (Some old) None g = g
Goes-spared (Some old) (Some new) g = λ fresh. (g fresh).1

-- one call more that has something to do, and does not end the stream
pub Goes-call : (old mid new : Option Course) → Goes old mid → Called false false mid new → Goes old new
Goes-call None mid new g k = rw g at k
Goes-call (Some old) None new g k = absurd g
Goes-call (Some old) (Some mid) None g k = k
Goes-call (Some old) (Some mid) (Some new) g k = λ fresh. let step = rw ((g fresh).0) at k in (step.0, step.1 ∙ (g fresh).1)

-- one call more, whatever it answers
pub Spared-call : (ends : Bool) (old mid new : Option Course) → Goes old mid → Called false ends mid new → Spared old new
Spared-call ends None mid new g k = tt
Spared-call ends (Some old) None new g k = absurd g
Spared-call ends (Some old) (Some mid) None g k = k
Spared-call ends (Some old) (Some mid) (Some new) g k = λ fresh. let step = rw ((g fresh).0) at k in step.1 ∙ (g fresh).1

-- a piece that is not empty
pub piece_left : (piece : List ℕ) → 0 < length piece → is_empty piece ≡ false
piece_left piece h = ne_eqb (length piece) 0 (omega arith)

pub ruleset spared = (Spared-same)
