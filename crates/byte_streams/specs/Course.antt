-- The course of a stream, where a kind tells it: whether it gave its end or failed, and how many calls came
-- after that, or had nothing to do.
use Rattle.std.specs.Prelude.{ℕ, ◌≡◌, ◌+◌, ◌==◌, ◌&&◌, ◌||◌, Bool, true, false, not, if◌then◌else◌, List, length, Option, Some, None, Result, Ok, Err, min}
use Rattle.byte_streams.specs.declared.course.Course.{Course}
use Rattle.byte_streams.specs.Outside.{last_count}

abbrev pub over_of : Course → Bool
over_of c = c.over

abbrev pub idle_of : Course → ℕ
idle_of c = c.idle

-- no call was made yet
abbrev pub IsBegun : Course → Type 0
IsBegun c = (over_of c ≡ false) × (idle_of c ≡ 0)

-- how many calls were idle, once one more was made, with nothing to do or not
abbrev pub idle_after : Bool → Course → ℕ
idle_after empty c = if over_of c || empty then min (idle_of c + 1) last_count else idle_of c

-- a source is over once it failed, or gave nothing where there was room
abbrev pub ends_source : {E : Type 0} → ℕ → Result ℕ E → Bool
ends_source room (Ok n) = (n == 0) && not (room == 0)
ends_source room (Err e) = true

abbrev pub is_empty : List ℕ → Bool
is_empty piece = length piece == 0

-- what a call makes of the course: it had nothing to do or not, and the stream is over after it or not
abbrev pub Called : Bool → Bool → Option Course → Option Course → Type 0
Called empty ends None new = new ≡ None
Called empty ends (Some old) None = ⊥
Called empty ends (Some old) (Some new) = (over_of new ≡ (over_of old || ends)) × (idle_of new ≡ idle_after empty old)

-- no call was idle, of a stream that was not over before
abbrev pub Spared : Option Course → Option Course → Type 0
Spared None new = Unit {0}
Spared (Some old) None = ⊥
Spared (Some old) (Some new) = over_of old ≡ false → idle_of new ≡ idle_of old

-- and it is not over yet
abbrev pub Goes : Option Course → Option Course → Type 0
Goes None new = new ≡ None
Goes (Some old) None = ⊥
Goes (Some old) (Some new) = over_of old ≡ false → (over_of new ≡ false) × (idle_of new ≡ idle_of old)
