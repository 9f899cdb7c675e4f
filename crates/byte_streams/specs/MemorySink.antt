-- What a sink in memory took, when it fails, and how much it takes.
use Rattle.std.specs.Prelude.{ℕ, ◌-◌, ◌==◌, ◌&&◌, ◌||◌, Bool, not, List, length, min}
use Rattle.byte_streams.specs.declared.sink.MemorySink.{MemorySink}
use Rattle.byte_streams.specs.declared.calls.Calls.{Calls}
use Rattle.byte_streams.specs.declared.course.Course.{Course}
use Rattle.byte_streams.specs.Calls.{fails_next}

abbrev pub bytes_of : MemorySink → List ℕ
bytes_of m = m.taken.items

abbrev pub room_of : MemorySink → ℕ
room_of m = m.room

abbrev pub step_of : MemorySink → ℕ
step_of m = m.step

abbrev pub calls_of : MemorySink → Calls
calls_of m = m.calls

abbrev pub course_of : MemorySink → Course
course_of m = m.course

abbrev pub free_of : MemorySink → ℕ
free_of m = room_of m - length (bytes_of m)

-- the call is to fail, or there is no room for a piece that is not empty
abbrev pub refuses : MemorySink → List ℕ → Bool
refuses m piece = fails_next (calls_of m) || ((free_of m == 0) && not (length piece == 0))

-- how many bytes of a piece a call takes
abbrev pub most : MemorySink → List ℕ → ℕ
most m piece = min (min (step_of m) (free_of m)) (length piece)
