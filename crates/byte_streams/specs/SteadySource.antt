-- What a source in memory still gives, and how much of it in a call.
use Rattle.std.specs.Prelude.{ℕ, List, drop, length, min}
use Rattle.byte_streams.specs.declared.source.SteadySource.{SteadySource}

abbrev pub left_of : SteadySource → List ℕ
left_of s = drop s.at s.bytes.items

abbrev pub step_of : SteadySource → ℕ
step_of s = s.step

-- how many bytes a call gives into a room
abbrev pub most : SteadySource → ℕ → ℕ
most s room = min (min (step_of s) room) (length (left_of s))
