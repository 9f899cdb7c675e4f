-- The calls of a kind in memory, of which some are to fail.
use Rattle.std.specs.Prelude.{ℕ, ◌+◌, ◌==◌, ◌||◌, Bool, List, min}
use Rattle.std.specs.List.{list_any}
use Rattle.byte_streams.specs.declared.calls.Calls.{Calls}
use Rattle.byte_streams.specs.Outside.{last_count}

abbrev pub made_of : Calls → ℕ
made_of c = c.made

abbrev pub failed_of : Calls → ℕ
failed_of c = c.failed

abbrev pub fails_of : Calls → List ℕ
fails_of c = c.fails.items

-- the number of the next call
abbrev pub next_number : Calls → ℕ
next_number c = min (made_of c + 1) last_count

-- how many calls failed, once one more has
abbrev pub next_failed : Calls → ℕ
next_failed c = min (failed_of c + 1) last_count

-- the next call is to fail, or it is past the last number
abbrev pub fails_next : Calls → Bool
fails_next c = (next_number c == last_count) || list_any (λ number. number == next_number c) (fails_of c)
