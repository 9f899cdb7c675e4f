-- Sequences and maps that are read on, and to their ends.
use Rattle.std.specs.Prelude.{◌≡◌, ◌+◌, Option, Some, None, Result, Ok, Err}
use Rattle.data_core.specs.declared.fault.Fault.{Fault}
use Rattle.data_core.specs.Source.{end, no_entries, count, count_entries}
use Rattle.data_core.specs.Sequence.{Sequence}
use Rattle.data_core.specs.Table.{Table}

-- after all elements were taken
abbrev pub all_taken : Sequence → Sequence
all_taken s = record { left = end; taken = s.taken + count s.left; checks = s.checks; tells = s.tells }

-- some elements were taken, and each of them counted
abbrev pub Counts : Sequence → Sequence → Type 0
Counts old new = (new.taken + count new.left ≡ old.taken + count old.left) × (new.checks ≡ old.checks) × (new.tells ≡ old.tells)

-- after all entries were taken
abbrev pub entries_taken : Table → Table
entries_taken t = record { left = no_entries; taken = t.taken + count_entries t.left; waiting = None; checks = t.checks; tells = t.tells }

-- some keys were taken, and each of them counted
abbrev pub CountsKeys : Table → Table → Type 0
CountsKeys old new = (new.taken + count_entries new.left ≡ old.taken + count_entries old.left) × (new.checks ≡ old.checks) × (new.tells ≡ old.tells)

-- a value and a refusal leave this; of want of memory nothing is said
abbrev pub LeftUnless : {S : Type 0} → Option Fault → S → S → Type 0
LeftUnless None wanted now = Unit {0}
LeftUnless (Some f) wanted now = now ≡ wanted

abbrev pub IsLeft : {A E S : Type 0} → (E → Option Fault) → Result A E → S → S → Type 0
IsLeft fault (Ok a) wanted now = now ≡ wanted
IsLeft fault (Err e) wanted now = LeftUnless (fault e) wanted now
