-- Sequences and maps of which parts were taken, each counted.
use Rattle.std.proofs.Common.{◌≡◌, ◌∙◌, ℕ, ◌+◌, Bool, Option, Some, None, refl, ap, inl, inr, arith}
use Rattle.data_core.specs.declared.fault.Fault.{Fault}
use Rattle.data_core.specs.Source.{Source, Sources, end, more, count, Entries, no_entries, entry, count_entries}
use Rattle.data_core.specs.Sequence.{Sequence, rest_of, place_after, one_taken}
use Rattle.data_core.specs.Table.{Table, rest_of_entries, taken_after, value_of, key_taken}
use Rattle.data_core.specs.Took.{TookUnless}
use Rattle.data_core.specs.Outcome.{Outcome, given, refused}
use Rattle.data_std.specs.Ignored.{pair_taken}
use Rattle.data_std.specs.Whole.{all_taken, Counts, entries_taken, CountsKeys}

taken-on : (ss : Sources) (i : ℕ) → place_after ss i + count (rest_of ss) ≡ i + count ss
taken-on end i = refl
taken-on (more s ss) i = omega arith

pub Counts-one : (first s now : Sequence) → Counts first s → now ≡ one_taken s → Counts first now
Counts-one first s now h e = rw e (taken-on s.left s.taken ∙ h.0, h.1, h.2)

pub Counts-unless : (fault : Option Fault) (first s now : Sequence) → Counts first s → TookUnless fault s (one_taken s) now → Counts first now
Counts-unless None first s now h (inl e) = Counts-one first s now h e
Counts-unless None first s now h (inr e) = rw e h
Counts-unless (Some f) first s now h e = Counts-one first s now h e

same_sequence : (ss tt : Sources) (i j : ℕ) (b c t u : Bool) → ss ≡ tt → i ≡ j → b ≡ c → t ≡ u
    → (let one : Sequence = record { left = ss; taken = i; checks = b; tells = t } in let other : Sequence = record { left = tt; taken = j; checks = c; tells = u } in one ≡ other)
same_sequence ss tt i j b c t u e f g h = rw (e, f, g, h) refl

-- where none is left, all were taken
pub Counts-all : (first s now : Sequence) → s.left ≡ end → Counts first s → now ≡ one_taken s → now ≡ all_taken first
Counts-all first s now none h e =
    let all = Counts-one first s now h e in
    let over : now.left ≡ end = ap (λ q. q.left) e ∙ ap rest_of none in
    let counted = rw over at all.0 in
    same_sequence now.left end now.taken (first.taken + count first.left) now.checks first.checks now.tells first.tells over (let sum : now.taken + 0 ≡ first.taken + count first.left = counted in omega arith) all.1 all.2

keys-on : (es : Entries) (i : ℕ) → taken_after es i + count_entries (rest_of_entries es) ≡ i + count_entries es
keys-on no_entries i = refl
keys-on (entry k v es) i = omega arith

pub CountsKeys-key : (first t now : Table) → CountsKeys first t → now ≡ key_taken t → CountsKeys first now
CountsKeys-key first t now h e = rw e (keys-on t.left t.taken ∙ h.0, h.1, h.2)

pub CountsKeys-unless : (fault : Option Fault) (first t now : Table) → CountsKeys first t → TookUnless fault t (key_taken t) now → CountsKeys first now
CountsKeys-unless None first t now h (inl e) = CountsKeys-key first t now h e
CountsKeys-unless None first t now h (inr e) = rw e h
CountsKeys-unless (Some f) first t now h e = CountsKeys-key first t now h e

-- the value of an entry is no key
pub CountsKeys-pair : (key : Outcome (Unit {0})) (first t now : Table) → CountsKeys first t → now ≡ pair_taken key t → CountsKeys first now
CountsKeys-pair (given u) first t now h e = rw e h
CountsKeys-pair (refused f path) first t now h e = rw e h

pub CountsKeys-pair_unless : (fault : Option Fault) (key : Outcome (Unit {0})) (first t now : Table) → CountsKeys first t → TookUnless fault t (pair_taken key t) now → CountsKeys first now
CountsKeys-pair_unless None key first t now h (inl e) = CountsKeys-pair key first t now h e
CountsKeys-pair_unless None key first t now h (inr e) = rw e h
CountsKeys-pair_unless (Some f) key first t now h e = CountsKeys-pair key first t now h e

same_table : (es fs : Entries) (i j : ℕ) (w x : Option Source) (b c t u : Bool) → es ≡ fs → i ≡ j → w ≡ x → b ≡ c → t ≡ u
    → (let one : Table = record { left = es; taken = i; waiting = w; checks = b; tells = t } in let other : Table = record { left = fs; taken = j; waiting = x; checks = c; tells = u } in one ≡ other)
same_table es fs i j w x b c t u e f v g h = rw (e, f, v, g, h) refl

pub CountsKeys-all : (first t now : Table) → t.left ≡ no_entries → CountsKeys first t → now ≡ key_taken t → now ≡ entries_taken first
CountsKeys-all first t now none h e =
    let all = CountsKeys-key first t now h e in
    let over : now.left ≡ no_entries = ap (λ q. q.left) e ∙ ap rest_of_entries none in
    let counted = rw over at all.0 in
    let nothing : now.waiting ≡ None = ap (λ q. q.waiting) e ∙ ap value_of none in
    same_table now.left no_entries now.taken (first.taken + count_entries first.left) now.waiting None now.checks first.checks now.tells first.tells over (let sum : now.taken + 0 ≡ first.taken + count_entries first.left = counted in omega arith) nothing all.1 all.2
