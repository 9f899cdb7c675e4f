-- What is left of sequences and maps whose parts are read and dropped.
use Rattle.std.proofs.Common.{◌≡◌, ◌∙◌, ℕ, ◌≤◌, max, Bool, Option, Some, None, refl, sym, ap, arith}
use Rattle.data_core.specs.declared.fault.Fault.{Fault}
use Rattle.data_core.specs.declared.path.Segment.{Segment}
use Rattle.data_core.specs.Ask.{ignored_any}
use Rattle.data_core.specs.Source.{Source, Sources, end, more, Entries, no_entries, entry}
use Rattle.data_core.specs.Sequence.{rest_of, place_after}
use Rattle.data_core.specs.Table.{Table, rest_of_entries, value_of, segment_of_key}
use Rattle.data_core.specs.Took.{TookUnless}
use Rattle.data_core.specs.Tracking.{Refusal}
use Rattle.data_core.specs.Outcome.{Outcome, given, refused, IsRefused}
use Rattle.data_std.specs.Ignored.{ignored, ignored_rest, ignored_entries, ignored_pair, depth, depth_of_all, depth_of_entries, stopped, after_refused, after_refused_entry, waits_refused, pair_taken}
use Rattle.data_std.specs.Whole.{LeftUnless}

pub left_memory : {S : Type 0} (fault : Option Fault) (wanted now : S) → fault ≡ None → LeftUnless fault wanted now
left_memory None wanted now e = tt
left_memory (Some f) wanted now e = absurd (cc)

stopped_here : {S : Type 0} (tracks : Bool) (f : Fault) (o : Outcome (Unit {0})) (here later : S) (from to : Refusal) → IsRefused tracks (Some f) o from to → here ≡ stopped o here later
stopped_here tracks f (given u) here later from to h = absurd h
stopped_here tracks f (refused g path) here later from to h = refl

-- elements that were read, and one that is refused
pub element_given : (old new : Sources) (s : Source) → old ≡ more s new → ignored s ≡ given tt → after_refused old ≡ after_refused new
element_given old new s e h = rw (e, h) refl

pub element_refused : (tracks : Bool) (fault : Option Fault) (first old new : Sources) (s : Source) (from to : Refusal)
    → after_refused first ≡ after_refused old → old ≡ more s new → IsRefused tracks fault (ignored s) from to → LeftUnless fault (after_refused first) new
element_refused tracks None first old new s from to same e h = tt
element_refused tracks (Some f) first old new s from to same e h = rw (same, e) (stopped_here tracks f (ignored s) new (after_refused new) from to h)

-- a key and its value that were both read
pair_given : (segment : Segment) (key value : Outcome (Unit {0})) → ignored_pair segment key value ≡ given tt → (key ≡ given tt) × (value ≡ given tt)
pair_given segment (given u) (given w) h = (refl, refl)
pair_given segment (given u) (refused f path) h = absurd (cc)
pair_given segment (refused f path) value h = absurd (cc)

pub entry_given : (segment : Segment) (old new : Entries) (k v : Source) → old ≡ entry k v new → ignored_pair segment (ignored k) (ignored v) ≡ given tt
    → (after_refused_entry old ≡ after_refused_entry new) × (waits_refused old ≡ waits_refused new)
entry_given segment old new k v e h =
    let both = pair_given segment (ignored k) (ignored v) h in
    (rw (e, both.0, both.1) refl, rw (e, both.0, both.1) refl)

-- one of them was refused
stopped_pair : {S : Type 0} (tracks : Bool) (f : Fault) (segment : Segment) (key value : Outcome (Unit {0})) (here later : S) (from to : Refusal)
    → IsRefused tracks (Some f) (ignored_pair segment key value) from to → here ≡ stopped key here (stopped value here later)
stopped_pair tracks f segment (given u) (given w) here later from to h = absurd h
stopped_pair tracks f segment (given u) (refused g path) here later from to h = refl
stopped_pair tracks f segment (refused g path) value here later from to h = refl

stopped_waiting : (tracks : Bool) (f : Fault) (segment : Segment) (key value : Outcome (Unit {0})) (v : Source) (later : Option Source) (t : Table) (from to : Refusal)
    → t.waiting ≡ Some v → IsRefused tracks (Some f) (ignored_pair segment key value) from to → (pair_taken key t).waiting ≡ stopped key (Some v) (stopped value None later)
stopped_waiting tracks f segment (given u) (given w) v later t from to waits h = absurd h
stopped_waiting tracks f segment (given u) (refused g path) v later t from to waits h = refl
stopped_waiting tracks f segment (refused g path) value v later t from to waits h = waits

pub pair_left : (key : Outcome (Unit {0})) (t : Table) → (pair_taken key t).left ≡ t.left
pair_left (given u) t = refl
pair_left (refused f path) t = refl

pub entry_refused : (tracks : Bool) (fault : Option Fault) (segment : Segment) (first old : Entries) (k v : Source) (t now : Table) (from to : Refusal)
    → after_refused_entry first ≡ after_refused_entry old → old ≡ entry k v t.left → TookUnless fault t (pair_taken (ignored k) t) now
    → IsRefused tracks fault (ignored_pair segment (ignored k) (ignored v)) from to → LeftUnless fault (after_refused_entry first) now.left
entry_refused tracks None segment first old k v t now from to same e took h = tt
entry_refused tracks (Some f) segment first old k v t now from to same e took h =
    rw (same, e, took, pair_left (ignored k) t) (stopped_pair tracks f segment (ignored k) (ignored v) t.left (after_refused_entry t.left) from to h)

pub waiting_refused : (tracks : Bool) (fault : Option Fault) (segment : Segment) (first old : Entries) (k v : Source) (t now : Table) (from to : Refusal)
    → waits_refused first ≡ waits_refused old → old ≡ entry k v t.left → t.waiting ≡ Some v → TookUnless fault t (pair_taken (ignored k) t) now
    → IsRefused tracks fault (ignored_pair segment (ignored k) (ignored v)) from to → LeftUnless fault (waits_refused first) now.waiting
waiting_refused tracks None segment first old k v t now from to same e waits took h = tt
waiting_refused tracks (Some f) segment first old k v t now from to same e waits took h =
    rw (same, e, took) (stopped_waiting tracks f segment (ignored k) (ignored v) v (waits_refused t.left) t from to waits h)

-- the loops over elements and entries, a step on
pub rest_given : (i : ℕ) (old new : Sources) (s : Source) → old ≡ more s new → ignored s ≡ given tt → ignored_rest i old ≡ ignored_rest (place_after old i) new
rest_given i old new s e h = rw (e, h) refl

pub entries_given : (old new : Entries) (k v : Source) → old ≡ entry k v new → ignored_pair (segment_of_key ignored_any k) (ignored k) (ignored v) ≡ given tt → ignored_entries old ≡ ignored_entries new
entries_given old new k v e h = rw (e, h) refl

pub shallow_rest : (old new : Sources) (s : Source) (deepest : ℕ) → old ≡ more s new → depth_of_all old ≤ deepest → depth_of_all new ≤ deepest
shallow_rest old new s deepest e h = let deep : max (depth s) (depth_of_all new) ≤ deepest = rw e at h in omega arith

pub shallow_entries : (old new : Entries) (k v : Source) (deepest : ℕ) → old ≡ entry k v new → depth_of_entries old ≤ deepest → depth_of_entries new ≤ deepest
shallow_entries old new k v deepest e h = let deep : max (max (depth k) (depth v)) (depth_of_entries new) ≤ deepest = rw e at h in omega arith

-- and at their ends
pub elements_over : (first s now : Sources) → after_refused first ≡ after_refused s → s ≡ end → now ≡ rest_of s → now ≡ after_refused first
elements_over first s now same none rest = rest ∙ ap rest_of none ∙ sym (same ∙ ap after_refused none)

pub entries_over : (first s now : Entries) → after_refused_entry first ≡ after_refused_entry s → s ≡ no_entries → now ≡ rest_of_entries s → now ≡ after_refused_entry first
entries_over first s now same none rest = rest ∙ ap rest_of_entries none ∙ sym (same ∙ ap after_refused_entry none)

pub waits_over : (first s : Entries) (now : Option Source) → waits_refused first ≡ waits_refused s → s ≡ no_entries → now ≡ value_of s → now ≡ waits_refused first
waits_over first s now same none rest = rest ∙ ap value_of none ∙ sym (same ∙ ap waits_refused none)
