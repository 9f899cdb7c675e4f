use Rattle.std.proofs.Common.{◌≡◌, ◌∙◌, ◌-◌, ap, sym, true, is_err, rules}
use Rattle.std.proofs.lemmas.Result.{err_from_is_err_and}
use Rattle.data_core.specs.Ask.{ignored_any}
use Rattle.data_core.specs.Source.{more, entry}
use Rattle.data_core.specs.Table.{entry_segment, segment_of_key}
use Rattle.data_core.specs.Wanted.{newtype}
use Rattle.data_core.specs.Choice.{segment_of_variant, variant_segment}
use Rattle.data_core.specs.Outcome.{under, bare}
use Rattle.data_core.specs.declared.path.Segment.TheVariants.{Seq}
use Rattle.data_core.specs.Tracking.{left}
use Rattle.data_core.proofs.Relations.{Keeps-then, Kept-then}
use Rattle.data_std.specs.Ignored.{ignored, ignored_offer, ignored_rest, at_key}
use Rattle.data_std.proofs.Keys.{Gives-and_then}
use Rattle.data_std.proofs.Kept.{Keeps-own, Keeps-out, Keeps-lost}
use Rattle.data_std.proofs.Counted.{Counts-one, Counts-unless, Counts-all, CountsKeys-key, CountsKeys-unless, CountsKeys-pair, CountsKeys-pair_unless, CountsKeys-all}
use Rattle.data_std.proofs.Skipped.{pair_left, element_given, element_refused, entry_given, entry_refused, waiting_refused, rest_given, entries_given, shallow_rest, shallow_entries, elements_over, entries_over, waits_over}
use Rattle.data_std.proofs.ignored.+ignore.Goals as goal

pub ignore_entry-returns-clause-value : goal.ignore_entry-returns-clause-value
ignore_entry-returns-clause-value g t c v waits =
    let de = g.D.Deserializer in
    let key = de.source c.args.key in
    let segment = segment_of_key ignored_any key in
    let read = c.in_ok-ignore_key.ensures.value in
    let waiting : (de.table c.ignore_key.new.map).waiting ≡ (de.table c.args.map.now).waiting = ap (λ q. q.waiting) c.in_ok-ignore_key.ensures.table in
    let same : de.tracks ≡ true → segment ≡ entry_segment (de.key_text c.ignore_key.new.map) = λ t. ap entry_segment (sym (c.in_ok-ignore_key.ensures.caught t)) in
    Gives-and_then g.D.Error.DeError.fault de.tracks (λ u. u) c.ignore_value.result (at_key segment (ignored key)) (λ u. under segment (ignored v)) _ c.args.track.now c.ignore_key.new.track c.ignore_value.new.track read.0 read.1
    (c.ignore_value.ensures.value segment same v (waiting ∙ waits))

pub ignore_variant-returns-clause-value : goal.ignore_variant-returns-clause-value
ignore_variant-returns-clause-value g t c =
    let de = g.D.Deserializer in
    let name = de.source c.args.name in
    let offered = de.choice c.args.variant.now newtype in
    let segment = segment_of_variant ignored_any name in
    let read = c.in_ok-ignore_name.ensures.value in
    let same : de.tracks ≡ true → segment ≡ variant_segment (de.name_text c.ignore_name.new.variant) = λ t. ap variant_segment (sym (c.in_ok-ignore_name.ensures.caught t)) in
    Gives-and_then g.D.Error.DeError.fault de.tracks (λ u. u) c.ignore_payload.result (bare (ignored name)) (λ u. under segment (ignored_offer offered)) _ c.args.track.now c.ignore_name.new.track c.ignore_payload.new.track read.0 read.1
    (rw c.in_ok-ignore_name.ensures.choice at c.ignore_payload.ensures.value segment same)

-- the elements, one after the other

pub ignore_rest-returns-in_err-element-clause-keeps : goal.ignore_rest-returns-in_err-element-clause-keeps
ignore_rest-returns-in_err-element-clause-keeps g t c =
    let p = err_from_is_err_and c.from_residual.result c.from_residual.ensures.1 in
    rw (p.1, p.2)
    (Keeps-own (Unit {0}) g.D.Deserializer.tracks (g.D.Error.DeError.fault c.in_err-element.field-0.0) c.args.track.now c.elements.track c.elements.invariant.keeps)

pub ignore_rest-returns-in_err-element-clause-counts : goal.ignore_rest-returns-in_err-element-clause-counts
ignore_rest-returns-in_err-element-clause-counts g t c =
    let de = g.D.Deserializer in
    Counts-unless (g.D.Error.DeError.fault c.in_err-element.field-0.0) (de.sequence c.args.seq.now) (de.sequence c.elements.seq) (de.sequence c.next_element.new.seq) c.elements.invariant.counts c.in_err-element.ensures.took

pub ignore_rest-returns-in_err-leave_element-clause-keeps : goal.ignore_rest-returns-in_err-leave_element-clause-keeps
ignore_rest-returns-in_err-leave_element-clause-keeps g t c =
    let p = err_from_is_err_and c.from_residual-in_err-leave_element.result c.from_residual-in_err-leave_element.ensures.1 in
    let de = g.D.Deserializer in
    let fault = g.D.Error.DeError.fault in
    let told = fault c.in_err-leave_element.field-0.0 in
    let path = c.in_err-leave_element.ensures.path in
    let step = Keeps-lost fault de.tracks c.ignore-read.result told c.elements.track c.ignore-read.new.track c.leave_element.new.track path.0 c.ignore-read.ensures.keeps path.1 in
    rw (p.1, p.2) (Keeps-then (Unit {0}) de.tracks told c.args.track.now c.elements.track c.leave_element.new.track c.elements.invariant.keeps step)

pub ignore_rest-returns-in_err-leave_element-clause-counts : goal.ignore_rest-returns-in_err-leave_element-clause-counts
ignore_rest-returns-in_err-leave_element-clause-counts g t c =
    let de = g.D.Deserializer in
    Counts-one (de.sequence c.args.seq.now) (de.sequence c.elements.seq) (de.sequence c.leave_element.new.seq) c.elements.invariant.counts (c.in_err-leave_element.ensures.sequence ∙ c.in_ok-element.ensures.took)

pub ignore_rest-returns-in_err-read-clause-keeps : goal.ignore_rest-returns-in_err-read-clause-keeps
ignore_rest-returns-in_err-read-clause-keeps g t c =
    let p = err_from_is_err_and c.from_residual-in_err-read.result c.from_residual-in_err-read.ensures.1 in
    let de = g.D.Deserializer in
    let fault = g.D.Error.DeError.fault in
    let segment = Seq ((de.sequence c.next_element.new.seq).taken - 1) in
    let on_way_out : c.leave_element.new.track ≡ left de.tracks segment c.holds-before.result (is_err c.ignore-read.result) c.ignore-read.new.track = search rules in
    let step = rw c.in_err-read.was at (Keeps-out fault de.tracks c.holds-before.result segment c.ignore-read.result c.elements.track c.ignore-read.new.track c.leave_element.new.track c.holds-before.ensures c.ignore-read.ensures.keeps on_way_out) in
    rw (p.1, p.2) (Keeps-then (Unit {0}) de.tracks (fault c.in_err-read.field-0.0) c.args.track.now c.elements.track c.leave_element.new.track c.elements.invariant.keeps step)

pub ignore_rest-returns-in_err-read-clause-counts : goal.ignore_rest-returns-in_err-read-clause-counts
ignore_rest-returns-in_err-read-clause-counts g t c =
    let de = g.D.Deserializer in
    Counts-one (de.sequence c.args.seq.now) (de.sequence c.elements.seq) (de.sequence c.leave_element.new.seq) c.elements.invariant.counts (c.in_ok-leave_element.ensures.sequence ∙ c.in_ok-element.ensures.took)

pub ignore_rest-returns-in_err-read-clause-left : goal.ignore_rest-returns-in_err-read-clause-left
ignore_rest-returns-in_err-read-clause-left g t c =
    let p = err_from_is_err_and c.from_residual-in_err-read.result c.from_residual-in_err-read.ensures.1 in
    let de = g.D.Deserializer in
    let s = de.source c.in-Some.element in
    let old = (de.sequence c.elements.seq).left in
    let new = (de.sequence c.leave_element.new.seq).left in
    let same = ap (λ q. q.left) c.in_ok-leave_element.ensures.sequence in
    let takes = rw c.in-Some.is at c.in_ok-element.ensures.takes in
    let taken : old ≡ more s new = takes ∙ ap (λ ss. more s ss) (sym same) in
    let refusal = rw c.in_err-read.was at c.ignore-read.ensures.value in
    rw (p.1, p.2)
    (element_refused de.tracks (g.D.Error.DeError.fault c.in_err-read.field-0.0) (de.sequence c.args.seq.now).left old new s c.elements.track c.ignore-read.new.track c.elements.invariant.left taken refusal)

pub ignore_rest-elements-preserved : goal.ignore_rest-elements-preserved
ignore_rest-elements-preserved g t c =
    let de = g.D.Deserializer in
    let fault = g.D.Error.DeError.fault in
    let s = de.source c.in-Some.element in
    let old = (de.sequence c.elements.seq).left in
    let new = (de.sequence c.leave_element.new.seq).left in
    let before = c.elements.invariant in
    let took = c.in_ok-leave_element.ensures.sequence ∙ c.in_ok-element.ensures.took in
    let same = ap (λ q. q.left) c.in_ok-leave_element.ensures.sequence in
    let takes = rw c.in-Some.is at c.in_ok-element.ensures.takes in
    let taken : old ≡ more s new = takes ∙ ap (λ ss. more s ss) (sym same) in
    let read = rw c.in_ok-read.was at c.ignore-read.ensures.value in
    let segment = Seq ((de.sequence c.next_element.new.seq).taken - 1) in
    let on_way_out : c.leave_element.new.track ≡ left de.tracks segment c.holds-before.result (is_err c.ignore-read.result) c.ignore-read.new.track = search rules in
    let step = rw c.in_ok-read.was at (Keeps-out fault de.tracks c.holds-before.result segment c.ignore-read.result c.elements.track c.ignore-read.new.track c.leave_element.new.track c.holds-before.ensures c.ignore-read.ensures.keeps on_way_out) in
    let place = ap (λ q. q.taken) took in
    record {
      outcome = before.outcome ∙ rest_given (de.sequence c.elements.seq).taken old new s taken read.0 ∙ ap (λ i. ignored_rest i new) (sym place);
      left = before.left ∙ element_given old new s taken read.0;
      counts = Counts-one (de.sequence c.args.seq.now) (de.sequence c.elements.seq) (de.sequence c.leave_element.new.seq) before.counts took;
      shallow = shallow_rest old new s _ taken before.shallow;
      keeps = Kept-then (Unit {0}) de.tracks c.args.track.now c.elements.track c.leave_element.new.track before.keeps step;
    }

pub ignore_rest-returns-clause-keeps : goal.ignore_rest-returns-clause-keeps
ignore_rest-returns-clause-keeps g t c =
    let kept = c.elements.invariant.keeps in
    (kept.0, λ q. (λ t. kept.1 q, kept.1 q))

pub ignore_rest-returns-clause-counts : goal.ignore_rest-returns-clause-counts
ignore_rest-returns-clause-counts g t c =
    let de = g.D.Deserializer in
    Counts-one (de.sequence c.args.seq.now) (de.sequence c.elements.seq) (de.sequence c.next_element.new.seq) c.elements.invariant.counts c.in_ok-element.ensures.took

pub ignore_rest-returns-clause-all : goal.ignore_rest-returns-clause-all
ignore_rest-returns-clause-all g t c =
    let de = g.D.Deserializer in
    let none = rw c.in_default.is at c.in_ok-element.ensures.takes in
    Counts-all (de.sequence c.args.seq.now) (de.sequence c.elements.seq) (de.sequence c.next_element.new.seq) none c.elements.invariant.counts c.in_ok-element.ensures.took

pub ignore_rest-returns-clause-left : goal.ignore_rest-returns-clause-left
ignore_rest-returns-clause-left g t c =
    let de = g.D.Deserializer in
    let none = rw c.in_default.is at c.in_ok-element.ensures.takes in
    elements_over (de.sequence c.args.seq.now).left (de.sequence c.elements.seq).left (de.sequence c.next_element.new.seq).left c.elements.invariant.left none (ap (λ q. q.left) c.in_ok-element.ensures.took)

-- the entries, one after the other

pub ignore_entries-returns-in_err-key-clause-keeps : goal.ignore_entries-returns-in_err-key-clause-keeps
ignore_entries-returns-in_err-key-clause-keeps g t c =
    let p = err_from_is_err_and c.from_residual.result c.from_residual.ensures.1 in
    rw (p.1, p.2)
    (Keeps-own (Unit {0}) g.D.Deserializer.tracks (g.D.Error.DeError.fault c.in_err-key.field-0.0) c.args.track.now c.entries.track c.entries.invariant.keeps)

pub ignore_entries-returns-in_err-key-clause-counts : goal.ignore_entries-returns-in_err-key-clause-counts
ignore_entries-returns-in_err-key-clause-counts g t c =
    let de = g.D.Deserializer in
    CountsKeys-unless (g.D.Error.DeError.fault c.in_err-key.field-0.0) (de.table c.args.map.now) (de.table c.entries.map) (de.table c.next_key.new.map) c.entries.invariant.counts c.in_err-key.ensures.took

pub ignore_entries-returns-in_err-ignore_entry-clause-keeps : goal.ignore_entries-returns-in_err-ignore_entry-clause-keeps
ignore_entries-returns-in_err-ignore_entry-clause-keeps g t c =
    let p = err_from_is_err_and c.from_residual-in_err-ignore_entry.result c.from_residual-in_err-ignore_entry.ensures.1 in
    rw (p.1, p.2)
    (Keeps-then (Unit {0}) g.D.Deserializer.tracks (g.D.Error.DeError.fault c.in_err-ignore_entry.field-0.0) c.args.track.now c.entries.track c.ignore_entry.new.track c.entries.invariant.keeps c.in_err-ignore_entry.ensures.keeps)

pub ignore_entries-returns-in_err-ignore_entry-clause-counts : goal.ignore_entries-returns-in_err-ignore_entry-clause-counts
ignore_entries-returns-in_err-ignore_entry-clause-counts g t c =
    let de = g.D.Deserializer in
    let first = de.table c.args.map.now in
    let mid = CountsKeys-key first (de.table c.entries.map) (de.table c.next_key.new.map) c.entries.invariant.counts c.in_ok-key.ensures.took in
    CountsKeys-pair_unless (g.D.Error.DeError.fault c.in_err-ignore_entry.field-0.0) (ignored (de.source c.in-Some.key)) first (de.table c.next_key.new.map) (de.table c.ignore_entry.new.map) mid c.in_err-ignore_entry.ensures.took

pub ignore_entries-returns-in_err-ignore_entry-clause-left : goal.ignore_entries-returns-in_err-ignore_entry-clause-left
ignore_entries-returns-in_err-ignore_entry-clause-left g t c =
    let p = err_from_is_err_and c.from_residual-in_err-ignore_entry.result c.from_residual-in_err-ignore_entry.ensures.1 in
    let de = g.D.Deserializer in
    let k = de.source c.in-Some.key in
    let taken = rw c.in-Some.is at c.in_ok-key.ensures.takes in
    rw (p.1, p.2)
    (entry_refused de.tracks (g.D.Error.DeError.fault c.in_err-ignore_entry.field-0.0) (segment_of_key ignored_any k) (de.table c.args.map.now).left (de.table c.entries.map).left k taken.0 (de.table c.next_key.new.map) (de.table c.ignore_entry.new.map) c.entries.track c.ignore_entry.new.track c.entries.invariant.left taken.1 c.in_err-ignore_entry.ensures.took (c.in_err-ignore_entry.ensures.value taken.0 taken.2))

pub ignore_entries-returns-in_err-ignore_entry-clause-waiting : goal.ignore_entries-returns-in_err-ignore_entry-clause-waiting
ignore_entries-returns-in_err-ignore_entry-clause-waiting g t c =
    let p = err_from_is_err_and c.from_residual-in_err-ignore_entry.result c.from_residual-in_err-ignore_entry.ensures.1 in
    let de = g.D.Deserializer in
    let k = de.source c.in-Some.key in
    let taken = rw c.in-Some.is at c.in_ok-key.ensures.takes in
    rw (p.1, p.2)
    (waiting_refused de.tracks (g.D.Error.DeError.fault c.in_err-ignore_entry.field-0.0) (segment_of_key ignored_any k) (de.table c.args.map.now).left (de.table c.entries.map).left k taken.0 (de.table c.next_key.new.map) (de.table c.ignore_entry.new.map) c.entries.track c.ignore_entry.new.track c.entries.invariant.waiting taken.1 taken.2 c.in_err-ignore_entry.ensures.took (c.in_err-ignore_entry.ensures.value taken.0 taken.2))

pub ignore_entries-entries-preserved : goal.ignore_entries-entries-preserved
ignore_entries-entries-preserved g t c =
    let de = g.D.Deserializer in
    let k = de.source c.in-Some.key in
    let first = de.table c.args.map.now in
    let old = (de.table c.entries.map).left in
    let new = (de.table c.ignore_entry.new.map).left in
    let before = c.entries.invariant in
    let taken = rw c.in-Some.is at c.in_ok-key.ensures.takes in
    let v = taken.0 in
    let took = c.in_ok-ignore_entry.ensures.took in
    let same = ap (λ q. q.left) took ∙ pair_left (ignored k) (de.table c.next_key.new.map) in
    let whole : old ≡ entry k v new = taken.1 ∙ ap (λ es. entry k v es) (sym same) in
    let read = c.in_ok-ignore_entry.ensures.value v taken.2 in
    let mid = CountsKeys-key first (de.table c.entries.map) (de.table c.next_key.new.map) before.counts c.in_ok-key.ensures.took in
    let both = entry_given (segment_of_key ignored_any k) old new k v whole read.0 in
    record {
      outcome = before.outcome ∙ entries_given old new k v whole read.0;
      left = before.left ∙ both.0;
      waiting = before.waiting ∙ both.1;
      counts = CountsKeys-pair (ignored k) first (de.table c.next_key.new.map) (de.table c.ignore_entry.new.map) mid took;
      shallow = shallow_entries old new k v _ whole before.shallow;
      keeps = Kept-then (Unit {0}) de.tracks c.args.track.now c.entries.track c.ignore_entry.new.track before.keeps c.in_ok-ignore_entry.ensures.keeps;
    }

pub ignore_entries-returns-clause-keeps : goal.ignore_entries-returns-clause-keeps
ignore_entries-returns-clause-keeps g t c =
    let kept = c.entries.invariant.keeps in
    (kept.0, λ q. (λ t. kept.1 q, kept.1 q))

pub ignore_entries-returns-clause-counts : goal.ignore_entries-returns-clause-counts
ignore_entries-returns-clause-counts g t c =
    let de = g.D.Deserializer in
    CountsKeys-key (de.table c.args.map.now) (de.table c.entries.map) (de.table c.next_key.new.map) c.entries.invariant.counts c.in_ok-key.ensures.took

pub ignore_entries-returns-clause-all : goal.ignore_entries-returns-clause-all
ignore_entries-returns-clause-all g t c =
    let de = g.D.Deserializer in
    let none = rw c.in_default.is at c.in_ok-key.ensures.takes in
    CountsKeys-all (de.table c.args.map.now) (de.table c.entries.map) (de.table c.next_key.new.map) none c.entries.invariant.counts c.in_ok-key.ensures.took

pub ignore_entries-returns-clause-left : goal.ignore_entries-returns-clause-left
ignore_entries-returns-clause-left g t c =
    let de = g.D.Deserializer in
    let none = rw c.in_default.is at c.in_ok-key.ensures.takes in
    entries_over (de.table c.args.map.now).left (de.table c.entries.map).left (de.table c.next_key.new.map).left c.entries.invariant.left none (ap (λ q. q.left) c.in_ok-key.ensures.took)

pub ignore_entries-returns-clause-waiting : goal.ignore_entries-returns-clause-waiting
ignore_entries-returns-clause-waiting g t c =
    let de = g.D.Deserializer in
    let none = rw c.in_default.is at c.in_ok-key.ensures.takes in
    waits_over (de.table c.args.map.now).left (de.table c.entries.map).left (de.table c.next_key.new.map).waiting c.entries.invariant.waiting none (ap (λ q. q.waiting) c.in_ok-key.ensures.took)
