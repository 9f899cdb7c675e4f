use Rattle.std.proofs.Common.{◌≡◌, ◌+◌, ◌*◌, ◌≤◌, max}
use Rattle.data_core.specs.Source.{count, count_entries}
use Rattle.data_core.specs.Wanted.{newtype}
use Rattle.data_core.specs.Show.{shown_offer}
use Rattle.data_core.specs.Tracking.{Kept}
use Rattle.data_std.specs.Whole.{Counts, CountsKeys}
use Rattle.data_std.specs.Ignored.{ignored_rest, ignored_entries, after_refused, after_refused_entry, waits_refused, depth, depth_of_offer, depth_of_all, depth_of_entries, depth_of_waiting}
use Rattle.data_std.proofs.ignored.+ignore.Given as goal

abbrev pub decreases-ignore : goal.decreases-ignore
decreases-ignore g l = 5 * depth (g.D.Deserializer.source l.d)

abbrev pub decreases-visit_key : goal.decreases-visit_key
decreases-visit_key g l = 5 * depth (g.D.Deserializer.source l.key)

abbrev pub decreases-ignore_key : goal.decreases-ignore_key
decreases-ignore_key g l = 5 * depth (g.D.Deserializer.source l.key) + 1

abbrev pub decreases-ignore_value : goal.decreases-ignore_value
decreases-ignore_value g l = 5 * depth_of_waiting (g.D.Deserializer.table l.map.now).waiting + 1

abbrev pub decreases-ignore_entry : goal.decreases-ignore_entry
decreases-ignore_entry g l =
    let de = g.D.Deserializer in
    5 * max (depth (de.source l.key)) (depth_of_waiting (de.table l.map.now).waiting) + 2

abbrev pub decreases-ignore_rest : goal.decreases-ignore_rest
decreases-ignore_rest g l = 5 * depth_of_all (g.D.Deserializer.sequence l.seq.now).left + 3

abbrev pub decreases-ignore_entries : goal.decreases-ignore_entries
decreases-ignore_entries g l = 5 * depth_of_entries (g.D.Deserializer.table l.map.now).left + 3

abbrev pub decreases-ignore_shown : goal.decreases-ignore_shown
decreases-ignore_shown g l =
    let de = g.D.Deserializer in
    5 * depth_of_offer (shown_offer g.D.Text.TextLike.text g.D.Bytes.BytesLike.bytes de.source de.sequence de.table de.choice l.shown) + 4

abbrev pub decreases-ignore_variant : goal.decreases-ignore_variant
decreases-ignore_variant g l =
    let de = g.D.Deserializer in
    5 * max (depth (de.source l.name)) (depth_of_offer (de.choice l.variant.now newtype)) + 3

abbrev pub decreases-ignore_name : goal.decreases-ignore_name
decreases-ignore_name g l = 5 * depth (g.D.Deserializer.source l.name) + 1

abbrev pub decreases-visit_name : goal.decreases-visit_name
decreases-visit_name g l = 5 * depth (g.D.Deserializer.source l.name)

abbrev pub decreases-ignore_payload : goal.decreases-ignore_payload
decreases-ignore_payload g l = 5 * depth_of_offer (g.D.Deserializer.choice l.variant.now newtype) + 2

abbrev pub decreases-ignore_inside : goal.decreases-ignore_inside
decreases-ignore_inside g l = 5 * depth_of_offer (g.D.Deserializer.choice l.variant.now newtype) + 1

abbrev pub invariant-ignore_rest-elements : goal.invariant-ignore_rest-elements
invariant-ignore_rest-elements g l =
    let sequence = g.D.Deserializer.sequence in record {
      outcome : ignored_rest (sequence l.initial.seq).taken (sequence l.initial.seq).left ≡ ignored_rest (sequence l.seq).taken (sequence l.seq).left;
      left : after_refused (sequence l.initial.seq).left ≡ after_refused (sequence l.seq).left;
      counts : Counts (sequence l.initial.seq) (sequence l.seq);
      shallow : depth_of_all (sequence l.seq).left ≤ depth_of_all (sequence l.initial.seq).left;
      keeps : Kept (Unit {0}) l.fn.track l.track;
    }

abbrev pub decreases-ignore_rest-elements : goal.decreases-ignore_rest-elements
decreases-ignore_rest-elements g l = count (g.D.Deserializer.sequence l.seq).left

abbrev pub invariant-ignore_entries-entries : goal.invariant-ignore_entries-entries
invariant-ignore_entries-entries g l =
    let table = g.D.Deserializer.table in record {
      outcome : ignored_entries (table l.initial.map).left ≡ ignored_entries (table l.map).left;
      left : after_refused_entry (table l.initial.map).left ≡ after_refused_entry (table l.map).left;
      waiting : waits_refused (table l.initial.map).left ≡ waits_refused (table l.map).left;
      counts : CountsKeys (table l.initial.map) (table l.map);
      shallow : depth_of_entries (table l.map).left ≤ depth_of_entries (table l.initial.map).left;
      keeps : Kept (Unit {0}) l.fn.track l.track;
    }

abbrev pub decreases-ignore_entries-entries : goal.decreases-ignore_entries-entries
decreases-ignore_entries-entries g l = count_entries (g.D.Deserializer.table l.map).left
