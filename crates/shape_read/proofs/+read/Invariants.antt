use Rattle.std.proofs.Common.{◌≡◌, [], length, drop, replicate, None}
use Rattle.data_core.specs.Tracking.{Kept}
use Rattle.data_core.specs.Source.{count, count_entries}
use Rattle.shape_read.specs.Parts.{each, each_entry}
use Rattle.shape_read.specs.First.{asks, first, pair_step}
use Rattle.shape_read.specs.Fields.{field_step}
use Rattle.shape.specs.View.{shape_view}
use Rattle.shape_read.specs.Readers.{readers_of, fields_in, slots_view}
use Rattle.shape_read.specs.Steps.{one_each, beyond}
use Rattle.shape_read.proofs.Steps.{front}
use Rattle.shape_read.proofs.+read.Given as goal

abbrev pub invariant-rows::read_each-reads : goal.invariant-rows::read_each-reads
invariant-rows::read_each-reads g l =
    let read = first (shape_view l.inner) in
    let before = g.D.Deserializer.sequence l.fn.seq in
    let now = g.D.Deserializer.sequence l.seq in record {
      outcome : each read before.taken before.left ≡ front l.items.items (each read now.taken now.left);
      keeps : Kept (Unit {0}) l.fn.track l.track;
    }

abbrev pub decreases-rows::read_each-reads : goal.decreases-rows::read_each-reads
decreases-rows::read_each-reads g l = count (g.D.Deserializer.sequence l.seq).left

abbrev pub invariant-rows::read_row-reads : goal.invariant-rows::read_row-reads
invariant-rows::read_row-reads g l =
    let before = g.D.Deserializer.sequence l.fn.seq in
    let now = g.D.Deserializer.sequence l.seq in
    let reads = readers_of (drop l.shape-index l.shapes) in record {
      outcome : one_each (readers_of l.shapes) 0 before.left ≡ front l.items.items (one_each reads now.taken now.left);
      keeps : Kept (Unit {0}) l.fn.track l.track;
      items : length l.items.items ≡ l.shape-index;
      left : beyond (readers_of l.shapes) before.left ≡ beyond reads now.left;
      taken : now.taken ≡ l.shape-index;
      checks : now.checks ≡ before.checks;
      tells : now.tells ≡ before.tells;
    }

abbrev pub invariant-entries::read_entries-reads : goal.invariant-entries::read_entries-reads
invariant-entries::read_entries-reads g l =
    let key = shape_view l.shapes.key in
    let rest = each_entry (pair_step (asks key) (first key) (first (shape_view l.shapes.value))) in
    let table = g.D.Deserializer.table in record {
      outcome : rest [] (table l.fn.map).left ≡ rest l.pairs (table l.map).left;
      keeps : Kept (Unit {0}) l.fn.track l.track;
    }

abbrev pub decreases-entries::read_entries-reads : goal.decreases-entries::read_entries-reads
decreases-entries::read_entries-reads g l = count_entries (g.D.Deserializer.table l.map).left

abbrev pub invariant-structs::read_fields-reads : goal.invariant-structs::read_fields-reads
invariant-structs::read_fields-reads g l =
    let fields = fields_in l.fields in
    let rest = each_entry (field_step l.strict fields) in
    let table = g.D.Deserializer.table in record {
      outcome : rest (replicate (length fields) None) (table l.fn.map).left ≡ rest (slots_view l.slots) (table l.map).left;
      keeps : Kept (Unit {0}) l.fn.track l.track;
      slots : length l.slots.items ≡ length fields;
    }

abbrev pub decreases-structs::read_fields-reads : goal.decreases-structs::read_fields-reads
decreases-structs::read_fields-reads g l = count_entries (g.D.Deserializer.table l.map).left
