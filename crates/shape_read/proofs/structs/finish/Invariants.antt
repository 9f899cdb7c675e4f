use Rattle.std.proofs.Common.{◌≡◌, ◌+◌, length, drop, map}
use Rattle.std.specs.Vec.Iter.{into_iter_items}
use Rattle.shape_read.specs.Fields.{completed}
use Rattle.shape_read.specs.Readers.{fields_in, slots_view, slot_view}
use Rattle.shape_read.proofs.Steps.{front}
use Rattle.shape_read.proofs.structs.finish.Given as goal

abbrev pub invariant-slots : goal.invariant-slots
invariant-slots g l =
    let fields = fields_in l.fields in
    let left = into_iter_items l.slot-iterator in
    let done = length l.items.items in record {
      outcome : completed fields (slots_view l.fn.slots) ≡ front l.items.items (completed (drop done fields) (map slot_view left));
      number : done + length left ≡ length fields;
    }
