use Rattle.std.proofs.Common.{rules, arith, ◌≡◌, ◌∙◌, ◌+◌, ◌<◌, ◌++◌, ◌∷◌, [], length, drop, map, sym, refl}
use Rattle.std.specs.Vec.Iter.{into_iter_items}
use Rattle.std.proofs.lemmas.Result.{err_from_is_err_and}
use Rattle.std.proofs.lemmas.List.{nil_from_length, length-append, append-nil}
use Rattle.shape_read.specs.Fields.{completed}
use Rattle.shape.specs.View.{data_view}
use Rattle.shape_read.specs.Readers.{fields_in, slots_view, slot_view}
use Rattle.shape_read.proofs.Places.{front_none, completed_step, completed_stops, completed_end}
use Rattle.shape_read.proofs.structs.finish.Goals as goal

pub slots-init : goal.slots-init
slots-init g c =
    let fields = fields_in c.args.fields.now in record {
      outcome = rw (c.new-items.ensures.items, c.into_iter-slot-iterator.ensures.into_iter_gives.0) (sym (front_none (completed fields (slots_view c.args.slots))));
      number = rw (c.new-items.ensures.items, c.into_iter-slot-iterator.ensures.into_iter_gives.0) (omega (arith, c.requires));
    }

pub fill-requires : goal.fill-requires
fill-requires g c =
    let next : into_iter_items c.slots.slot-iterator ≡ c.in-Some.slot ∷ into_iter_items c.next.new.self = c.in-Some.ensures.steps.0 in
    let left : length (into_iter_items c.slots.slot-iterator) ≡ length (into_iter_items c.next.new.self) + 1 = rw next (omega arith) in
    omega (arith, c.len.ensures, c.slots.items.ok.0, c.slots.invariant.number, left)

pub returns-in_err-item : goal.returns-in_err-item
returns-in_err-item g c =
    let p = err_from_is_err_and c.from_residual.result c.from_residual.ensures.1 in
    let fault = g.D.Error.DeError.fault c.in_err-item.field-0.0 in
    let fields = fields_in c.args.fields.now in
    let items = c.slots.items.items in
    let rest = into_iter_items c.next.new.self in
    let next : into_iter_items c.slots.slot-iterator ≡ c.in-Some.slot ∷ into_iter_items c.next.new.self = c.in-Some.ensures.steps.0 in
    let left : length (into_iter_items c.slots.slot-iterator) ≡ length rest + 1 = rw next (omega arith) in
    let within : length items < length fields = omega (arith, c.slots.invariant.number, left) in
    let same : c.len.result ≡ length items = omega (arith, c.len.ensures, c.slots.items.ok.0) in
    let item = rw same at c.in_err-item.ensures in
    let stops = completed_stops fault fields (length items) (slot_view c.in-Some.slot) (map slot_view rest) items within item in
    rw (p.1, p.2, c.slots.invariant.outcome, next) stops

pub slots-preserved : goal.slots-preserved
slots-preserved g c =
    let fields = fields_in c.args.fields.now in
    let items = c.slots.items.items in
    let rest = into_iter_items c.next.new.self in
    let next : into_iter_items c.slots.slot-iterator ≡ c.in-Some.slot ∷ into_iter_items c.next.new.self = c.in-Some.ensures.steps.0 in
    let left : length (into_iter_items c.slots.slot-iterator) ≡ length rest + 1 = rw next (omega arith) in
    let within : length items < length fields = omega (arith, c.slots.invariant.number, left) in
    let same : c.len.result ≡ length items = omega (arith, c.len.ensures, c.slots.items.ok.0) in
    let item = rw same at c.in_ok-item.ensures in
    let pushed : c.push.new.self.items ≡ items ++ c.in_ok-item.item ∷ [] = search rules in
    let more : length (items ++ c.in_ok-item.item ∷ []) ≡ length items + 1 = length-append items (c.in_ok-item.item ∷ []) in
    let step = completed_step fields (length items) (slot_view c.in-Some.slot) (map slot_view rest) items c.in_ok-item.item within item in
    record {
      outcome = rw (pushed, more, c.slots.invariant.outcome, next) step;
      number = rw (pushed, more) (omega (arith, c.slots.invariant.number, left));
    }

pub returns : goal.returns
returns g c =
    let fields = fields_in c.args.fields.now in
    let items = c.slots.items.items in
    let none_left : into_iter_items c.slots.slot-iterator ≡ [] = nil_from_length _ (omega (arith, c.in-None.ensures.steps.0, c.slots.slot-iterator.rest.ok.0)) in
    let outcome = rw none_left at c.slots.invariant.outcome in
    outcome ∙ rw (completed_end (drop (length items) fields), append-nil (map data_view items)) refl
