use Rattle.std.proofs.Common.{rules, get_or, arith, ◌≡◌, ◌+◌, ◌++◌, ◌∷◌, [], drop, length, is_err, refl, sym, inl, inr, ◌∙◌, ap, map, true, Some, None, replicate}
use Rattle.std.proofs.lemmas.Result.{err_from_is_err_and}
use Rattle.std.proofs.lemmas.List.{append-nil, drop_all, length-append, length-map, length-replicate}
use Rattle.data_core.specs.declared.fault.Fault.TheVariants.{InvalidLength}
use Rattle.data_core.specs.declared.path.Segment.TheVariants.{Seq}
use Rattle.data_core.specs.Ask.{identifier}
use Rattle.data_core.specs.Source.{offer_of}
use Rattle.data_core.specs.Table.{offer_text, entry_segment, segment_of_key}
use Rattle.data_core.specs.Choice.{variant_segment, segment_of_variant}
use Rattle.data_core.specs.Tracking.{left, left_key}
use Rattle.data_core.specs.Outcome.{Outcome, under, bare, and_then, given}
use Rattle.data_core.proofs.Refusals.{IsRefused-whole, IsRefused-here, Carries-and_then, Gives-left}
use Rattle.data_core.specs.Sequence.{surplus}
use Rattle.data_core.proofs.Relations.{Kept-then}
use Rattle.data_std.specs.Ignored.{ignored, ignored_rest, at_key}
use Rattle.data_std.proofs.Keys.{Gives-left_key, Gives-value, Gives-and_then}
use Rattle.shape.proofs.Views.{view_of_tuple, view_of_tuple_struct, view_of_prefix, view_of_prefix_struct, view_of_struct, view_of_strict, view_of_loose, view_of_enum, view_of_tuple_variant, view_of_struct_variant, view_of_strict_variant, view_of_loose_variant}
use Rattle.shape.specs.Shape as spec
use Rattle.shape.specs.Shape.{Data, something, newtype_data, enum_data, PayloadData, newtype_payload}
use Rattle.shape_read.specs.Parts.{refuse_rest, unless}
use Rattle.shape_read.specs.First.{asks, first, both, pair_of, visited_payload}
use Rattle.shape_read.specs.Variants.{variant_place, with_payload}
use Rattle.shape_read.specs.Fields.{place_of_key, put_value}
use Rattle.shape_read.specs.Steps.{one_each, beyond, all_viewed}
use Rattle.shape.specs.View.{shape_view, variant_shape_view, data_view, payload_view}
use Rattle.shape.specs.declared.shapes.Shape as code
use Rattle.shape.specs.declared.shapes.VariantShape as variant
use Rattle.shape_read.specs.Readers.{readers_of, fields_in, variants_in, slots_view}
use Rattle.shape_read.proofs.Readers.{visited_tuple, visited_struct, visited_enum, visited_tuple_variant, visited_struct_variant}
use Rattle.shape_read.proofs.Chosen.{chosen}
use Rattle.shape_read.proofs.Places.{length_view, put_taken, put_open, put_next, put_given, Gives-dropped, all_empty}
use Rattle.shape_read.proofs.Steps.{Carries-each, each_step, each_end, Carries-one_each, one_each_step, one_each_short, place_step, beyond_step, row_done, readers_at, Carries-row, Carries-rest, row_given, unless-accepted, unless-refused, Carries-value, pair_given}
use Rattle.shape_read.proofs.+read.Goals as goal

pub reader::visit_option-returns-in_err-value-in-Some-clause-value : goal.reader::visit_option-returns-in_err-value-in-Some-clause-value
reader::visit_option-returns-in_err-value-in-Some-clause-value g t c =
    let p = err_from_is_err_and c.from_residual.result c.from_residual.ensures.1 in
    let de = g.D.Deserializer in
    let inside = first (shape_view c.args.inner.now) (de.source c.in-Some.d) in
    rw (p.1, p.2, c.in-Some.is)
    (IsRefused-whole de.tracks (g.D.Error.DeError.fault c.in_err-value-in-Some.field-0.0) inside (and_then inside (λ d. given (something d))) c.args.track.now c.args.track.now c.read.new.track (λ e. e) (Carries-and_then inside (λ d. given (something d))) c.in_err-value-in-Some.ensures.value)

pub reader::visit-returns-in-Seq-clause-value : goal.reader::visit-returns-in-Seq-clause-value
reader::visit-returns-in-Seq-clause-value g t c = rw c.in-Seq.is (rw c.deref-in-Seq.ensures at c.visit_seq.ensures.value)

pub reader::visit-returns-in-Tuple-clause-value : goal.reader::visit-returns-in-Tuple-clause-value
reader::visit-returns-in-Tuple-clause-value g t c =
    let all = c.in-Tuple.row in
    rw (c.in-Tuple.is, visited_tuple (shape_view (code.Tuple all)) spec.whole None all.items (view_of_tuple all)) (rw c.deref-in-Tuple.ensures.value at c.visit_tuple.ensures.value)

pub reader::visit-returns-in-TupleStruct-clause-value : goal.reader::visit-returns-in-TupleStruct-clause-value
reader::visit-returns-in-TupleStruct-clause-value g t c =
    let name = c.in-TupleStruct.field-0 in
    let all = c.in-TupleStruct.row in
    rw (c.in-TupleStruct.is, visited_tuple (shape_view (code.TupleStruct name all)) spec.whole (Some name) all.items (view_of_tuple_struct name all)) (rw c.deref-in-TupleStruct.ensures.value at c.visit_tuple-in-TupleStruct.ensures.value)

pub reader::visit-returns-in-Prefix-clause-value : goal.reader::visit-returns-in-Prefix-clause-value
reader::visit-returns-in-Prefix-clause-value g t c =
    let all = c.in-Prefix.row in
    rw (c.in-Prefix.is, visited_tuple (shape_view (code.Prefix all)) spec.prefix None all.items (view_of_prefix all)) (rw c.deref-in-Prefix.ensures.value at c.visit_tuple-in-Prefix.ensures.value)

pub reader::visit-returns-in-PrefixStruct-clause-value : goal.reader::visit-returns-in-PrefixStruct-clause-value
reader::visit-returns-in-PrefixStruct-clause-value g t c =
    let name = c.in-PrefixStruct.field-0 in
    let all = c.in-PrefixStruct.row in
    rw (c.in-PrefixStruct.is, visited_tuple (shape_view (code.PrefixStruct name all)) spec.prefix (Some name) all.items (view_of_prefix_struct name all)) (rw c.deref-in-PrefixStruct.ensures.value at c.visit_tuple-in-PrefixStruct.ensures.value)

pub reader::visit-returns-in-Map-clause-value : goal.reader::visit-returns-in-Map-clause-value
reader::visit-returns-in-Map-clause-value g t c = rw c.in-Map.is (rw c.deref-in-Map.ensures at c.visit_map.ensures.value)

pub reader::visit_newtype-returns-in_err-value-in-NewtypeStruct-clause-value : goal.reader::visit_newtype-returns-in_err-value-in-NewtypeStruct-clause-value
reader::visit_newtype-returns-in_err-value-in-NewtypeStruct-clause-value g t c =
    let p = err_from_is_err_and c.from_residual.result c.from_residual.ensures.1 in
    let de = g.D.Deserializer in
    let inside = first (shape_view c.args.inner.now) (de.source c.in-NewtypeStruct.d) in
    rw (p.1, p.2, c.in-NewtypeStruct.is)
    (IsRefused-whole de.tracks (g.D.Error.DeError.fault c.in_err-value-in-NewtypeStruct.field-0.0) inside (and_then inside (λ d. given (newtype_data d))) c.args.track.now c.args.track.now c.read.new.track (λ e. e) (Carries-and_then inside (λ d. given (newtype_data d))) c.in_err-value-in-NewtypeStruct.ensures.value)

pub reader::visit-returns-in-Struct-clause-value : goal.reader::visit-returns-in-Struct-clause-value
reader::visit-returns-in-Struct-clause-value g t c =
    let name = c.in-Struct.field-0 in
    let fields = c.in-Struct.fields in
    rw (c.in-Struct.is, visited_struct (shape_view (code.Struct name fields)) spec.exact name fields (view_of_struct name fields)) c.visit_struct.ensures.value

pub reader::visit-returns-in-Strict-clause-value : goal.reader::visit-returns-in-Strict-clause-value
reader::visit-returns-in-Strict-clause-value g t c =
    let name = c.in-Strict.field-0 in
    let fields = c.in-Strict.fields in
    rw (c.in-Strict.is, visited_struct (shape_view (code.Strict name fields)) spec.strict name fields (view_of_strict name fields)) c.visit_struct-in-Strict.ensures.value

pub reader::visit-returns-in-Loose-clause-value : goal.reader::visit-returns-in-Loose-clause-value
reader::visit-returns-in-Loose-clause-value g t c =
    let name = c.in-Loose.field-0 in
    let fields = c.in-Loose.fields in
    rw (c.in-Loose.is, visited_struct (shape_view (code.Loose name fields)) spec.loose name fields (view_of_loose name fields)) c.visit_struct-in-Loose.ensures.value

pub reader::visit-returns-in-Enum-clause-value : goal.reader::visit-returns-in-Enum-clause-value
reader::visit-returns-in-Enum-clause-value g t c =
    let name = c.in-Enum.field-0 in
    let variants = c.in-Enum.variants in
    rw (c.in-Enum.is, visited_enum (shape_view (code.Enum name variants)) name variants (view_of_enum name variants)) c.visit_enum.ensures.value

-- each element

pub rows::read_element-returns-in_err-value-clause-value : goal.rows::read_element-returns-in_err-value-clause-value
rows::read_element-returns-in_err-value-clause-value g t c =
    let p = err_from_is_err_and c.from_residual-in_err-value.result c.from_residual-in_err-value.ensures.1 in
    let de = g.D.Deserializer in
    let i = (de.sequence c.args.seq.now).taken in
    let taken = rw c.in-Some.is at c.in_ok-element.ensures.takes in
    let on_way_out : c.leave_element.new.track ≡ left de.tracks (Seq i) c.holds-before.result (is_err c.read-value.result) c.read-value.new.track = search rules in
    let refusal = rw c.in_err-value.was at (Gives-left g.D.Error.DeError.fault de.tracks c.holds-before.result (Seq i) data_view c.read-value.result (first (shape_view c.args.shape.now) (de.source c.in-Some.element)) c.args.track.now c.read-value.new.track c.leave_element.new.track c.holds-before.ensures c.read-value.ensures.value on_way_out) in
    let element = under (Seq i) (first (shape_view c.args.shape.now) (de.source c.in-Some.element)) in
    rw (p.1, p.2, taken)
    (IsRefused-whole de.tracks (g.D.Error.DeError.fault c.in_err-value.field-0.0) element (and_then element (λ d. given (Some d))) c.args.track.now c.args.track.now c.leave_element.new.track (λ e. e) (Carries-and_then element (λ d. given (Some d))) refusal)

pub rows::read_each-returns-in_err-item-clause-value : goal.rows::read_each-returns-in_err-item-clause-value
rows::read_each-returns-in_err-item-clause-value g t c =
    let p = err_from_is_err_and c.from_residual.result c.from_residual.ensures.1 in
    let de = g.D.Deserializer in
    let now = de.sequence c.reads.seq in
    let whole = Carries-each (first (shape_view c.args.inner.now)) now.taken now.left c.reads.items.items in
    rw (p.1, p.2, c.reads.invariant.outcome)
    (IsRefused-whole de.tracks (g.D.Error.DeError.fault c.in_err-item.field-0.0) _ _ c.args.track.now c.reads.track c.read_element.new.track (λ e. rw (c.reads.invariant.keeps.1 tt) e) whole c.in_err-item.ensures.value)

pub rows::read_each-reads-preserved : goal.rows::read_each-reads-preserved
rows::read_each-reads-preserved g t c =
    let now = g.D.Deserializer.sequence c.reads.seq in
    let taken = rw c.in-Some.is at c.in_ok-item.ensures.value in
    let step = each_step (first (shape_view c.args.inner.now)) now.taken now.left c.reads.items.items c.in-Some.item taken.0 in
    let pushed : c.push.new.self.items ≡ c.reads.items.items ++ c.in-Some.item ∷ [] = search rules in
    record {
      outcome = rw (pushed, c.in_ok-item.ensures.took, c.reads.invariant.outcome) step;
      keeps = Kept-then (Unit {0}) g.D.Deserializer.tracks c.args.track.now c.reads.track c.read_element.new.track c.reads.invariant.keeps c.in_ok-item.ensures.keeps;
    }

pub rows::read_each-returns-clause-value : goal.rows::read_each-returns-clause-value
rows::read_each-returns-clause-value g t c =
    let now = g.D.Deserializer.sequence c.reads.seq in
    let taken = rw c.in_default.is at c.in_ok-item.ensures.value in
    rw (c.reads.invariant.outcome, each_end (first (shape_view c.args.inner.now)) now.taken now.left taken.0, append-nil (map data_view c.reads.items.items))
    (refl, λ e. taken.1 (rw (c.reads.invariant.keeps.1 tt) e))

-- an element for each shape

pub rows::read_row-returns-in_err-item-clause-value : goal.rows::read_row-returns-in_err-item-clause-value
rows::read_row-returns-in_err-item-clause-value g t c =
    let p = err_from_is_err_and c.from_residual.result c.from_residual.ensures.1 in
    let de = g.D.Deserializer in
    let all = c.args.shapes.now in
    let now = de.sequence c.reads.seq in
    let next = readers_at all c.reads.shape-index c.shape-item.result c.reads-test.true c.shape-item.is in
    let whole = Carries-one_each (first (shape_view c.shape-item.result)) (readers_of (drop (c.reads.shape-index + 1) all)) now.taken now.left c.reads.items.items in
    rw (p.1, p.2, c.reads.invariant.outcome, next)
    (IsRefused-whole de.tracks (g.D.Error.DeError.fault c.in_err-item.field-0.0) _ _ c.args.track.now c.reads.track c.read_element.new.track (λ e. rw (c.reads.invariant.keeps.1 tt) e) whole c.in_err-item.ensures.value)

pub rows::read_row-returns-in_default-clause-value : goal.rows::read_row-returns-in_default-clause-value
rows::read_row-returns-in_default-clause-value g t c =
    let de = g.D.Deserializer in
    let all = c.args.shapes.now in
    let now = de.sequence c.reads.seq in
    let next = readers_at all c.reads.shape-index c.shape-item.result c.reads-test.true c.shape-item.is in
    let taken = rw c.in_default.is at c.in_ok-item.ensures.value in
    let short = one_each_short (first (shape_view c.shape-item.result)) (readers_of (drop (c.reads.shape-index + 1) all)) now.taken now.left taken.0 in
    let same : c.len.result ≡ now.taken = omega (arith, c.reads.items.ok.0) in
    let called = rw same at c.invalid_length.ensures in
    rw (c.reads.invariant.outcome, next, short)
    (IsRefused-here de.tracks (g.D.Error.DeError.fault c.invalid_length.result) (InvalidLength now.taken) _ c.args.track.now c.read_element.new.track called refl (λ e. taken.1 (rw (c.reads.invariant.keeps.1 tt) e)))

pub rows::read_row-reads-preserved : goal.rows::read_row-reads-preserved
rows::read_row-reads-preserved g t c =
    let all = c.args.shapes.now in
    let now = g.D.Deserializer.sequence c.reads.seq in
    let ds = c.reads.items.items in
    let read = first (shape_view c.shape-item.result) in
    let reads = readers_of (drop (c.reads.shape-index + 1) all) in
    let next = readers_at all c.reads.shape-index c.shape-item.result c.reads-test.true c.shape-item.is in
    let taken = rw c.in-Some.is at c.in_ok-item.ensures.value in
    let step = one_each_step read reads now.taken now.left ds c.in-Some.item taken.0 in
    let place = place_step read now.taken now.left (data_view c.in-Some.item) taken.0 in
    let rest = beyond_step read reads now.taken now.left (data_view c.in-Some.item) taken.0 in
    let pushed : c.push.new.self.items ≡ ds ++ c.in-Some.item ∷ [] = search rules in
    record {
      outcome = rw (pushed, c.in_ok-item.ensures.took, c.reads.invariant.outcome, next) step;
      keeps = Kept-then (Unit {0}) g.D.Deserializer.tracks c.args.track.now c.reads.track c.read_element.new.track c.reads.invariant.keeps c.in_ok-item.ensures.keeps;
      items = rw pushed (omega (arith, c.reads.invariant.items, length-append ds (c.in-Some.item ∷ [])));
      left = rw (c.in_ok-item.ensures.took, c.reads.invariant.left, next) rest;
      taken = rw (c.in_ok-item.ensures.took, place) (omega (arith, c.reads.invariant.taken));
      checks = rw c.in_ok-item.ensures.took c.reads.invariant.checks;
      tells = rw c.in_ok-item.ensures.took c.reads.invariant.tells;
    }

pub rows::read_row-returns-clause-took : goal.rows::read_row-returns-clause-took
rows::read_row-returns-clause-took g t c =
    let de = g.D.Deserializer in
    let all = c.args.shapes.now in
    let now = de.sequence c.reads.seq in
    let done : drop c.reads.shape-index all ≡ [] = drop_all c.reads.shape-index all (omega (arith, c.reads-test.false)) in
    let left : now.left ≡ beyond (readers_of all) (de.sequence c.args.seq.now).left = sym (rw done at c.reads.invariant.left) in
    let taken : now.taken ≡ length (readers_of all) = omega (arith, c.reads.invariant.taken, c.reads-test.false, length-map all (λ a. first (shape_view a))) in
    row_done (readers_of all) (de.sequence c.args.seq.now) now left taken c.reads.invariant.checks c.reads.invariant.tells

-- the end of a row

pub rows::read_whole-returns-in_err-items-clause-value : goal.rows::read_whole-returns-in_err-items-clause-value
rows::read_whole-returns-in_err-items-clause-value g t c =
    let p = err_from_is_err_and c.from_residual.result c.from_residual.ensures.1 in
    let de = g.D.Deserializer in
    let begun = de.sequence c.args.seq in
    let reads = readers_of c.args.shapes.now in
    let whole = Carries-row (refuse_rest begun.checks) reads begun.left in
    rw (p.1, p.2)
    (IsRefused-whole de.tracks (g.D.Error.DeError.fault c.in_err-items.field-0.0) (one_each reads 0 begun.left) _ c.args.track.now c.args.track.now c.read_row.new.track (λ e. e) whole c.in_err-items.ensures.value)

pub rows::read_whole-returns-in_err-end_seq-clause-value : goal.rows::read_whole-returns-in_err-end_seq-clause-value
rows::read_whole-returns-in_err-end_seq-clause-value g t c =
    let p = err_from_is_err_and c.from_residual-in_err-end_seq.result c.from_residual-in_err-end_seq.ensures.1 in
    let de = g.D.Deserializer in
    let fault = g.D.Error.DeError.fault in
    let e = c.in_err-end_seq.field-0.0 in
    let begun = de.sequence c.args.seq in
    let reads = readers_of c.args.shapes.now in
    let over = surplus begun.checks (length reads) (beyond reads begun.left) in
    let ended = rw c.in_ok-items.ensures.took at c.in_err-end_seq.ensures in
    let whole = Carries-rest (refuse_rest begun.checks) reads begun.left (all_viewed c.in_ok-items.items) c.in_ok-items.ensures.value.0 in
    rw (p.1, p.2)
    (IsRefused-whole de.tracks (fault e) (unless over) _ c.args.track.now c.args.track.now c.read_row.new.track (λ e. e) whole (unless-refused fault de.tracks e over c.args.track.now c.read_row.new.track c.in_ok-items.ensures.value.1 ended))

pub rows::read_whole-returns-clause-value : goal.rows::read_whole-returns-clause-value
rows::read_whole-returns-clause-value g t c =
    let begun = g.D.Deserializer.sequence c.args.seq in
    let reads = readers_of c.args.shapes.now in
    let ended = rw c.in_ok-items.ensures.took at c.in_ok-end_seq.ensures in
    let accepted = unless-accepted g.D.Error.DeError.fault c.in_ok-end_seq.field-0 (surplus begun.checks (length reads) (beyond reads begun.left)) ended in (
      (row_given (refuse_rest begun.checks) reads begun.left (all_viewed c.in_ok-items.items) c.in_ok-items.ensures.value.0 accepted),
      c.in_ok-items.ensures.value.1,
    )

pub rows::read_prefix-returns-in_err-items-clause-value : goal.rows::read_prefix-returns-in_err-items-clause-value
rows::read_prefix-returns-in_err-items-clause-value g t c =
    let p = err_from_is_err_and c.from_residual.result c.from_residual.ensures.1 in
    let de = g.D.Deserializer in
    let begun = de.sequence c.args.seq in
    let reads = readers_of c.args.shapes.now in
    rw (p.1, p.2)
    (IsRefused-whole de.tracks (g.D.Error.DeError.fault c.in_err-items.field-0.0) (one_each reads 0 begun.left) _ c.args.track.now c.args.track.now c.read_row.new.track (λ e. e) (Carries-row ignored_rest reads begun.left) c.in_err-items.ensures.value)

pub rows::read_prefix-returns-in_err-ignore_rest-clause-value : goal.rows::read_prefix-returns-in_err-ignore_rest-clause-value
rows::read_prefix-returns-in_err-ignore_rest-clause-value g t c =
    let p = err_from_is_err_and c.from_residual-in_err-ignore_rest.result c.from_residual-in_err-ignore_rest.ensures.1 in
    let de = g.D.Deserializer in
    let begun = de.sequence c.args.seq in
    let reads = readers_of c.args.shapes.now in
    let refusal = rw c.in_ok-items.ensures.took at c.in_err-ignore_rest.ensures.value in
    let whole = Carries-rest ignored_rest reads begun.left (all_viewed c.in_ok-items.items) c.in_ok-items.ensures.value.0 in
    rw (p.1, p.2)
    (IsRefused-whole de.tracks (g.D.Error.DeError.fault c.in_err-ignore_rest.field-0.0) (ignored_rest (length reads) (beyond reads begun.left)) _ c.args.track.now c.read_row.new.track c.ignore_rest.new.track c.in_ok-items.ensures.value.1 whole refusal)

pub rows::read_prefix-returns-clause-value : goal.rows::read_prefix-returns-clause-value
rows::read_prefix-returns-clause-value g t c =
    let begun = g.D.Deserializer.sequence c.args.seq in
    let reads = readers_of c.args.shapes.now in
    let ignored = rw c.in_ok-items.ensures.took at c.in_ok-ignore_rest.ensures.value in (
      (row_given ignored_rest reads begun.left (all_viewed c.in_ok-items.items) c.in_ok-items.ensures.value.0 ignored.0),
      λ e. ignored.1 (c.in_ok-items.ensures.value.1 e),
    )

-- an entry

pub entries::read_key-returns-clause-value : goal.entries::read_key-returns-clause-value
entries::read_key-returns-clause-value g t c =
    let de = g.D.Deserializer in
    let key = de.source c.args.key in
    let own = de.key_text c.visit_key-read.new.map in
    let on_way_out : c.leave_key.new.track ≡ left_key de.tracks (entry_segment own) c.holds-before.result (is_err c.visit_key-read.result) c.visit_key-read.new.track = search rules in
    Gives-left_key g.D.Error.DeError.fault de.tracks c.holds-before.result own (offer_text (offer_of key (asks (shape_view c.args.shape.now)))) data_view c.visit_key-read.result (first (shape_view c.args.shape.now) key) c.args.track.now c.visit_key-read.new.track c.leave_key.new.track c.holds-before.ensures c.visit_key-read.ensures.caught c.visit_key-read.ensures.value on_way_out

pub entries::read_value-returns-clause-value : goal.entries::read_value-returns-clause-value
entries::read_value-returns-clause-value g t c segment same v waits =
    let de = g.D.Deserializer in
    let own = entry_segment (de.key_text c.args.map.now) in
    let source = de.source c.in_ok-value.value in
    let taken = rw waits at c.in_ok-value.ensures.takes in
    let at_hand : v ≡ source = cc in
    let on_way_out : c.leave_value.new.track ≡ left de.tracks own c.holds-before.result (is_err c.read-read.result) c.read-read.new.track = search rules in
    rw at_hand (Gives-value g.D.Error.DeError.fault de.tracks c.holds-before.result own segment data_view c.read-read.result (first (shape_view c.args.shape.now) source) c.args.track.now c.read-read.new.track c.leave_value.new.track c.holds-before.ensures same c.read-read.ensures.value on_way_out)

pub entries::read_entry-returns-in_err-key-clause-value : goal.entries::read_entry-returns-in_err-key-clause-value
entries::read_entry-returns-in_err-key-clause-value g t c v waits =
    let p = err_from_is_err_and c.from_residual.result c.from_residual.ensures.1 in
    let de = g.D.Deserializer in
    let shape = shape_view c.args.shapes.now.key in
    let segment = segment_of_key (asks shape) (de.source c.args.key) in
    let key = first shape (de.source c.args.key) in
    let value = first (shape_view c.args.shapes.now.value) v in
    rw (p.1, p.2)
    (IsRefused-whole de.tracks (g.D.Error.DeError.fault c.in_err-key.field-0.0) (at_key segment key) (pair_of segment key value) c.args.track.now c.args.track.now c.read_key.new.track (λ e. e) (Carries-and_then (at_key segment key) (λ k. and_then (under segment value) (λ x. both k x))) c.in_err-key.ensures.value)

pub entries::read_entry-returns-in_err-value-clause-value : goal.entries::read_entry-returns-in_err-value-clause-value
entries::read_entry-returns-in_err-value-clause-value g t c v waits =
    let p = err_from_is_err_and c.from_residual-in_err-value.result c.from_residual-in_err-value.ensures.1 in
    let de = g.D.Deserializer in
    let shape = shape_view c.args.shapes.now.key in
    let segment = segment_of_key (asks shape) (de.source c.args.key) in
    let key = first shape (de.source c.args.key) in
    let value = first (shape_view c.args.shapes.now.value) v in
    let read = c.in_ok-key.ensures.value in
    let waiting : (de.table c.read_key.new.map).waiting ≡ (de.table c.args.map.now).waiting = ap (λ t. t.waiting) c.in_ok-key.ensures.table in
    let same : de.tracks ≡ true → segment ≡ entry_segment (de.key_text c.read_key.new.map) = λ t. ap entry_segment (sym (c.in_ok-key.ensures.caught t)) in
    rw (p.1, p.2)
    (IsRefused-whole de.tracks (g.D.Error.DeError.fault c.in_err-value.field-0.0) (under segment value) (pair_of segment key value) c.args.track.now c.read_key.new.track c.read_value.new.track read.1 (Carries-value segment key value (data_view c.in_ok-key.key) read.0) (c.in_err-value.ensures.value segment same v (waiting ∙ waits)))

pub entries::read_entry-returns-clause-value : goal.entries::read_entry-returns-clause-value
entries::read_entry-returns-clause-value g t c v waits =
    let de = g.D.Deserializer in
    let shape = shape_view c.args.shapes.now.key in
    let segment = segment_of_key (asks shape) (de.source c.args.key) in
    let key = first shape (de.source c.args.key) in
    let value = first (shape_view c.args.shapes.now.value) v in
    let read = c.in_ok-key.ensures.value in
    let waiting : (de.table c.read_key.new.map).waiting ≡ (de.table c.args.map.now).waiting = ap (λ t. t.waiting) c.in_ok-key.ensures.table in
    let same : de.tracks ≡ true → segment ≡ entry_segment (de.key_text c.read_key.new.map) = λ t. ap entry_segment (sym (c.in_ok-key.ensures.caught t)) in
    let came = c.in_ok-value.ensures.value segment same v (waiting ∙ waits) in (
      pair_given segment key value (data_view c.in_ok-key.key) (data_view c.in_ok-value.value) read.0 came.0,
      λ e. came.1 (read.1 e),
    )

-- a field

pub structs::put-returns-then-is_some-clause-value : goal.structs::put-returns-then-is_some-clause-value
structs::put-returns-then-is_some-clause-value g t c segment same v waits =
    let f = c.args.fields.now in
    put_taken g.D.Deserializer.tracks segment v f.names f.shapes.items c.args.slots.now.items c.args.place (g.D.Error.DeError.fault c.duplicate.result) c.index.result.now c.args.track.now c.requires.named c.requires.shaped c.requires.slot c.index.ensures (sym c.is_some.ensures ∙ c.if-is_some.true) c.duplicate.ensures

pub structs::put-returns-in_err-value-clause-value : goal.structs::put-returns-in_err-value-clause-value
structs::put-returns-in_err-value-clause-value g t c segment same v waits =
    let p = err_from_is_err_and c.from_residual.result c.from_residual.ensures.1 in
    let de = g.D.Deserializer in
    let f = c.args.fields.now in
    let slots = c.args.slots.now.items in
    let a = c.index-shapes-place.result in
    let is : a ≡ get_or f.shapes.items c.args.place a = c.index-shapes-place.is ∙ ap (λ xs. get_or xs c.args.place a) c.shapes.ensures in
    let value = under segment (first (shape_view a) v) in
    let opened = put_open de.tracks segment v f.names f.shapes.items slots c.args.place c.index.result.now a c.requires.named c.requires.shaped c.requires.slot c.index.ensures (sym c.is_some.ensures ∙ c.if-is_some.false) is in
    let next = put_next de.tracks segment v f.names f.shapes.items slots c.args.place in
    rw (p.1, p.2, opened)
    (IsRefused-whole de.tracks (g.D.Error.DeError.fault c.in_err-value.field-0.0) value (and_then value next) c.args.track.now c.args.track.now c.read_value.new.track (λ e. e) (Carries-and_then value next) (c.in_err-value.ensures.value segment same v waits))

pub structs::put-returns-clause-value : goal.structs::put-returns-clause-value
structs::put-returns-clause-value g t c segment same v waits =
    let de = g.D.Deserializer in
    let f = c.args.fields.now in
    let slots = c.args.slots.now.items in
    let a = c.index-shapes-place.result in
    let is : a ≡ get_or f.shapes.items c.args.place a = c.index-shapes-place.is ∙ ap (λ xs. get_or xs c.args.place a) c.shapes.ensures in
    let value = under segment (first (shape_view a) v) in
    let opened = put_open de.tracks segment v f.names f.shapes.items slots c.args.place c.index.result.now a c.requires.named c.requires.shaped c.requires.slot c.index.ensures (sym c.is_some.ensures ∙ c.if-is_some.false) is in
    let read = c.in_ok-value.ensures.value segment same v waits in
    (opened ∙ put_given slots c.args.place value c.in_ok-value.value read.0, read.1)

pub structs::read_field-returns-in-Some-clause-value : goal.structs::read_field-returns-in-Some-clause-value
structs::read_field-returns-in-Some-clause-value g t c v waits =
    let de = g.D.Deserializer in
    let fields = fields_in c.args.fields.now in
    let key = de.source c.args.key in
    let segment = segment_of_key identifier key in
    let place = at_key segment (place_of_key c.args.strict fields (offer_of key identifier)) in
    let read = rw c.in-Some.is at c.in_ok-place.ensures.value in
    let waiting : (de.table c.read_place.new.map).waiting ≡ (de.table c.args.map.now).waiting = ap (λ t. t.waiting) c.in_ok-place.ensures.table in
    let same : de.tracks ≡ true → segment ≡ entry_segment (de.key_text c.read_place.new.map) = λ t. ap entry_segment (sym (c.in_ok-place.ensures.caught t)) in
    Gives-and_then g.D.Error.DeError.fault de.tracks (λ u. slots_view c.put.new.slots) c.put.result place (put_value ignored fields segment v (slots_view c.args.slots.now)) (Some c.in-Some.place) c.args.track.now c.read_place.new.track c.put.new.track read.0 read.1 (c.put.ensures.value segment same v (waiting ∙ waits))

pub structs::read_field-returns-in-None-clause-value : goal.structs::read_field-returns-in-None-clause-value
structs::read_field-returns-in-None-clause-value g t c v waits =
    let de = g.D.Deserializer in
    let fault = g.D.Error.DeError.fault in
    let fields = fields_in c.args.fields.now in
    let slots = slots_view c.args.slots.now in
    let key = de.source c.args.key in
    let segment = segment_of_key identifier key in
    let place = at_key segment (place_of_key c.args.strict fields (offer_of key identifier)) in
    let read = rw c.in-None.is at c.in_ok-place.ensures.value in
    let waiting : (de.table c.read_place.new.map).waiting ≡ (de.table c.args.map.now).waiting = ap (λ t. t.waiting) c.in_ok-place.ensures.table in
    let same : de.tracks ≡ true → segment ≡ entry_segment (de.key_text c.read_place.new.map) = λ t. ap entry_segment (sym (c.in_ok-place.ensures.caught t)) in
    let dropped = Gives-dropped fault de.tracks c.ignore_value.result (under segment (ignored v)) slots c.read_place.new.track c.ignore_value.new.track (c.ignore_value.ensures.value segment same v (waiting ∙ waits)) in
    Gives-and_then fault de.tracks (λ u. slots) c.ignore_value.result place (put_value ignored fields segment v slots) None c.args.track.now c.read_place.new.track c.ignore_value.new.track read.0 read.1 dropped

pub structs::read_fields-reads-init : goal.structs::read_fields-reads-init
structs::read_fields-reads-init g t c =
    let f = c.args.fields.now in
    let fields = fields_in f in
    let empty : c.in-Ok.slots.items ≡ replicate (length fields) None = c.in-Ok.ensures ∙ ap (λ n. replicate n None) (c.len.ensures ∙ length_view f.names f.shapes.items) in
    record {
      outcome = rw (empty, all_empty (length fields)) refl;
      keeps = (inr (inl refl), λ q. refl);
      slots = rw empty (length-replicate (length fields) None);
    }

-- a variant

pub enums::read_payload-returns-clause-value : goal.enums::read_payload-returns-clause-value
enums::read_payload-returns-clause-value g t c segment same =
    let de = g.D.Deserializer in
    let own = variant_segment (de.name_text c.args.variant.now) in
    let payload = visited_payload (variant_shape_view c.args.shape.now) (de.choice c.args.variant.now) in
    let on_way_out : c.leave_payload.new.track ≡ left de.tracks own c.holds-before.result (is_err c.take_payload-payload.result) c.take_payload-payload.new.track = search rules in
    Gives-value g.D.Error.DeError.fault de.tracks c.holds-before.result own segment payload_view c.take_payload-payload.result payload c.args.track.now c.take_payload-payload.new.track c.leave_payload.new.track c.holds-before.ensures same c.take_payload-payload.ensures.value on_way_out

pub enums::take_newtype-returns-in_err-value-clause-value : goal.enums::take_newtype-returns-in_err-value-clause-value
enums::take_newtype-returns-in_err-value-clause-value g t c =
    let p = err_from_is_err_and c.from_residual-in_err-value.result c.from_residual-in_err-value.ensures.1 in
    let de = g.D.Deserializer in
    let inside = first (shape_view c.args.inner.now) (de.source c.in_ok-d.d) in
    rw (p.1, p.2, c.in_ok-d.ensures.hands)
    (IsRefused-whole de.tracks (g.D.Error.DeError.fault c.in_err-value.field-0.0) inside (and_then inside (λ d. given (newtype_payload d))) c.args.track.now c.args.track.now c.read.new.track (λ e. e) (Carries-and_then inside (λ d. given (newtype_payload d))) c.in_err-value.ensures.value)

pub enums::take_payload-returns-in-Tuple-clause-value : goal.enums::take_payload-returns-in-Tuple-clause-value
enums::take_payload-returns-in-Tuple-clause-value g t c =
    let all = c.in-Tuple.shapes in
    let offered = g.D.Deserializer.choice c.args.variant.now in
    rw (c.in-Tuple.is, visited_tuple_variant (variant_shape_view (variant.Tuple all)) all.items (view_of_tuple_variant all) offered) (rw c.deref-in-Tuple.ensures.value at c.take_tuple.ensures.value)

pub enums::take_payload-returns-in-Struct-clause-value : goal.enums::take_payload-returns-in-Struct-clause-value
enums::take_payload-returns-in-Struct-clause-value g t c =
    let fields = c.in-Struct.fields in
    let offered = g.D.Deserializer.choice c.args.variant.now in
    rw (c.in-Struct.is, visited_struct_variant (variant_shape_view (variant.Struct fields)) spec.exact fields (view_of_struct_variant fields) offered) c.take_struct.ensures.value

pub enums::take_payload-returns-in-Strict-clause-value : goal.enums::take_payload-returns-in-Strict-clause-value
enums::take_payload-returns-in-Strict-clause-value g t c =
    let fields = c.in-Strict.fields in
    let offered = g.D.Deserializer.choice c.args.variant.now in
    rw (c.in-Strict.is, visited_struct_variant (variant_shape_view (variant.Strict fields)) spec.strict fields (view_of_strict_variant fields) offered) c.take_struct-in-Strict.ensures.value

pub enums::take_payload-returns-in-Loose-clause-value : goal.enums::take_payload-returns-in-Loose-clause-value
enums::take_payload-returns-in-Loose-clause-value g t c =
    let fields = c.in-Loose.fields in
    let offered = g.D.Deserializer.choice c.args.variant.now in
    rw (c.in-Loose.is, visited_struct_variant (variant_shape_view (variant.Loose fields)) spec.loose fields (view_of_loose_variant fields) offered) c.take_struct-in-Loose.ensures.value

pub enums::read_variant-returns-in_err-place-clause-value : goal.enums::read_variant-returns-in_err-place-clause-value
enums::read_variant-returns-in_err-place-clause-value g t c =
    let p = err_from_is_err_and c.from_residual.result c.from_residual.ensures.1 in
    let de = g.D.Deserializer in
    let variants = variants_in c.args.variants.now in
    let name = de.source c.args.name in
    let place = bare (variant_place variants (offer_of name identifier)) in
    let next = with_payload variants (segment_of_variant identifier name) (de.choice c.args.variant.now) in
    rw (p.1, p.2)
    (IsRefused-whole de.tracks (g.D.Error.DeError.fault c.in_err-place.field-0.0) place (and_then place next) c.args.track.now c.args.track.now c.read_name.new.track (λ e. e) (Carries-and_then place next) c.in_err-place.ensures.value)

pub enums::read_variant-returns-in_err-payload-clause-value : goal.enums::read_variant-returns-in_err-payload-clause-value
enums::read_variant-returns-in_err-payload-clause-value g t c =
    let p = err_from_is_err_and c.from_residual-in_err-payload.result c.from_residual-in_err-payload.ensures.1 in
    let de = g.D.Deserializer in
    let all = c.args.variants.now in
    let a = c.index-shapes-place.result in
    let is : a ≡ get_or all.shapes.items c.in_ok-place.place a = c.index-shapes-place.is ∙ ap (λ xs. get_or xs c.in_ok-place.place a) c.shapes.ensures in
    let name = de.source c.args.name in
    let place = bare (variant_place (variants_in all) (offer_of name identifier)) in
    let segment = segment_of_variant identifier name in
    let offered = de.choice c.args.variant.now in
    let read = c.in_ok-place.ensures.value in
    let choice : de.choice c.read_name.new.variant ≡ offered = c.in_ok-place.ensures.choice in
    let same : de.tracks ≡ true → segment ≡ variant_segment (de.name_text c.read_name.new.variant) = λ t. ap variant_segment (sym (c.in_ok-place.ensures.caught t)) in
    let refusal = rw choice at c.in_err-payload.ensures.value segment same in
    let held = under segment (visited_payload (variant_shape_view a) offered) in
    let next : PayloadData → Outcome Data = λ d. given (enum_data c.in_ok-place.place d) in
    rw (p.1, p.2, chosen all.names all.shapes.items segment offered place c.in_ok-place.place a read.0 c.in_ok-place.ensures.within is)
    (IsRefused-whole de.tracks (g.D.Error.DeError.fault c.in_err-payload.field-0.0) held (and_then held next) c.args.track.now c.read_name.new.track c.read_payload.new.track read.1 (Carries-and_then held next) refusal)

pub enums::read_variant-returns-clause-value : goal.enums::read_variant-returns-clause-value
enums::read_variant-returns-clause-value g t c =
    let de = g.D.Deserializer in
    let all = c.args.variants.now in
    let a = c.index-shapes-place.result in
    let is : a ≡ get_or all.shapes.items c.in_ok-place.place a = c.index-shapes-place.is ∙ ap (λ xs. get_or xs c.in_ok-place.place a) c.shapes.ensures in
    let name = de.source c.args.name in
    let place = bare (variant_place (variants_in all) (offer_of name identifier)) in
    let segment = segment_of_variant identifier name in
    let offered = de.choice c.args.variant.now in
    let read = c.in_ok-place.ensures.value in
    let choice : de.choice c.read_name.new.variant ≡ offered = c.in_ok-place.ensures.choice in
    let same : de.tracks ≡ true → segment ≡ variant_segment (de.name_text c.read_name.new.variant) = λ t. ap variant_segment (sym (c.in_ok-place.ensures.caught t)) in
    let taken = rw choice at c.in_ok-payload.ensures.value segment same in
    rw (chosen all.names all.shapes.items segment offered place c.in_ok-place.place a read.0 c.in_ok-place.ensures.within is, taken.0)
    (refl, λ e. taken.1 (read.1 e))
