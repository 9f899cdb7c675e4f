use Rattle.std.proofs.Common.{rules, arith, ◌≡◌, ◌++◌, ◌∷◌, [], ap, sym, ◌∙◌}
use Rattle.data_core.specs.Ask.{any}
use Rattle.data_core.specs.Table.{segment_of_key}
use Rattle.data_core.specs.Order.{node_order}
use Rattle.data_core.proofs.Relations.{Kept-then}
use Rattle.sorted_pairs.specs.Pairs.{put}
use Rattle.serde_value.specs.Captured.{captured, captured_pair, captured_pairs}
use Rattle.serde_value.specs.View.{node_view, pair_view}
use Rattle.serde_value.specs.declared.value.Value.{Value}
use Rattle.serde_value.proofs.Captures.{captured_more, put_all_push, shallow_rest_entries}
use Rattle.serde_value.proofs.visitor.+take.Goals as goal

pub take_map-entries-preserved : goal.take_map-entries-preserved
take_map-entries-preserved g t c =
    let de = g.D.Deserializer in
    let es = (de.table c.entries.map).left in
    let before = c.entries.invariant.outcome in
    let taken = rw c.in-Some.is at c.in_ok-key.ensures.takes in
    let key = de.source c.in-Some.key in
    let both : Value × Value = (c.in_ok-key-2.key, c.in_ok-key-2.value) in
    let read = c.in_ok-key-2.ensures.value taken.0 taken.2 in
    let now : c.put_pair.new.pairs ≡ put node_order (node_view both.0) (node_view both.1) c.entries.pairs = search rules in
    let later = rw taken.1 at before.2 in
    record {
      outcome = (
        before.0 ++ pair_view both ∷ [],
        now ∙ ap (λ list. put node_order (node_view both.0) (node_view both.1) list) before.1 ∙ sym (put_all_push [] before.0 (pair_view both)),
        rw c.in_ok-key-2.ensures.took
            (captured_more before.0 (pair_view both) (captured_pair (segment_of_key any key) (captured key) (captured taken.0)) (captured_pairs (de.table c.next_key.new.map).left) (captured_pairs (de.table c.args.map).left) read.0 later),
      );
      shallow = rw (c.in_ok-key-2.ensures.took, c.in_ok-key.ensures.took) (omega (arith, shallow_rest_entries es, c.entries.invariant.shallow));
      keeps = Kept-then (Unit {0}) de.tracks c.args.track.now c.entries.track c.take_entry.new.track c.entries.invariant.keeps c.in_ok-key-2.ensures.keeps;
    }
