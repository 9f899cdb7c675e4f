use Rattle.std.proofs.Common.{◌≡◌, ◌+◌, ◌*◌, ◌≤◌, max, List, [], map}
use Rattle.data_core.specs.Order.{node_order}
use Rattle.sorted_pairs.specs.Pairs.{put_all}
use Rattle.data_core.specs.Source.{count, count_entries}
use Rattle.data_core.specs.Show.{shown_offer}
use Rattle.data_core.specs.Tracking.{Kept}
use Rattle.data_std.proofs.Elements.{after}
use Rattle.serde_value.specs.Captured.{captured_all, captured_pairs, depth, depth_of_offer, depth_of_all, depth_of_entries, depth_of_waiting}
use Rattle.serde_value.specs.View.{node_view}
use Rattle.serde_value.proofs.visitor.+take.Given as goal

abbrev pub decreases-take : goal.decreases-take
decreases-take g l = 5 * depth (g.D.Deserializer.source l.d)

abbrev pub decreases-take_held : goal.decreases-take_held
decreases-take_held g l = 5 * depth (g.D.Deserializer.source l.d) + 1

abbrev pub decreases-visit_key : goal.decreases-visit_key
decreases-visit_key g l = 5 * depth (g.D.Deserializer.source l.key)

abbrev pub decreases-take_key : goal.decreases-take_key
decreases-take_key g l = 5 * depth (g.D.Deserializer.source l.key) + 1

abbrev pub decreases-take_value : goal.decreases-take_value
decreases-take_value g l = 5 * depth_of_waiting (g.D.Deserializer.table l.map.now).waiting + 1

abbrev pub decreases-take_entry : goal.decreases-take_entry
decreases-take_entry g l =
    let de = g.D.Deserializer in
    5 * max (depth (de.source l.key)) (depth_of_waiting (de.table l.map.now).waiting) + 2

abbrev pub decreases-take_items : goal.decreases-take_items
decreases-take_items g l = 5 * depth_of_all (g.D.Deserializer.sequence l.seq).left + 3

abbrev pub decreases-take_map : goal.decreases-take_map
decreases-take_map g l = 5 * depth_of_entries (g.D.Deserializer.table l.map).left + 3

abbrev pub decreases-take_shown : goal.decreases-take_shown
decreases-take_shown g l =
    let de = g.D.Deserializer in
    5 * depth_of_offer (shown_offer g.D.Text.TextLike.text g.D.Bytes.BytesLike.bytes de.source de.sequence de.table de.choice l.shown) + 4

abbrev pub invariant-take_items-elements : goal.invariant-take_items-elements
invariant-take_items-elements g l =
    let sequence = g.D.Deserializer.sequence in record {
      outcome : captured_all (sequence l.initial.seq).taken (sequence l.initial.seq).left
          ≡ after (map node_view l.items.items) (captured_all (sequence l.seq).taken (sequence l.seq).left);
      shallow : depth_of_all (sequence l.seq).left ≤ depth_of_all (sequence l.initial.seq).left;
      keeps : Kept (Unit {0}) l.fn.track l.track;
    }

abbrev pub decreases-take_items-elements : goal.decreases-take_items-elements
decreases-take_items-elements g l = count (g.D.Deserializer.sequence l.seq).left

abbrev pub invariant-take_map-entries : goal.invariant-take_map-entries
invariant-take_map-entries g l =
    let table = g.D.Deserializer.table in record {
      outcome : (ps : List _) × (l.pairs ≡ put_all node_order [] ps)
          × (captured_pairs (table l.initial.map).left ≡ after ps (captured_pairs (table l.map).left));
      shallow : depth_of_entries (table l.map).left ≤ depth_of_entries (table l.initial.map).left;
      keeps : Kept (Unit {0}) l.fn.track l.track;
    }

abbrev pub decreases-take_map-entries : goal.decreases-take_map-entries
decreases-take_map-entries g l = count_entries (g.D.Deserializer.table l.map).left
