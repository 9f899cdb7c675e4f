use Rattle.std.proofs.Common.{◌≡◌, ◌≤◌, ◌+◌, ◌*◌, [], map, option_map}
use Rattle.std.specs.Vec.Iter.{into_iter_items}
use Rattle.serde_json.specs.Data.{depth, items_depth}
use Rattle.serde_json.specs.View.{view, items_view}
use Rattle.serde_value.specs.View.{node_view}
use Rattle.document.specs.Words.{trees_from, entries_from}
use Rattle.data_core.specs.Order.{node_order}
use Rattle.sorted_pairs.specs.Pairs.{put_all}
use Rattle.document.proofs.Elements.{after}
use Rattle.document.proofs.tree_words.+tree.Given as goal

abbrev pub invariant-trees-loop-item : goal.invariant-trees-loop-item
invariant-trees-loop-item l =
    let all = items_view l.fn.items.items in
    let left = items_view (into_iter_items l.item-iterator) in
    record { nests : items_depth left ≤ items_depth all; read : trees_from all ≡ after (map node_view l.trees.items) (trees_from left) }

abbrev pub decreases-tree : goal.decreases-tree
decreases-tree l = 5 * depth (view l.json)

abbrev pub decreases-tagged_tree : goal.decreases-tagged_tree
decreases-tagged_tree l = 5 * depth (view l.inside) + 4

abbrev pub decreases-seq : goal.decreases-seq
decreases-seq l = 5 * depth (view l.json) + 2

abbrev pub decreases-trees : goal.decreases-trees
decreases-trees l = 5 * items_depth (items_view l.items.items) + 6

abbrev pub decreases-held : goal.decreases-held
decreases-held l = 5 * depth (view l.json) + 1

abbrev pub decreases-map : goal.decreases-map
decreases-map l = 5 * depth (view l.json) + 2

abbrev pub decreases-entries : goal.decreases-entries
decreases-entries l = 5 * items_depth (items_view l.items.items) + 6

abbrev pub decreases-entry : goal.decreases-entry
decreases-entry l = 5 * depth (view l.json) + 1

abbrev pub invariant-entries-loop-item : goal.invariant-entries-loop-item
invariant-entries-loop-item l =
    let all = items_view l.fn.items.items in
    let left = items_view (into_iter_items l.item-iterator) in
    record { nests : items_depth left ≤ items_depth all; read : option_map (put_all node_order []) (entries_from all) ≡ option_map (put_all node_order l.entries) (entries_from left) }
