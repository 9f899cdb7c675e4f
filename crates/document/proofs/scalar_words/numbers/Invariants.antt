use Rattle.std.proofs.Common.{◌≡◌, drop}
use Rattle.serde_json.specs.View.{items_view}
use Rattle.document.specs.Words.{bytes_from}
use Rattle.document.proofs.Elements.{after}
use Rattle.document.proofs.scalar_words.numbers.Given as goal

abbrev pub invariant-loop-item : goal.invariant-loop-item
invariant-loop-item l = bytes_from (items_view l.items.items) ≡ after l.bytes.items (bytes_from (items_view (drop l.item-index l.items.items)))
