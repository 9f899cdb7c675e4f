-- The source of a deserializer over pairs, and its elements and entries under way.
use Rattle.std.specs.Prelude.{◌-◌, true}
use Rattle.data_core.specs.Source.{Source, count}
use Rattle.data_core.specs.Sequence.{Sequence}
use Rattle.data_core.specs.Table.{Table}
use Rattle.data_items.specs.PairSources.{pair_of, pair_sources, pairs_source, pairs_table, parts_of}
use Rattle.data_items.specs.Waiting.{left_of, taken_of}
use Rattle.data_items.specs.declared.pairs.MapLevel.{MapLevel}
use Rattle.data_items.specs.declared.pairs.MapLevel.TheVariants as levels
use Rattle.data_items.specs.declared.pairs.PairsLevel.{PairsLevel}
use Rattle.data_items.specs.declared.pairs.PairsLevel.TheVariants as sequences
use Rattle.data_items.specs.declared.pairs.EntriesLevel.{EntriesLevel}
use Rattle.data_items.specs.declared.pairs.EntriesLevel.TheVariants as maps

module _ {D E T B S M V : Type 0} (sources : D → Source) where
  abbrev pub source_of : MapLevel D E T B S M V → Source
  source_of (levels.Whole pairs) = pairs_source sources pairs.items
  source_of (levels.Pair first second) = pair_of sources first second
  source_of (levels.Part d) = sources d

  abbrev pub sequence_of : (S → Sequence) → PairsLevel D E T B S M V → Sequence
  sequence_of sequence (sequences.Whole pairs) =
      record { left = pair_sources sources (left_of pairs); taken = taken_of pairs; checks = true; tells = true }
  sequence_of sequence (sequences.Pair first second) =
      record { left = parts_of sources first second; taken = 2 - count (parts_of sources first second); checks = true; tells = true }
  sequence_of sequence (sequences.Part s) = sequence s

  abbrev pub table_of : (M → Table) → EntriesLevel D E T B S M V → Table
  table_of table (maps.Whole pairs value) = pairs_table sources pairs value
  table_of table (maps.Part m) = table m
