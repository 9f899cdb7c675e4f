-- The source of a deserializer over items, and its elements under way.
use Rattle.std.specs.Prelude.{true}
use Rattle.data_core.specs.Source as spec
use Rattle.data_core.specs.Source.{Source, source}
use Rattle.data_core.specs.Sequence.{Sequence}
use Rattle.data_items.specs.Items.{sources_of}
use Rattle.data_items.specs.Waiting.{left_of, taken_of}
use Rattle.data_items.specs.declared.sequences.Level.{Level}
use Rattle.data_items.specs.declared.sequences.Level.TheVariants as levels
use Rattle.data_items.specs.declared.sequences.ElementsLevel.{ElementsLevel}
use Rattle.data_items.specs.declared.sequences.ElementsLevel.TheVariants as under_way

module _ {D E T B S M V : Type 0} where
  abbrev pub source_of : (D → Source) → Level D E T B S M V → Source
  source_of sources (levels.Whole items) = source (λ a. spec.elements true (sources_of sources items.items))
  source_of sources (levels.Part d) = sources d

  abbrev pub sequence_of : (D → Source) → (S → Sequence) → ElementsLevel D E T B S M V → Sequence
  sequence_of sources sequence (under_way.Whole items) =
      record { left = sources_of sources (left_of items); taken = taken_of items; checks = true; tells = true }
  sequence_of sources sequence (under_way.Part s) = sequence s
