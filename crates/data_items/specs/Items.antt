-- Items that are sources, as the elements of a sequence.
use Rattle.std.specs.Prelude.{List, [], ◌∷◌}
use Rattle.data_core.specs.Source.{Source, Sources, end, more}

abbrev pub sources_of : {D : Type 0} → (D → Source) → List D → Sources
sources_of source [] = end
sources_of source (d ∷ ds) = more (source d) (sources_of source ds)
