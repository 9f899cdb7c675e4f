-- The first outcome of a shape over an input, and the source that an input is.
use Rattle.data_core.specs.Node.{of_node}
use Rattle.data_core.specs.Outcome.{Outcome}
use Rattle.data_core.specs.Source.{Source}
use Rattle.shape.specs.Shape.{Shape, Data}
use Rattle.document.specs.Input.{Input, tree}
use Rattle.capture.specs.FirstTree.{first_tree}
use Rattle.capture.specs.FirstVersion.{first1_tree}

abbrev pub first : Shape → Input → Outcome Data
first s (tree t) = first_tree s t

-- the same in the first version
abbrev pub first1 : Shape → Input → Outcome Data
first1 s (tree t) = first1_tree s t

abbrev pub source_of : Input → Source
source_of (tree t) = of_node t
