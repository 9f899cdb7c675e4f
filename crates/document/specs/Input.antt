-- What is read, as plain data.
use Rattle.data_core.specs.Node.{Node}
use Rattle.serde_value.specs.View.{node_view}
use Rattle.document.specs.declared.input.Input as code
use Rattle.document.specs.declared.input.Input.TheVariants.{Tree}

pub data Input : Type 0 where
  tree : Node → Input

abbrev pub input_view : code.Input → Input
input_view (Tree value) = tree (node_view value)
