-- What a refusal says of a tree.
use Rattle.data_core.specs.Node.{Node}
use Rattle.data_core.specs.Node as node
use Rattle.data_core.specs.Unexpected.{Seen, boolean, unsigned, signed, character, str, bytes, unit, option, newtype_struct, seq, map}

abbrev pub seen_of_node : Node → Seen
seen_of_node (node.boolean b) = boolean b
seen_of_node (node.u8 n) = unsigned n
seen_of_node (node.u16 n) = unsigned n
seen_of_node (node.u32 n) = unsigned n
seen_of_node (node.u64 n) = unsigned n
seen_of_node (node.i8 z) = signed z
seen_of_node (node.i16 z) = signed z
seen_of_node (node.i32 z) = signed z
seen_of_node (node.i64 z) = signed z
seen_of_node (node.character c) = character c
seen_of_node (node.string t) = str t
seen_of_node node.unit = unit
seen_of_node node.none = option
seen_of_node (node.some n) = option
seen_of_node (node.newtype n) = newtype_struct
seen_of_node (node.seq ns) = seq
seen_of_node (node.map ps) = map
seen_of_node (node.bytes b) = bytes b
