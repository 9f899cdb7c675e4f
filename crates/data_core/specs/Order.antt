-- The order of trees: by variant, and then by what the variant holds.
use Rattle.std.specs.Prelude.{ℕ}
use Rattle.std.specs.declared.cmp.Ordering.{Ordering}
use Rattle.std.specs.declared.cmp.Ordering.TheVariants.{Less, Equal, Greater}
use Rattle.std.specs.Ordering.{ordering_then, nat_cmp, int_cmp, bool_cmp}
use Rattle.std.specs.Cmp.Lexicographic.{slice_cmp}
use Rattle.data_core.specs.Node.{Node, boolean, u8, u16, u32, u64, i8, i16, i32, i64, character, string, unit, none, some, newtype, seq, map, bytes, Nodes, no_nodes, node, Pairs, no_pairs, pair}

-- the number of a node's variant; 9 and 10 belonged to floats
abbrev pub variant : Node → ℕ
variant (boolean b) = 0
variant (u8 n) = 1
variant (u16 n) = 2
variant (u32 n) = 3
variant (u64 n) = 4
variant (i8 z) = 5
variant (i16 z) = 6
variant (i32 z) = 7
variant (i64 z) = 8
variant (character c) = 11
variant (string s) = 12
variant unit = 13
variant none = 14
variant (some n) = 14
variant (newtype n) = 15
variant (seq ns) = 16
variant (map ps) = 17
variant (bytes b) = 18

abbrev mutual
  pub node_order : Node → Node → Ordering
  node_order (boolean a) (boolean b) = bool_cmp a b
  node_order (u8 a) (u8 b) = nat_cmp a b
  node_order (u16 a) (u16 b) = nat_cmp a b
  node_order (u32 a) (u32 b) = nat_cmp a b
  node_order (u64 a) (u64 b) = nat_cmp a b
  node_order (i8 a) (i8 b) = int_cmp a b
  node_order (i16 a) (i16 b) = int_cmp a b
  node_order (i32 a) (i32 b) = int_cmp a b
  node_order (i64 a) (i64 b) = int_cmp a b
  node_order (character a) (character b) = nat_cmp a b
  node_order (string a) (string b) = slice_cmp nat_cmp a b
  node_order unit unit = Equal
  node_order none none = Equal
  node_order none (some b) = Less
  node_order (some a) none = Greater
  node_order (some a) (some b) = node_order a b
  node_order (newtype a) (newtype b) = node_order a b
  node_order (seq a) (seq b) = nodes_order a b
  node_order (map a) (map b) = pairs_order a b
  node_order (bytes a) (bytes b) = slice_cmp nat_cmp a b
  node_order a b = nat_cmp (variant a) (variant b)

  pub nodes_order : Nodes → Nodes → Ordering
  nodes_order no_nodes no_nodes = Equal
  nodes_order no_nodes (node b bs) = Less
  nodes_order (node a rest) no_nodes = Greater
  nodes_order (node a rest) (node b bs) = ordering_then (node_order a b) (nodes_order rest bs)

  pub pairs_order : Pairs → Pairs → Ordering
  pairs_order no_pairs no_pairs = Equal
  pairs_order no_pairs (pair k v bs) = Less
  pairs_order (pair j u rest) no_pairs = Greater
  pairs_order (pair j u rest) (pair k v bs) = ordering_then (node_order j k) (ordering_then (node_order u v) (pairs_order rest bs))
