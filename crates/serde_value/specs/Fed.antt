-- What a tree feeds a hasher: its variant's number, and then what it holds. Equal trees feed it alike.
use Rattle.std.specs.Prelude.{◌≡◌, true, ◌++◌, refl}
use Rattle.std.specs.Ordering.{eq_by_cmp, is_eq}
use Rattle.std.specs.declared.cmp.Ordering.{Ordering}
use Rattle.std.specs.declared.cmp.Ordering.TheVariants.{Less, Equal, Greater}
use Rattle.std.specs.Hash as fed
use Rattle.std.specs.Hash.{HashWrites, Alike}
use Rattle.std.proofs.Common.{ap}
use Rattle.data_core.specs.Node.{Node, boolean, u8, u16, u32, u64, i8, i16, i32, i64, character, string, unit, none, some, newtype, seq, map, bytes, Nodes, no_nodes, node, Pairs, no_pairs, pair}
use Rattle.data_core.specs.Order.{node_order}
use Rattle.data_core.specs.OrderLaws.{node_order_same}

abbrev mutual
  pub node_fed : Node → HashWrites
  node_fed (boolean b) = fed.u8 0 ++ fed.bool b
  node_fed (u8 n) = fed.u8 1 ++ fed.u8 n
  node_fed (u16 n) = fed.u8 2 ++ fed.u16 n
  node_fed (u32 n) = fed.u8 3 ++ fed.u32 n
  node_fed (u64 n) = fed.u8 4 ++ fed.u64 n
  node_fed (i8 z) = fed.u8 5 ++ fed.i8 z
  node_fed (i16 z) = fed.u8 6 ++ fed.i16 z
  node_fed (i32 z) = fed.u8 7 ++ fed.i32 z
  node_fed (i64 z) = fed.u8 8 ++ fed.i64 z
  node_fed (character c) = fed.u8 11 ++ fed.char c
  node_fed (string s) = fed.u8 12 ++ fed.str s
  node_fed unit = fed.u8 13
  node_fed none = fed.u8 14 ++ fed.u8 0
  node_fed (some n) = fed.u8 14 ++ (fed.u8 1 ++ node_fed n)
  node_fed (newtype n) = fed.u8 15 ++ node_fed n
  node_fed (seq ns) = fed.u8 16 ++ nodes_fed ns
  node_fed (map ps) = fed.u8 17 ++ pairs_fed ps
  node_fed (bytes b) = fed.u8 18 ++ fed.slice fed.u8 b

  -- a 1 before each, and a 0 at the end
  pub nodes_fed : Nodes → HashWrites
  nodes_fed no_nodes = fed.u8 0
  nodes_fed (node n ns) = fed.u8 1 ++ (node_fed n ++ nodes_fed ns)

  pub pairs_fed : Pairs → HashWrites
  pairs_fed no_pairs = fed.u8 0
  pairs_fed (pair k v ps) = fed.u8 1 ++ (node_fed k ++ (node_fed v ++ pairs_fed ps))

tied : (o : Ordering) → is_eq o ≡ true → o ≡ Equal
tied Equal h = refl
tied Less h = cc
tied Greater h = cc

-- equal trees are one tree, and feed alike
pub node_fed-Alike : Alike (eq_by_cmp node_order) node_fed
node_fed-Alike = record { fed = λ x y h. ap node_fed (node_order_same x y (tied _ h)) }
