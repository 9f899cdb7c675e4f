-- Trees each of whose maps has its keys in order.
use Rattle.std.specs.Prelude.{List, [], ◌∷◌}
use Rattle.data_core.specs.Node.{Node, some, newtype, seq, map, Nodes, no_nodes, node, Pairs, no_pairs, pair}
use Rattle.data_core.specs.Order.{node_order}
use Rattle.sorted_pairs.specs.Pairs.{Rises}

-- the pairs of a map as a list
abbrev pub pairs_in : Pairs → List (Node × Node)
pairs_in no_pairs = []
pairs_in (pair k v ps) = (k, v) ∷ pairs_in ps

abbrev mutual
  pub IsInOrder : Node → Type 0
  IsInOrder (some n) = IsInOrder n
  IsInOrder (newtype n) = IsInOrder n
  IsInOrder (seq ns) = AreInOrder ns
  IsInOrder (map ps) = Rises node_order (pairs_in ps) × PartsInOrder ps
  IsInOrder n = Unit {0}

  pub AreInOrder : Nodes → Type 0
  AreInOrder no_nodes = Unit {0}
  AreInOrder (node n ns) = IsInOrder n × AreInOrder ns

  -- the keys and values of a map
  pub PartsInOrder : Pairs → Type 0
  PartsInOrder no_pairs = Unit {0}
  PartsInOrder (pair k v ps) = IsInOrder k × IsInOrder v × PartsInOrder ps
