-- The order of trees is total, and trees that are equal in it are the same tree.
use Rattle.std.specs.Prelude.{◌≡◌, [], ◌∷◌, refl}
use Rattle.std.specs.declared.cmp.Ordering.TheVariants.{Equal}
use Rattle.std.specs.Cmp.{IsTotalOrder}
use Rattle.std.proofs.Common.{ap, ◌∙◌}
use Rattle.data_core.specs.Node.{Node, boolean, u8, u16, u32, u64, i8, i16, i32, i64, character, string, unit, none, some, newtype, seq, map, bytes, Nodes, no_nodes, node, Pairs, no_pairs, pair}
use Rattle.data_core.specs.Order.{node_order, nodes_order, pairs_order}
use Rattle.data_core.specs.Rank.{Rank, rank, Ranks, no_ranks, more, rank_order, ranks_order, bit}
use Rattle.data_core.specs.RankLaws.{total_by_rank, alone, alone_twice, bits, both, same_bool, same_nat, same_int, same_list}

abbrev mutual
  pub rank_of : Node → Rank
  rank_of (boolean b) = rank 0 (bit b ∷ []) [] no_ranks
  rank_of (u8 n) = rank 1 (n ∷ []) [] no_ranks
  rank_of (u16 n) = rank 2 (n ∷ []) [] no_ranks
  rank_of (u32 n) = rank 3 (n ∷ []) [] no_ranks
  rank_of (u64 n) = rank 4 (n ∷ []) [] no_ranks
  rank_of (i8 z) = rank 5 [] (z ∷ []) no_ranks
  rank_of (i16 z) = rank 6 [] (z ∷ []) no_ranks
  rank_of (i32 z) = rank 7 [] (z ∷ []) no_ranks
  rank_of (i64 z) = rank 8 [] (z ∷ []) no_ranks
  rank_of (character c) = rank 11 (c ∷ []) [] no_ranks
  rank_of (string s) = rank 12 s [] no_ranks
  rank_of unit = rank 13 [] [] no_ranks
  rank_of none = rank 14 [] [] no_ranks
  rank_of (some n) = rank 14 [] [] (more (rank_of n) no_ranks)
  rank_of (newtype n) = rank 15 [] [] (more (rank_of n) no_ranks)
  rank_of (seq ns) = rank 16 [] [] (ranks_of ns)
  rank_of (map ps) = rank 17 [] [] (ranks_of_pairs ps)
  rank_of (bytes b) = rank 18 b [] no_ranks

  pub ranks_of : Nodes → Ranks
  ranks_of no_nodes = no_ranks
  ranks_of (node n ns) = more (rank_of n) (ranks_of ns)

  pub ranks_of_pairs : Pairs → Ranks
  ranks_of_pairs no_pairs = no_ranks
  ranks_of_pairs (pair k v ps) = more (rank_of k) (more (rank_of v) (ranks_of_pairs ps))

mutual
  pub node_order-rank : (x y : Node) → node_order x y ≡ rank_order (rank_of x) (rank_of y)
  node_order-rank (boolean a) (boolean b) = bits a b
  node_order-rank (u8 a) (u8 b) = alone_twice _
  node_order-rank (u16 a) (u16 b) = alone_twice _
  node_order-rank (u32 a) (u32 b) = alone_twice _
  node_order-rank (u64 a) (u64 b) = alone_twice _
  node_order-rank (i8 a) (i8 b) = alone_twice _
  node_order-rank (i16 a) (i16 b) = alone_twice _
  node_order-rank (i32 a) (i32 b) = alone_twice _
  node_order-rank (i64 a) (i64 b) = alone_twice _
  node_order-rank (character a) (character b) = alone_twice _
  node_order-rank (string a) (string b) = alone _
  node_order-rank unit unit = refl
  node_order-rank none none = refl
  node_order-rank (some a) (some b) = node_order-rank a b ∙ alone _
  node_order-rank (newtype a) (newtype b) = node_order-rank a b ∙ alone _
  node_order-rank (seq a) (seq b) = nodes_order-rank a b
  node_order-rank (map a) (map b) = pairs_order-rank a b
  node_order-rank (bytes a) (bytes b) = alone _
  node_order-rank a b = refl

  pub nodes_order-rank : (x y : Nodes) → nodes_order x y ≡ ranks_order (ranks_of x) (ranks_of y)
  nodes_order-rank no_nodes no_nodes = refl
  nodes_order-rank no_nodes (node b bs) = refl
  nodes_order-rank (node a rest) no_nodes = refl
  nodes_order-rank (node a rest) (node b bs) = rw (node_order-rank a b, nodes_order-rank rest bs)

  pub pairs_order-rank : (x y : Pairs) → pairs_order x y ≡ ranks_order (ranks_of_pairs x) (ranks_of_pairs y)
  pairs_order-rank no_pairs no_pairs = refl
  pairs_order-rank no_pairs (pair k v bs) = refl
  pairs_order-rank (pair j u rest) no_pairs = refl
  pairs_order-rank (pair j u rest) (pair k v bs) = rw (node_order-rank j k, node_order-rank u v, pairs_order-rank rest bs)

-- trees are in a total order
pub node_order_total : IsTotalOrder node_order
node_order_total = total_by_rank node_order rank_of node_order-rank

mutual
  pub node_order_same : (a b : Node) → node_order a b ≡ Equal → a ≡ b
  node_order_same (boolean a) (boolean b) h = ap boolean (same_bool a b h)
  node_order_same (u8 a) (u8 b) h = ap u8 (same_nat a b h)
  node_order_same (u16 a) (u16 b) h = ap u16 (same_nat a b h)
  node_order_same (u32 a) (u32 b) h = ap u32 (same_nat a b h)
  node_order_same (u64 a) (u64 b) h = ap u64 (same_nat a b h)
  node_order_same (i8 a) (i8 b) h = ap i8 (same_int a b h)
  node_order_same (i16 a) (i16 b) h = ap i16 (same_int a b h)
  node_order_same (i32 a) (i32 b) h = ap i32 (same_int a b h)
  node_order_same (i64 a) (i64 b) h = ap i64 (same_int a b h)
  node_order_same (character a) (character b) h = ap character (same_nat a b h)
  node_order_same (string a) (string b) h = ap string (same_list a b h)
  node_order_same unit unit h = refl
  node_order_same none none h = refl
  node_order_same (some a) (some b) h = ap some (node_order_same a b h)
  node_order_same (newtype a) (newtype b) h = ap newtype (node_order_same a b h)
  node_order_same (seq a) (seq b) h = ap seq (nodes_order_same a b h)
  node_order_same (map a) (map b) h = ap map (pairs_order_same a b h)
  node_order_same (bytes a) (bytes b) h = ap bytes (same_list a b h)
  node_order_same a b h = cc

  pub nodes_order_same : (a b : Nodes) → nodes_order a b ≡ Equal → a ≡ b
  nodes_order_same no_nodes no_nodes h = refl
  nodes_order_same no_nodes (node b bs) h = cc
  nodes_order_same (node a rest) no_nodes h = cc
  nodes_order_same (node a rest) (node b bs) h = let p = both _ _ h in rw (node_order_same a b p.0, nodes_order_same rest bs p.1)

  pub pairs_order_same : (a b : Pairs) → pairs_order a b ≡ Equal → a ≡ b
  pairs_order_same no_pairs no_pairs h = refl
  pairs_order_same no_pairs (pair k v bs) h = cc
  pairs_order_same (pair j u rest) no_pairs h = cc
  pairs_order_same (pair j u rest) (pair k v bs) h =
      let p = both _ _ h in let q = both _ _ p.1 in rw (node_order_same j k p.0, node_order_same u v q.0, pairs_order_same rest bs q.1)
