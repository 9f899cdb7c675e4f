-- The order of data is total, and data that are equal in it are the same.
use Rattle.std.specs.Prelude.{◌≡◌, Bool, true, IsTrue, [], ◌∷◌, refl}
use Rattle.std.specs.declared.cmp.Ordering.{Ordering}
use Rattle.std.specs.declared.cmp.Ordering.TheVariants.{Less, Equal, Greater}
use Rattle.std.specs.Ordering.{ordering_then, nat_cmp, is_eq}
use Rattle.std.specs.Cmp.{IsTotalOrder}
use Rattle.std.proofs.Common.{ap, sym, ◌∙◌}
use Rattle.data_core.specs.Rank.{Rank, rank, Ranks, no_ranks, more, rank_order, ranks_order, bit}
use Rattle.data_core.specs.RankLaws.{total_by_rank, alone, alone_twice, bits, both, same_bool, same_nat, same_int, same_list}
use Rattle.shape.specs.Shape.{Data, boolean_data, unsigned, signed, character_data, text_data, bytes_data, unit_data, nothing, something, newtype_data, seq_data, map_data, struct_data, enum_data, Parts, no_parts, part, DataPairs, no_pairs, pair, PayloadData, unit_payload, newtype_payload, tuple_payload, struct_payload}
use Rattle.shape.specs.DataOrder.{data_order, payload_order, parts_order, pairs_order}

abbrev mutual
  pub rank_of : Data → Rank
  rank_of (boolean_data b) = rank 0 (bit b ∷ []) [] no_ranks
  rank_of (unsigned n) = rank 1 (n ∷ []) [] no_ranks
  rank_of (signed z) = rank 2 [] (z ∷ []) no_ranks
  rank_of (character_data c) = rank 3 (c ∷ []) [] no_ranks
  rank_of (text_data t) = rank 4 t [] no_ranks
  rank_of (bytes_data b) = rank 5 b [] no_ranks
  rank_of unit_data = rank 6 [] [] no_ranks
  rank_of nothing = rank 7 [] [] no_ranks
  rank_of (something d) = rank 7 [] [] (more (rank_of d) no_ranks)
  rank_of (newtype_data d) = rank 8 [] [] (more (rank_of d) no_ranks)
  rank_of (seq_data ds) = rank 9 [] [] (ranks_of ds)
  rank_of (map_data ps) = rank 10 [] [] (ranks_of_pairs ps)
  rank_of (struct_data ds) = rank 11 [] [] (ranks_of ds)
  rank_of (enum_data n p) = rank 12 (n ∷ []) [] (more (rank_of_payload p) no_ranks)

  pub rank_of_payload : PayloadData → Rank
  rank_of_payload unit_payload = rank 0 [] [] no_ranks
  rank_of_payload (newtype_payload d) = rank 1 [] [] (more (rank_of d) no_ranks)
  rank_of_payload (tuple_payload ds) = rank 2 [] [] (ranks_of ds)
  rank_of_payload (struct_payload ds) = rank 3 [] [] (ranks_of ds)

  pub ranks_of : Parts → Ranks
  ranks_of no_parts = no_ranks
  ranks_of (part d ds) = more (rank_of d) (ranks_of ds)

  pub ranks_of_pairs : DataPairs → Ranks
  ranks_of_pairs no_pairs = no_ranks
  ranks_of_pairs (pair k v ps) = more (rank_of k) (more (rank_of v) (ranks_of_pairs ps))

-- a number and then another order, in a rank
number_then : (p q : Ordering) → ordering_then p q ≡ ordering_then (ordering_then p Equal) (ordering_then q Equal)
number_then Less q = refl
number_then Equal q = alone q
number_then Greater q = refl

mutual
  data_order-rank : (x y : Data) → data_order x y ≡ rank_order (rank_of x) (rank_of y)
  data_order-rank (boolean_data a) (boolean_data b) = bits a b
  data_order-rank (unsigned a) (unsigned b) = alone_twice _
  data_order-rank (signed a) (signed b) = alone_twice _
  data_order-rank (character_data a) (character_data b) = alone_twice _
  data_order-rank (text_data a) (text_data b) = alone _
  data_order-rank (bytes_data a) (bytes_data b) = alone _
  data_order-rank unit_data unit_data = refl
  data_order-rank nothing nothing = refl
  data_order-rank (something a) (something b) = data_order-rank a b ∙ alone _
  data_order-rank (newtype_data a) (newtype_data b) = data_order-rank a b ∙ alone _
  data_order-rank (seq_data a) (seq_data b) = parts_order-rank a b
  data_order-rank (map_data a) (map_data b) = pairs_order-rank a b
  data_order-rank (struct_data a) (struct_data b) = parts_order-rank a b
  data_order-rank (enum_data m a) (enum_data n b) =
      ap (ordering_then (nat_cmp m n)) (payload_order-rank a b) ∙ number_then (nat_cmp m n) _
  data_order-rank a b = refl

  payload_order-rank : (x y : PayloadData) → payload_order x y ≡ rank_order (rank_of_payload x) (rank_of_payload y)
  payload_order-rank unit_payload unit_payload = refl
  payload_order-rank (newtype_payload a) (newtype_payload b) = data_order-rank a b ∙ alone _
  payload_order-rank (tuple_payload a) (tuple_payload b) = parts_order-rank a b
  payload_order-rank (struct_payload a) (struct_payload b) = parts_order-rank a b
  payload_order-rank a b = refl

  parts_order-rank : (x y : Parts) → parts_order x y ≡ ranks_order (ranks_of x) (ranks_of y)
  parts_order-rank no_parts no_parts = refl
  parts_order-rank no_parts (part b bs) = refl
  parts_order-rank (part a rest) no_parts = refl
  parts_order-rank (part a rest) (part b bs) = rw (data_order-rank a b, parts_order-rank rest bs)

  pairs_order-rank : (x y : DataPairs) → pairs_order x y ≡ ranks_order (ranks_of_pairs x) (ranks_of_pairs y)
  pairs_order-rank no_pairs no_pairs = refl
  pairs_order-rank no_pairs (pair k v bs) = refl
  pairs_order-rank (pair j u rest) no_pairs = refl
  pairs_order-rank (pair j u rest) (pair k v bs) =
      rw (data_order-rank j k, data_order-rank u v, pairs_order-rank rest bs)

pub data_order_total : IsTotalOrder data_order
data_order_total = total_by_rank data_order rank_of data_order-rank

pub payload_order_total : IsTotalOrder payload_order
payload_order_total = total_by_rank payload_order rank_of_payload payload_order-rank

-- maps are ranked as a datum that holds them
pub pairs_order_total : IsTotalOrder pairs_order
pairs_order_total = total_by_rank pairs_order (λ ps. rank_of (map_data ps)) pairs_order-rank

mutual
  pub data_order_same : (a b : Data) → data_order a b ≡ Equal → a ≡ b
  data_order_same (boolean_data a) (boolean_data b) h = ap boolean_data (same_bool a b h)
  data_order_same (unsigned a) (unsigned b) h = ap unsigned (same_nat a b h)
  data_order_same (signed a) (signed b) h = ap signed (same_int a b h)
  data_order_same (character_data a) (character_data b) h = ap character_data (same_nat a b h)
  data_order_same (text_data a) (text_data b) h = ap text_data (same_list a b h)
  data_order_same (bytes_data a) (bytes_data b) h = ap bytes_data (same_list a b h)
  data_order_same unit_data unit_data h = refl
  data_order_same nothing nothing h = refl
  data_order_same (something a) (something b) h = ap something (data_order_same a b h)
  data_order_same (newtype_data a) (newtype_data b) h = ap newtype_data (data_order_same a b h)
  data_order_same (seq_data a) (seq_data b) h = ap seq_data (parts_order_same a b h)
  data_order_same (map_data a) (map_data b) h = ap map_data (pairs_order_same a b h)
  data_order_same (struct_data a) (struct_data b) h = ap struct_data (parts_order_same a b h)
  data_order_same (enum_data m a) (enum_data n b) h =
      let p = both _ _ h in rw (same_nat m n p.0, payload_order_same a b p.1)
  data_order_same a b h = cc

  pub payload_order_same : (a b : PayloadData) → payload_order a b ≡ Equal → a ≡ b
  payload_order_same unit_payload unit_payload h = refl
  payload_order_same (newtype_payload a) (newtype_payload b) h = ap newtype_payload (data_order_same a b h)
  payload_order_same (tuple_payload a) (tuple_payload b) h = ap tuple_payload (parts_order_same a b h)
  payload_order_same (struct_payload a) (struct_payload b) h = ap struct_payload (parts_order_same a b h)
  payload_order_same a b h = cc

  pub parts_order_same : (a b : Parts) → parts_order a b ≡ Equal → a ≡ b
  parts_order_same no_parts no_parts h = refl
  parts_order_same no_parts (part b bs) h = cc
  parts_order_same (part a rest) no_parts h = cc
  parts_order_same (part a rest) (part b bs) h = let p = both _ _ h in rw (data_order_same a b p.0, parts_order_same rest bs p.1)

  pub pairs_order_same : (a b : DataPairs) → pairs_order a b ≡ Equal → a ≡ b
  pairs_order_same no_pairs no_pairs h = refl
  pairs_order_same no_pairs (pair k v bs) h = cc
  pairs_order_same (pair j u rest) no_pairs h = cc
  pairs_order_same (pair j u rest) (pair k v bs) h =
      let p = both _ _ h in let q = both _ _ p.1 in rw (data_order_same j k p.0, data_order_same u v q.0, pairs_order_same rest bs q.1)

-- what compares as equal is the same
equal_answer : (o : Ordering) → is_eq o ≡ true → o ≡ Equal
equal_answer Equal h = refl
equal_answer Less h = cc
equal_answer Greater h = cc

pub data_equal : (a b : Data) (o : Ordering) (answer : Bool) → o ≡ data_order a b → answer ≡ is_eq o → IsTrue answer → a ≡ b
data_equal a b o answer e f h = data_order_same a b (sym e ∙ equal_answer o (sym f ∙ h))

pub payload_equal : (a b : PayloadData) (o : Ordering) (answer : Bool) → o ≡ payload_order a b → answer ≡ is_eq o → IsTrue answer → a ≡ b
payload_equal a b o answer e f h = payload_order_same a b (sym e ∙ equal_answer o (sym f ∙ h))

pub pairs_equal : (a b : DataPairs) (o : Ordering) (answer : Bool) → o ≡ pairs_order a b → answer ≡ is_eq o → IsTrue answer → a ≡ b
pairs_equal a b o answer e f h = pairs_order_same a b (sym e ∙ equal_answer o (sym f ∙ h))
