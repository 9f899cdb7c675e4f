-- The order of data: by variant, in the order in which they are written, and then by what the variant
-- holds. Of lists the first difference counts, and then the length.
use Rattle.std.specs.Prelude.{ℕ}
use Rattle.std.specs.declared.cmp.Ordering.{Ordering}
use Rattle.std.specs.declared.cmp.Ordering.TheVariants.{Less, Equal, Greater}
use Rattle.std.specs.Ordering.{ordering_then, nat_cmp, int_cmp, bool_cmp}
use Rattle.std.specs.Cmp.Lexicographic.{slice_cmp}
use Rattle.shape.specs.Shape.{Data, boolean_data, unsigned, signed, character_data, text_data, bytes_data, unit_data, nothing, something, newtype_data, seq_data, map_data, struct_data, enum_data, Parts, no_parts, part, DataPairs, no_pairs, pair, PayloadData, unit_payload, newtype_payload, tuple_payload, struct_payload}

-- the number of a datum's variant, and of a payload's
abbrev pub variant : Data → ℕ
variant (boolean_data b) = 0
variant (unsigned n) = 1
variant (signed z) = 2
variant (character_data c) = 3
variant (text_data t) = 4
variant (bytes_data b) = 5
variant unit_data = 6
variant nothing = 7
variant (something d) = 7
variant (newtype_data d) = 8
variant (seq_data ds) = 9
variant (map_data ps) = 10
variant (struct_data ds) = 11
variant (enum_data n p) = 12

abbrev pub payload_variant : PayloadData → ℕ
payload_variant unit_payload = 0
payload_variant (newtype_payload d) = 1
payload_variant (tuple_payload ds) = 2
payload_variant (struct_payload ds) = 3

abbrev mutual
  pub data_order : Data → Data → Ordering
  data_order (boolean_data a) (boolean_data b) = bool_cmp a b
  data_order (unsigned a) (unsigned b) = nat_cmp a b
  data_order (signed a) (signed b) = int_cmp a b
  data_order (character_data a) (character_data b) = nat_cmp a b
  data_order (text_data a) (text_data b) = slice_cmp nat_cmp a b
  data_order (bytes_data a) (bytes_data b) = slice_cmp nat_cmp a b
  data_order unit_data unit_data = Equal
  data_order nothing nothing = Equal
  data_order nothing (something b) = Less
  data_order (something a) nothing = Greater
  data_order (something a) (something b) = data_order a b
  data_order (newtype_data a) (newtype_data b) = data_order a b
  data_order (seq_data a) (seq_data b) = parts_order a b
  data_order (map_data a) (map_data b) = pairs_order a b
  data_order (struct_data a) (struct_data b) = parts_order a b
  data_order (enum_data m a) (enum_data n b) = ordering_then (nat_cmp m n) (payload_order a b)
  data_order a b = nat_cmp (variant a) (variant b)

  pub payload_order : PayloadData → PayloadData → Ordering
  payload_order unit_payload unit_payload = Equal
  payload_order (newtype_payload a) (newtype_payload b) = data_order a b
  payload_order (tuple_payload a) (tuple_payload b) = parts_order a b
  payload_order (struct_payload a) (struct_payload b) = parts_order a b
  payload_order a b = nat_cmp (payload_variant a) (payload_variant b)

  pub parts_order : Parts → Parts → Ordering
  parts_order no_parts no_parts = Equal
  parts_order no_parts (part b bs) = Less
  parts_order (part a rest) no_parts = Greater
  parts_order (part a rest) (part b bs) = ordering_then (data_order a b) (parts_order rest bs)

  pub pairs_order : DataPairs → DataPairs → Ordering
  pairs_order no_pairs no_pairs = Equal
  pairs_order no_pairs (pair k v bs) = Less
  pairs_order (pair j u rest) no_pairs = Greater
  pairs_order (pair j u rest) (pair k v bs) = ordering_then (data_order j k) (ordering_then (data_order u v) (pairs_order rest bs))
