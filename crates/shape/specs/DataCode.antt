-- A code for data, by which a proof tells them apart.
use Rattle.std.specs.Prelude.{◌≡◌, refl}
use Rattle.std.specs.Coded.{Coded, coded_list, coded_bool, coded_ℕ, coded_ℤ}
use Rattle.std.proofs.Common.{ap, arith}
use base.Stored.{Gv, gnil, gnum, gcons}
use Rattle.data_core.specs.NodeCode.{head, first, tail}
use Rattle.shape.specs.Shape.{Data, boolean_data, unsigned, signed, character_data, text_data, bytes_data, unit_data, nothing, something, newtype_data, seq_data, map_data, struct_data, enum_data, Parts, no_parts, part, DataPairs, no_pairs, pair, PayloadData, unit_payload, newtype_payload, tuple_payload, struct_payload}

abbrev mutual
  -- the number of a datum's variant, and the code of what it holds
  code : Data → Gv
  code (boolean_data b) = gcons (gnum 0) (coded_bool.code b)
  code (unsigned n) = gcons (gnum 1) (coded_ℕ.code n)
  code (signed z) = gcons (gnum 2) (coded_ℤ.code z)
  code (character_data c) = gcons (gnum 3) (coded_ℕ.code c)
  code (text_data t) = gcons (gnum 4) ((coded_list coded_ℕ).code t)
  code (bytes_data b) = gcons (gnum 5) ((coded_list coded_ℕ).code b)
  code unit_data = gcons (gnum 6) gnil
  code nothing = gcons (gnum 7) gnil
  code (something d) = gcons (gnum 8) (code d)
  code (seq_data ds) = gcons (gnum 9) (code_all ds)
  code (newtype_data d) = gcons (gnum 10) (code d)
  code (map_data ps) = gcons (gnum 11) (code_pairs ps)
  code (struct_data ds) = gcons (gnum 12) (code_all ds)
  code (enum_data n p) = gcons (gnum 13) (gcons (gnum n) (code_payload p))

  code_all : Parts → Gv
  code_all no_parts = gnil
  code_all (part d ds) = gcons (code d) (code_all ds)

  code_pairs : DataPairs → Gv
  code_pairs no_pairs = gnil
  code_pairs (pair k v ps) = gcons (code k) (gcons (code v) (code_pairs ps))

  code_payload : PayloadData → Gv
  code_payload unit_payload = gcons (gnum 0) gnil
  code_payload (newtype_payload d) = gcons (gnum 1) (code d)
  code_payload (tuple_payload ds) = gcons (gnum 2) (code_all ds)
  code_payload (struct_payload ds) = gcons (gnum 3) (code_all ds)

mutual
  same_data : (a b : Data) → code a ≡ code b → a ≡ b
  same_data (boolean_data a) (boolean_data b) p = ap boolean_data (coded_bool.inj a b (ap tail p))
  same_data (unsigned a) (unsigned b) p = ap unsigned (coded_ℕ.inj a b (ap tail p))
  same_data (signed a) (signed b) p = ap signed (coded_ℤ.inj a b (ap tail p))
  same_data (character_data a) (character_data b) p = ap character_data (coded_ℕ.inj a b (ap tail p))
  same_data (text_data a) (text_data b) p = ap text_data ((coded_list coded_ℕ).inj a b (ap tail p))
  same_data (bytes_data a) (bytes_data b) p = ap bytes_data ((coded_list coded_ℕ).inj a b (ap tail p))
  same_data unit_data unit_data p = refl
  same_data nothing nothing p = refl
  same_data (something a) (something b) p = ap something (same_data a b (ap tail p))
  same_data (seq_data a) (seq_data b) p = ap seq_data (same_parts a b (ap tail p))
  same_data (newtype_data a) (newtype_data b) p = ap newtype_data (same_data a b (ap tail p))
  same_data (map_data a) (map_data b) p = ap map_data (same_pairs a b (ap tail p))
  same_data (struct_data a) (struct_data b) p = ap struct_data (same_parts a b (ap tail p))
  same_data (enum_data m a) (enum_data n b) p =
      λ i. enum_data (head (tail (p i))) (same_payload a b (ap (λ g. tail (tail g)) p) i)
  same_data a b p = absurd (omega (arith, ap head p))

  same_parts : (a b : Parts) → code_all a ≡ code_all b → a ≡ b
  same_parts no_parts no_parts p = refl
  same_parts no_parts (part b bs) p = cc
  same_parts (part a rest) no_parts p = cc
  same_parts (part a rest) (part b bs) p = λ i. part (same_data a b (ap first p) i) (same_parts rest bs (ap tail p) i)

  same_pairs : (a b : DataPairs) → code_pairs a ≡ code_pairs b → a ≡ b
  same_pairs no_pairs no_pairs p = refl
  same_pairs no_pairs (pair k v bs) p = cc
  same_pairs (pair j u rest) no_pairs p = cc
  same_pairs (pair j u rest) (pair k v bs) p =
      λ i. pair (same_data j k (ap first p) i) (same_data u v (ap (λ g. first (tail g)) p) i) (same_pairs rest bs (ap (λ g. tail (tail g)) p) i)

  same_payload : (a b : PayloadData) → code_payload a ≡ code_payload b → a ≡ b
  same_payload unit_payload unit_payload p = refl
  same_payload (newtype_payload a) (newtype_payload b) p = ap newtype_payload (same_data a b (ap tail p))
  same_payload (tuple_payload a) (tuple_payload b) p = ap tuple_payload (same_parts a b (ap tail p))
  same_payload (struct_payload a) (struct_payload b) p = ap struct_payload (same_parts a b (ap tail p))
  same_payload a b p = absurd (omega (arith, ap head p))

pub coded_data : Coded Data
coded_data = record { code = code; inj = same_data }
