-- How deep data nest.
use Rattle.std.specs.Prelude.{ℕ, ◌+◌, max}
use Rattle.shape.specs.Shape.{Data, something, newtype_data, seq_data, map_data, struct_data, enum_data, Parts, no_parts, part, DataPairs, no_pairs, pair, PayloadData, unit_payload, newtype_payload, tuple_payload, struct_payload}

abbrev mutual
  pub depth : Data → ℕ
  depth (something d) = depth d + 1
  depth (newtype_data d) = depth d + 1
  depth (seq_data ds) = depth_of_parts ds + 1
  depth (map_data ps) = depth_of_pairs ps + 1
  depth (struct_data ds) = depth_of_parts ds + 1
  depth (enum_data n p) = depth_of_payload p
  depth _ = 0

  pub depth_of_parts : Parts → ℕ
  depth_of_parts no_parts = 0
  depth_of_parts (part d ds) = max (depth d) (depth_of_parts ds)

  pub depth_of_pairs : DataPairs → ℕ
  depth_of_pairs no_pairs = 0
  depth_of_pairs (pair k v ps) = max (max (depth k) (depth v)) (depth_of_pairs ps)

  pub depth_of_payload : PayloadData → ℕ
  depth_of_payload unit_payload = 0
  depth_of_payload (newtype_payload d) = depth d + 1
  depth_of_payload (tuple_payload ds) = depth_of_parts ds + 1
  depth_of_payload (struct_payload ds) = depth_of_parts ds + 1
