-- The reading of the first version: what a tuple and a struct by position leave over is passed over, and a struct by
-- name passes other names over. A strict struct refuses them, and a tuple variant has just as many elements.
use Rattle.std.specs.Prelude.{Bool, true, false, List, [], ◌∷◌, Option}
use Rattle.data_core.specs.Node.{Node}
use Rattle.data_core.specs.Outcome.{Outcome, given, and_then}
use Rattle.shape.specs.Shape.{Strictness, exact, strict, loose, Shape, scalar, option, seq, tuple, map, newtype, struct, enum, Shapes, no_shapes, shape, Payloads, no_payloads, payload, PayloadShape, unit_variant, newtype_variant, tuple_variant, struct_variant, Data, newtype_data, PayloadData}
use Rattle.capture.specs.Parts.{each_part, row_of_parts, each_pair, put_pair, named_parts, named_payloads}
use Rattle.capture.specs.FirstTree.{first_scalar, in_option, elements_in, pairs_in, in_seq, key_at, in_map, held_in, named_tree, in_struct, in_enum, unit_payload_in, newtype_payload_in, tuple_payload_in, struct_payload_in}

-- whether a struct refuses a name that is none of its fields'
abbrev pub refuses_others : Strictness → Bool
refuses_others exact = false
refuses_others strict = true
refuses_others loose = false

abbrev mutual
  pub first1_tree : Shape → Node → Outcome Data
  first1_tree (scalar a) t = first_scalar a t
  first1_tree (option a) t = in_option (first1_tree a) t
  first1_tree (seq a) t = in_seq (λ ts. each_part (first1_tree a) 0 (elements_in ts)) t
  first1_tree (tuple exactness name row) t = in_seq (λ ts. row_of_parts false (readers1 row) 0 (elements_in ts)) t
  first1_tree (map k v) t = in_map (λ ts. each_pair (put_pair (key_at k) (first1_tree k) (first1_tree v)) [] (pairs_in ts)) t
  first1_tree (newtype name a) t = and_then (first1_tree a (held_in t)) (λ d. given (newtype_data d))
  first1_tree (struct strictness name names row) t =
      in_struct (λ ts. row_of_parts false (readers1 row) 0 (elements_in ts)) (named_tree (refuses_others strictness) (named_parts names row (readers1 row))) t
  first1_tree (enum name names held) t = in_enum (named_payloads names (payload_readers1 held)) t

  pub readers1 : Shapes → List (Node → Outcome Data)
  readers1 no_shapes = []
  readers1 (shape a rest) = first1_tree a ∷ readers1 rest

  -- what becomes of a payload, or of its want
  pub payload1 : PayloadShape → Option Node → Outcome PayloadData
  payload1 unit_variant there = unit_payload_in there
  payload1 (newtype_variant a) there = newtype_payload_in (first1_tree a) there
  payload1 (tuple_variant row) there = tuple_payload_in (λ ts. row_of_parts true (readers1 row) 0 (elements_in ts)) there
  payload1 (struct_variant strictness names row) there =
      struct_payload_in (named_tree (refuses_others strictness) (named_parts names row (readers1 row))) there

  pub payload_readers1 : Payloads → List (Option Node → Outcome PayloadData)
  payload_readers1 no_payloads = []
  payload_readers1 (payload p rest) = payload1 p ∷ payload_readers1 rest
