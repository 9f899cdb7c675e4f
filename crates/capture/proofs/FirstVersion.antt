-- A shape of the first version reads as its upgraded shape does in the second.
use Rattle.std.proofs.Common.{◌≡◌, ℕ, Bool, true, false, List, [], ◌∷◌, Option, refl}
use Rattle.data_core.specs.Node.{Node}
use Rattle.data_core.specs.Outcome.{Outcome, given, and_then}
use Rattle.shape.specs.Shape.{exact, strict, loose, Shape, scalar, option, seq, tuple, map, newtype, struct, enum, Shapes, no_shapes, shape, Payloads, no_payloads, payload, PayloadShape, unit_variant, newtype_variant, tuple_variant, struct_variant, Data, newtype_data}
use Rattle.shape.specs.Upgraded.{upgraded, upgraded_all, upgraded_payloads, upgraded_payload}
use Rattle.capture.specs.Parts.{each_part, row_of_parts, each_pair, put_pair, NamedPart, is_optional, named_parts, named_payloads}
use Rattle.capture.specs.FirstTree.{first_tree, tree_readers, payload_tree, payload_tree_readers, in_option, elements_in, pairs_in, in_seq, key_at, in_map, held_in, named_tree, in_struct, in_enum, newtype_payload_in, tuple_payload_in, struct_payload_in}
use Rattle.capture.specs.FirstVersion.{first1_tree, readers1, payload1, payload_readers1}

key_upgraded : (a : Shape) (t : Node) → key_at (upgraded a) t ≡ key_at a t
key_upgraded (scalar a) t = refl
key_upgraded (option a) t = refl
key_upgraded (seq a) t = refl
key_upgraded (tuple exactness name row) t = refl
key_upgraded (map k v) t = refl
key_upgraded (newtype name a) t = refl
key_upgraded (struct strictness name names row) t = refl
key_upgraded (enum name names held) t = refl

option_upgraded : (a : Shape) → is_optional (upgraded a) ≡ is_optional a
option_upgraded (scalar a) = refl
option_upgraded (option a) = refl
option_upgraded (seq a) = refl
option_upgraded (tuple exactness name row) = refl
option_upgraded (map k v) = refl
option_upgraded (newtype name a) = refl
option_upgraded (struct strictness name names row) = refl
option_upgraded (enum name names held) = refl

abbrev field : List ℕ → Bool → (Node → Outcome Data) → NamedPart Node
field n may_be_missing read = record { name = n; may_be_missing = may_be_missing; read = read }

mutual
  pub upgraded_first : (a : Shape) (t : Node) → first_tree (upgraded a) t ≡ first1_tree a t
  upgraded_first (scalar a) t = refl
  upgraded_first (option a) t = λ i. in_option (λ s. upgraded_first a s i) t
  upgraded_first (seq a) t = λ i. in_seq (λ ts. each_part (λ s. upgraded_first a s i) 0 (elements_in ts)) t
  upgraded_first (tuple exactness name row) t = λ i. in_seq (λ ts. row_of_parts false (upgraded_readers row i) 0 (elements_in ts)) t
  upgraded_first (map k v) t =
      λ i. in_map (λ ts. each_pair (put_pair (λ s. key_upgraded k s i) (λ s. upgraded_first k s i) (λ s. upgraded_first v s i)) [] (pairs_in ts)) t
  upgraded_first (newtype name a) t = λ i. and_then (upgraded_first a (held_in t) i) (λ d. given (newtype_data d))
  upgraded_first (struct exact name names row) t =
      λ i. in_struct (λ ts. row_of_parts false (upgraded_readers row i) 0 (elements_in ts)) (named_tree false (upgraded_fields names row i)) t
  upgraded_first (struct strict name names row) t =
      λ i. in_struct (λ ts. row_of_parts false (upgraded_readers row i) 0 (elements_in ts)) (named_tree true (upgraded_fields names row i)) t
  upgraded_first (struct loose name names row) t =
      λ i. in_struct (λ ts. row_of_parts false (upgraded_readers row i) 0 (elements_in ts)) (named_tree false (upgraded_fields names row i)) t
  upgraded_first (enum name names held) t = λ i. in_enum (named_payloads names (upgraded_held held i)) t

  upgraded_readers : (row : Shapes) → tree_readers (upgraded_all row) ≡ readers1 row
  upgraded_readers no_shapes = refl
  upgraded_readers (shape a rest) = λ i. (λ t. upgraded_first a t i) ∷ upgraded_readers rest i

  upgraded_fields : (names : List (List ℕ)) (row : Shapes) → named_parts names (upgraded_all row) (tree_readers (upgraded_all row)) ≡ named_parts names row (readers1 row)
  upgraded_fields [] row = refl
  upgraded_fields (n ∷ names) no_shapes = refl
  upgraded_fields (n ∷ names) (shape a rest) =
      λ i. field n (option_upgraded a i) (λ t. upgraded_first a t i) ∷ upgraded_fields names rest i

  upgraded_held : (held : Payloads) → payload_tree_readers (upgraded_payloads held) ≡ payload_readers1 held
  upgraded_held no_payloads = refl
  upgraded_held (payload p rest) = λ i. (λ there. upgraded_payload_first p there i) ∷ upgraded_held rest i

  upgraded_payload_first : (p : PayloadShape) (there : Option Node) → payload_tree (upgraded_payload p) there ≡ payload1 p there
  upgraded_payload_first unit_variant there = refl
  upgraded_payload_first (newtype_variant a) there = λ i. newtype_payload_in (λ t. upgraded_first a t i) there
  upgraded_payload_first (tuple_variant row) there = λ i. tuple_payload_in (λ ts. row_of_parts true (upgraded_readers row i) 0 (elements_in ts)) there
  upgraded_payload_first (struct_variant exact names row) there = λ i. struct_payload_in (named_tree false (upgraded_fields names row i)) there
  upgraded_payload_first (struct_variant strict names row) there = λ i. struct_payload_in (named_tree true (upgraded_fields names row i)) there
  upgraded_payload_first (struct_variant loose names row) there = λ i. struct_payload_in (named_tree false (upgraded_fields names row i)) there
