-- The tree that is captured of a source, or the first fault with the path to it.
use Rattle.std.specs.Prelude.{ℕ, ◌+◌, max, List, [], ◌∷◌, Option, Some, None}
use Rattle.data_core.specs.declared.path.Segment.{Segment}
use Rattle.data_core.specs.declared.path.Segment.TheVariants.{Seq}
use Rattle.data_core.specs.Ask.{any}
use Rattle.data_core.specs.Source.{Source, source, Offer, Scalar, w8, w16, w32, w64, wide_unsigned, wide_signed, scalar, some_itself, elements, newtype_itself, newtype_struct, entries, variant_itself, variant, Sources, end, more, Entries, no_entries, entry}
use Rattle.data_core.specs.Source as offer
use Rattle.data_core.specs.Table.{segment_of_key}
use Rattle.data_core.specs.Node.{Node, some, newtype, seq, nodes_of}
use Rattle.data_core.specs.Node as node
use Rattle.data_core.specs.Order.{node_order}
use Rattle.data_core.specs.Outcome.{Outcome, given, refused, under, and_then, not_taken}
use Rattle.sorted_pairs.specs.Pairs.{put_all}
use Rattle.data_std.specs.Ignored.{at_key}
use Rattle.serde_value.specs.View.{map_node}

-- a scalar is the tree that shows it, of its own width; one of 128 bits is refused
abbrev pub captured_scalar : Scalar → Outcome Node
captured_scalar (offer.boolean b) = given (node.boolean b)
captured_scalar (offer.unsigned w8 n) = given (node.u8 n)
captured_scalar (offer.unsigned w16 n) = given (node.u16 n)
captured_scalar (offer.unsigned w32 n) = given (node.u32 n)
captured_scalar (offer.unsigned w64 n) = given (node.u64 n)
captured_scalar (offer.signed w8 z) = given (node.i8 z)
captured_scalar (offer.signed w16 z) = given (node.i16 z)
captured_scalar (offer.signed w32 z) = given (node.i32 z)
captured_scalar (offer.signed w64 z) = given (node.i64 z)
captured_scalar (wide_unsigned n) = not_taken (scalar (wide_unsigned n))
captured_scalar (wide_signed z) = not_taken (scalar (wide_signed z))
captured_scalar (offer.character c) = given (node.character c)
captured_scalar (offer.text t) = given (node.string t)
captured_scalar (offer.bytes b) = given (node.bytes b)
captured_scalar offer.none = given node.none
captured_scalar offer.unit = given node.unit

-- a key and then its value, both at the segment of their entry
abbrev pub captured_pair : Segment → Outcome Node → Outcome Node → Outcome (Node × Node)
captured_pair segment key value = and_then (at_key segment key) (λ a. and_then (under segment value) (λ b. given (a, b)))

abbrev mutual
  -- at this ask no source stands for its own inside, so each part is a smaller source
  pub captured : Source → Outcome Node
  captured (source offers) = captured_offer (offers any)

  pub captured_offer : Offer → Outcome Node
  captured_offer (scalar s) = captured_scalar s
  captured_offer some_itself = not_taken some_itself
  captured_offer (offer.some s) = and_then (captured s) (λ n. given (some n))
  captured_offer (elements checks ss) = and_then (captured_all 0 ss) (λ ns. given (seq (nodes_of ns)))
  captured_offer newtype_itself = not_taken newtype_itself
  captured_offer (newtype_struct s) = and_then (captured s) (λ n. given (newtype n))
  captured_offer (entries checks es) = and_then (captured_pairs es) (λ ps. given (map_node (put_all node_order [] ps)))
  captured_offer (variant_itself payload) = not_taken (variant_itself payload)
  captured_offer (variant name payload) = not_taken (variant name payload)
  captured_offer (offer.refused f) = refused f []

  -- each element in turn, from a place in the sequence on, up to the first fault
  pub captured_all : ℕ → Sources → Outcome (List Node)
  captured_all i end = given []
  captured_all i (more s ss) = and_then (under (Seq i) (captured s)) (λ n. and_then (captured_all (i + 1) ss) (λ ns. given (n ∷ ns)))

  -- each entry in turn, its key and then its value, up to the first fault
  pub captured_pairs : Entries → Outcome (List (Node × Node))
  captured_pairs no_entries = given []
  captured_pairs (entry k v es) =
      and_then (captured_pair (segment_of_key any k) (captured k) (captured v)) (λ p. and_then (captured_pairs es) (λ ps. given (p ∷ ps)))

-- the entries that are left, as the pairs of a map
abbrev pub captured_table : Entries → Outcome (List (Node × Node))
captured_table es = and_then (captured_pairs es) (λ ps. given (put_all node_order [] ps))

abbrev mutual
  -- how deep a source is that is captured
  pub depth : Source → ℕ
  depth (source offers) = depth_of_offer (offers any) + 1

  pub depth_of_offer : Offer → ℕ
  depth_of_offer (scalar s) = 0
  depth_of_offer some_itself = 0
  depth_of_offer (offer.some s) = depth s
  depth_of_offer (elements checks ss) = depth_of_all ss
  depth_of_offer newtype_itself = 0
  depth_of_offer (newtype_struct s) = depth s
  depth_of_offer (entries checks es) = depth_of_entries es
  depth_of_offer (variant_itself payload) = 0
  depth_of_offer (variant name payload) = 0
  depth_of_offer (offer.refused f) = 0

  pub depth_of_all : Sources → ℕ
  depth_of_all end = 0
  depth_of_all (more s ss) = max (depth s) (depth_of_all ss)

  pub depth_of_entries : Entries → ℕ
  depth_of_entries no_entries = 0
  depth_of_entries (entry k v es) = max (max (depth k) (depth v)) (depth_of_entries es)

-- of the value that waits
abbrev pub depth_of_waiting : Option Source → ℕ
depth_of_waiting None = 0
depth_of_waiting (Some s) = depth s
