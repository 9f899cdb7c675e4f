-- What is captured of a tree's own source is that very tree.
use Rattle.std.proofs.Common.{◌≡◌, ℕ, ◌+◌, List, [], ◌∷◌, Option, Some, None, Result, Ok, Err, IfOk, IfErr, refl, ap, sym, ◌∙◌}
use Rattle.data_core.specs.declared.fault.Fault.{Fault}
use Rattle.data_core.specs.Node.{Node, boolean, u8, u16, u32, u64, i8, i16, i32, i64, character, string, unit, none, some, newtype, seq, map, bytes, Nodes, no_nodes, node, Pairs, no_pairs, pair, nodes_of, pairs_of, of_node, of_nodes, of_pairs}
use Rattle.data_core.specs.Order.{node_order}
use Rattle.data_core.specs.OrderLaws.{node_order_total}
use Rattle.data_core.specs.Outcome.{given, refused}
use Rattle.data_core.specs.Reads.{IsOutcome}
use Rattle.sorted_pairs.proofs.Passes.{risen}
use Rattle.serde_value.specs.Captured.{captured, captured_all, captured_pairs}
use Rattle.value_error.specs.ErrorView.{fault_of}
use Rattle.value_error.specs.declared.error.DeserializerError.{DeserializerError}
use Rattle.serde_value.specs.Reading.{FaultAmong, ReadsAmong}
use Rattle.serde_value.specs.View.{node_view}
use Rattle.serde_value.specs.declared.value.Value.{Value}
use Rattle.serde_value.specs.InOrder.{pairs_in, IsInOrder, AreInOrder, PartsInOrder}

abbrev nodes_in : Nodes → List Node
nodes_in no_nodes = []
nodes_in (node n ns) = n ∷ nodes_in ns

nodes_again : (ns : Nodes) → nodes_of (nodes_in ns) ≡ ns
nodes_again no_nodes = refl
nodes_again (node n ns) = ap (λ ms. node n ms) (nodes_again ns)

pairs_again : (ps : Pairs) → pairs_of (pairs_in ps) ≡ ps
pairs_again no_pairs = refl
pairs_again (pair k v ps) = ap (λ qs. pair k v qs) (pairs_again ps)

mutual
  pub captured_itself : (n : Node) → IsInOrder n → captured (of_node n) ≡ given n
  captured_itself (boolean b) h = refl
  captured_itself (u8 n) h = refl
  captured_itself (u16 n) h = refl
  captured_itself (u32 n) h = refl
  captured_itself (u64 n) h = refl
  captured_itself (i8 z) h = refl
  captured_itself (i16 z) h = refl
  captured_itself (i32 z) h = refl
  captured_itself (i64 z) h = refl
  captured_itself (character c) h = refl
  captured_itself (string t) h = refl
  captured_itself unit h = refl
  captured_itself none h = refl
  captured_itself (some n) h = rw (captured_itself n h) refl
  captured_itself (newtype n) h = rw (captured_itself n h) refl
  captured_itself (seq ns) h = rw (captured_nodes 0 ns h, nodes_again ns) refl
  captured_itself (map ps) h = rw (captured_entries ps h.1, risen node_order node_order_total (pairs_in ps) h.0, pairs_again ps) refl
  captured_itself (bytes b) h = refl

  captured_nodes : (i : ℕ) (ns : Nodes) → AreInOrder ns → captured_all i (of_nodes ns) ≡ given (nodes_in ns)
  captured_nodes i no_nodes h = refl
  captured_nodes i (node n ns) h = rw (captured_itself n h.0, captured_nodes (i + 1) ns h.1) refl

  captured_entries : (ps : Pairs) → PartsInOrder ps → captured_pairs (of_pairs ps) ≡ given (pairs_in ps)
  captured_entries no_pairs h = refl
  captured_entries (pair k v ps) h = rw (captured_itself k h.0, captured_itself v h.1, captured_entries ps h.2) refl

-- what a reader answered of a tree that it captured again

pub again_itself : (r : Result Value DeserializerError) (n : Node) → ReadsAmong r (λ o. IsOutcome node_view (captured (of_node n)) o) → IfOk r (λ v. IsInOrder n → node_view v ≡ n)
again_itself (Ok v) n h = λ o. let both : given (node_view v) ≡ given n = sym h ∙ captured_itself n o in cc
again_itself (Err e) n h = tt

no_fault : (fault : Option Fault) (n : Node) → IsInOrder n → FaultAmong fault (λ o. IsOutcome node_view (captured (of_node n)) o) → fault ≡ None
no_fault None n o h = refl
no_fault (Some f) n o h = absurd (let both : refused f h.0 ≡ given n = sym h.1 ∙ captured_itself n o in cc)

pub again_memory : (r : Result Value DeserializerError) (n : Node) → ReadsAmong r (λ o. IsOutcome node_view (captured (of_node n)) o) → IfErr r (λ e. IsInOrder n → fault_of e ≡ None)
again_memory (Ok v) n h = tt
again_memory (Err e) n h = λ o. no_fault (fault_of e) n o h
