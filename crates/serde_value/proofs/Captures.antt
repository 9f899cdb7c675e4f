-- Trees that are captured one after the other.
use Rattle.std.proofs.Common.{◌≡◌, ◌≤◌, List, [], ◌∷◌, ◌++◌, refl, arith}
use Rattle.data_core.specs.Source.{Sources, end, more, Entries, no_entries, entry}
use Rattle.data_core.specs.Sequence.{rest_of}
use Rattle.data_core.specs.Table.{rest_of_entries, value_of}
use Rattle.data_core.specs.Node.{Node}
use Rattle.data_core.specs.Order.{node_order}
use Rattle.data_core.specs.Outcome.{Outcome, given, refused, and_then}
use Rattle.sorted_pairs.specs.Pairs.{put_all, put}
use Rattle.data_std.proofs.Elements.{after, after_more}
use Rattle.serde_value.specs.Captured.{depth_of_all, depth_of_entries, depth_of_waiting}

-- the outcome of a part and of those after it
after_one : {T : Type 0} (x : T) (o : Outcome (List T)) → and_then o (λ xs. given (x ∷ xs)) ≡ after (x ∷ []) o
after_one x (given xs) = refl
after_one x (refused f path) = refl

-- where the next part was captured, what is left comes after it
pub captured_more : {T : Type 0} (xs : List T) (x : T) (first : Outcome T) (rest whole : Outcome (List T))
    → first ≡ given x → whole ≡ after xs (and_then first (λ y. and_then rest (λ ys. given (y ∷ ys)))) → whole ≡ after (xs ++ x ∷ []) rest
captured_more xs x first rest whole is e = rw (is, after_one x rest, after_more xs x rest) at e

pub put_all_push : (ps rest : List (Node × Node)) (p : Node × Node) → put_all node_order ps (rest ++ p ∷ []) ≡ put node_order p.0 p.1 (put_all node_order ps rest)
put_all_push ps [] p = refl
put_all_push ps (q ∷ rest) p = put_all_push (put node_order q.0 q.1 ps) rest p

-- what is left is no deeper

pub shallow_rest : (ss : Sources) → depth_of_all (rest_of ss) ≤ depth_of_all ss
shallow_rest end = omega arith
shallow_rest (more s ss) = omega arith

pub shallow_rest_entries : (es : Entries) → depth_of_entries (rest_of_entries es) ≤ depth_of_entries es
shallow_rest_entries no_entries = omega arith
shallow_rest_entries (entry k v es) = omega arith

pub shallow_value : (es : Entries) → depth_of_waiting (value_of es) ≤ depth_of_entries es
shallow_value no_entries = omega arith
shallow_value (entry k v es) = omega arith

pub ruleset shallow = (shallow_rest, shallow_rest_entries, shallow_value)
