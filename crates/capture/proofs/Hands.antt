-- What is handed out, in its three ways of being said.
use Rattle.std.proofs.Common.{◌≡◌, ◌∙◌, List, Option, Some, None, Result, Ok, Err, ap, subst}
use Rattle.std.specs.Result.{IfOk, IfErr}
use Rattle.data_core.specs.declared.fault.Fault.{Fault}
use Rattle.data_core.specs.declared.path.Segment.{Segment}
use Rattle.data_core.specs.Outcome.{Outcome, given, refused}
use Rattle.data_core.specs.Reads.{IsOutcome}
use Rattle.path_core.specs.Error.{path_of, original_of}
use Rattle.serde_path_to_error.specs.Traced.{Traced, TracedErr}
use Rattle.path_core.specs.declared.error.Error.{Error}
use Rattle.data_core.specs.Node.{Node, of_node}
use Rattle.data_core.specs.Source.{Source}
use Rattle.shape.specs.Shape as spec
use Rattle.shape_read.specs.First.{first as first_source}
use Rattle.shape_read.specs.OfShape.{IsOf}
use Rattle.shape.specs.View.{data_view}
use Rattle.shape_read.proofs.OfShape.{first_is}
use Rattle.shape.specs.declared.data.Data.{Data}
use Rattle.capture.specs.declared.reader.ReadError.{ReadError}
use Rattle.capture.specs.declared.reader.ReadError.TheVariants.{Memory, Refused}
use Rattle.document.specs.Input.{Input, tree}
use Rattle.shape.specs.Upgraded.{upgraded}
use Rattle.capture.specs.First.{first, source_of}
use Rattle.capture.specs.FirstTree.{first_tree}
use Rattle.capture.specs.FirstVersion.{first1_tree}
use Rattle.capture.proofs.FirstVersion.{upgraded_first}
use Rattle.capture.specs.Reads.{Hands, HandsAny, Answers, IsRefusal, IsRefusalOf, IsRefusalAny}
use Rattle.capture.proofs.Agreement.{first_agrees}

pub hands_value : (r : Result Data ReadError) (o : Outcome spec.Data) → Hands r o → IfOk r (λ d. o ≡ given (data_view d))
hands_value (Ok d) o h = h
hands_value (Err e) o h = tt

pub hands_refusal : (r : Result Data ReadError) (o : Outcome spec.Data) → Hands r o → IfErr r (λ e. IsRefusal e o)
hands_refusal (Ok d) o h = tt
hands_refusal (Err e) o h = h

pub hands_answer : (r : Result Data ReadError) (o : Outcome spec.Data) → Hands r o → Answers o r
hands_answer (Err Memory) (given d) h = tt
hands_answer (Err Memory) (refused f p) h = tt
hands_answer (Ok value) (given d) h = cc
hands_answer (Ok value) (refused f p) h = cc
hands_answer (Err (Refused path fault)) (given d) h = cc
hands_answer (Err (Refused path fault)) (refused f p) h = (cc, cc)

pub hands_of_shape : (r : Result Data ReadError) (a : spec.Shape) (t : Node) → Hands r (first_tree a t) → IfOk r (λ d. IsOf a (data_view d))
hands_of_shape (Ok d) a t h = first_is a (of_node t) (data_view d) (first_agrees a t ∙ h)
hands_of_shape (Err e) a t h = tt

-- what a traced read by the reader of a shape answers is its one outcome, handed out
traced_refusal : (fault : Option Fault) (path : List Segment) (o : Outcome spec.Data) → TracedErr (Unit {0}) fault path (IsOutcome data_view o) → IsRefusalAny fault path o
traced_refusal None path o h = tt
traced_refusal (Some f) path o h = rw (h.2 tt) (h.1)

pub traced_hands : {E : Type 0} (fault : E → Option Fault) (r : Result Data (Error E)) (o : Outcome spec.Data) → Traced fault (Unit {0}) r (IsOutcome data_view o) → HandsAny fault r o
traced_hands fault (Ok d) o h = h
traced_hands fault (Err e) o h = traced_refusal (fault (original_of e)) (path_of e) o h

pub any_of_shape : {E : Type 0} (fault : E → Option Fault) (r : Result Data (Error E)) (a : spec.Shape) (s : Source) → HandsAny fault r (first_source a s) → IfOk r (λ d. IsOf a (data_view d))
any_of_shape fault (Ok d) a s h = first_is a s (data_view d) h
any_of_shape fault (Err e) a s h = tt

pub hands_first_version : (r : Result Data ReadError) (a : spec.Shape) (t : Node) → Hands r (first_tree a t) → (s : spec.Shape) → a ≡ upgraded s → Answers (first1_tree s t) r
hands_first_version r a t h s same =
    hands_answer r (first1_tree s t) (subst (λ o. Hands r o) ((λ i. first_tree (same i) t) ∙ upgraded_first s t) h)

pub ruleset hands = (hands_value, hands_refusal, hands_answer, hands_of_shape, hands_first_version)

-- the source of an input is read as the input
first_input : (a : spec.Shape) (i : Input) → first_source a (source_of i) ≡ first a i
first_input a (tree t) = first_agrees a t

pub any_of_input : {E : Type 0} (fault : E → Option Fault) (r : Result Data (Error E)) (a : spec.Shape) (s : Source) (i : Input) → HandsAny fault r (first_source a s) → s ≡ source_of i → HandsAny fault r (first a i)
any_of_input fault r a s i h same = subst (λ o. HandsAny fault r o) (ap (first_source a) same ∙ first_input a i) h

-- an error of the outcome's fault at its path
pub refusal_of : (e : ReadError) (fault : Option Fault) (path : List Segment) (o : Outcome spec.Data) → IsRefusalAny fault path o → IsRefusalOf e fault path → IsRefusal e o
refusal_of Memory fault path o answers h = tt
refusal_of (Refused at f) fault path o answers h =
    let called = rw h.1 at answers in
    rw h.0 called
