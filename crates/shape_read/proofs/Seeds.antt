-- A reader's answer by function is one by relation.
use Rattle.std.proofs.Common.{◌≡◌, Bool, Option, Some, None, Result, Ok, Err, ap, sym, subst}
use Rattle.data_core.specs.declared.fault.Fault.{Fault}
use Rattle.data_core.specs.Tracking.{Refusal}
use Rattle.data_core.specs.Outcome.{Outcome, given, refused, seen, IsTold, IsRefused, RefusedAmong, Gives, Among}
use Rattle.shape.specs.Shape as spec
use Rattle.shape.specs.declared.data.Data.{Data}
use Rattle.shape.specs.declared.shapes.Shape.{Shape}
use Rattle.shape.specs.View.{shape_view, data_view}
use Rattle.data_core.specs.Reads.{IsOutcome}
use Rattle.shape_read.specs.First.{visited}
use Rattle.shape_read.specs.ShapeSeed.{shape_of, shape_reads}
use Rattle.shape_read.specs.declared.seed.ShapeSeed.{ShapeSeed}

refused_among : (placed : Type 0) (tracks : Bool) (fault : Option Fault) (o : Outcome spec.Data) (old new : Refusal) → IsRefused tracks fault o old new → RefusedAmong placed tracks fault (IsOutcome data_view o) old new
refused_among placed tracks None o old new h = tt
refused_among placed tracks (Some f) (given d) old new h = absurd h
refused_among placed tracks (Some f) (refused g path) old new h = (path, ap (λ k. refused k path) h.0, λ q. h.1)

pub among_outcomes : {E : Type 0} (fault : E → Option Fault) (placed : Type 0) (tracks : Bool) (r : Result Data E) (o : Outcome spec.Data) (old new : Refusal)
    → Gives fault tracks data_view r o old new → Among fault placed tracks r (IsOutcome data_view o) old new
among_outcomes fault placed tracks (Ok d) o old new h = h.0
among_outcomes fault placed tracks (Err e) o old new h = refused_among placed tracks (fault e) o old new h

-- an outcome by function is the only one
seen_outcome : {A B : Type 0} (view : B → A) (o : Outcome A) (p : Outcome B) → IsOutcome view o p → seen view p ≡ o
seen_outcome view o (given b) h = sym h
seen_outcome view o (refused f path) h = sym h

pub told : (a : Shape) (s : ShapeSeed) → shape_of s ≡ a → IsTold data_view (visited (shape_view a)) (shape_reads s)
told a s e = subst (λ b. IsTold data_view (visited (shape_view b)) (shape_reads s)) e (λ offer o h. seen_outcome data_view (visited (shape_view (shape_of s)) offer) o h)
