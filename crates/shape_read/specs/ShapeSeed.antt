-- The shape that a reader reads, and what it makes of an offer.
use Rattle.data_core.specs.Source.{Offer}
use Rattle.data_core.specs.Outcome.{Outcome}
use Rattle.data_core.specs.Reads.{IsOutcome}
use Rattle.shape.specs.declared.data.Data.{Data}
use Rattle.shape.specs.View.{shape_view, data_view}
use Rattle.shape_read.specs.First.{visited}
use Rattle.shape.specs.declared.shapes.Shape.{Shape}
use Rattle.shape_read.specs.declared.seed.ShapeSeed.{ShapeSeed}

abbrev pub shape_of : ShapeSeed → Shape
shape_of s = s.shape.now

-- the one outcome that its shape has of the offer
abbrev pub shape_reads : ShapeSeed → Offer → Outcome Data → Type 0
shape_reads s offer outcome = IsOutcome data_view (visited (shape_view (shape_of s)) offer) outcome
