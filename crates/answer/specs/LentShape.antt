-- A shape that is lent, if there is one, and the shapes of parts.
use denote.Ref.{Bor}
use Rattle.std.specs.Prelude.{Option, Some, None, map, option_map}
use Rattle.shape.specs.Shape as spec
use Rattle.shape.specs.View.{shape_view, variant_shape_view}
use Rattle.shape.specs.declared.shapes.Shape.{Shape}
use Rattle.shape.specs.declared.shapes.Fields.{Fields}
use Rattle.shape.specs.declared.shapes.VariantShape.{VariantShape}
use Rattle.answer.specs.Line as line
use Rattle.answer.specs.declared.shape_parts.Elements.{Elements}
use Rattle.answer.specs.declared.shape_parts.Elements.TheVariants.{Every, Row}

abbrev pub lent : Option (Bor Shape) → Option spec.Shape
lent a = option_map (λ s. shape_view s.now) a

abbrev pub elements_view : Elements → line.Elements
elements_view (Every a) = line.every (lent a)
elements_view (Row shapes) = line.each_of (spec.shapes_of (map shape_view shapes.now))

abbrev pub lent_fields : Option (Bor Fields) → line.FieldShapes
lent_fields None = line.no_fields
lent_fields (Some fields) = record { names = fields.now.names; shapes = spec.shapes_of (map shape_view fields.now.shapes.items) }

abbrev pub lent_payload : Option (Bor VariantShape) → Option spec.PayloadShape
lent_payload p = option_map (λ s. variant_shape_view s.now) p
