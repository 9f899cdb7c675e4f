-- What data hold is less deep than the data.
use Rattle.std.specs.Prelude.{◌≤◌, List, [], ◌∷◌, map, None, Some}
use Rattle.std.proofs.Common.{arith}
use denote.Param.Weighed.{most}
use Rattle.shape.specs.Shape.{parts_of, pairs_of}
use Rattle.shape.specs.Depth.{depth, depth_of_parts, depth_of_pairs}
use Rattle.shape.specs.View.{data_view, pair_view}
use Rattle.shape.specs.declared.data.Data.{Data}
use Rattle.shape.specs.declared.data.Data.TheVariants as datum
use Rattle.shape.specs.declared.data.Payload.TheVariants as payload
use Rattle.shape.specs.declared.data.DataHeld.TheDeep.{deep-Data}
use Rattle.shape.specs.declared.data.DataHeld.TheShapes.{weighed-DataMap-pairs-at-2}

pub deep≤depth : (d : Data) → deep-Data d ≤ depth (data_view d)
deep≤depth (datum.Bool b) = omega arith
deep≤depth (datum.Unsigned n) = omega arith
deep≤depth (datum.Signed z) = omega arith
deep≤depth (datum.Char c) = omega arith
deep≤depth (datum.Text t) = omega arith
deep≤depth (datum.Bytes b) = omega arith
deep≤depth datum.Unit = omega arith
deep≤depth (datum.Option None) = omega arith
deep≤depth (datum.Option (Some held)) = omega arith
deep≤depth (datum.Newtype held) = omega arith
deep≤depth (datum.Seq items) = omega arith
deep≤depth (datum.Map pairs) = omega arith
deep≤depth (datum.Struct items) = omega arith
deep≤depth (datum.Enum n payload.Unit) = omega arith
deep≤depth (datum.Enum n (payload.Newtype held)) = omega arith
deep≤depth (datum.Enum n (payload.Tuple items)) = omega arith
deep≤depth (datum.Enum n (payload.Struct items)) = omega arith

pub most≤depth : (ds : List Data) → most (λ d. deep-Data d) ds ≤ depth_of_parts (parts_of (map data_view ds))
most≤depth [] = omega arith
most≤depth (d ∷ ds) = omega (arith, deep≤depth d, most≤depth ds)

pub most≤depth_of_pairs : (ps : List (Data × Data)) → most (weighed-DataMap-pairs-at-2.weight Data deep-Data) ps ≤ depth_of_pairs (pairs_of (map pair_view ps))
most≤depth_of_pairs [] = omega arith
most≤depth_of_pairs (p ∷ ps) = omega (arith, deep≤depth p.0, deep≤depth p.1, most≤depth_of_pairs ps)
