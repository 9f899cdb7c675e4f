use Rattle.std.proofs.Common.{rules}
use Rattle.shape.specs.View.{shape_view}
use Rattle.shape_read.specs.First.{first}
use Rattle.capture.specs.Reads.{HandsAny}
use Rattle.capture.proofs.Hands.{any_of_shape, any_of_input, traced_hands}
use Rattle.capture.proofs.reader.read_any.Goals as goal

pub returns-clause-answer : goal.returns-clause-answer
returns-clause-answer g c =
    traced_hands g.D.Error.DeError.fault c.deserialize_seed.result (first (shape_view c.args.shape.now) (g.D.Deserializer.source c.args.d)) (search rules)

pub returns-clause-of_shape : goal.returns-clause-of_shape
returns-clause-of_shape g c =
    any_of_shape g.D.Error.DeError.fault c.deserialize_seed.result (shape_view c.args.shape.now) (g.D.Deserializer.source c.args.d)
    (traced_hands g.D.Error.DeError.fault c.deserialize_seed.result (first (shape_view c.args.shape.now) (g.D.Deserializer.source c.args.d)) (search rules))

pub returns-clause-of_input : goal.returns-clause-of_input
returns-clause-of_input g c =
    let source = g.D.Deserializer.source c.args.d in
    let answer : HandsAny g.D.Error.DeError.fault c.deserialize_seed.result (first (shape_view c.args.shape.now) source) = traced_hands g.D.Error.DeError.fault c.deserialize_seed.result (first (shape_view c.args.shape.now) source) (search rules) in
    λ i same. any_of_input g.D.Error.DeError.fault c.deserialize_seed.result (shape_view c.args.shape.now) source i answer same
