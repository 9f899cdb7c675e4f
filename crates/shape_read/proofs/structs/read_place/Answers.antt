use Rattle.std.proofs.Common.{◌≤◌, length, arith}
use Rattle.data_core.specs.Ask.{identifier}
use Rattle.data_core.specs.Source.{offer_of}
use Rattle.shape_read.specs.Readers.{fields_in}
use Rattle.shape_read.proofs.Places.{answer_within, length_fields}
use Rattle.shape_read.proofs.structs.read_place.Goals as goal

pub returns-clause-within : goal.returns-clause-within
returns-clause-within g c =
    let f = c.args.fields.now in
    let n = length (fields_in f) in
    answer_within g.D.Error.DeError.fault c.args.strict (fields_in f) (offer_of (g.D.Deserializer.source c.args.key) identifier) c.visit_key-place.result n (omega arith) c.visit_key-place.ensures.value

pub returns-clause-named : goal.returns-clause-named
returns-clause-named g c =
    let f = c.args.fields.now in
    let within : length (fields_in f) ≤ length f.names = omega (arith, length_fields f.names f.shapes.items) in
    answer_within g.D.Error.DeError.fault c.args.strict (fields_in f) (offer_of (g.D.Deserializer.source c.args.key) identifier) c.visit_key-place.result (length f.names) within c.visit_key-place.ensures.value

pub returns-clause-shaped : goal.returns-clause-shaped
returns-clause-shaped g c =
    let f = c.args.fields.now in
    let within : length (fields_in f) ≤ length f.shapes.items = omega (arith, length_fields f.names f.shapes.items) in
    answer_within g.D.Error.DeError.fault c.args.strict (fields_in f) (offer_of (g.D.Deserializer.source c.args.key) identifier) c.visit_key-place.result (length f.shapes.items) within c.visit_key-place.ensures.value
