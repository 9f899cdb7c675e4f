use Rattle.std.proofs.Common.{◌≤◌, length, arith}
use Rattle.data_core.specs.Ask.{identifier}
use Rattle.data_core.specs.Source.{offer_of}
use Rattle.shape_read.specs.Readers.{variants_in}
use Rattle.shape_read.proofs.Places.{answer_variant_within, length_variants}
use Rattle.shape_read.proofs.enums.read_name.Goals as goal

pub returns-clause-within : goal.returns-clause-within
returns-clause-within g c =
    let all = variants_in c.args.variants.now in
    answer_variant_within g.D.Error.DeError.fault all (offer_of (g.D.Deserializer.source c.args.name) identifier) c.visit_name-place.result (length all) (omega arith) c.visit_name-place.ensures.value

pub returns-clause-shaped : goal.returns-clause-shaped
returns-clause-shaped g c =
    let variants = c.args.variants.now in
    let all = variants_in variants in
    let within : length all ≤ length variants.shapes.items = omega (arith, length_variants variants.names variants.shapes.items) in
    answer_variant_within g.D.Error.DeError.fault all (offer_of (g.D.Deserializer.source c.args.name) identifier) c.visit_name-place.result (length variants.shapes.items) within c.visit_name-place.ensures.value
