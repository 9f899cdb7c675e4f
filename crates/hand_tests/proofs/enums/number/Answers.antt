use Rattle.data_core.specs.Choice.{variant_segment}
use Rattle.hand_tests.proofs.Steps.{told_payload}
use Rattle.hand_tests.proofs.enums.number.Goals as goal

pub returns-clause-reads : goal.returns-clause-reads
returns-clause-reads g c =
    told_payload g.D.Error.DeError.fault g.D.Deserializer.tracks c.newtype_variant.result (variant_segment (g.D.Deserializer.name_text c.args.chosen.now)) _ c.args.track.now c.newtype_variant.new.track c.newtype_variant.ensures.reads
