use Rattle.data_core.specs.Choice.{variant_segment}
use Rattle.hand_tests.proofs.Steps.{told_payload}
use Rattle.hand_tests.proofs.enums.no_elements.Goals as goal

pub returns-clause-reads : goal.returns-clause-reads
returns-clause-reads g c =
    told_payload g.D.Error.DeError.fault g.D.Deserializer.tracks c.tuple_variant.result (variant_segment (g.D.Deserializer.name_text c.args.chosen.now)) _ c.args.track.now c.tuple_variant.new.track c.tuple_variant.ensures.reads
