-- A text, a number or a boolean that is at hand, as a source.
use Rattle.std.specs.Prelude.{Bool, true, false}
use Rattle.data_core.specs.Ask.{Ask}
use Rattle.data_core.specs.Ask as asks
use Rattle.data_core.specs.Choice.{spent}
use Rattle.data_core.specs.Node.{no_payload}
use Rattle.data_core.specs.Source.{Source, source, Offer, Scalar, scalar, variant_itself}
use Rattle.data_core.specs.Wanted.{Wanted}

-- a scalar, and of one that names variants, where an enum is asked for, a variant of that name without a payload
abbrev pub plain_offer : Bool → Scalar → Ask → Offer
plain_offer true s (asks.enum name variants) = variant_itself no_payload
plain_offer names_variants s a = scalar s

abbrev pub plain_source : Bool → Scalar → Source
plain_source names_variants s = source (plain_offer names_variants s)

-- what a variant by its name alone offers, and once its payload was taken
abbrev pub unit_choice : Bool → Wanted → Offer
unit_choice false = no_payload
unit_choice true = spent
