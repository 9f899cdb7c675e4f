-- The integer that is offered, if one of up to 64 bits is.
use Rattle.std.specs.Prelude.{◌≡◌, Option, Some, None}
use Rattle.data_core.specs.Source.{Width, Scalar, Offer, scalar}
use Rattle.data_core.specs.Source as offer
use Rattle.shape_read.specs.declared.scalars.Integer.{Integer}
use Rattle.shape_read.specs.declared.scalars.Integer.TheVariants.{Unsigned, Signed}

abbrev pub IsNoInteger : Offer → Type 0
IsNoInteger (scalar (offer.unsigned width n)) = ⊥
IsNoInteger (scalar (offer.signed width z)) = ⊥
IsNoInteger o = Unit {0}

abbrev pub ShowsInteger : Offer → Option Integer → Type 0
ShowsInteger o (Some (Unsigned n)) = (width : Width) × (o ≡ scalar (offer.unsigned width n))
ShowsInteger o (Some (Signed z)) = (width : Width) × (o ≡ scalar (offer.signed width z))
ShowsInteger o None = IsNoInteger o
