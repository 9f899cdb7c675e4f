use Rattle.shape.proofs.Places.{place_found, place_beyond, place_missing}
use Rattle.std.proofs.Common.{rules}
use Rattle.shape.proofs.names.place_among.Goals as goal

pub returns-in-Some : goal.returns-in-Some
returns-in-Some c =
    place_found c.args.name.now c.args.names.now c.args.count c.in-Some.place c.in-Some.ensures.found c.in-Some.ensures.first c.if-place-count.true

pub returns-in_default : goal.returns-in_default
returns-in_default c =
    place_beyond c.args.name.now c.args.names.now c.args.count c.in-Some.place c.in-Some.ensures.first c.if-place-count.false

pub returns-in_default-2 : goal.returns-in_default-2
returns-in_default-2 c = place_missing c.args.name.now c.args.names.now c.args.count (c.in_default.ensures.missing.0 (search rules))
