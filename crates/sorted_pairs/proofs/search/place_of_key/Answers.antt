use Rattle.sorted_pairs.proofs.Rows.{falls_of_rises}
use Rattle.sorted_pairs.proofs.search.place_of_key.Goals as goal

pub place-requires : goal.place-requires
place-requires g c =
    rw (c.new.ensures.key, c.new.ensures.pairs) (falls_of_rises g.K.CountedOrd.order g.met.K.CountedOrd.total c.args.key.now c.args.pairs.now c.requires)
