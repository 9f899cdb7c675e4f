use Rattle.std.proofs.Common.{◌∙◌, rules}
use Rattle.std.specs.Ordering.{is_lt}
use Rattle.std.proofs.lemmas.List.Sorted.{answers_always}
use Rattle.std.proofs.lemmas.List.Sorted.{ranks_by}
use Rattle.sorted_pairs.proofs.Classes.{same_classes}
use Rattle.sorted_pairs.proofs.Passes.{passed}
use Rattle.sorted_pairs.proofs.sorted.put_each.Goals as goal

pub returns-clause-put : goal.returns-clause-put
returns-clause-put g c =
    passed g.K.CountedOrd.order g.met.K.CountedOrd.total _ (λ f x k b f' x' k' m. search rules) _ c.sort_by.new.self.items c.dedup_by.new.self.items
    (c.in_ok-sort_by.ensures.sorted (λ x y. is_lt (g.K.CountedOrd.order x.0 y.0)) (ranks_by g.met.K.CountedOrd.total (λ p. p.0)) (answers_always _ _ _ (λ f a r f' k. search rules)))
    c.dedup_by.ensures.filtered
    ∙ same_classes g.K.CountedOrd.order g.met.K.CountedOrd.total c.args.pairs.now.items c.sort_by.new.self.items
    (c.sort_by.ensures.stable (λ x y. is_lt (g.K.CountedOrd.order x.0 y.0)) (ranks_by g.met.K.CountedOrd.total (λ p. p.0)) (answers_always _ _ _ (λ f a r f' k. search rules)))
