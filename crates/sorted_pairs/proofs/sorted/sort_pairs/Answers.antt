use Rattle.std.proofs.Common.{◌≡◌, ◌∙◌, sym, Bool, true, false}
use Rattle.sorted_pairs.proofs.Passes.{risen}
use Rattle.sorted_pairs.proofs.Rows.{rises_of_less, less_of_rises, neighbours_length}
use Rattle.sorted_pairs.proofs.sorted.sort_pairs.Goals as goal

no : (b : Bool) → b ≡ true → b ≡ false → ⊥
no b h e = cc

pub returns-then-all_less-clause-put : goal.returns-then-all_less-clause-put
returns-then-all_less-clause-put g c =
    let e : c.new.result.pairs.now ≡ c.args.pairs.now.items = c.new.ensures ∙ c.as_slice.ensures.value in
    sym (risen g.K.CountedOrd.order g.met.K.CountedOrd.total c.args.pairs.now.items (rises_of_less g.K.CountedOrd.order g.met.K.CountedOrd.total c.args.pairs.now.items (rw (← e) (c.all_less.ensures.answer.0 c.if-all_less.true))))

pub returns-then-all_less-clause-one_pass : goal.returns-then-all_less-clause-one_pass
returns-then-all_less-clause-one_pass g c =
    let e : c.new.result.pairs.now ≡ c.args.pairs.now.items = c.new.ensures ∙ c.as_slice.ensures.value in
    λ r. (c.all_less.ensures.never_falls, rw (← e, ← neighbours_length g.K.CountedOrd.order c.new.result.pairs.now) c.all_less.ensures.cost)

pub returns-clause-risen : goal.returns-clause-risen
returns-clause-risen g c =
    let e : c.new.result.pairs.now ≡ c.args.pairs.now.items = c.new.ensures ∙ c.as_slice.ensures.value in
    λ r. absurd (no c.all_less.result (c.all_less.ensures.answer.1 (rw e (less_of_rises g.K.CountedOrd.order g.met.K.CountedOrd.total c.args.pairs.now.items r))) c.if-all_less.false)

pub returns-clause-one_pass : goal.returns-clause-one_pass
returns-clause-one_pass g c =
    let e : c.new.result.pairs.now ≡ c.args.pairs.now.items = c.new.ensures ∙ c.as_slice.ensures.value in
    λ r. absurd (no c.all_less.result (c.all_less.ensures.answer.1 (rw e (less_of_rises g.K.CountedOrd.order g.met.K.CountedOrd.total c.args.pairs.now.items r))) c.if-all_less.false)
