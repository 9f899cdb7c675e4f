use Rattle.std.proofs.Common.{rules, arith, sym, length, ◌≡◌, ◌<◌}
use Rattle.document.proofs.SoleMember.{sole-other, sole-first}
use Rattle.document.proofs.members.sole_member.Goals as goal

pub returns-then-len-eq1 : goal.returns-then-len-eq1
returns-then-len-eq1 c =
    let es = c.args.members.now.entries in
    let one : length es ≡ 1 = search rules in
    let more : 0 < length es = omega arith in
    sole-first es c.first_key_value.result one (c.first_key_value.ensures.variant.1 more) c.first_key_value.ensures.first

pub returns-else-len-eq1 : goal.returns-else-len-eq1
returns-else-len-eq1 c = sym (sole-other c.args.members.now.entries (λ one. search rules))
