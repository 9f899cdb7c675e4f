use Rattle.std.proofs.Common.{rules, sym}
use Rattle.document.proofs.SoleMember.{sole-other}
use Rattle.document.proofs.members.take_sole_member.Goals as goal

pub returns : goal.returns
returns c = sym (sole-other c.args.members.entries (λ one. search rules))
