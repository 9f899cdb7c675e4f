use Rattle.std.proofs.Common.{◌≡◌}
use Rattle.serde_json.specs.View.{members_view}
use Rattle.document.specs.Document.{all_known}
use Rattle.document.proofs.parser.are_known.Given as goal

abbrev pub invariant-loop-name : goal.invariant-loop-name
invariant-loop-name l = all_known (members_view l.members.entries) ≡ all_known (members_view l.name-iterator)
