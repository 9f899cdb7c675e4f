use Rattle.std.proofs.Common.{◌≡◌, Some, arith, sym}
use Rattle.serde_json.specs.View.{view}
use Rattle.document.specs.Words.{two_in}
use Rattle.serde_json.proofs.Views.{view-Object}
use Rattle.document.proofs.SoleMember.{tree_of-sole}
use Rattle.document.proofs.TwoValues.{depth-second}
use Rattle.document.proofs.tree_words.+tree.Goals as goal

pub tree-returns-in-Some : goal.tree-returns-in-Some
tree-returns-in-Some t c =
    let h = c.in-Some.ensures in
    let k = c.tagged_tree.ensures in
    let a = c.as_str-in-Some.ensures.value in
    rw c.in-Object.is rw (view-Object c.in-Object.members) rw (tree_of-sole _ _ _ (sym h)) rw (sym a) k

pub entry-tree-requires-2 : goal.entry-tree-requires-2
entry-tree-requires-2 t c =
    let both : two_in (view c.args.json) ≡ Some (view c.in-Some.key, view c.in-Some.value) = sym c.in-Some.ensures in
    (omega (arith, depth-second (view c.args.json) (view c.in-Some.key) (view c.in-Some.value) both), tt)
