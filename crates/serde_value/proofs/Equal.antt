-- Trees that compare as equal are one and the same.
use Rattle.std.proofs.Common.{◌≡◌, ◌∙◌, Bool, true, IsTrue, refl, sym}
use Rattle.std.specs.declared.cmp.Ordering.{Ordering}
use Rattle.std.specs.declared.cmp.Ordering.TheVariants.{Less, Equal, Greater}
use Rattle.std.specs.Ordering.{is_eq}
use Rattle.data_core.specs.Node.{Node}
use Rattle.data_core.specs.Order.{node_order}
use Rattle.data_core.specs.OrderLaws.{node_order_same}

equal_answer : (o : Ordering) → is_eq o ≡ true → o ≡ Equal
equal_answer Equal h = refl
equal_answer Less h = cc
equal_answer Greater h = cc

pub node_equal : (a b : Node) (o : Ordering) (answer : Bool) → o ≡ node_order a b → answer ≡ is_eq o → IsTrue answer → a ≡ b
node_equal a b o answer e f h = node_order_same a b (sym e ∙ equal_answer o (sym f ∙ h))
