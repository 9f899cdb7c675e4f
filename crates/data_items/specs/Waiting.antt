-- Items that are taken one by one: those that are left, and how many were taken.
use Rattle.std.specs.Prelude.{ℕ, ◌-◌, List, length}
use Rattle.std.specs.Vec.Iter.{into_iter_items}
use Rattle.data_items.specs.declared.waiting.Waiting.{Waiting}

module _ {T : Type 0} where
  abbrev pub left_of : Waiting T → List T
  left_of w = into_iter_items w.items

  abbrev pub taken_of : Waiting T → ℕ
  taken_of w = w.total - length (into_iter_items w.items)
