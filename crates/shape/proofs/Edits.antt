-- A map of data with a value written over, and with a pair more.
use Rattle.std.proofs.Common.{◌≡◌, ℕ, ◌+◌, ◌<◌, List, length, get_or, set, map, Some, None}
use Rattle.std.specs.List.{insert}
use Rattle.std.specs.Ordering.{on}
use Rattle.sorted_pairs.specs.Pairs.{Rises, lookup, put, below, up_to}
use Rattle.sorted_pairs.proofs.Edits as generic
use Rattle.shape.specs.DataOrder.{data_order}
use Rattle.shape.specs.DataOrderLaws.{data_order_total}
use Rattle.shape.specs.View.{data_view, pair_view}
use Rattle.shape.specs.declared.data.Data.{Data}

pub rises_of_data : (xs : List (Data × Data)) → Rises data_order (map pair_view xs) → Rises (on data_view data_order) xs
rises_of_data = generic.rises_of_views data_view data_view data_order

module _ (k : Data) (xs : List (Data × Data)) (i : ℕ) (b : below (on data_view data_order) k xs ≡ i) where
  pub set_data : (v : Data) (d : Data × Data) → up_to (on data_view data_order) k xs ≡ i + 1 → i < length xs
      → map pair_view (set xs i ((get_or xs i d).0, v)) ≡ put data_order (data_view k) (data_view v) (map pair_view xs)
  set_data = generic.set_value data_view data_view data_order data_order_total k xs i b

  pub find_data : (d : Data × Data) → up_to (on data_view data_order) k xs ≡ i + 1 → i < length xs
      → Some (data_view (get_or xs i d).1) ≡ lookup data_order (data_view k) (map pair_view xs)
  find_data = generic.find_value data_view data_view data_order data_order_total k xs i b

  pub find_none : up_to (on data_view data_order) k xs ≡ i → lookup data_order (data_view k) (map pair_view xs) ≡ None
  find_none = generic.find_none data_view data_view data_order data_order_total k xs i b

  pub insert_pair : (v : Data) → up_to (on data_view data_order) k xs ≡ i
      → map pair_view (insert xs i (k, v)) ≡ put data_order (data_view k) (data_view v) (map pair_view xs)
  insert_pair = generic.insert_pair data_view data_view data_order data_order_total k xs i b

  pub rises_set : (v : Data) (d : Data × Data) → up_to (on data_view data_order) k xs ≡ i + 1 → i < length xs
      → Rises data_order (map pair_view xs) → Rises data_order (map pair_view (set xs i ((get_or xs i d).0, v)))
  rises_set = generic.rises_set data_view data_view data_order data_order_total k xs i b

  pub rises_insert : (v : Data) → up_to (on data_view data_order) k xs ≡ i
      → Rises data_order (map pair_view xs) → Rises data_order (map pair_view (insert xs i (k, v)))
  rises_insert = generic.rises_insert data_view data_view data_order data_order_total k xs i b

pub ruleset edits = (rises_of_data, set_data, find_data, find_none, insert_pair, rises_set, rises_insert)
