-- Items that are printed one after another.
use Rattle.std.proofs.Common.{◌≡◌, ℕ, ◌+◌, ◌<◌, ◌≤◌, List, [], ◌∷◌, ◌++◌, length, get_or, drop, refl, ap, add-one, drop-cons}
use Rattle.std.proofs.Math.ListN.{drop_of_length-le}
use Rattle.serde_json.specs.Data.{Data, Items, no_items, item}
use Rattle.serde_json.specs.View.{view, items_view}
use Rattle.serde_json.specs.declared.value.Value.{Value}
use Rattle.answer.specs.Line.{each}

-- items that were printed before the rest
abbrev pub before : List Value → Items → Items
before [] rest = rest
before (v ∷ vs) rest = item (view v) (before vs rest)

pub before-push : (vs : List Value) (v : Value) (rest : Items) → before (vs ++ v ∷ []) rest ≡ before vs (item (view v) rest)
before-push [] v rest = refl
before-push (w ∷ vs) v rest = ap (item (view w)) (before-push vs v rest)

pub before-end : (vs : List Value) → before vs no_items ≡ items_view vs
before-end [] = refl
before-end (v ∷ vs) = ap (item (view v)) (before-end vs)

-- one more element
pub each-step : {A : Type 0} (print : A → Data) (rest : List A) (vs : List Value) (i : ℕ) (a : A) (v : Value) → i < length rest → view v ≡ print (get_or rest i a)
    → before vs (each print (drop i rest)) ≡ before (vs ++ v ∷ []) (each print (drop (i + 1) rest))
each-step print rest vs i a v h e = rw (add-one, drop-cons rest i a h, before-push, e) refl

-- the last one was printed
pub each-end : {A : Type 0} (print : A → Data) (rest : List A) (vs : List Value) (i : ℕ) → length rest ≤ i → before vs (each print (drop i rest)) ≡ items_view vs
each-end print rest vs i h = rw (drop_of_length-le rest h) (before-end vs)

pub ruleset printing = (before-push, before-end)
