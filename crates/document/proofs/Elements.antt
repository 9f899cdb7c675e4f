-- Elements that are read one after another.
use Rattle.std.proofs.Common.{◌≡◌, ℕ, zero, suc, ◌+◌, ◌<◌, ◌≤◌, List, [], ◌∷◌, ◌++◌, length, get_or, drop, add-one, drop-cons, Option, Some, None, option_map, ap, sym, refl, arith}
use Rattle.std.proofs.lemmas.List.{append_assoc}
use Rattle.shape.specs.Shape.{Shape}
use Rattle.serde_json.specs.Data.{item, depth, items_depth}
use Rattle.serde_json.specs.View.{view, items_view}
use Rattle.serde_json.specs.declared.value.Value.{Value}
use Rattle.document.specs.declared.version.Version.{Version}
use Rattle.document.specs.Words.{shape_of, row_from}

-- elements that were read before the rest
abbrev pub after : {A : Type 0} → List A → Option (List A) → Option (List A)
after read rest = option_map (λ more. read ++ more) rest

-- an item nests no deeper than its array
pub depth_at : (xs : List Value) (i : ℕ) (d : Value) → i < length xs → depth (view (get_or xs i d)) ≤ items_depth (items_view xs)
depth_at [] i d h = absurd (omega arith)
depth_at (x ∷ xs) zero d h = omega arith
depth_at (x ∷ xs) (suc i) d h = omega (arith, depth_at xs i d (omega arith))

-- the next item, and the rest
pub items_at : (xs : List Value) (i : ℕ) (x : Value) → i < length xs → x ≡ get_or xs i x → items_view (drop i xs) ≡ item (view x) (items_view (drop (i + 1) xs))
items_at xs i x h e = rw (add-one, drop-cons xs i x h, ← e) refl

pub after-push : {A : Type 0} (read : List A) (a : A) (rest : Option (List A)) → after read (option_map (λ more. a ∷ more) rest) ≡ after (read ++ a ∷ []) rest
after-push read a None = refl
after-push read a (Some more) = ap Some (sym (append_assoc read (a ∷ []) more))

-- one more shape was read
pub row_step : (v : Version) (xs : List Value) (i : ℕ) (x : Value) (read : List Shape) (a : Shape) → i < length xs → x ≡ get_or xs i x → shape_of v (view x) ≡ Some a
    → after read (row_from v (items_view (drop i xs))) ≡ after (read ++ a ∷ []) (row_from v (items_view (drop (i + 1) xs)))
row_step v xs i x read a h e found = rw (items_at xs i x h e, found) (after-push read a (row_from v (items_view (drop (i + 1) xs))))

pub ruleset steps = (depth_at, items_at)
