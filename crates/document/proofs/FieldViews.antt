-- The fields of a struct and the variants of an enum with their names, as the two lists that the code keeps.
use Rattle.std.proofs.Common.{◌≡◌, ℕ, ◌<◌, ◌+◌, List, [], ◌∷◌, ◌++◌, length, get_or, drop, map, Some, refl, ap, arith}
use Rattle.serde_json.specs.View.{view, items_view}
use Rattle.serde_json.specs.declared.value.Value.{Value}
use Rattle.shape.specs.Shape as spec
use Rattle.shape.specs.Shape.{shapes_of, payloads_of}
use Rattle.shape.specs.Names.{paired}
use Rattle.shape.specs.View.{shape_view, variant_shape_view, fields_view, variants_view}
use Rattle.shape.specs.declared.shapes.Fields.{Fields}
use Rattle.shape.specs.declared.shapes.Variants.{Variants}
use Rattle.document.specs.declared.version.Version.{Version}
use Rattle.document.specs.Words.{names_of, row_of_fields, variant_names, row_of_variants, named_shape_in, fields_from, variant_in, variants_from}
use Rattle.document.proofs.Elements.{after, after-push, items_at}

abbrev with_name : {B : Type 0} → List ℕ → B → List ℕ × B
with_name name b = (name, b)

module _ {A B : Type 0} where
  firsts : (seen : A → B) (names : List (List ℕ)) (row : List A) → length names ≡ length row → map (λ (p : List ℕ × B). p.0) (paired seen names row) ≡ names
  firsts seen [] row e = refl
  firsts seen (n ∷ names) [] e = absurd (omega arith)
  firsts seen (n ∷ names) (a ∷ rest) e = ap (λ ns. n ∷ ns) (firsts seen names rest (omega arith))

  seconds : (seen : A → B) (names : List (List ℕ)) (row : List A) → length names ≡ length row → map (λ (p : List ℕ × B). p.1) (paired seen names row) ≡ map seen row
  seconds seen [] [] e = refl
  seconds seen [] (a ∷ rest) e = absurd (omega arith)
  seconds seen (n ∷ names) [] e = absurd (omega arith)
  seconds seen (n ∷ names) (a ∷ rest) e = ap (λ row. seen a ∷ row) (seconds seen names rest (omega arith))

  pub paired-push : (seen : A → B) (names : List (List ℕ)) (row : List A) (name : List ℕ) (a : A) → length names ≡ length row
      → paired seen (names ++ name ∷ []) (row ++ a ∷ []) ≡ paired seen names row ++ with_name name (seen a) ∷ []
  paired-push seen [] [] name a e = refl
  paired-push seen [] (b ∷ rest) name a e = absurd (omega arith)
  paired-push seen (n ∷ names) [] name a e = absurd (omega arith)
  paired-push seen (n ∷ names) (b ∷ rest) name a e = ap (λ fs. with_name n (seen b) ∷ fs) (paired-push seen names rest name a (omega arith))

pub names_of-view : (f : Fields) → length f.names ≡ length f.shapes.items → names_of (fields_view f) ≡ f.names
names_of-view f e = firsts shape_view f.names f.shapes.items e

pub row_of-view : (f : Fields) → length f.names ≡ length f.shapes.items → row_of_fields (fields_view f) ≡ shapes_of (map shape_view f.shapes.items)
row_of-view f e = ap shapes_of (seconds shape_view f.names f.shapes.items e)

pub variant_names-view : (v : Variants) → length v.names ≡ length v.shapes.items → variant_names (variants_view v) ≡ v.names
variant_names-view v e = firsts variant_shape_view v.names v.shapes.items e

pub row_of_variants-view : (v : Variants) → length v.names ≡ length v.shapes.items → row_of_variants (variants_view v) ≡ payloads_of (map variant_shape_view v.shapes.items)
row_of_variants-view v e = ap payloads_of (seconds variant_shape_view v.names v.shapes.items e)

pub ruleset views = (names_of-view, row_of-view, variant_names-view, row_of_variants-view)

-- one more field was read
pub field_step : (v : Version) (xs : List Value) (i : ℕ) (x : Value) (read : List (List ℕ × spec.Shape)) (name : List ℕ) (a : spec.Shape) → i < length xs → x ≡ get_or xs i x
    → named_shape_in v (view x) ≡ Some (name, a)
    → after read (fields_from v (items_view (drop i xs))) ≡ after (read ++ (name, a) ∷ []) (fields_from v (items_view (drop (i + 1) xs)))
field_step v xs i x read name a h e found =
    rw (items_at xs i x h e, found) (after-push read (name, a) (fields_from v (items_view (drop (i + 1) xs))))

-- one more variant was read
pub variant_step : (v : Version) (xs : List Value) (i : ℕ) (x : Value) (read : List (List ℕ × spec.PayloadShape)) (name : List ℕ) (p : spec.PayloadShape) → i < length xs → x ≡ get_or xs i x
    → variant_in v (view x) ≡ Some (name, p)
    → after read (variants_from v (items_view (drop i xs))) ≡ after (read ++ (name, p) ∷ []) (variants_from v (items_view (drop (i + 1) xs)))
variant_step v xs i x read name p h e found =
    rw (items_at xs i x h e, found) (after-push read (name, p) (variants_from v (items_view (drop (i + 1) xs))))
