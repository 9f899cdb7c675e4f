-- The shapes of a row, and the payloads of variants, by their places.
use Rattle.std.proofs.Common.{◌≡◌, ℕ, zero, suc, ◌<◌, ◌≤◌, List, [], ◌∷◌, length, get_or, Some, None, map, refl, arith}
use Rattle.shape.specs.Shape.{shapes_of, payloads_of}
use Rattle.shape.specs.View.{shape_view, variant_shape_view}
use Rattle.shape.specs.declared.shapes.Shape.{Shape}
use Rattle.shape.specs.declared.shapes.VariantShape.{VariantShape}
use Rattle.answer.specs.Line.{shape_at, payload_at}

pub shape_at-within : (all : List Shape) (i : ℕ) (a : Shape) → i < length all → shape_at (shapes_of (map shape_view all)) i ≡ Some (shape_view (get_or all i a))
shape_at-within [] i a h = absurd (omega arith)
shape_at-within (b ∷ rest) zero a h = refl
shape_at-within (b ∷ rest) (suc i) a h = shape_at-within rest i a (omega arith)

pub shape_at-past : (all : List Shape) (i : ℕ) → length all ≤ i → shape_at (shapes_of (map shape_view all)) i ≡ None
shape_at-past [] i h = refl
shape_at-past (b ∷ rest) zero h = absurd (omega arith)
shape_at-past (b ∷ rest) (suc i) h = shape_at-past rest i (omega arith)

pub payload_at-within : (all : List VariantShape) (i : ℕ) (p : VariantShape) → i < length all → payload_at (payloads_of (map variant_shape_view all)) i ≡ Some (variant_shape_view (get_or all i p))
payload_at-within [] i p h = absurd (omega arith)
payload_at-within (q ∷ rest) zero p h = refl
payload_at-within (q ∷ rest) (suc i) p h = payload_at-within rest i p (omega arith)

pub payload_at-past : (all : List VariantShape) (i : ℕ) → length all ≤ i → payload_at (payloads_of (map variant_shape_view all)) i ≡ None
payload_at-past [] i h = refl
payload_at-past (q ∷ rest) zero h = absurd (omega arith)
payload_at-past (q ∷ rest) (suc i) h = payload_at-past rest i (omega arith)

pub ruleset payloads = (payload_at-within, payload_at-past)

pub ruleset rows = (shape_at-within, shape_at-past)
