-- A variant that was chosen by its name, with its payload.
use Rattle.std.proofs.Common.{◌≡◌, ℕ, ◌<◌, List, length, get_or, refl}
use Rattle.data_core.specs.declared.path.Segment.{Segment}
use Rattle.data_core.specs.Source.{Offer}
use Rattle.data_core.specs.Wanted.{Wanted}
use Rattle.data_core.specs.Outcome.{Outcome, given, under, and_then}
use Rattle.shape.specs.Shape.{enum_data}
use Rattle.shape_read.specs.Variants.{with_payload}
use Rattle.shape_read.specs.First.{visited_payload}
use Rattle.shape.specs.declared.shapes.VariantShape.{VariantShape}
use Rattle.shape.specs.View.{variant_shape_view}
use Rattle.shape_read.specs.Readers.{variants_at}
use Rattle.shape_read.proofs.Places.{variant_at}

pub chosen : (names : List (List ℕ)) (all : List VariantShape) (segment : Segment) (offered : Wanted → Offer) (place : Outcome ℕ) (i : ℕ) (a : VariantShape)
    → place ≡ given i → i < length (variants_at names all) → a ≡ get_or all i a
    → and_then place (with_payload (variants_at names all) segment offered) ≡ and_then (under segment (visited_payload (variant_shape_view a) offered)) (λ d. given (enum_data i d))
chosen names all segment offered place i a e h is = rw (e, variant_at names all i a h is) refl
