-- An integer that is made of a number, where the number is in its range.
use Rattle.std.specs.Prelude.{◌≡◌, ℤ, true, false, Option, Some, None}
use Rattle.scalar_seeds.specs.Scalars.{within}

abbrev pub IsMade : {N : Type 0} → ℤ → ℤ → (N → ℤ) → ℤ → Option N → Type 0
IsMade least greatest number z (Some n) = (number n ≡ z) × (within least greatest z ≡ true)
IsMade least greatest number z None = within least greatest z ≡ false
