-- Items as the elements of a sequence.
use Rattle.std.proofs.Common.{◌≡◌, ℕ, ◌+◌, ◌<◌, true, List, [], ◌∷◌, Some, length, refl, ap, arith}
use Rattle.data_core.specs.declared.fault.Fault.TheVariants.{InvalidLength}
use Rattle.data_core.specs.Source.{Source, count, count_entries}
use Rattle.data_core.specs.Sequence.{surplus}
use Rattle.data_core.specs.Table.{surplus_entries}
use Rattle.data_items.specs.Items.{sources_of}
use Rattle.data_items.specs.PairSources.{left_over, pair_sources, pair_entries}

pub count_sources : {D : Type 0} (source : D → Source) (ds : List D) → count (sources_of source ds) ≡ length ds
count_sources source [] = refl
count_sources source (d ∷ ds) = let rest = count_sources source ds in omega (arith, rest)

pub surplus_items : {D : Type 0} (source : D → Source) (taken : ℕ) (ds : List D) → surplus true taken (sources_of source ds) ≡ left_over taken ds
surplus_items source taken [] = refl
surplus_items source taken (d ∷ ds) = ap (λ n. Some (InvalidLength (taken + n))) (count_sources source (d ∷ ds))

pub left_over-some : {T : Type 0} (taken : ℕ) (xs : List T) → 0 < length xs → left_over taken xs ≡ Some (InvalidLength (taken + length xs))
left_over-some taken [] h = absurd (omega arith)
left_over-some taken (x ∷ xs) h = refl

-- pairs as elements and as entries
pub count_pairs : {D : Type 0} (source : D → Source) (ps : List (D × D)) → count (pair_sources source ps) ≡ length ps
count_pairs source [] = refl
count_pairs source (p ∷ ps) = let rest = count_pairs source ps in omega (arith, rest)

pub surplus_pairs : {D : Type 0} (source : D → Source) (taken : ℕ) (ps : List (D × D)) → surplus true taken (pair_sources source ps) ≡ left_over taken ps
surplus_pairs source taken [] = refl
surplus_pairs source taken (p ∷ ps) = ap (λ n. Some (InvalidLength (taken + n))) (count_pairs source (p ∷ ps))

pub count_pair_entries : {D : Type 0} (source : D → Source) (ps : List (D × D)) → count_entries (pair_entries source ps) ≡ length ps
count_pair_entries source [] = refl
count_pair_entries source (p ∷ ps) = let rest = count_pair_entries source ps in omega (arith, rest)

pub surplus_pair_entries : {D : Type 0} (source : D → Source) (taken : ℕ) (ps : List (D × D)) → surplus_entries true taken (pair_entries source ps) ≡ left_over taken ps
surplus_pair_entries source taken [] = refl
surplus_pair_entries source taken (p ∷ ps) = ap (λ n. Some (InvalidLength (taken + n))) (count_pair_entries source (p ∷ ps))
