-- Pairs that are at hand, as the entries of a map or the elements of a sequence.
use Rattle.std.specs.Prelude.{ℕ, ◌+◌, ◌==◌, if◌then◌else◌, true, List, [], ◌∷◌, length, Option, Some, None, option_map}
use Rattle.data_core.specs.declared.fault.Fault.{Fault}
use Rattle.data_core.specs.declared.fault.Fault.TheVariants.{InvalidLength}
use Rattle.data_core.specs.Ask.{Ask, seq, tuple}
use Rattle.data_core.specs.Source.{Source, source, Offer, elements, entries, refused, Sources, end, more, Entries, no_entries, entry}
use Rattle.data_core.specs.Table.{Table}
use Rattle.data_items.specs.Waiting.{left_of, taken_of}
use Rattle.data_items.specs.declared.waiting.Waiting.{Waiting}

-- a pair is a sequence of its two parts, and a tuple of no other length
abbrev pub pair_offer : Sources → Ask → Offer
pair_offer parts (tuple n) = if n == 2 then elements true parts else refused (InvalidLength 2)
pair_offer parts a = elements true parts

-- pairs are a map, and where a sequence or a tuple is asked for a sequence of pairs
abbrev pub pairs_offer : Sources → Entries → Ask → Offer
pairs_offer ss es seq = elements true ss
pairs_offer ss es (tuple n) = elements true ss
pairs_offer ss es a = entries true es

-- up to two parts that are left
abbrev pub parts_of : {D : Type 0} → (D → Source) → Option D → Option D → Sources
parts_of sources None None = end
parts_of sources None (Some d) = more (sources d) end
parts_of sources (Some d) None = more (sources d) end
parts_of sources (Some d) (Some e) = more (sources d) (more (sources e) end)

-- an end is refused where something is left: the length of all
abbrev pub left_over : {T : Type 0} → ℕ → List T → Option Fault
left_over taken [] = None
left_over taken (x ∷ xs) = Some (InvalidLength (taken + length (x ∷ xs)))

module _ {D : Type 0} (sources : D → Source) where
  abbrev pub pair_of : D → D → Source
  pair_of first second = source (pair_offer (parts_of sources (Some first) (Some second)))

  abbrev pub pair_sources : List (D × D) → Sources
  pair_sources [] = end
  pair_sources (p ∷ ps) = more (pair_of p.0 p.1) (pair_sources ps)

  abbrev pub pair_entries : List (D × D) → Entries
  pair_entries [] = no_entries
  pair_entries (p ∷ ps) = entry (sources p.0) (sources p.1) (pair_entries ps)

  abbrev pub pairs_source : List (D × D) → Source
  pairs_source ps = source (pairs_offer (pair_sources ps) (pair_entries ps))

  -- the entries of pairs under way, and the value that waits; they tell how many are left
  abbrev pub pairs_table : Waiting (D × D) → Option D → Table
  pairs_table pairs value = record {
    left = pair_entries (left_of pairs);
    taken = taken_of pairs;
    waiting = option_map sources value;
    checks = true;
    tells = true;
  }
