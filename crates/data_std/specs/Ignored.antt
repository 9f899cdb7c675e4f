-- What is read and dropped: nothing, or the first fault with the path to it.
use Rattle.std.specs.Prelude.{ℕ, ◌+◌, max, [], ◌∷◌, Option, Some, None}
use Rattle.data_core.specs.declared.path.Segment.{Segment}
use Rattle.data_core.specs.declared.path.Segment.TheVariants.{Seq}
use Rattle.data_core.specs.Ask.{ignored_any}
use Rattle.data_core.specs.Source.{Source, source, Offer, scalar, some_itself, some, elements, newtype_itself, newtype_struct, entries, variant_itself, variant, Sources, end, more, Entries, no_entries, entry}
use Rattle.data_core.specs.Source as offer
use Rattle.data_core.specs.Wanted.{newtype}
use Rattle.data_core.specs.Table.{Table, segment_of_key, value_taken}
use Rattle.data_core.specs.Choice.{segment_of_variant}
use Rattle.data_core.specs.Outcome.{Outcome, given, refused, under, bare, and_then}

-- the outcome of a key one level further out: a refusal's path is its entry's segment alone
abbrev pub at_key : {A : Type 0} → Segment → Outcome A → Outcome A
at_key segment (given a) = given a
at_key segment (refused f path) = refused f (segment ∷ [])

-- a key and then its value, both at the segment of their entry
abbrev pub ignored_pair : Segment → Outcome (Unit {0}) → Outcome (Unit {0}) → Outcome (Unit {0})
ignored_pair segment key value = and_then (at_key segment key) (λ u. under segment value)

abbrev mutual
  -- at this ask no source stands for its own inside, so each part is a smaller source
  pub ignored : Source → Outcome (Unit {0})
  ignored (source offers) = ignored_offer (offers ignored_any)

  -- a variant is its name and then its payload, as the inside of a newtype
  pub ignored_offer : Offer → Outcome (Unit {0})
  ignored_offer (scalar s) = given tt
  ignored_offer some_itself = given tt
  ignored_offer (some s) = ignored s
  ignored_offer (elements checks ss) = ignored_rest 0 ss
  ignored_offer newtype_itself = given tt
  ignored_offer (newtype_struct s) = ignored s
  ignored_offer (entries checks es) = ignored_entries es
  ignored_offer (variant_itself payload) = given tt
  ignored_offer (variant name payload) =
      and_then (bare (ignored name)) (λ u. under (segment_of_variant ignored_any name) (ignored_offer (payload newtype)))
  ignored_offer (offer.refused f) = refused f []

  -- each element in turn, from a place in the sequence on, up to the first fault
  pub ignored_rest : ℕ → Sources → Outcome (Unit {0})
  ignored_rest i end = given tt
  ignored_rest i (more s ss) = and_then (under (Seq i) (ignored s)) (λ u. ignored_rest (i + 1) ss)

  -- each entry in turn, its key and then its value, up to the first fault
  pub ignored_entries : Entries → Outcome (Unit {0})
  ignored_entries no_entries = given tt
  ignored_entries (entry k v es) =
      and_then (ignored_pair (segment_of_key ignored_any k) (ignored k) (ignored v)) (λ u. ignored_entries es)

-- where a part is refused, what is there then, and else what comes later
abbrev pub stopped : {S : Type 0} → Outcome (Unit {0}) → S → S → S
stopped (given u) here later = later
stopped (refused f path) here later = here

-- the elements that come after the first refused one
abbrev pub after_refused : Sources → Sources
after_refused end = end
after_refused (more s ss) = stopped (ignored s) ss (after_refused ss)

-- the entries that come after the first one with a refused key or value
abbrev pub after_refused_entry : Entries → Entries
after_refused_entry no_entries = no_entries
after_refused_entry (entry k v es) = stopped (ignored k) es (stopped (ignored v) es (after_refused_entry es))

-- the value that waits then: that of a refused key
abbrev pub waits_refused : Entries → Option Source
waits_refused no_entries = None
waits_refused (entry k v es) = stopped (ignored k) (Some v) (stopped (ignored v) None (waits_refused es))

-- after a key and its value were read and dropped: the value of a key that was refused waits still
abbrev pub pair_taken : Outcome (Unit {0}) → Table → Table
pair_taken (given u) t = value_taken t
pair_taken (refused f path) t = t

abbrev mutual
  -- how deep a source is that is read and dropped
  pub depth : Source → ℕ
  depth (source offers) = depth_of_offer (offers ignored_any) + 1

  pub depth_of_offer : Offer → ℕ
  depth_of_offer (scalar s) = 0
  depth_of_offer some_itself = 0
  depth_of_offer (some s) = depth s
  depth_of_offer (elements checks ss) = depth_of_all ss
  depth_of_offer newtype_itself = 0
  depth_of_offer (newtype_struct s) = depth s
  depth_of_offer (entries checks es) = depth_of_entries es
  depth_of_offer (variant_itself payload) = 0
  depth_of_offer (variant name payload) = max (depth name) (depth_of_offer (payload newtype))
  depth_of_offer (offer.refused f) = 0

  pub depth_of_all : Sources → ℕ
  depth_of_all end = 0
  depth_of_all (more s ss) = max (depth s) (depth_of_all ss)

  pub depth_of_entries : Entries → ℕ
  depth_of_entries no_entries = 0
  depth_of_entries (entry k v es) = max (max (depth k) (depth v)) (depth_of_entries es)

-- of the value that waits
abbrev pub depth_of_waiting : Option Source → ℕ
depth_of_waiting None = 0
depth_of_waiting (Some s) = depth s
