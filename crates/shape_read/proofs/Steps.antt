-- A reader's steps as parts of the whole that it reads.
use Rattle.std.proofs.Common.{◌≡◌, ◌∙◌, ℕ, suc, ◌+◌, ◌<◌, length, get_or, drop, add-one, arith, Bool, List, [], ◌∷◌, ◌++◌, append_assoc, map, Option, Some, None, Ok, Err, ap, sym, refl}
use Rattle.std.proofs.Math.Seq.{drop-cons}
use Rattle.std.proofs.lemmas.List.{map-append}
use Rattle.data_core.specs.declared.fault.Fault.{Fault}
use Rattle.data_core.specs.declared.fault.Fault.TheVariants.{InvalidLength}
use Rattle.data_core.specs.declared.path.Segment.{Segment}
use Rattle.data_core.specs.declared.path.Segment.TheVariants.{Seq}
use Rattle.data_core.specs.Source.{Source, Sources, end, more}
use Rattle.data_core.specs.Sequence.{Sequence, rest_of, place_after, Ends}
use Rattle.data_core.specs.Tracking.{Refusal, clear}
use Rattle.data_core.specs.Outcome.{Outcome, given, refused, under, and_then, IsRefused}
use Rattle.data_core.proofs.Refusals.{Carries, IsRefused-here}
use Rattle.shape.specs.Shape.{Data}
use Rattle.data_std.specs.Ignored.{at_key}
use Rattle.shape_read.specs.Parts.{each, row_of, unless}
use Rattle.shape_read.specs.First.{first, both, pair_of}
use Rattle.shape.specs.declared.data.Data as code
use Rattle.shape.specs.declared.shapes.Shape.{Shape}
use Rattle.shape.specs.View.{shape_view, data_view}
use Rattle.shape_read.specs.Readers.{readers_of}
use Rattle.shape_read.specs.Steps.{next_of, one_each, beyond, row_taken}

-- what was read before an outcome

abbrev pub front : List code.Data → Outcome (List Data) → Outcome (List Data)
front ds o = and_then o (λ rest. given (map data_view ds ++ rest))

pub front_push : (ds : List code.Data) (d : code.Data) (o : Outcome (List Data)) → front (ds ++ d ∷ []) o ≡ front ds (and_then o (λ rest. given (data_view d ∷ rest)))
front_push ds d (given rest) = ap given (rw (map-append data_view ds (d ∷ []), append_assoc) refl)
front_push ds d (refused f path) = refl

-- an element of an outcome

Carries-optional : {B : Type 0} (o : Outcome Data) (next : Data → Outcome B) → Carries (and_then o (λ d. given (Some d))) (and_then o next)
Carries-optional (given d) next f path e = cc
Carries-optional (refused g q) next f path e = cc

and_then-optional : {B : Type 0} (o : Outcome Data) (next : Data → Outcome B) (d : Data) → and_then o (λ d. given (Some d)) ≡ given (Some d) → and_then o next ≡ next d
and_then-optional (given e) next d h = let same : e ≡ d = cc in ap next same
and_then-optional (refused g q) next d h = cc

optional-none : (o : Outcome Data) → and_then o (λ d. given (Some d)) ≡ given None → ⊥
optional-none (given d) e = absurd (cc)
optional-none (refused f path) e = absurd (cc)

-- every element

pub Carries-each : (read : Source → Outcome Data) (i : ℕ) (ss : Sources) (ds : List code.Data) → Carries (next_of read i ss) (front ds (each read i ss))
Carries-each read i end ds f path e = cc
Carries-each read i (more s ss) ds f path e =
    rw (Carries-optional (under (Seq i) (read s)) (λ d. and_then (each read (i + 1) ss) (λ rest. given (d ∷ rest))) f path e) refl

pub each_step : (read : Source → Outcome Data) (i : ℕ) (ss : Sources) (ds : List code.Data) (d : code.Data) → next_of read i ss ≡ given (Some (data_view d))
    → front ds (each read i ss) ≡ front (ds ++ d ∷ []) (each read (place_after ss i) (rest_of ss))
each_step read i end ds d e = cc
each_step read i (more s ss) ds d e =
    ap (front ds) (and_then-optional (under (Seq i) (read s)) (λ d. and_then (each read (i + 1) ss) (λ rest. given (d ∷ rest))) (data_view d) e) ∙ sym (front_push ds d (each read (i + 1) ss))

pub each_end : (read : Source → Outcome Data) (i : ℕ) (ss : Sources) → next_of read i ss ≡ given None → each read i ss ≡ given []
each_end read i end e = refl
each_end read i (more s ss) e = absurd (optional-none (under (Seq i) (read s)) e)

-- an element for each reader

pub Carries-one_each : (read : Source → Outcome Data) (reads : List (Source → Outcome Data)) (i : ℕ) (ss : Sources) (ds : List code.Data)
    → Carries (next_of read i ss) (front ds (one_each (read ∷ reads) i ss))
Carries-one_each read reads i end ds f path e = cc
Carries-one_each read reads i (more s ss) ds f path e =
    rw (Carries-optional (under (Seq i) (read s)) (λ d. and_then (one_each reads (i + 1) ss) (λ rest. given (d ∷ rest))) f path e) refl

pub one_each_step : (read : Source → Outcome Data) (reads : List (Source → Outcome Data)) (i : ℕ) (ss : Sources) (ds : List code.Data) (d : code.Data) → next_of read i ss ≡ given (Some (data_view d))
    → front ds (one_each (read ∷ reads) i ss) ≡ front (ds ++ d ∷ []) (one_each reads (place_after ss i) (rest_of ss))
one_each_step read reads i end ds d e = cc
one_each_step read reads i (more s ss) ds d e =
    ap (front ds) (and_then-optional (under (Seq i) (read s)) (λ d. and_then (one_each reads (i + 1) ss) (λ rest. given (d ∷ rest))) (data_view d) e) ∙ sym (front_push ds d (one_each reads (i + 1) ss))

pub one_each_short : (read : Source → Outcome Data) (reads : List (Source → Outcome Data)) (i : ℕ) (ss : Sources) → next_of read i ss ≡ given None → one_each (read ∷ reads) i ss ≡ refused (InvalidLength i) []
one_each_short read reads i end e = refl
one_each_short read reads i (more s ss) e = absurd (optional-none (under (Seq i) (read s)) e)

pub place_step : (read : Source → Outcome Data) (i : ℕ) (ss : Sources) (d : Data) → next_of read i ss ≡ given (Some d) → place_after ss i ≡ i + 1
place_step read i end d e = cc
place_step read i (more s ss) d e = refl

pub beyond_step : (read : Source → Outcome Data) (reads : List (Source → Outcome Data)) (i : ℕ) (ss : Sources) (d : Data) → next_of read i ss ≡ given (Some d)
    → beyond (read ∷ reads) ss ≡ beyond reads (rest_of ss)
beyond_step read reads i end d e = cc
beyond_step read reads i (more s ss) d e = refl

same_sequence : (ss tt : Sources) (i j : ℕ) (b c t u : Bool) → ss ≡ tt → i ≡ j → b ≡ c → t ≡ u
    → (let one : Sequence = record { left = ss; taken = i; checks = b; tells = t } in let other : Sequence = record { left = tt; taken = j; checks = c; tells = u } in one ≡ other)
same_sequence ss tt i j b c t u e f g h = rw (e, f, g, h) refl

-- an element was taken for each reader
pub row_done : (reads : List (Source → Outcome Data)) (begun now : Sequence) → now.left ≡ beyond reads begun.left → now.taken ≡ length reads → now.checks ≡ begun.checks → now.tells ≡ begun.tells
    → now ≡ row_taken reads begun
row_done reads begun now left taken checks tells =
    same_sequence now.left (beyond reads begun.left) now.taken (length reads) now.checks begun.checks now.tells begun.tells left taken checks tells

-- the next reader and those after it
pub readers_at : (shapes : List Shape) (i : ℕ) (a : Shape) → i < length shapes → a ≡ get_or shapes i a
    → readers_of (drop i shapes) ≡ first (shape_view a) ∷ readers_of (drop (i + 1) shapes)
readers_at shapes i a h e =
    rw (add-one, drop-cons shapes i a h) (ap (λ b. first (shape_view b) ∷ readers_of (drop (suc i) shapes)) (sym e))

-- a row, and what becomes of the elements that are left

module _ (rest : ℕ → Sources → Outcome (Unit {0})) where
  abbrev kept : Outcome (Unit {0}) → List Data → Outcome (List Data)
  kept o ds = and_then o (λ u. given ds)

  kept_more : (d : Data) (o : Outcome (List Data)) (left : Outcome (Unit {0}))
      → and_then (and_then o (λ ds. kept left ds)) (λ ds. given (d ∷ ds)) ≡ and_then (and_then o (λ ds. given (d ∷ ds))) (λ ds. kept left ds)
  kept_more d (given ds) (given u) = refl
  kept_more d (given ds) (refused f path) = refl
  kept_more d (refused f path) left = refl

  row_split_under : (o : Outcome Data) (reads : List (Source → Outcome Data)) (i j : ℕ) (ss : Sources)
      → row_of rest reads (i + 1) ss ≡ and_then (one_each reads (i + 1) ss) (λ ds. kept (rest j (beyond reads ss)) ds)
      → and_then o (λ d. and_then (row_of rest reads (i + 1) ss) (λ ds. given (d ∷ ds))) ≡ and_then (and_then o (λ d. and_then (one_each reads (i + 1) ss) (λ ds. given (d ∷ ds)))) (λ ds. kept (rest j (beyond reads ss)) ds)
  row_split_under (given d) reads i j ss h =
      ap (λ p. and_then p (λ ds. given (d ∷ ds))) h ∙ kept_more d (one_each reads (i + 1) ss) (rest j (beyond reads ss))
  row_split_under (refused f path) reads i j ss h = refl

  row_split : (reads : List (Source → Outcome Data)) (i j : ℕ) (ss : Sources) → j ≡ i + length reads
      → row_of rest reads i ss ≡ and_then (one_each reads i ss) (λ ds. kept (rest j (beyond reads ss)) ds)
  row_split [] i j ss e = let same : i ≡ j = omega arith in ap (λ k. kept (rest k ss) []) same
  row_split (read ∷ reads) i j end e = refl
  row_split (read ∷ reads) i j (more s ss) e = row_split_under (under (Seq i) (read s)) reads i j ss (row_split reads (i + 1) j ss (omega (arith, e)))

  pub Carries-row : (reads : List (Source → Outcome Data)) (ss : Sources) → Carries (one_each reads 0 ss) (row_of rest reads 0 ss)
  Carries-row reads ss f path e = rw (row_split reads 0 (length reads) ss (omega arith), e) refl

  pub Carries-rest : (reads : List (Source → Outcome Data)) (ss : Sources) (ds : List Data) → one_each reads 0 ss ≡ given ds
      → Carries (rest (length reads) (beyond reads ss)) (row_of rest reads 0 ss)
  Carries-rest reads ss ds h f path e = rw (row_split reads 0 (length reads) ss (omega arith), h, e) refl

  pub row_given : (reads : List (Source → Outcome Data)) (ss : Sources) (ds : List Data) → one_each reads 0 ss ≡ given ds
      → rest (length reads) (beyond reads ss) ≡ given tt → row_of rest reads 0 ss ≡ given ds
  row_given reads ss ds h e = rw (row_split reads 0 (length reads) ss (omega arith), h, e) refl

-- the end of a tuple

pub unless-accepted : {E : Type 0} (fault : E → Option Fault) (u : Unit {0}) (o : Option Fault) → Ends fault (Ok u) o → unless o ≡ given tt
unless-accepted fault u None h = refl
unless-accepted fault u (Some f) h = absurd h

pub unless-refused : {E : Type 0} (fault : E → Option Fault) (tracks : Bool) (e : E) (o : Option Fault) (old new : Refusal)
    → (old ≡ clear → new ≡ clear) → Ends fault (Err e) o → IsRefused tracks (fault e) (unless o) old new
unless-refused fault tracks e None old new clears h = rw h tt
unless-refused fault tracks e (Some f) old new clears h = IsRefused-here tracks (fault e) f (unless (Some f)) old new h refl clears

-- an entry

pub Carries-value : (segment : Segment) (key value : Outcome Data) (k : Data) → at_key segment key ≡ given k → Carries (under segment value) (pair_of segment key value)
Carries-value segment key value k h f path e = rw (h, e) refl

pub pair_given : (segment : Segment) (key value : Outcome Data) (k v : Data) → at_key segment key ≡ given k → under segment value ≡ given v → pair_of segment key value ≡ both k v
pair_given segment key value k v h e = rw (h, e) refl
