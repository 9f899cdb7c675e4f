-- What a command does.
use Rattle.std.specs.Prelude.{ℕ, ◌≡◌, ◌<◌, ◌≤◌, List, [], ◌∷◌, length, take, Option, Some, None, codes}
use Rattle.byte_streams.specs.Outside.{with_front, with_more}
use Rattle.data_core.specs.Outcome.{Outcome}
use Rattle.shape.specs.Shape.{Data}
use Rattle.document.specs.Document.{Document}
use Rattle.capture.specs.First.{first}
use Rattle.answer.specs.Line.{line}
use Rattle.capture.specs.Status.{status_of}
use Rattle.capture.specs.declared.status.Status.{Status}
use Rattle.capture.specs.declared.status.Status.TheVariants.{Usage, BadDocument, ReadFault, TooLong}

-- the command line `read`
abbrev pub IsCommand : List (List ℕ) → Type 0
IsCommand words = words ≡ codes "read" ∷ []

-- the most bytes that a stream may have
abbrev pub most_bytes : ℕ
most_bytes = 16_777_216

-- more bytes than this, or at most so many, were taken from a stream, by what is left of it
abbrev pub TookMore : ℕ → Option (List ℕ) → Option (List ℕ) → Type 0
TookMore n old new = (taken : List ℕ) × (old ≡ with_front taken new) × (n < length taken)

abbrev pub TookAtMost : ℕ → Option (List ℕ) → Option (List ℕ) → Type 0
TookAtMost n old new = (taken : List ℕ) × (old ≡ with_front taken new) × (length taken ≤ n)

-- what is made of a document
abbrev pub outcome_of : Document → Outcome Data
outcome_of d = first d.shape d.input

-- the line that answers a document
abbrev pub line_of : Document → List ℕ
line_of d = line d.shape (outcome_of d)

-- the sink took the whole line of a document's answer, and the status is that of its outcome
abbrev pub IsAnswer : Status → Document → Option (List ℕ) → Option (List ℕ) → Type 0
IsAnswer status d old new = (status ≡ status_of (outcome_of d)) × (new ≡ with_more old (line_of d))

-- the sink took a front of these bytes
abbrev pub TookFront : List ℕ → Option (List ℕ) → Option (List ℕ) → Type 0
TookFront bytes old new = (n : ℕ) × (new ≡ with_more old (take n bytes))

-- a document is answered, and bytes that are none are refused
abbrev pub Concludes : Option Document → Status → Option (List ℕ) → Option (List ℕ) → Type 0
Concludes None status old new = status ≡ BadDocument
Concludes (Some d) status old new = IsAnswer status d old new

-- the statuses that a whole stream may be replied to with
abbrev pub IsReply : Status → Type 0
IsReply Usage = ⊥
IsReply ReadFault = ⊥
IsReply TooLong = ⊥
IsReply status = Unit {0}
