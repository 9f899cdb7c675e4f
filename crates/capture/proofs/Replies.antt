-- What a reply says of a stream.
use Rattle.std.proofs.Common.{◌≡◌, ℕ, List, [], ◌∷◌, ◌++◌, length, Option, Some, None, option_map, slice_get, unwrap_or, refl, ap, sym, subst, arith, append-nil}
use Rattle.std.specs.Option.{IfSome, IsSomeAnd}
use Rattle.byte_streams.specs.Outside.{with_front, with_more, IsAtEnd}
use Rattle.data_core.specs.Outcome.{Outcome, given, refused}
use Rattle.shape.specs.Shape.{Data}
use Rattle.document.specs.Document.{Document}
use Rattle.capture.specs.Run.{outcome_of, line_of, IsReply, IsAnswer, Concludes, TookFront}
use Rattle.capture.specs.Response.{response_of}
use Rattle.capture.specs.Status.{status_of, OnAnswer, OnSilence}
use Rattle.capture.specs.declared.status.Status.{Status}
use Rattle.capture.specs.declared.status.Status.TheVariants.{Accepted, Refused, Usage, BadDocument, ReadFault, WriteFault, Memory, TooLong}

-- a list of one word
pub only_word : (words : List (List ℕ)) (word : List ℕ) → length words ≡ 1 → Some word ≡ slice_get words 0 → words ≡ word ∷ []
only_word [] word one first = absurd (omega arith)
only_word (w ∷ []) word one first = cc
only_word (w ∷ x ∷ words) word one first = absurd (omega arith)

-- the document that an answer was made of
pub answered_document : (found : Option Document) (status : Status) (text : List ℕ) → ◌≡◌ {A = Option (Status × List ℕ)} (Some (status, text)) (option_map response_of found)
    → (d : Document) × (found ≡ Some d) × (status ≡ status_of (outcome_of d)) × (text ≡ line_of d)
answered_document None status text e = absurd (cc)
answered_document (Some d) status text e =
    let same : ◌≡◌ {A = Status × List ℕ} (status, text) (response_of d) = ap (λ (o : Option (Status × List ℕ)). unwrap_or o (status, text)) e in
    (d, refl, ap (λ (p : Status × List ℕ). p.0) same, ap (λ (p : Status × List ℕ). p.1) same)

pub status_replies : (o : Outcome Data) → IsReply (status_of o)
status_replies (given d) = tt
status_replies (refused f path) = tt

pub status_bad : (o : Outcome Data) → status_of o ≡ BadDocument → ⊥
status_bad (given d) e = cc
status_bad (refused f path) e = cc

pub status_fault : (o : Outcome Data) → status_of o ≡ WriteFault → ⊥
status_fault (given d) e = cc
status_fault (refused f path) e = cc

pub status_answers : (o : Outcome Data) (P : Type 0) → P → OnAnswer (status_of o) P
status_answers (given d) P p = p
status_answers (refused f path) P p = p

pub status_speaks : (o : Outcome Data) (P : Type 0) → OnSilence (status_of o) P
status_speaks (given d) P = tt
status_speaks (refused f path) P = tt

-- what holds of the bytes that were read to the end holds of the stream, where it is told
pub whole_stream : (old new : Option (List ℕ)) (bytes : List ℕ) (P : List ℕ → Type 0) → old ≡ with_front bytes new → IsAtEnd new → P bytes → IfSome old P
whole_stream old None bytes P e end p = rw e tt
whole_stream old (Some rest) bytes P e end p =
    let same : bytes ++ rest ≡ bytes = rw end (append-nil bytes) in
    rw e (subst P (sym same) p)

-- what an answer says implies more
pub answers_more : (status : Status) (P Q : Type 0) → (P → Q) → OnAnswer status P → OnAnswer status Q
answers_more Accepted P Q more p = more p
answers_more Refused P Q more p = more p
answers_more Usage P Q more p = tt
answers_more BadDocument P Q more p = tt
answers_more ReadFault P Q more p = tt
answers_more WriteFault P Q more p = tt
answers_more Memory P Q more p = tt
answers_more TooLong P Q more p = tt

-- a whole line that was taken answers the document
pub line_answers : (found : Option Document) (status : Status) (text : List ℕ) (old new : Option (List ℕ)) → ◌≡◌ {A = Option (Status × List ℕ)} (Some (status, text)) (option_map response_of found)
    → new ≡ with_more old text → IsSomeAnd found (λ d. IsAnswer status d old new)
line_answers found status text old new e taken =
    let d = answered_document found status text e in
    rw d.1 (d.2, rw d.3 at taken)

pub line_concludes : (found : Option Document) (status : Status) (text : List ℕ) (old new : Option (List ℕ)) → ◌≡◌ {A = Option (Status × List ℕ)} (Some (status, text)) (option_map response_of found)
    → new ≡ with_more old text → Concludes found status old new
line_concludes found status text old new e taken =
    let d = answered_document found status text e in
    rw d.1 (d.2, rw d.3 at taken)

-- a front of the line
pub front_of_line : (found : Option Document) (status : Status) (text : List ℕ) (old new : Option (List ℕ)) → ◌≡◌ {A = Option (Status × List ℕ)} (Some (status, text)) (option_map response_of found)
    → TookFront text old new → IsSomeAnd found (λ d. TookFront (line_of d) old new)
front_of_line found status text old new e front =
    let d = answered_document found status text e in
    rw d.1 (front.0, rw d.3 at front.1)
