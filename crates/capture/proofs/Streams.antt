-- Streams that are read and written in pieces.
use Rattle.std.proofs.Common.{◌≡◌, ◌∙◌, ℕ, ◌+◌, ◌-◌, List, [], ◌++◌, length, take, drop, Option, Some, None, refl, ap, sym, append_assoc, append-nil, length-drop}
use Rattle.std.proofs.Math.Seq.{take-add, take-length}
use Rattle.byte_streams.specs.Outside.{with_front, with_more}

pub with_front-nothing : (left : Option (List ℕ)) → with_front [] left ≡ left
with_front-nothing None = refl
with_front-nothing (Some rest) = refl

pub with_front-front : (first second : List ℕ) (left : Option (List ℕ)) → with_front first (with_front second left) ≡ with_front (first ++ second) left
with_front-front first second None = refl
with_front-front first second (Some rest) = ap Some (sym (append_assoc first second rest))

pub with_more-nothing : (taken : Option (List ℕ)) → with_more taken [] ≡ taken
with_more-nothing None = refl
with_more-nothing (Some bytes) = ap Some (append-nil bytes)

with_more-more : (taken : Option (List ℕ)) (first second : List ℕ) → with_more (with_more taken first) second ≡ with_more taken (first ++ second)
with_more-more None first second = refl
with_more-more (Some bytes) first second = ap Some (append_assoc bytes first second)

-- a piece that was taken behind the first n bytes
pub with_more-take : (taken : Option (List ℕ)) (bytes : List ℕ) (n m : ℕ) → with_more (with_more taken (take n bytes)) (take m (drop n bytes)) ≡ with_more taken (take (n + m) bytes)
with_more-take taken bytes n m = with_more-more taken (take n bytes) (take m (drop n bytes)) ∙ ap (with_more taken) (sym (take-add n m bytes))

-- a slice up to the end is what is left
pub tail : (bytes : List ℕ) (at : ℕ) → take (length bytes - at) (drop at bytes) ≡ drop at bytes
tail bytes at = rw (← length-drop at bytes) (take-length (drop at bytes))
