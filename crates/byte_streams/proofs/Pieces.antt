-- Pieces that are taken from the front of a list.
use Rattle.std.proofs.Common.{◌≡◌, sym, ap, subst, ℕ, ◌+◌, ◌≤◌, List, ◌++◌, length, take, drop, arith}
use Rattle.std.proofs.lemmas.List.{take-append-drop, drop-drop, length-take, length-drop}
use Rattle.std.proofs.Math.Seq.{take-append_seam}

-- a piece that was copied to the front of a room is what is gone from the list
pub copied_to_front : (bytes copied room : List ℕ) (at n : ℕ) → at + n ≤ length bytes → copied ≡ take n (drop at bytes)
    → drop at bytes ≡ take n (copied ++ room) ++ drop (at + n) bytes
copied_to_front bytes copied room at n h e =
    let len : length copied ≡ n = omega (arith, ap length e, length-take n (drop at bytes), length-drop at bytes) in
    let front = subst (λ k. take k (copied ++ room) ≡ copied) len (take-append_seam copied room) in
    rw (front, e, ← drop-drop n at bytes) (sym (take-append-drop n (drop at bytes)))
