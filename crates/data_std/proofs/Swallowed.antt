-- What a loop of reads leaves of a clear track.
use Rattle.std.proofs.Common.{◌≡◌, ℕ, ◌+◌, Some, None, inl, inr, refl}
use Rattle.data_core.specs.Ask.{Ask}
use Rattle.data_core.specs.Source.{Source, Sources, end, more, Entries, no_entries, entry}
use Rattle.data_core.specs.Sequence.{rest_of, place_after, IsNext, LeavesNext}
use Rattle.data_core.specs.Table.{rest_of_entries}
use Rattle.data_core.specs.Tracking.{Refusal, clear, held, marked, Stays}
use Rattle.data_core.specs.Outcome.{Outcome, given}
use Rattle.data_std.specs.Entry.{LeavesEntry}
use Rattle.data_std.specs.Pairs.{NextReads}
use Rattle.data_std.specs.Swallowed.{ThenLeaves, LeavesThen, EachLeaves, EntriesLeave}

-- a read after others leaves what it does of a clear track, and a path that is held
pub then_leaves : (later : Refusal → Type 0) (mid new : Refusal) → (mid ≡ clear → later new) → Stays mid new → ThenLeaves mid later new
then_leaves later clear new clears stays = clears refl
then_leaves later (held p) new clears (inl c) = absurd (cc)
then_leaves later (held p) new clears (inr h) = h
then_leaves later marked new clears (inl c) = absurd (cc)
then_leaves later marked new clears (inr (inl e)) = e
then_leaves later marked new clears (inr (inr e)) = e

-- a part in the midst of others: what all of them leave, by what it and the later ones leave
step_leaves : (first later : Refusal → Type 0) (old mid now : Refusal) → (old ≡ clear → first mid) → Stays old mid → ThenLeaves mid later now → ThenLeaves old (LeavesThen first later) now
step_leaves first later clear mid now clears stays h = (mid, clears refl, h)
step_leaves first later (held p) mid now clears (inl c) h = absurd (cc)
step_leaves first later (held p) mid now clears (inr (inl e)) h = rw e at h
step_leaves first later (held p) mid now clears (inr (inr e)) h = inr (rw e at h)
step_leaves first later marked mid now clears (inl c) h = absurd (cc)
step_leaves first later marked mid now clears (inr (inl e)) h = rw e at h
step_leaves first later marked mid now clears (inr (inr e)) h = rw e at h

pub EachLeaves-more : {T : Type 0} (reads : Source → Outcome T → Type 0) (leaves : Source → Refusal → Type 0) (i : ℕ) (ss : Sources) (x : T) (old mid now : Refusal)
    → IsNext reads i ss (given (Some x)) → (old ≡ clear → LeavesNext leaves i ss mid) → Stays old mid
    → ThenLeaves mid (EachLeaves leaves (place_after ss i) (rest_of ss)) now → ThenLeaves old (EachLeaves leaves i ss) now
EachLeaves-more reads leaves i end x old mid now read clears stays h = absurd (cc)
EachLeaves-more reads leaves i (more s ss) x old mid now read clears stays h =
    step_leaves (LeavesNext leaves i (more s ss)) (EachLeaves leaves (i + 1) ss) old mid now clears stays h

pub EachLeaves-ends : {T : Type 0} (reads : Source → Outcome T → Type 0) (leaves : Source → Refusal → Type 0) (i : ℕ) (ss : Sources) (old new : Refusal)
    → IsNext reads i ss (given None) → (old ≡ clear → LeavesNext leaves i ss new) → Stays old new → ThenLeaves old (EachLeaves leaves i ss) new
EachLeaves-ends reads leaves i end old new read clears stays = then_leaves (EachLeaves leaves i end) old new clears stays
EachLeaves-ends reads leaves i (more s ss) old new read clears stays = absurd read

pub EntriesLeave-more : {K V : Type 0} (asks : Ask) (key : Source → Outcome K → Type 0) (value : Source → Outcome V → Type 0) (leaves : Source → Refusal → Type 0) (es : Entries) (both : K × V) (old mid now : Refusal)
    → NextReads asks key value es (given (Some both)) → (old ≡ clear → LeavesEntry asks leaves es mid) → Stays old mid
    → ThenLeaves mid (EntriesLeave asks leaves (rest_of_entries es)) now → ThenLeaves old (EntriesLeave asks leaves es) now
EntriesLeave-more asks key value leaves no_entries both old mid now read clears stays h = absurd (cc)
EntriesLeave-more asks key value leaves (entry k v es) both old mid now read clears stays h =
    step_leaves (LeavesEntry asks leaves (entry k v es)) (EntriesLeave asks leaves es) old mid now clears stays h

pub EntriesLeave-ends : {K V : Type 0} (asks : Ask) (key : Source → Outcome K → Type 0) (value : Source → Outcome V → Type 0) (leaves : Source → Refusal → Type 0) (es : Entries) (old new : Refusal)
    → NextReads asks key value es (given None) → (old ≡ clear → LeavesEntry asks leaves es new) → Stays old new → ThenLeaves old (EntriesLeave asks leaves es) new
EntriesLeave-ends asks key value leaves no_entries old new read clears stays = then_leaves (EntriesLeave asks leaves no_entries) old new clears stays
EntriesLeave-ends asks key value leaves (entry k v es) old new (inl fails) clears stays = absurd fails
EntriesLeave-ends asks key value leaves (entry k v es) old new (inr read) clears stays = absurd (cc)
