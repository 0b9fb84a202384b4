-- The node of a journal is in the form of an image.
use Rattle.std.proofs.Common.{◌≡◌, ℕ, true, List, [], ◌∷◌, ◌++◌, fold, sym, subst, arith, inl, inr}
use Rattle.mal_base.specs.declared.profile.Profile.{Profile}
use Rattle.spec_node.specs.State.{Node, fresh_with, has_profile}
use Rattle.spec_node.proofs.SoundLemmas.{fresh-with_sound}
use Rattle.spec_node.proofs.ImportLemmas.{by-taking}
use Rattle.spec_search.specs.Slice.{Sliced, slice}
use Rattle.spec_search.proofs.CountLemmas.{fresh-has_profile, slice-counts, slice-has_profile}
use Rattle.spec_search.proofs.SoundLemmas.{slice-sound}
use Rattle.spec_job.specs.Journal.{JournalEntry, Load, Import, Run, after_entry, replay}
use Rattle.mal_freeze.specs.Imaged.{IsImage}
use Rattle.mal_freeze.proofs.SoundLemmas.{sound-image}
use Rattle.mal_suspend.specs.Replaying.{MayReplay, AreAtRest, IsJournal}
use Rattle.mal_suspend.proofs.ReplayLemmas.{journal-behind, replay-grows}

-- a slice of a node that may run one leaves it in form
sliced-form : (n : Node) → has_profile n ≡ true → MayReplay Run n → IsImage (slice n).node
sliced-form n profile h =
    let rise = slice-counts n in
    sound-image (slice n).node (slice-sound n h.follows.0) (omega (arith, rise.serial, h.low.serial)) (slice-has_profile n profile)

-- a journal keeps its profile
entries-profile : (es : List JournalEntry) (s : Sliced) → has_profile s.node ≡ true → has_profile (fold after_entry s es).node ≡ true
entries-profile [] s h = h
entries-profile (Load r first ∷ es) s h = entries-profile es (after_entry s (Load r first)) h
entries-profile (Import told ∷ es) s h = entries-profile es (after_entry s (Import told)) (by-taking (λ n. has_profile n ≡ true) told s.node h h)
entries-profile (Run ∷ es) s h = entries-profile es (after_entry s Run) (slice-has_profile s.node h)

replay-profile : (profile : Profile) (i : ℕ) (es : List JournalEntry) → has_profile (replay profile i es).node ≡ true
replay-profile profile i es = entries-profile es (replay profile i []) (fresh-has_profile i profile)

pub journal-form : (profile : Profile) (i : ℕ) (es : List JournalEntry) → IsJournal profile i es → IsImage (replay profile i es).node
journal-form profile i es h = by_rest h.rest
  where
    by_rest : AreAtRest es → IsImage (replay profile i es).node
    by_rest (inl e) = subst (λ (xs : List JournalEntry). IsImage (replay profile i xs).node) (sym e) (sound-image (fresh_with i profile) (fresh-with_sound i profile h.place) (omega arith) (fresh-has_profile i profile))
    by_rest (inr p) =
        let k : IsJournal profile i (p.0 ++ Run ∷ []) = subst (λ (xs : List JournalEntry). IsJournal profile i xs) p.1 h in
        let last = journal-behind profile i p.0 (Run ∷ []) k in
        let form : IsImage (fold after_entry (replay profile i p.0) (Run ∷ [])).node = sliced-form (replay profile i p.0).node (replay-profile profile i p.0) last.0 in
        subst (λ (xs : List JournalEntry). IsImage (replay profile i xs).node) (sym p.1) (subst (λ (s : Sliced). IsImage s.node) (sym (replay-grows profile i p.0 (Run ∷ []))) form)
