-- Entries that may be replayed.
use Rattle.std.proofs.Common.{◌≡◌, ℕ, List, [], ◌∷◌, ◌++◌, fold, refl, sym, ◌∙◌, ap, append_assoc, inr}
use Rattle.std.proofs.lemmas.List.Sums.{fold-append}
use Rattle.mal_base.specs.declared.profile.Profile.{Profile}
use Rattle.spec_node.proofs.ImportLemmas.{import-holds}
use Rattle.spec_search.specs.Slice.{Sliced}
use Rattle.spec_search.proofs.ModelLemmas.{slice-leaves}
use Rattle.spec_job.specs.Journal.{JournalEntry, Load, Import, Run, after_entry, replay}
use Rattle.mal_base.specs.NumberedClause.{NumberedClause}
use Rattle.mal_revision.specs.Posted.{Posted}
use Rattle.mal_suspend.specs.Replaying.{alone, after_entries, MayAllReplay, AreAtRest, IsJournal, variables_with, variables_after}
use Rattle.mal_suspend.specs.Starting.{load_entries, import_entries, start_entries}

-- a front of entries may be replayed
pub may-front : (s : Sliced) (es fs : List JournalEntry) → MayAllReplay s (es ++ fs) → MayAllReplay s es
may-front s [] fs h = tt
may-front s (e ∷ es) fs h = (h.0, may-front (after_entry s e) es fs h.1)

-- what is after a front may be replayed after that front
pub may-behind : (s : Sliced) (es fs : List JournalEntry) → MayAllReplay s (es ++ fs) → MayAllReplay (fold after_entry s es) fs
may-behind s [] fs h = h
may-behind s (e ∷ es) fs h = may-behind (after_entry s e) es fs h.1

-- entries that may be replayed after others may be replayed after them
pub may-append : (s : Sliced) (es fs : List JournalEntry) → MayAllReplay s es → MayAllReplay (fold after_entry s es) fs → MayAllReplay s (es ++ fs)
may-append s [] fs h k = k
may-append s (e ∷ es) fs h k = (h.0, may-append (after_entry s e) es fs h.1 k)

-- an entry does not read the lines
pub after-alone : (s : Sliced) (e : JournalEntry) → after_entry (alone s.node) e ≡ after_entry s e
after-alone s (Load r first) = refl
after-alone s (Import told) = refl
after-alone s Run = refl

pub may-alone : (s : Sliced) (es : List JournalEntry) → MayAllReplay s es → MayAllReplay (alone s.node) es
may-alone s [] h = tt
may-alone s (e ∷ es) h = (h.0, rw (after-alone s e) h.1)

-- nor do one or more entries
pub after-more_alone : (s : Sliced) (e : JournalEntry) (es : List JournalEntry) → after_entries s.node (e ∷ es) ≡ fold after_entry s (e ∷ es)
after-more_alone s e es = ap (λ (t : Sliced). fold after_entry t es) (after-alone s e)

-- a journal with entries that may be replayed after it is one
pub journal-grows : (profile : Profile) (i : ℕ) (es fs : List JournalEntry) → IsJournal profile i es → MayAllReplay (replay profile i es) fs → AreAtRest (es ++ fs) → IsJournal profile i (es ++ fs)
journal-grows profile i es fs h k r = record { place = h.place; replays = may-append (replay profile i []) es fs h.replays k; rest = r }

-- a journal is at rest after what a start adds
pub start-rests : (es : List JournalEntry) (loads : List (Posted × ℕ)) (tolds : List (List NumberedClause)) → AreAtRest (es ++ start_entries loads tolds)
start-rests es loads tolds =
    let inner : load_entries loads ++ (import_entries tolds ++ Run ∷ []) ≡ (load_entries loads ++ import_entries tolds) ++ Run ∷ [] = sym (append_assoc (load_entries loads) (import_entries tolds) (Run ∷ [])) in
    let outer : es ++ ((load_entries loads ++ import_entries tolds) ++ Run ∷ []) ≡ (es ++ (load_entries loads ++ import_entries tolds)) ++ Run ∷ [] = sym (append_assoc es (load_entries loads ++ import_entries tolds) (Run ∷ [])) in
    inr (es ++ (load_entries loads ++ import_entries tolds), ap (λ (xs : List JournalEntry). es ++ xs) inner ∙ outer)

-- the entries that a journal got may be replayed after it
pub journal-behind : (profile : Profile) (i : ℕ) (es fs : List JournalEntry) → IsJournal profile i (es ++ fs) → MayAllReplay (replay profile i es) fs
journal-behind profile i es fs h = may-behind (replay profile i []) es fs h.replays

-- the replay of a journal that grew
pub replay-grows : (profile : Profile) (i : ℕ) (es fs : List JournalEntry) → replay profile i (es ++ fs) ≡ fold after_entry (replay profile i es) fs
replay-grows profile i es fs = fold-append after_entry (replay profile i []) es fs

variables-entry : (s : Sliced) (e : JournalEntry) → (after_entry s e).node.variables ≡ variables_with s.node.variables e
variables-entry s (Load r first) = refl
variables-entry s (Import told) = import-holds.variables told s.node
variables-entry s Run = (slice-leaves s.node).variables

-- how many variables the node has after entries
pub variables-entries : (s : Sliced) (es : List JournalEntry) → (fold after_entry s es).node.variables ≡ variables_after s.node.variables es
variables-entries s [] = refl
variables-entries s (e ∷ es) = variables-entries (after_entry s e) es ∙ ap (λ (v : ℕ). variables_after v es) (variables-entry s e)

pub variables-replay : (profile : Profile) (i : ℕ) (es : List JournalEntry) → (replay profile i es).node.variables ≡ variables_after 0 es
variables-replay profile i es = variables-entries (replay profile i []) es

-- how many variables entries bring after others
pub variables-append : (most : ℕ) (es fs : List JournalEntry) → variables_after most (es ++ fs) ≡ variables_after (variables_after most es) fs
variables-append most [] fs = refl
variables-append most (e ∷ es) fs = variables-append (variables_with most e) es fs
