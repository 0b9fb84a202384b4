-- Nodes that are taken again over what their journals list.
use Rattle.std.proofs.Common.{◌≡◌, ℕ, zero, suc, ◌+◌, ◌<◌, List, [], ◌∷◌, ◌++◌, fold, refl, sym, ◌∙◌, ap, subst, arith}
use Rattle.std.proofs.lemmas.Grind.{replicate_next}
use Rattle.std.proofs.lemmas.List.Sums.{fold_push}
use Rattle.mal_base.specs.declared.profile.Profile.{Profile}
use Rattle.spec_node.specs.State.{Node}
use Rattle.spec_search.specs.Slice.{Sliced, slice}
use Rattle.spec_job.specs.Journal.{JournalEntry, Run, after_entry, replay}
use Rattle.mal_suspend.specs.Entries.{slices_of}
use Rattle.mal_suspend.specs.Replaying.{alone, after_entries, MayReplay, MayAllReplay}
use Rattle.mal_suspend.proofs.ReplayLemmas.{may-behind, after-more_alone, replay-grows}

-- each of the slices in a row may be run
slices-may : (s : Sliced) (count k : ℕ) → k < count → MayAllReplay s (slices_of count) → MayReplay Run (fold after_entry s (slices_of k)).node
slices-may s zero k l h = absurd (omega arith)
slices-may s (suc count) zero l h = h.0
slices-may s (suc count) (suc k) l h = slices-may (after_entry s Run) count k (omega arith) h.1

pub slice-may : (n m : Node) (count k : ℕ) → k < count → m ≡ (after_entries n (slices_of k)).node → MayAllReplay (alone n) (slices_of count) → MayReplay Run m
slice-may n m count k l e h = subst (λ (x : Node). MayReplay Run x) (sym e) (slices-may (alone n) count k l h)

-- one more of them
pub slice-more : (n m : Node) (k : ℕ) → m ≡ (after_entries n (slices_of k)).node → (slice m).node ≡ (after_entries n (slices_of (k + 1))).node
slice-more n m k e =
    let last : after_entries n (slices_of (k + 1)) ≡ after_entry (after_entries n (slices_of k)) Run = ap (λ (es : List JournalEntry). after_entries n es) (replicate_next k Run) ∙ fold_push after_entry (alone n) (slices_of k) Run in
    ap (λ (x : Node). (slice x).node) e ∙ sym (ap (λ (s : Sliced). s.node) last)

-- an entry after others may be replayed after them
pub last-may : (n m : Node) (es : List JournalEntry) (e : JournalEntry) → m ≡ (after_entries n es).node → MayAllReplay (alone n) (es ++ e ∷ []) → MayReplay e m
last-may n m es e q h = subst (λ (x : Node). MayReplay e x) (sym q) (may-behind (alone n) es (e ∷ []) h).0

-- the node that entries lead to does not hang on the lines before
pub nodes-alone : (s : Sliced) (es : List JournalEntry) → (after_entries s.node es).node ≡ (fold after_entry s es).node
nodes-alone s [] = refl
nodes-alone s (e ∷ es) = ap (λ (t : Sliced). t.node) (after-more_alone s e es)

-- the slices after the entries of a journal lead to its node
pub replay-ends : (profile : Profile) (i : ℕ) (es : List JournalEntry) (n m : Node) (count : ℕ) → n ≡ (replay profile i es).node → m ≡ (after_entries n (slices_of count)).node → m ≡ (replay profile i (es ++ slices_of count)).node
replay-ends profile i es n m count p q =
    q ∙ (ap (λ (x : Node). (after_entries x (slices_of count)).node) p ∙ (nodes-alone (replay profile i es) (slices_of count) ∙ sym (ap (λ (s : Sliced). s.node) (replay-grows profile i es (slices_of count)))))
