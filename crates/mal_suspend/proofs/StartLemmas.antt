-- What a start does to a node.
use Rattle.std.proofs.Common.{◌≡◌, ℕ, List, [], ◌∷◌, ◌++◌, fold, refl, sym, ◌∙◌, ap, subst}
use Rattle.std.proofs.lemmas.List.Sums.{fold-append}
use Rattle.mal_base.specs.NumberedClause.{NumberedClause}
use Rattle.mal_revision.specs.Posted.{Posted}
use Rattle.spec_node.specs.State.{Node}
use Rattle.spec_search.specs.Slice.{Sliced, slice}
use Rattle.spec_job.specs.Journal.{JournalEntry, Load, Import, Run, after_entry}
use Rattle.mal_cdcl.specs.Ready.{readied, AreNew}
use Rattle.mal_cdcl.specs.Importing.{all_imported, MayImportAll}
use Rattle.mal_suspend.specs.Replaying.{alone, after_entries, MayReplay, MayAllReplay, IsJournal}
use Rattle.spec_job.specs.Journaled.{Journaled, replayed, node_of, and_entries}
use Rattle.mal_suspend.specs.Starting.{load_entries, import_entries, start_entries}
use Rattle.mal_suspend.proofs.ReplayLemmas.{may-behind, may-alone, after-more_alone, journal-behind, replay-grows}

loads-new : (loads : List (Posted × ℕ)) (rest : List JournalEntry) (s : Sliced) → MayAllReplay s (load_entries loads ++ rest) → AreNew loads s.node
loads-new [] rest s h = tt
loads-new (l ∷ ls) rest s h = (h.0.follows.1, loads-new ls rest (after_entry s (Load l.0 l.1)) h.1)

loads-readied : (loads : List (Posted × ℕ)) (s : Sliced) → (fold after_entry s (load_entries loads)).node ≡ readied loads s.node
loads-readied [] s = refl
loads-readied (l ∷ ls) s = loads-readied ls (after_entry s (Load l.0 l.1))

tolds-may : (tolds : List (List NumberedClause)) (rest : List JournalEntry) (s : Sliced) → MayAllReplay s (import_entries tolds ++ rest) → MayImportAll tolds s.node
tolds-may [] rest s h = tt
tolds-may (t ∷ ts) rest s h = (h.0.follows, tolds-may ts rest (after_entry s (Import t)) h.1)

tolds-imported : (tolds : List (List NumberedClause)) (s : Sliced) → (fold after_entry s (import_entries tolds)).node ≡ all_imported tolds s.node
tolds-imported [] s = refl
tolds-imported (t ∷ ts) s = tolds-imported ts (after_entry s (Import t))

-- what a start asks of its node
pub record IsStartable (loads : List (Posted × ℕ)) (tolds : List (List NumberedClause)) (n : Node) : Type 0 where
  pub new : AreNew loads n
  pub told : MayImportAll tolds (readied loads n)
  pub runs : MayReplay Run (all_imported tolds (readied loads n))

pub startable : (loads : List (Posted × ℕ)) (tolds : List (List NumberedClause)) (n : Node) → MayAllReplay (alone n) (start_entries loads tolds) → IsStartable loads tolds n
startable loads tolds n h =
    let s : Sliced = fold after_entry (alone n) (load_entries loads) in
    let behind : MayAllReplay s (import_entries tolds ++ Run ∷ []) = may-behind (alone n) (load_entries loads) (import_entries tolds ++ Run ∷ []) h in
    let t : Sliced = fold after_entry s (import_entries tolds) in
    let last : MayAllReplay t (Run ∷ []) = may-behind s (import_entries tolds) (Run ∷ []) behind in
    let same : s.node ≡ readied loads n = loads-readied loads (alone n) in
    let ready : t.node ≡ all_imported tolds (readied loads n) = tolds-imported tolds s ∙ ap (λ (m : Node). all_imported tolds m) same in
    record {
      new = loads-new loads (import_entries tolds ++ Run ∷ []) (alone n) h;
      told = subst (λ (m : Node). MayImportAll tolds m) same (tolds-may tolds (Run ∷ []) s behind);
      runs = subst (λ (m : Node). MayReplay Run m) ready last.0;
    }

-- the slice of the node that is made ready ends a start
pub start-slice : (loads : List (Posted × ℕ)) (tolds : List (List NumberedClause)) (n : Node) → slice (all_imported tolds (readied loads n)) ≡ after_entries n (start_entries loads tolds)
start-slice loads tolds n =
    let s : Sliced = fold after_entry (alone n) (load_entries loads) in
    let t : Sliced = fold after_entry s (import_entries tolds) in
    let same : s.node ≡ readied loads n = loads-readied loads (alone n) in
    let ready : t.node ≡ all_imported tolds (readied loads n) = tolds-imported tolds s ∙ ap (λ (m : Node). all_imported tolds m) same in
    let first : after_entries n (start_entries loads tolds) ≡ fold after_entry s (import_entries tolds ++ Run ∷ []) = fold-append after_entry (alone n) (load_entries loads) (import_entries tolds ++ Run ∷ []) in
    let second : fold after_entry s (import_entries tolds ++ Run ∷ []) ≡ fold after_entry t (Run ∷ []) = fold-append after_entry s (import_entries tolds) (Run ∷ []) in
    sym (first ∙ (second ∙ ap (λ (m : Node). slice m) ready))

-- the same of what is lent
pub startable-lent : (loads ls : List (Posted × ℕ)) (tolds ts : List (List NumberedClause)) (n : Node) → ls ≡ loads → ts ≡ tolds → MayAllReplay (alone n) (start_entries loads tolds) → IsStartable ls ts n
startable-lent loads ls tolds ts n e f h = subst (λ (xs : List (Posted × ℕ)). IsStartable xs ts n) (sym e) (subst (λ (xs : List (List NumberedClause)). IsStartable loads xs n) (sym f) (startable loads tolds n h))

pub slice-lent : (loads ls : List (Posted × ℕ)) (tolds ts : List (List NumberedClause)) (n m : Node) → ls ≡ loads → ts ≡ tolds → m ≡ all_imported ts (readied ls n) → slice m ≡ after_entries n (start_entries loads tolds)
slice-lent loads ls tolds ts n m e f g = ap (λ (x : Node). slice x) (g ∙ (ap (λ (xs : List (List NumberedClause)). all_imported xs (readied ls n)) f ∙ ap (λ (xs : List (Posted × ℕ)). all_imported tolds (readied xs n)) e)) ∙ start-slice loads tolds n

-- what a journal grew by may be replayed from the node that it had
pub start-may : (j g : Journaled) (adds : List JournalEntry) (n : Node) → g ≡ and_entries j adds → IsJournal g.profile g.index g.entries → n ≡ node_of j → MayAllReplay (alone n) adds
start-may j g adds n e h q =
    let k : IsJournal j.profile j.index (j.entries ++ adds) = subst (λ (x : Journaled). IsJournal x.profile x.index x.entries) e h in
    subst (λ (m : Node). MayAllReplay (alone m) adds) (sym q) (may-alone (replayed j) adds (journal-behind j.profile j.index j.entries adds k))

-- entries that end with a slice do not read the lines
ends-alone : (s : Sliced) (es fs : List JournalEntry) → after_entries s.node (es ++ (fs ++ Run ∷ [])) ≡ fold after_entry s (es ++ (fs ++ Run ∷ []))
ends-alone s [] [] = refl
ends-alone s [] (f ∷ fs) = after-more_alone s f (fs ++ Run ∷ [])
ends-alone s (e ∷ es) fs = after-more_alone s e (es ++ (fs ++ Run ∷ []))

-- a start leads to the replay of the journal that grew
pub start-replays : (j g : Journaled) (loads : List (Posted × ℕ)) (tolds : List (List NumberedClause)) (n : Node) → g ≡ and_entries j (start_entries loads tolds) → n ≡ node_of j → after_entries n (start_entries loads tolds) ≡ replayed g
start-replays j g loads tolds n e q =
    let adds : List JournalEntry = start_entries loads tolds in
    ap (λ (m : Node). after_entries m adds) q ∙ (ends-alone (replayed j) (load_entries loads) (import_entries tolds) ∙ (sym (replay-grows j.profile j.index j.entries adds) ∙ ap (λ (x : Journaled). replayed x) (sym e)))
