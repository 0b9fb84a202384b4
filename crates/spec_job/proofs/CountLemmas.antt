-- The counts of a node rise with the slices that its job runs.
use Rattle.std.proofs.Common.{◌≡◌, ℕ, zero, suc, ◌+◌, ◌*◌, ◌<◌, ◌≤◌, max, Bool, true, false, cond, not, List, [], ◌∷◌, ◌++◌, length, map, fold, get_or, refl, sym, ◌∙◌, ap, subst, arith, append_assoc}
use Rattle.std.specs.Prelude.{All, slice_set}
use Rattle.std.proofs.lemmas.List.Elements.{All-head, All-tail}
use Rattle.std.proofs.lemmas.List.Sums.{fold_push, fold-append, sum_by-append, sum_by-cons}
use Rattle.mal_base.specs.declared.profile.Profile.{Profile}
use Rattle.mal_base.specs.NumberedClause.{NumberedClause}
use Rattle.mal_revision.specs.Posted.{Posted}
use Rattle.spec_node.specs.State.{Node, fresh_with}
use Rattle.spec_node.specs.Import.{has_lits, taken, serial_above, imported}
use Rattle.spec_node.specs.Sound.{serial_of}
use Rattle.spec_node.proofs.ImportLemmas.{All-passed, by-taking, import-holds}
use Rattle.spec_search.specs.Slice.{Sliced, slice}
use Rattle.spec_search.specs.Laws.{CountsRise}
use Rattle.spec_search.proofs.CountLemmas.{slice-counts}
use Rattle.spec_search.proofs.ModelLemmas.{slice-leaves}
use Rattle.spec_job.specs.Journal.{JournalEntry, Load, Import, Run, after_entry, replay, loads_of, is_run}
use Rattle.spec_job.specs.SoloMachine.{NodeSlot, vacant, marked_from, takes_part}
use Rattle.spec_job.specs.Counts.{runs_in, runs_of, HasCounts}

pub runs_in-append : (xs ys : List JournalEntry) → runs_in (xs ++ ys) ≡ runs_in xs + runs_in ys
runs_in-append xs ys = sum_by-append (λ (e : JournalEntry). cond (is_run e) 1 0) xs ys

pub runs_in-cons : (e : JournalEntry) (es : List JournalEntry) → runs_in (e ∷ es) ≡ cond (is_run e) 1 0 + runs_in es
runs_in-cons e es = sum_by-cons (λ (x : JournalEntry). cond (is_run x) 1 0) e es

-- loads run nothing
pub runs_in-loads : (first : ℕ) (rs : List Posted) → runs_in (loads_of first rs) ≡ 0
runs_in-loads first [] = refl
runs_in-loads first (r ∷ rs) =
    let cons : runs_in (Load r first ∷ loads_of (first + length r.clauses) rs) ≡ 0 + runs_in (loads_of (first + length r.clauses) rs) = runs_in-cons (Load r first) (loads_of (first + length r.clauses) rs) in
    let rest : runs_in (loads_of (first + length r.clauses) rs) ≡ 0 = runs_in-loads (first + length r.clauses) rs in
    omega arith

-- nor do imports
pub runs_in-imports : (tolds : List (List NumberedClause)) → runs_in (map Import tolds) ≡ 0
runs_in-imports [] = refl
runs_in-imports (t ∷ ts) =
    let cons : runs_in (Import t ∷ map Import ts) ≡ 0 + runs_in (map Import ts) = runs_in-cons (Import t) (map Import ts) in
    let rest : runs_in (map Import ts) ≡ 0 = runs_in-imports ts in
    omega arith

-- clauses of serials below what so many slices can reach
abbrev pub IsLow : ℕ → NumberedClause → Type 0
IsLow all c = serial_of c < all * 1000

pub counts-more : (all more runs : ℕ) (n : Node) → all ≤ more → HasCounts all runs n → HasCounts more runs n
counts-more all more runs n low h = record { serial = omega (arith, h.serial); conflicts_since_restart = h.conflicts_since_restart; restart_number = h.restart_number; conflicts_since_dropping = h.conflicts_since_dropping }

pub slice-counted : (all runs : ℕ) (n : Node) → HasCounts all runs n → HasCounts (suc all) (suc runs) (slice n).node
slice-counted all runs n h =
    let rise : CountsRise n = slice-counts n in
    record { serial = omega (arith, rise.serial, h.serial); conflicts_since_restart = omega (arith, rise.conflicts_since_restart, h.conflicts_since_restart); restart_number = omega (arith, rise.restart_number, h.restart_number); conflicts_since_dropping = omega (arith, rise.conflicts_since_dropping, h.conflicts_since_dropping) }

serial-low : (most serial : ℕ) (new : List NumberedClause) → serial ≤ most → All (λ c. serial_of c < most) new → serial_above serial new ≤ most
serial-low most serial [] low h = low
serial-low most serial (c ∷ new) low h =
    let here : serial_of c < most = All-head (λ x. serial_of x < most) c new h in
    serial-low most (max serial (serial_of c + 1)) new (omega arith) (All-tail (λ x. serial_of x < most) c new h)

import-counted : (all runs : ℕ) (told : List NumberedClause) (n : Node) → All (IsLow all) told → HasCounts all runs n → HasCounts all runs (imported told n)
import-counted all runs told n low h = by-taking (HasCounts all runs) told n h (record {
  serial = serial-low (all * 1000) n.serial (taken told n.clauses) h.serial (All-passed (IsLow all) (λ c. not (has_lits c.lits n.clauses)) told low);
  conflicts_since_restart = h.conflicts_since_restart;
  restart_number = h.restart_number;
  conflicts_since_dropping = h.conflicts_since_dropping;
})

imports-counted : (tolds : List (List NumberedClause)) (all runs : ℕ) (s : Sliced) → All (All (IsLow all)) tolds → HasCounts all runs s.node → HasCounts all runs (fold after_entry s (map Import tolds)).node
imports-counted [] all runs s low h = h
imports-counted (t ∷ ts) all runs s low h = imports-counted ts all runs (after_entry s (Import t)) (All-tail (All (IsLow all)) t ts low) (import-counted all runs t s.node (All-head (All (IsLow all)) t ts low) h)

loads-counted : (rs : List Posted) (first all runs : ℕ) (s : Sliced) → HasCounts all runs s.node → HasCounts all runs (fold after_entry s (loads_of first rs)).node
loads-counted [] first all runs s h = h
loads-counted (r ∷ rs) first all runs s h = loads-counted rs (first + length r.clauses) all runs (after_entry s (Load r first)) (record { serial = h.serial; conflicts_since_restart = h.conflicts_since_restart; restart_number = h.restart_number; conflicts_since_dropping = h.conflicts_since_dropping })

-- a node with what it lacks loaded and imported
pub ready-counted : (profile : Profile) (entries : List JournalEntry) (i all runs first : ℕ) (rs : List Posted) (tolds : List (List NumberedClause)) → All (All (IsLow all)) tolds → HasCounts all runs (replay profile i entries).node → HasCounts all runs (replay profile i (entries ++ (loads_of first rs ++ map Import tolds))).node
ready-counted profile entries i all runs first rs tolds low h =
    let start : Sliced = record { node = fresh_with i profile; lines = [] } in
    let same : replay profile i (entries ++ (loads_of first rs ++ map Import tolds)) ≡ fold after_entry (fold after_entry (replay profile i entries) (loads_of first rs)) (map Import tolds) = fold-append after_entry start entries (loads_of first rs ++ map Import tolds) ∙ fold-append after_entry (replay profile i entries) (loads_of first rs) (map Import tolds) in
    subst (λ (x : Sliced). HasCounts all runs x.node) (sym same) (imports-counted tolds all runs (fold after_entry (replay profile i entries) (loads_of first rs)) low (loads-counted rs first all runs (replay profile i entries) h))

-- a replay keeps the index
index-after : (entries : List JournalEntry) (s : Sliced) → (fold after_entry s entries).node.index ≡ s.node.index
index-after [] s = refl
index-after (Load r first ∷ es) s = index-after es (after_entry s (Load r first))
index-after (Import told ∷ es) s = index-after es (after_entry s (Import told)) ∙ import-holds.index told s.node
index-after (Run ∷ es) s = index-after es (after_entry s Run) ∙ (slice-leaves s.node).index

pub replay-index : (profile : Profile) (i : ℕ) (entries : List JournalEntry) → (replay profile i entries).node.index ≡ i
replay-index profile i entries = index-after entries (record { node = fresh_with i profile; lines = [] })

-- the last entry of a journal runs its slice
pub replay-runs : (profile : Profile) (i : ℕ) (entries before : List JournalEntry) → replay profile i (entries ++ (before ++ Run ∷ [])) ≡ slice (replay profile i (entries ++ before)).node
replay-runs profile i entries before = ap (replay profile i) (sym (append_assoc entries before (Run ∷ []))) ∙ fold_push after_entry (record { node = fresh_with i profile; lines = [] }) (entries ++ before) Run

-- the slices of all places, where one place is set
runs_of-cons : (p : NodeSlot) (ps : List NodeSlot) → runs_of (p ∷ ps) ≡ runs_in p.entries + runs_of ps
runs_of-cons p ps = sum_by-cons (λ (x : NodeSlot). runs_in x.entries) p ps

pub runs-set : (ps : List NodeSlot) (i n : ℕ) (q : NodeSlot) → i < length ps → runs_in q.entries ≡ runs_in (get_or ps i vacant).entries + n → runs_of (slice_set ps i q) ≡ runs_of ps + n
runs-set [] i n q low e = absurd (omega arith)
runs-set (p ∷ ps) zero n q low e = let new : runs_of (q ∷ ps) ≡ runs_in q.entries + runs_of ps = runs_of-cons q ps in let old : runs_of (p ∷ ps) ≡ runs_in p.entries + runs_of ps = runs_of-cons p ps in omega arith
runs-set (p ∷ ps) (suc i) n q low e =
    let rest : runs_of (slice_set ps i q) ≡ runs_of ps + n = runs-set ps i n q (omega arith) e in
    let new : runs_of (p ∷ slice_set ps i q) ≡ runs_in p.entries + runs_of (slice_set ps i q) = runs_of-cons p (slice_set ps i q) in
    let old : runs_of (p ∷ ps) ≡ runs_in p.entries + runs_of ps = runs_of-cons p ps in
    omega arith

pub runs-same : (ps : List NodeSlot) (i : ℕ) (q : NodeSlot) → q.entries ≡ (get_or ps i vacant).entries → runs_of (slice_set ps i q) ≡ runs_of ps
runs-same [] i q e = refl
runs-same (p ∷ ps) zero q e =
    let new : runs_of (q ∷ ps) ≡ runs_in q.entries + runs_of ps = runs_of-cons q ps in
    let old : runs_of (p ∷ ps) ≡ runs_in p.entries + runs_of ps = runs_of-cons p ps in
    let same : runs_in q.entries ≡ runs_in p.entries = ap runs_in e in
    omega arith
runs-same (p ∷ ps) (suc i) q e =
    let rest : runs_of (slice_set ps i q) ≡ runs_of ps = runs-same ps i q e in
    let new : runs_of (p ∷ slice_set ps i q) ≡ runs_in p.entries + runs_of (slice_set ps i q) = runs_of-cons p (slice_set ps i q) in
    let old : runs_of (p ∷ ps) ≡ runs_in p.entries + runs_of ps = runs_of-cons p ps in
    omega arith

pub runs-marked : (volume mark k : ℕ) (ps : List NodeSlot) → runs_of (marked_from volume mark k ps) ≡ runs_of ps
runs-marked volume mark k [] = refl
runs-marked volume mark k (p ∷ ps) = by_part (takes_part volume k p) (runs-marked volume mark (k + 1) ps)
  where
    by_head : (q : NodeSlot) → runs_in q.entries ≡ runs_in p.entries → runs_of (marked_from volume mark (k + 1) ps) ≡ runs_of ps → runs_of (q ∷ marked_from volume mark (k + 1) ps) ≡ runs_of (p ∷ ps)
    by_head q e rest =
        let new : runs_of (q ∷ marked_from volume mark (k + 1) ps) ≡ runs_in q.entries + runs_of (marked_from volume mark (k + 1) ps) = runs_of-cons q (marked_from volume mark (k + 1) ps) in
        let old : runs_of (p ∷ ps) ≡ runs_in p.entries + runs_of ps = runs_of-cons p ps in
        omega arith

    by_part : (b : Bool) → runs_of (marked_from volume mark (k + 1) ps) ≡ runs_of ps → runs_of (cond b (record p { mark = mark }) p ∷ marked_from volume mark (k + 1) ps) ≡ runs_of (p ∷ ps)
    by_part true rest = by_head (record p { mark = mark }) refl rest
    by_part false rest = by_head p refl rest
