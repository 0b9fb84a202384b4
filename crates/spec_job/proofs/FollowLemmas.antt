-- The entries of a start may follow its place's journal.
use Rattle.std.proofs.Common.{◌≡◌, ℕ, ◌+◌, ◌-◌, ◌<◌, ◌≤◌, ◌^◌, List, [], ◌∷◌, ◌++◌, length, map, take, drop, fold, sym, ◌∙◌, ap, subst, arith, length-append, take-add}
use Rattle.std.specs.Prelude.{All}
use Rattle.std.proofs.lemmas.List.Elements.{All-head, All-tail, All-take, All-drop}
use Rattle.std.proofs.lemmas.List.Sums.{sum_by-take-le}
use Rattle.mal_base.specs.declared.profile.Profile.{Profile}
use Rattle.mal_base.specs.NumberedClause.{NumberedClause, Line}
use Rattle.mal_revision.specs.Posted.{Posted}
use Rattle.spec_node.specs.State.{Node}
use Rattle.spec_node.specs.Laws.{HoldsAll, AreNewNumbers}
use Rattle.spec_node.proofs.ChainLemmas.{loads-hold_all}
use Rattle.spec_search.specs.Slice.{Sliced}
use Rattle.spec_job.specs.Journal.{JournalEntry, Load, Import, Run, after_entry, replay, loads_in, loads_of, imports_in}
use Rattle.spec_job.specs.SoloMachine.{SoloMachine, place_at, clauses_in, missing_loads, start_entries}
use Rattle.spec_job.specs.Models.{clauses_of, variables_of}
use Rattle.spec_job.specs.Following.{MayAllFollow}
use Rattle.spec_job.proofs.LoadedLemmas.{IsLoadable, HasLoaded, clauses-length, clauses_in-append, clauses_in-cons, clauses_in-push, load-loaded}
use Rattle.spec_job.proofs.SolvingLemmas.{IsSolvingSolo}
use Rattle.spec_job.proofs.ImportingLemmas.{IsSaid, IsTellable, IsPrepared, may-import, import-prepared, imports-prepared}
use Rattle.spec_job.proofs.DerivingLemmas.{AreCalm, IsDerivingSolo}
use Rattle.spec_job.proofs.RunningLemmas.{tellable, loads-prepared}

pub follow-append : (xs ys : List JournalEntry) (s : Sliced) → MayAllFollow s xs → MayAllFollow (fold after_entry s xs) ys → MayAllFollow s (xs ++ ys)
follow-append [] ys s h k = k
follow-append (x ∷ xs) ys s h k = (h.0, follow-append xs ys (after_entry s x) h.1 k)

-- the numbers of the next revision are new
load-follows : (ps : List Posted) (r : Posted) (n : Node) → clauses_in ps + length r.clauses < 2 ^ 32 → HasLoaded ps n → AreNewNumbers r (1 + length (clauses_of ps)) n
load-follows ps r n room h =
    let sum : length (clauses_of ps ++ r.clauses) ≡ length (clauses_of ps) + length r.clauses = length-append (clauses_of ps) r.clauses in
    let count : length (clauses_of ps) ≡ clauses_in ps = clauses-length ps in
    let holds : HoldsAll r (clauses_of ps) n = loads-hold_all r (clauses_of ps) n h.held (omega arith) in
    holds.new

loads-follow : (rs ps : List Posted) (first : ℕ) (s : Sliced) → All IsLoadable rs → clauses_in ps + clauses_in rs < 2 ^ 32 → first ≡ clauses_in ps + 1 → HasLoaded ps s.node → MayAllFollow s (loads_of first rs)
loads-follow [] ps first s may room e h = tt
loads-follow (r ∷ rs) ps first s may room e h =
    let cons : clauses_in (r ∷ rs) ≡ length r.clauses + clauses_in rs = clauses_in-cons r rs in
    let push : clauses_in (ps ++ r ∷ []) ≡ clauses_in ps + length r.clauses = clauses_in-push ps r in
    let count : length (clauses_of ps) ≡ clauses_in ps = clauses-length ps in
    let same : 1 + length (clauses_of ps) ≡ first = omega arith in
    let new : AreNewNumbers r first s.node = subst (λ (k : ℕ). AreNewNumbers r k s.node) same (load-follows ps r s.node (omega arith) h) in
    let one : HasLoaded (ps ++ r ∷ []) (after_entry s (Load r first)).node = subst (λ (k : ℕ). HasLoaded (ps ++ r ∷ []) (after_entry s (Load r k)).node) same (load-loaded ps r s.node (All-head IsLoadable r rs may) (omega arith) h) in
    ((All-head IsLoadable r rs may, new), loads-follow rs (ps ++ r ∷ []) (first + length r.clauses) (after_entry s (Load r first)) (All-tail IsLoadable r rs may) (omega arith) (omega arith) one)

imports-follow : (tolds : List (List NumberedClause)) (revisions : List Posted) (log : List Line) (i : ℕ) (s : Sliced) → IsTellable (variables_of revisions) log → All (IsSaid log) tolds → IsPrepared revisions log i s.node → MayAllFollow s (map Import tolds)
imports-follow [] revisions log i s may said h = tt
imports-follow (t ∷ ts) revisions log i s may said h =
    let here : IsSaid log t = All-head (IsSaid log) t ts said in
    (may-import log i t s.node (subst (λ (v : ℕ). IsTellable v log) (sym h.loaded.variables) may) h.logged here, imports-follow ts revisions log i (after_entry s (Import t)) may (All-tail (IsSaid log) t ts said) (import-prepared revisions log i t s.node may here h))

-- the loads that a journal lacks
missing-follow : (profile : Profile) (revisions : List Posted) (c i : ℕ) (entries : List JournalEntry) → All IsLoadable revisions → clauses_in revisions < 2 ^ 32 → loads_in entries ≤ c + 1 → HasLoaded (take (loads_in entries) revisions) (replay profile i entries).node → MayAllFollow (replay profile i entries) (loads_of (clauses_in (take (loads_in entries) revisions) + 1) (take (c + 1 - loads_in entries) (drop (loads_in entries) revisions)))
missing-follow profile revisions c i entries may room early h =
    let n : ℕ = loads_in entries in
    let m : ℕ = c + 1 - n in
    let more : List Posted = take m (drop n revisions) in
    let sum : n + m ≡ c + 1 = omega arith in
    let joined : take (c + 1) revisions ≡ take n revisions ++ more = ap (λ (k : ℕ). take k revisions) (sym sum) ∙ take-add n m revisions in
    let count : clauses_in (take (c + 1) revisions) ≤ clauses_in revisions = sum_by-take-le (λ (r : Posted). length r.clauses) revisions (c + 1) in
    let parts : clauses_in (take (c + 1) revisions) ≡ clauses_in (take n revisions) + clauses_in more = ap clauses_in joined ∙ clauses_in-append (take n revisions) more in
    loads-follow more (take n revisions) (clauses_in (take n revisions) + 1) (replay profile i entries) (All-take IsLoadable m (drop n revisions) (All-drop IsLoadable n revisions may)) (omega arith) (omega arith) h

-- all that a start adds
pub start-follows : (s : SoloMachine) (i : ℕ) → i ≤ 63 → length s.answers < length s.revisions → IsSolvingSolo s → AreCalm s.ask.profile (length s.answers) s.places → IsDerivingSolo s → MayAllFollow (replay s.ask.profile i (place_at s i).entries) (start_entries s (place_at s i))
start-follows s i low live k calm h = follow-append loads (map Import tolds ++ Run ∷ []) (replay s.ask.profile i entries) (missing-follow s.ask.profile s.revisions (length s.answers) i entries k.loadable k.room (k.ready i low).early (k.ready i low).node) (follow-append (map Import tolds) (Run ∷ []) with-loads (imports-follow tolds revisions s.log i with-loads (tellable s h) said prepared) ((ready.loaded.sound, ready.calm), tt))
  where
    entries : List JournalEntry
    entries = (place_at s i).entries

    loads : List JournalEntry
    loads = missing_loads s (place_at s i)

    tolds : List (List NumberedClause)
    tolds = drop (imports_in entries) s.broadcasts

    revisions : List Posted
    revisions = take (length s.answers + 1) s.revisions

    with-loads : Sliced
    with-loads = fold after_entry (replay s.ask.profile i entries) loads

    said : All (IsSaid s.log) tolds
    said = All-drop (IsSaid s.log) (imports_in entries) s.broadcasts h.said

    prepared : IsPrepared revisions s.log i with-loads.node
    prepared = loads-prepared s.ask.profile s.revisions s.log (length s.answers) i (place_at s i) k.loadable k.room (k.ready i low) (h.tracked i low).logged (calm i low) live

    ready : IsPrepared revisions s.log i (fold after_entry with-loads (map Import tolds)).node
    ready = imports-prepared tolds revisions s.log i with-loads (tellable s h) said prepared
