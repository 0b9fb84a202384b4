-- Starts, exchanges and slices of a machine whose log is derived.
use Rattle.std.proofs.Common.{◌≡◌, ◌≢◌, ℕ, ◌+◌, ◌-◌, ◌*◌, ◌<◌, ◌≤◌, ◌^◌, min, true, false, eqb, List, [], ◌∷◌, ◌++◌, length, map, take, drop, fold, get_or, Some, None, inl, inr, ◌⊎◌, refl, sym, ◌∙◌, ap, subst, arith, append_assoc, take-add}
use Rattle.std.specs.Prelude.{All, slice_set}
use Rattle.std.proofs.lemmas.Bool.{cases_Bool, eqb-true, eqb-false}
use Rattle.std.proofs.lemmas.List.{length-take, length-drop}
use Rattle.std.proofs.lemmas.List.Elements.{All-nil, All-cons, All-append, All-weaker, All-take, All-drop}
use Rattle.std.proofs.lemmas.List.Sums.{fold_push, fold-append, sum_by-take-le}
use Rattle.mal_base.specs.declared.profile.Profile.{Profile}
use Rattle.mal_base.specs.NumberedClause.{NumberedClause, Line}
use Rattle.mal_revision.specs.Posted.{Posted}
use Rattle.spec_node.specs.State.{Node, fresh_with}
use Rattle.spec_search.specs.Slice.{Sliced, slice}
use Rattle.spec_search.specs.Laws.{AreNumbered}
use Rattle.spec_search.proofs.LineLemmas.{lines-counted}
use Rattle.spec_search.proofs.ModelLemmas.{slice-leaves}
use Rattle.spec_exchange.specs.Exchange.{broadcast}
use Rattle.spec_proof.specs.Log.{IsOrderly}
use Rattle.spec_proof.specs.Among.{Among}
use Rattle.spec_proof.proofs.LogLemmas.{log-orderly}
use Rattle.spec_job.specs.Journal.{JournalEntry, Import, Run, after_entry, replay, loads_in, loads_of, imports_in}
use Rattle.spec_job.specs.SoloMachine.{Started, Lease, NodeSlot, vacant, SoloMachine, solo_step, place_at, clauses_in, startable, finished_home, missing_loads, exports_from, exchanged}
use Rattle.spec_job.specs.Models.{clauses_of, variables_of}
use Rattle.spec_job.proofs.LoadedLemmas.{IsLoadable, HasLoaded, clauses_in-append, slice-loaded, loads-loaded}
use Rattle.spec_job.proofs.PlacesLemmas.{all-marked, set-place, out-within, set-here}
use Rattle.spec_job.proofs.SolvingLemmas.{IsReady, IsSolvingSolo, start-loads, live-parts, lease_of, MayLease, out-leased}
use Rattle.spec_search.specs.Covering.{Covers}
use Rattle.spec_search.proofs.LinesLemmas.{numbers-apart}
use Rattle.spec_job.proofs.TrackedLemmas.{IsLogged, logged-later, loads-logged, loads-calm, slice-covers, covers-logged}
use Rattle.spec_job.proofs.ImportingLemmas.{IsSaid, IsTellable, IsPrepared, imports-prepared}
use Rattle.spec_job.proofs.ExportLemmas.{broadcast-said, all-exports}
use Rattle.spec_job.proofs.WithinLemmas.{within-slice, said-later}
use Rattle.spec_job.proofs.DerivingLemmas.{IsRunning, IsTracked, IsDeriving, IsDerivingSolo, AreCalm, refuted-later, placed-deriving}

-- what a machine's log has that may be told to a node that has loaded the current revision
pub tellable : (s : SoloMachine) → IsDerivingSolo s → IsTellable (variables_of (take (length s.answers + 1) s.revisions)) s.log
tellable s h =
    let orderly : IsOrderly s.log = log-orderly (clauses_of (take (length s.answers + 1) s.revisions)) s.log h.derived in
    record { apart = orderly.apart; above = orderly.above; within = h.within }

-- the missing loads prepare a node for the current revision
pub loads-prepared : (profile : Profile) (revisions : List Posted) (log : List Line) (c i : ℕ) (p : NodeSlot) → All IsLoadable revisions → clauses_in revisions < 2 ^ 32 → IsReady profile revisions c i p → IsLogged log i (replay profile i p.entries).node → (loads_in p.entries ≡ c + 1 → (replay profile i p.entries).node.verdict ≡ None) → c < length revisions → IsPrepared (take (c + 1) revisions) log i (fold after_entry (replay profile i p.entries) (loads_of (clauses_in (take (loads_in p.entries) revisions) + 1) (take (c + 1 - loads_in p.entries) (drop (loads_in p.entries) revisions)))).node
loads-prepared profile revisions log c i p may room h logged calm live =
    let n : ℕ = loads_in p.entries in
    let m : ℕ = c + 1 - n in
    let early : n ≤ c + 1 = h.early in
    let sum : n + m ≡ c + 1 = omega arith in
    let first : ℕ = clauses_in (take n revisions) + 1 in
    let more : List Posted = take m (drop n revisions) in
    let loads : List JournalEntry = loads_of first more in
    let joined : take (c + 1) revisions ≡ take n revisions ++ more = ap (λ (k : ℕ). take k revisions) (sym sum) ∙ take-add n m revisions in
    let count : clauses_in (take (c + 1) revisions) ≤ clauses_in revisions = sum_by-take-le (λ (r : Posted). length r.clauses) revisions (c + 1) in
    let parts : clauses_in (take (c + 1) revisions) ≡ clauses_in (take n revisions) + clauses_in more = ap clauses_in joined ∙ clauses_in-append (take n revisions) more in
    let taken : length more ≡ min m (length (drop n revisions)) = length-take m (drop n revisions) in
    let dropped : length (drop n revisions) ≡ length revisions - n = length-drop n revisions in
    record {
      loaded = subst (λ (ps : List Posted). HasLoaded ps (fold after_entry (replay profile i p.entries) loads).node) (sym joined) (loads-loaded more (take n revisions) first (replay profile i p.entries) (All-take IsLoadable m (drop n revisions) (All-drop IsLoadable n revisions may)) (omega arith) refl h.node);
      logged = loads-logged log i more first (replay profile i p.entries) (omega arith) logged;
      calm = loads-calm more first (replay profile i p.entries) (λ e. calm (omega arith));
    }

-- a start runs a slice of the node that has loaded the current revision and imported what it lacks
pub start-running : (s : SoloMachine) (i : ℕ) → i ≤ 63 → length s.answers < length s.revisions → IsSolvingSolo s → AreCalm s.ask.profile (length s.answers) s.places → IsDerivingSolo s → IsRunning s.ask.profile s.revisions s.log i (place_at s i).entries (lease_of s i)
start-running s i low live k calm h = record {
  node = prepared;
  runs = fold-append after_entry start p.entries (loads ++ (map Import tolds ++ Run ∷ [])) ∙ (fold-append after_entry (replay s.ask.profile i p.entries) loads (map Import tolds ++ Run ∷ []) ∙ fold_push after_entry (fold after_entry (replay s.ask.profile i p.entries) loads) (map Import tolds) Run);
  before = loads ++ map Import tolds;
  adds = sym (append_assoc loads (map Import tolds) (Run ∷ []));
  is = sym (ap (λ (x : Sliced). x.node) (fold-append after_entry start p.entries (loads ++ map Import tolds) ∙ fold-append after_entry (replay s.ask.profile i p.entries) loads (map Import tolds)));
  ready = is.loaded;
  logged = is.logged;
  calm = is.calm;
}
  where
    p : NodeSlot
    p = place_at s i

    start : Sliced
    start = record { node = fresh_with i s.ask.profile; lines = [] }

    loads : List JournalEntry
    loads = missing_loads s p

    tolds : List (List NumberedClause)
    tolds = drop (imports_in p.entries) s.broadcasts

    prepared : Node
    prepared = (fold after_entry (fold after_entry (replay s.ask.profile i p.entries) loads) (map Import tolds)).node

    is : IsPrepared (take (length s.answers + 1) s.revisions) s.log i prepared
    is = imports-prepared tolds (take (length s.answers + 1) s.revisions) s.log i (fold after_entry (replay s.ask.profile i p.entries) loads) (tellable s h) (All-drop (IsSaid s.log) (imports_in p.entries) s.broadcasts h.said) (loads-prepared s.ask.profile s.revisions s.log (length s.answers) i p k.loadable k.room (k.ready i low) (h.tracked i low).logged (calm i low) live)

-- so it brings its node to the current revision
pub may-lease : (s : SoloMachine) → IsSolvingSolo s → AreCalm s.ask.profile (length s.answers) s.places → IsDerivingSolo s → MayLease s
may-lease s k calm h i may low =
    let live : length s.answers < length s.revisions = live-parts s i may in
    let run : IsRunning s.ask.profile s.revisions s.log i (place_at s i).entries (lease_of s i) = start-running s i low live k calm h in
    record {
      reached = omega arith;
      posted = live;
      loads = start-loads s.revisions (length s.answers) (place_at s i).entries (drop (imports_in (place_at s i).entries) s.broadcasts) live (k.ready i low).early;
      node = subst (λ (x : Sliced). HasLoaded (take (length s.answers + 1) s.revisions) x.node) (sym run.runs) (slice-loaded (take (length s.answers + 1) s.revisions) run.node run.ready);
    }

pub started-deriving : (s : SoloMachine) (i : ℕ) → startable s i ≡ true → IsSolvingSolo s → AreCalm s.ask.profile (length s.answers) s.places → IsDerivingSolo s → IsDerivingSolo (solo_step s (Started i))
started-deriving s i may k calm h =
    let p : NodeSlot = place_at s i in
    placed-deriving s.ask.profile s.revisions s.answers s.places s.log s.broadcasts i (record p { out = Some (lease_of s i); starts = p.starts + 1 }) (λ low. record {
      logged = (h.tracked i low).logged;
      running = λ l e. let same : lease_of s i ≡ l = cc in subst (λ (x : Lease). IsRunning s.ask.profile s.revisions s.log i p.entries x) same (start-running s i low (live-parts s i may) k calm h);
    }) h

-- an exchange tells clauses of lines
tracked-marked : (profile : Profile) (revisions : List Posted) (log : List Line) (i m : ℕ) (p : NodeSlot) → IsTracked profile revisions log i p → IsTracked profile revisions log i (record p { mark = m })
tracked-marked profile revisions log i m p h = record { logged = h.logged; running = h.running }

pub exchanged-deriving : (s : SoloMachine) → IsDerivingSolo s → IsDerivingSolo (exchanged s)
exchanged-deriving s h = record {
  derived = h.derived;
  closed = h.closed;
  tracked = all-marked (λ (i : ℕ) (p : NodeSlot). IsTracked s.ask.profile s.revisions s.log i p) (tracked-marked s.ask.profile s.revisions s.log) s.volume (length s.log) s.places h.tracked;
  refuted = h.refuted;
  within = h.within;
  said = All-append (IsSaid s.log) s.broadcasts (broadcast (exports_from s.volume s.log 0 s.places) ∷ []) h.said (All-cons (IsSaid s.log) (broadcast (exports_from s.volume s.log 0 s.places)) [] (broadcast-said s.log (exports_from s.volume s.log 0 s.places) (tellable s h).apart (all-exports s.volume s.log 0 s.places)) (All-nil (IsSaid s.log)));
}

-- a start that comes to nothing
pub idle-deriving : (s : SoloMachine) (i : ℕ) → IsDerivingSolo s → IsDerivingSolo (finished_home s i (place_at s i))
idle-deriving s i h =
    let p : NodeSlot = place_at s i in
    placed-deriving s.ask.profile s.revisions s.answers s.places s.log s.broadcasts i (record p { out = None }) (λ low. record { logged = (h.tracked i low).logged; running = λ l e. absurd (cc) }) h

-- a slice that was run adds its lines
pub home-deriving : (s : SoloMachine) (i : ℕ) (l : Lease) → (place_at s i).out ≡ Some l → IsSolvingSolo s → IsDerivingSolo s → IsDeriving s.ask.profile s.revisions s.answers (slice_set s.places i (record (place_at s i) { entries = (place_at s i).entries ++ l.adds; out = None })) (s.log ++ (replay s.ask.profile i ((place_at s i).entries ++ l.adds)).lines) s.broadcasts
home-deriving s i l out k h = subst (λ (x : Sliced). IsDeriving s.ask.profile s.revisions s.answers (slice_set s.places i q) (s.log ++ x.lines) s.broadcasts) (sym run.runs) (record {
  derived = covers.derived;
  closed = covers.closed;
  tracked = λ j few. by_index j few (cases_Bool (eqb j i));
  refuted = λ r goal e. refuted-later (take (r + 1) s.revisions) s.log (slice run.node).lines goal (h.refuted r goal e);
  within = within-slice s.revisions s.log (l.revision + 1) (length s.answers + 1) run.node (let reached : l.revision ≤ length s.answers = (out-leased s i l out k).reached in omega arith) run.ready h.within;
  said = All-weaker (IsSaid s.log) (IsSaid (s.log ++ (slice run.node).lines)) (said-later s.log (slice run.node).lines) s.broadcasts h.said;
})
  where
    p : NodeSlot
    p = place_at s i

    q : NodeSlot
    q = record p { entries = p.entries ++ l.adds; out = None }

    within : i < length s.places
    within = out-within s.places i l out

    low : i ≤ 63
    low = let inside : i < length s.places = within in let few : length s.places ≤ 64 = k.count in omega arith

    run : IsRunning s.ask.profile s.revisions s.log i p.entries l
    run = (h.tracked i low).running l out

    covers : Covers (clauses_of (take (length s.answers + 1) s.revisions)) (s.log ++ (slice run.node).lines) i (slice run.node).node.serial (slice run.node).node.clauses
    covers =
        let reached : l.revision ≤ length s.answers = (out-leased s i l out k).reached in
        slice-covers s.revisions s.log (l.revision + 1) (length s.answers + 1) i run.node low (omega arith) h.derived h.closed run.ready.sound run.ready.held run.logged

    own : IsTracked s.ask.profile s.revisions (s.log ++ (slice run.node).lines) i q
    own = record {
      logged = subst (λ (x : Sliced). IsLogged (s.log ++ (slice run.node).lines) i x.node) (sym run.runs) (covers-logged (clauses_of (take (length s.answers + 1) s.revisions)) (s.log ++ (slice run.node).lines) i (slice run.node).node ((slice-leaves run.node).index ∙ run.logged.index) covers);
      running = λ x e. absurd (cc);
    }

    others : (j : ℕ) → j ≤ 63 → j ≢ i → (line : Line) (m : ℕ) → Among line (slice run.node).lines → line.id ≢ 2 ^ 32 + m * 64 + j
    others j few other line m a = numbers-apart run.node.serial i j (slice run.node).lines low few other (subst (λ (x : ℕ). AreNumbered run.node.serial x (slice run.node).lines) run.logged.index (lines-counted run.node).numbered) line m a

    later : (j : ℕ) → j ≤ 63 → j ≢ i → IsTracked s.ask.profile s.revisions (s.log ++ (slice run.node).lines) j (place_at s j)
    later j few other = record {
      logged = logged-later s.log (slice run.node).lines j (replay s.ask.profile j (place_at s j).entries).node (others j few other) (h.tracked j few).logged;
      running = λ x e.
          let r : IsRunning s.ask.profile s.revisions s.log j (place_at s j).entries x = (h.tracked j few).running x e in
          record { node = r.node; runs = r.runs; before = r.before; adds = r.adds; is = r.is; ready = r.ready; logged = logged-later s.log (slice run.node).lines j r.node (others j few other) r.logged; calm = r.calm };
    }

    by_other : (j : ℕ) → j ≤ 63 → j ≢ i → ((j ≡ i) × (get_or (slice_set s.places i q) j vacant ≡ q)) ⊎ (get_or (slice_set s.places i q) j vacant ≡ place_at s j) → IsTracked s.ask.profile s.revisions (s.log ++ (slice run.node).lines) j (get_or (slice_set s.places i q) j vacant)
    by_other j few other (inl e) = absurd (other e.0)
    by_other j few other (inr e) = subst (λ (x : NodeSlot). IsTracked s.ask.profile s.revisions (s.log ++ (slice run.node).lines) j x) (sym e) (later j few other)

    by_index : (j : ℕ) → j ≤ 63 → (eqb j i ≡ true) ⊎ (eqb j i ≡ false) → IsTracked s.ask.profile s.revisions (s.log ++ (slice run.node).lines) j (get_or (slice_set s.places i q) j vacant)
    by_index j few (inl e) = subst (λ (x : ℕ). IsTracked s.ask.profile s.revisions (s.log ++ (slice run.node).lines) x (get_or (slice_set s.places i q) x vacant)) (sym (eqb-true j i e)) (subst (λ (x : NodeSlot). IsTracked s.ask.profile s.revisions (s.log ++ (slice run.node).lines) i x) (sym (set-here s.places i q within)) own)
    by_index j few (inr e) = by_other j few (eqb-false j i e) (set-place s.places i j q)
