-- The log of a job's machine is derived, and each answer that refutes has a line of it.
use Rattle.std.proofs.Common.{◌≡◌, ℕ, ◌+◌, ◌-◌, ◌<◌, ◌≤◌, ◌^◌, Bool, true, false, cond, ◌==◌, List, [], ◌∷◌, ◌++◌, length, take, get_or, replicate, Option, Some, None, inl, inr, ◌⊎◌, sym, ◌∙◌, ap, subst, arith, append_assoc, append-nil, length-append}
use Rattle.std.specs.Prelude.{All, slice_get, slice_set}
use Rattle.std.proofs.lemmas.List.{take-append-le}
use Rattle.std.proofs.lemmas.Option.{slice_get_within}
use Rattle.mal_base.specs.declared.profile.Profile.{Profile}
use Rattle.mal_base.specs.NumberedClause.{NumberedClause, Line}
use Rattle.mal_base.specs.declared.answer.Answer.{Answer}
use Rattle.mal_base.specs.declared.answer.Answer.TheVariants.{Satisfied, Refuted, Spent, OutOfStarts}
use Rattle.mal_base.specs.declared.verdict.Verdict.{Verdict}
use Rattle.mal_base.specs.declared.verdict.Verdict.TheVariants.{Satisfiable, Unsatisfiable}
use Rattle.mal_revision.specs.Posted.{Posted}
use Rattle.spec_logic.specs.Refutation.{contradicts}
use Rattle.spec_node.specs.State.{Node}
use Rattle.spec_node.specs.Model.{model_of}
use Rattle.spec_search.specs.Slice.{slice}
use Rattle.spec_proof.specs.Log.{IsLog}
use Rattle.spec_proof.specs.Among.{Among, IsClosed}
use Rattle.spec_job.specs.Journal.{JournalEntry, Run, replay, loads_in}
use Rattle.spec_job.specs.SoloMachine.{Lease, NodeSlot, vacant, SoloMachine, place_at, clauses_in, answered, spend, starve, conclude, first_empty, settled_by}
use Rattle.spec_job.specs.Models.{clauses_of, variables_of}
use Rattle.spec_job.specs.Runnable.{MayCome}
use Rattle.spec_job.proofs.LoadedLemmas.{last_assumed, HasLoaded, clauses_in-push}
use Rattle.spec_job.proofs.ElementLemmas.{get-push, get-repeated}
use Rattle.spec_job.proofs.PlacesLemmas.{set-place}
use Rattle.spec_job.proofs.SolvingLemmas.{IsSolvingSolo}
use Rattle.spec_job.proofs.ReachedLemmas.{IsEmptyLine, empty-found}
use Rattle.spec_job.proofs.TrackedLemmas.{log-later, log-revised, IsLogged}
use Rattle.spec_job.proofs.ImportingLemmas.{IsSaid, AreWithin}
use Rattle.spec_job.proofs.WithinLemmas.{within-later, within-revised}

-- a line of a front of the log refutes these revisions
pub record IsRefuted (revisions : List Posted) (log : List Line) (goal : ℕ) : Type 0 where
  pub front : List Line
  pub more : List Line
  pub is : log ≡ front ++ more
  pub derived : IsLog (clauses_of revisions) front
  pub closed : IsClosed front
  pub line : Line
  pub among : Among line front
  pub number : line.id ≡ goal
  pub contradicted : contradicts (last_assumed revisions) (Some line.lits) ≡ true

-- a start that is out runs a slice of a node without a verdict that has loaded its revision
pub record IsRunning (profile : Profile) (revisions : List Posted) (log : List Line) (i : ℕ) (entries : List JournalEntry) (l : Lease) : Type 0 where
  pub node : Node
  pub runs : replay profile i (entries ++ l.adds) ≡ slice node
  pub before : List JournalEntry
  pub adds : l.adds ≡ before ++ Run ∷ []
  pub is : node ≡ (replay profile i (entries ++ before)).node
  pub ready : HasLoaded (take (l.revision + 1) revisions) node
  pub logged : IsLogged log i node
  pub calm : node.verdict ≡ None

-- a place of a job: the log knows its node, and the node of its start
pub record IsTracked (profile : Profile) (revisions : List Posted) (log : List Line) (i : ℕ) (p : NodeSlot) : Type 0 where
  pub logged : IsLogged log i (replay profile i p.entries).node
  pub running : (l : Lease) → p.out ≡ Some l → IsRunning profile revisions log i p.entries l

-- a machine whose log is derived from the revisions up to the current one and of their variables, and whose broadcasts
-- have clauses of its lines
pub record IsDeriving (profile : Profile) (revisions : List Posted) (answers : List Answer) (places : List NodeSlot) (log : List Line) (broadcasts : List (List NumberedClause)) : Type 0 where
  pub derived : IsLog (clauses_of (take (length answers + 1) revisions)) log
  pub closed : IsClosed log
  pub tracked : (i : ℕ) → i ≤ 63 → IsTracked profile revisions log i (get_or places i vacant)
  pub refuted : (r goal : ℕ) → slice_get answers r ≡ Some (Refuted goal) → IsRefuted (take (r + 1) revisions) log goal
  pub within : AreWithin (variables_of (take (length answers + 1) revisions)) log
  pub said : All (IsSaid log) broadcasts

abbrev pub IsDerivingSolo : SoloMachine → Type 0
IsDerivingSolo s = IsDeriving s.ask.profile s.revisions s.answers s.places s.log s.broadcasts

-- the nodes that have loaded the current revision have no verdict
abbrev pub AreCalm : Profile → ℕ → List NodeSlot → Type 0
AreCalm profile current places = (i : ℕ) → i ≤ 63 → loads_in (get_or places i vacant).entries ≡ current + 1 → (replay profile i (get_or places i vacant).entries).node.verdict ≡ None

-- the nodes have loaded no more than the current revision
abbrev pub AreEarly : ℕ → List NodeSlot → Type 0
AreEarly current places = (i : ℕ) → i ≤ 63 → loads_in (get_or places i vacant).entries ≤ current + 1

pub refuted-later : (revisions : List Posted) (log more : List Line) (goal : ℕ) → IsRefuted revisions log goal → IsRefuted revisions (log ++ more) goal
refuted-later revisions log more goal h = record {
  front = h.front;
  more = h.more ++ more;
  is = ap (λ (ls : List Line). ls ++ more) h.is ∙ append_assoc h.front h.more more;
  derived = h.derived;
  closed = h.closed;
  line = h.line;
  among = h.among;
  number = h.number;
  contradicted = h.contradicted;
}

-- further answers, where those that refute have lines
answers-deriving : (profile : Profile) (revisions : List Posted) (answers more : List Answer) (places : List NodeSlot) (log : List Line) (told : List (List NumberedClause)) → clauses_in revisions < 2 ^ 32 → ((r goal : ℕ) → slice_get (answers ++ more) r ≡ Some (Refuted goal) → IsRefuted (take (r + 1) revisions) log goal) → IsDeriving profile revisions answers places log told → IsDeriving profile revisions (answers ++ more) places log told
answers-deriving profile revisions answers more places log told room good h =
    let long : length (answers ++ more) ≡ length answers + length more = length-append answers more in
    record { derived = log-later revisions (length answers + 1) (length (answers ++ more) + 1) log (omega arith) room h.derived; closed = h.closed; tracked = h.tracked; refuted = good; within = within-later (length answers + 1) (length (answers ++ more) + 1) revisions log (omega arith) h.within; said = h.said }

answered-deriving : (profile : Profile) (revisions : List Posted) (answers : List Answer) (places : List NodeSlot) (log : List Line) (told : List (List NumberedClause)) (a : Answer) → clauses_in revisions < 2 ^ 32 → ((goal : ℕ) → a ≡ Refuted goal → IsRefuted (take (length answers + 1) revisions) log goal) → IsDeriving profile revisions answers places log told → IsDeriving profile revisions (answers ++ a ∷ []) places log told
answered-deriving profile revisions answers places log told a room good h = answers-deriving profile revisions answers (a ∷ []) places log told room (λ r goal e. by_place r goal (get-push answers a (Refuted goal) r e)) h
  where
    by_place : (r goal : ℕ) → ((r ≡ length answers) × (a ≡ Refuted goal)) ⊎ (slice_get answers r ≡ Some (Refuted goal)) → IsRefuted (take (r + 1) revisions) log goal
    by_place r goal (inl k) = subst (λ (x : ℕ). IsRefuted (take (x + 1) revisions) log goal) (sym k.0) (good goal k.1)
    by_place r goal (inr k) = h.refuted r goal k

-- the whole log refutes a revision from the current one on where it holds an empty clause
empty-refutes : (revisions : List Posted) (c r goal : ℕ) (log : List Line) (line : Line) → c ≤ r → clauses_in revisions < 2 ^ 32 → IsLog (clauses_of (take (c + 1) revisions)) log → IsClosed log → IsEmptyLine log goal line → IsRefuted (take (r + 1) revisions) log goal
empty-refutes revisions c r goal log line low room is closed k = record {
  front = log;
  more = [];
  is = sym (append-nil log);
  derived = log-later revisions (c + 1) (r + 1) log (omega arith) room is;
  closed = closed;
  line = line;
  among = k.0;
  number = k.1;
  contradicted = ap (λ (lits : List ℕ). contradicts (last_assumed (take (r + 1) revisions)) (Some lits)) k.2;
}

pub settled-deriving : (o : Option ℕ) (s : SoloMachine) → first_empty s.log ≡ o → clauses_in s.revisions < 2 ^ 32 → IsDerivingSolo s → IsDerivingSolo (settled_by o s)
settled-deriving None s e room h = h
settled-deriving (Some goal) s e room h = answers-deriving s.ask.profile s.revisions s.answers (replicate (length s.revisions - length s.answers) (Refuted goal)) s.places s.log s.broadcasts room (λ r other q. by_place r other (get-repeated s.answers (length s.revisions - length s.answers) (Refuted goal) (Refuted other) r q)) h
  where
    by_place : (r other : ℕ) → ((length s.answers ≤ r) × (Refuted goal ≡ Refuted other)) ⊎ (slice_get s.answers r ≡ Some (Refuted other)) → IsRefuted (take (r + 1) s.revisions) s.log other
    by_place r other (inl (low, q)) =
        let same : goal ≡ other = cc in
        let found : (line : Line) × IsEmptyLine s.log goal line = empty-found s.log goal e in
        subst (λ (g : ℕ). IsRefuted (take (r + 1) s.revisions) s.log g) same (empty-refutes s.revisions (length s.answers) r goal s.log found.0 low room h.derived h.closed found.1)
    by_place r other (inr k) = h.refuted r other k

spend-deriving : (s : SoloMachine) → clauses_in s.revisions < 2 ^ 32 → IsDerivingSolo s → IsDerivingSolo (spend s)
spend-deriving s room h = by_test (s.spent + 1 == s.ask.slices)
  where
    by_test : (b : Bool) → IsDerivingSolo (cond b (answered s (Spent s.ask.slices)) (record s { spent = s.spent + 1 }))
    by_test true = answered-deriving s.ask.profile s.revisions s.answers s.places s.log s.broadcasts (Spent s.ask.slices) room (λ goal e. absurd (cc)) h
    by_test false = h

pub starve-deriving : (s : SoloMachine) → clauses_in s.revisions < 2 ^ 32 → IsDerivingSolo s → IsDerivingSolo (starve s)
starve-deriving s room h = by_test (s.starved + 1 == 3)
  where
    by_test : (b : Bool) → IsDerivingSolo (cond b (answered s OutOfStarts) (record s { starved = s.starved + 1 }))
    by_test true = answered-deriving s.ask.profile s.revisions s.answers s.places s.log s.broadcasts OutOfStarts room (λ goal e. absurd (cc)) h
    by_test false = h

pub conclude-deriving : (v : Option Verdict) (n : Node) (s : SoloMachine) → clauses_in s.revisions < 2 ^ 32 → ((goal : ℕ) → v ≡ Some (Unsatisfiable goal) → IsRefuted (take (length s.answers + 1) s.revisions) s.log goal) → IsDerivingSolo s → IsDerivingSolo (conclude v n s)
conclude-deriving None n s room good h = spend-deriving s room h
conclude-deriving (Some Satisfiable) n s room good h = answered-deriving s.ask.profile s.revisions s.answers s.places s.log s.broadcasts (Satisfied (model_of n)) room (λ goal e. absurd (cc)) h
conclude-deriving (Some (Unsatisfiable goal)) n s room good h = answered-deriving s.ask.profile s.revisions s.answers s.places s.log s.broadcasts (Refuted goal) room (λ other e. let same : goal ≡ other = cc in good other (ap (λ (g : ℕ). Some (Unsatisfiable g)) same)) h

-- a place that is tracked is put at its index
pub placed-deriving : (profile : Profile) (revisions : List Posted) (answers : List Answer) (places : List NodeSlot) (log : List Line) (told : List (List NumberedClause)) (i : ℕ) (p : NodeSlot) → (i ≤ 63 → IsTracked profile revisions log i p) → IsDeriving profile revisions answers places log told → IsDeriving profile revisions answers (slice_set places i p) log told
placed-deriving profile revisions answers places log told i p k h = record { derived = h.derived; closed = h.closed; tracked = λ j low. by_place j low (set-place places i j p); refuted = h.refuted; within = h.within; said = h.said }
  where
    by_place : (j : ℕ) → j ≤ 63 → ((j ≡ i) × (get_or (slice_set places i p) j vacant ≡ p)) ⊎ (get_or (slice_set places i p) j vacant ≡ get_or places j vacant) → IsTracked profile revisions log j (get_or (slice_set places i p) j vacant)
    by_place j low (inl e) = subst (λ (q : NodeSlot). IsTracked profile revisions log j q) (sym e.1) (subst (λ (x : ℕ). IsTracked profile revisions log x p) (sym e.0) (k (subst (λ (x : ℕ). x ≤ 63) e.0 low)))
    by_place j low (inr e) = subst (λ (q : NodeSlot). IsTracked profile revisions log j q) (sym e) (h.tracked j low)

-- a further revision that may come
pub posted-deriving : (s : SoloMachine) (r : Posted) → MayCome s r → IsSolvingSolo s → IsDerivingSolo s → IsDerivingSolo (record s { revisions = s.revisions ++ r ∷ [] })
posted-deriving s r may k h =
    let push : clauses_in (s.revisions ++ r ∷ []) ≡ clauses_in s.revisions + length r.clauses = clauses_in-push s.revisions r in
    let room : clauses_in s.revisions + length r.clauses < 2 ^ 32 = may.room in
    record {
      derived = log-revised s.revisions (r ∷ []) (length s.answers + 1) s.log (omega arith) h.derived;
      closed = h.closed;
      tracked = λ i low. record { logged = (h.tracked i low).logged; running = running i low };
      refuted = λ x goal e.
          let within : x < length s.answers = slice_get_within s.answers x (Refuted goal) e in
          let order : length s.answers ≤ length s.revisions = k.order in
          subst (λ (ps : List Posted). IsRefuted ps s.log goal) (sym (take-append-le (x + 1) s.revisions (r ∷ []) (omega arith))) (h.refuted x goal e);
      within = within-revised (length s.answers + 1) s.revisions (r ∷ []) s.log h.within;
      said = h.said;
    }
  where
    running : (i : ℕ) → i ≤ 63 → (l : Lease) → (place_at s i).out ≡ Some l → IsRunning s.ask.profile (s.revisions ++ r ∷ []) s.log i (place_at s i).entries l
    running i low l e =
        let run : IsRunning s.ask.profile s.revisions s.log i (place_at s i).entries l = (h.tracked i low).running l e in
        let posted : l.revision < length s.revisions = ((k.ready i low).leased l e).posted in
        record { node = run.node; runs = run.runs; before = run.before; adds = run.adds; is = run.is; ready = subst (λ (ps : List Posted). HasLoaded ps run.node) (sym (take-append-le (l.revision + 1) s.revisions (r ∷ []) (omega arith))) run.ready; logged = run.logged; calm = run.calm }
