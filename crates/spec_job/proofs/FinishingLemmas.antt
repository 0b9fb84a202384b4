-- Finishes of a machine whose log is derived, and each of its events.
use Rattle.std.proofs.Common.{◌≡◌, ℕ, ◌+◌, ◌<◌, ◌≤◌, true, List, [], ◌∷◌, ◌++◌, length, take, Option, Some, None, inl, refl, sym, ◌∙◌, ap, subst, arith, append-nil}
use Rattle.std.specs.Prelude.{slice_set}
use Rattle.std.proofs.lemmas.List.Elements.{All-nil}
use Rattle.mal_base.specs.Asks.{Terms}
use Rattle.mal_base.specs.NumberedClause.{Line}
use Rattle.mal_base.specs.declared.verdict.Verdict.TheVariants.{Unsatisfiable}
use Rattle.mal_base.specs.declared.verdict.Outcome.{Outcome}
use Rattle.mal_base.specs.declared.verdict.Outcome.TheVariants.{Starved}
use Rattle.spec_logic.specs.Refutation.{contradicts}
use Rattle.spec_node.specs.State.{Node}
use Rattle.spec_search.specs.Slice.{Sliced, slice}
use Rattle.spec_search.specs.Laws.{IsRefutedBy}
use Rattle.spec_search.proofs.LineLemmas.{slice-refutes}
use Rattle.spec_proof.specs.Among.{Among}
use Rattle.spec_proof.proofs.Among.{among-right}
use Rattle.spec_proof.proofs.LogLemmas.{log-empty}
use Rattle.spec_job.specs.Journal.{replay}
use Rattle.spec_job.specs.SoloMachine.{Own, Opened, Revised, Reasked, Closed, Volume, Started, Finished, Exchanged, Lease, NodeSlot, SoloMachine, unopened, solo_step, place_at, first_empty, settled, finished_ran, finished_home, finished_lease, finished}
use Rattle.spec_job.specs.Runnable.{MayHappen}
use Rattle.spec_job.proofs.LoadedLemmas.{last_assumed}
use Rattle.spec_job.proofs.FinishLemmas.{slice_of, ran_home, by-ran, by-starved, by-outcome, by-lease}
use Rattle.spec_job.proofs.PlacesLemmas.{get-vacant, out-within}
use Rattle.spec_job.proofs.SolvingLemmas.{IsSolvingSolo, out-leased}
use Rattle.spec_job.proofs.PostingLemmas.{posted-solving}
use Rattle.spec_job.proofs.SolvedLemmas.{in-time, lease-solving}
use Rattle.spec_job.proofs.TrackedLemmas.{fresh-logged}
use Rattle.spec_job.proofs.ImportingLemmas.{IsSaid}
use Rattle.spec_job.proofs.DerivingLemmas.{IsRefuted, IsRunning, IsTracked, IsDeriving, IsDerivingSolo, AreCalm, starve-deriving, conclude-deriving, posted-deriving, settled-deriving}
use Rattle.spec_job.proofs.RunningLemmas.{started-deriving, exchanged-deriving, idle-deriving, home-deriving}

-- where a slice refutes the clauses, its last line is the goal's
ran-refuted : (s : SoloMachine) (i : ℕ) (l : Lease) (goal : ℕ) → (out : (place_at s i).out ≡ Some l) → IsSolvingSolo s → IsDerivingSolo s → i ≤ 63 → l.revision ≡ length s.answers → (replay s.ask.profile i ((place_at s i).entries ++ l.adds)).node.verdict ≡ Some (Unsatisfiable goal) → IsRefuted (take (length s.answers + 1) s.revisions) (s.log ++ (replay s.ask.profile i ((place_at s i).entries ++ l.adds)).lines) goal
ran-refuted s i l goal out k h low now v = record {
  front = log;
  more = [];
  is = sym (append-nil log);
  derived = home.derived;
  closed = home.closed;
  line = by.line;
  among = among-right s.log ran.lines by.line (subst (λ (ls : List Line). Among by.line ls) (sym lines) (among-right by.before (by.line ∷ []) by.line (inl refl)));
  number = by.number;
  contradicted = subst (λ (n : ℕ). contradicts (last_assumed (take (n + 1) s.revisions)) (Some by.line.lits) ≡ true) now (subst (λ (xs : List ℕ). contradicts xs (Some by.line.lits) ≡ true) run.ready.assumed by.contradicted);
}
  where
    ran : Sliced
    ran = replay s.ask.profile i ((place_at s i).entries ++ l.adds)

    log : List Line
    log = s.log ++ ran.lines

    run : IsRunning s.ask.profile s.revisions s.log i (place_at s i).entries l
    run = (h.tracked i low).running l out

    home : IsDeriving s.ask.profile s.revisions s.answers (slice_set s.places i (record (place_at s i) { entries = (place_at s i).entries ++ l.adds; out = None })) log s.broadcasts
    home = home-deriving s i l out k h

    by : IsRefutedBy run.node.assumptions goal (slice run.node).lines
    by = slice-refutes run.node goal run.ready.sound run.calm (sym (ap (λ (x : Sliced). x.node.verdict) run.runs) ∙ v)

    lines : ran.lines ≡ by.before ++ by.line ∷ []
    lines = ap (λ (x : Sliced). x.lines) run.runs ∙ by.last

pub out-low : (s : SoloMachine) (i : ℕ) (l : Lease) → (place_at s i).out ≡ Some l → IsSolvingSolo s → i ≤ 63
out-low s i l out k = let inside : i < length s.places = out-within s.places i l out in let few : length s.places ≤ 64 = k.count in omega arith

-- a slice that was run
ran-deriving : (s : SoloMachine) (i : ℕ) (l : Lease) → (place_at s i).out ≡ Some l → IsSolvingSolo s → IsDerivingSolo s → IsDerivingSolo (finished_ran s i (place_at s i) l)
ran-deriving s i l out k h =
    let node : Node = (slice_of s i (place_at s i) l).node in
    let at_home : IsDerivingSolo (ran_home s i (place_at s i) l) = home-deriving s i l out k h in
    by-ran IsDerivingSolo s i (place_at s i) l (λ late. at_home) (λ now. conclude-deriving node.verdict node (ran_home s i (place_at s i) l) k.room (λ goal v. ran-refuted s i l goal out k h (out-low s i l out k) (in-time s l (out-leased s i l out k).reached now) v) at_home)

starved-deriving : (s : SoloMachine) (i : ℕ) (l : Lease) → IsSolvingSolo s → IsDerivingSolo s → IsDerivingSolo (finished_lease s i (place_at s i) l Starved)
starved-deriving s i l k h = by-starved IsDerivingSolo s i (place_at s i) l (λ late. idle-deriving s i h) (λ now. starve-deriving (finished_home s i (place_at s i)) k.room (idle-deriving s i h))

ended-deriving : (s : SoloMachine) (i : ℕ) (l : Lease) (o : Outcome) → (place_at s i).out ≡ Some l → IsSolvingSolo s → IsDerivingSolo s → IsDerivingSolo (settled (finished_lease s i (place_at s i) l o))
ended-deriving s i l o e k h =
    let ended : SoloMachine = finished_lease s i (place_at s i) l o in
    settled-deriving (first_empty ended.log) ended refl (lease-solving s i l o e k).room (by-outcome IsDerivingSolo s i (place_at s i) l o (ran-deriving s i l e k h) (starved-deriving s i l k h) (idle-deriving s i h))

finished-deriving : (s : SoloMachine) (i : ℕ) (out : Option Lease) (o : Outcome) → (place_at s i).out ≡ out → IsSolvingSolo s → IsDerivingSolo s → IsDerivingSolo (finished s i (place_at s i) out o)
finished-deriving s i out o e k h = by-lease IsDerivingSolo s i (place_at s i) out o h (λ l f. ended-deriving s i l o (e ∙ f) k h)

-- the machine that is opened
pub opened-deriving : (ask : Terms) → IsDerivingSolo (record unopened { ask = ask })
opened-deriving ask = record {
  derived = log-empty [] (omega arith);
  closed = λ line hint m k. absurd m;
  tracked = λ i low. subst (λ (p : NodeSlot). IsTracked ask.profile [] [] i p) (sym (get-vacant 64 i)) (record { logged = fresh-logged ask.profile i; running = λ l e. absurd (cc) });
  refuted = λ r goal e. absurd (cc);
  within = λ line m. absurd m;
  said = All-nil (IsSaid []);
}

-- each event that may happen
pub step-deriving : (s : SoloMachine) (o : Own) → MayHappen s o → IsSolvingSolo s → AreCalm s.ask.profile (length s.answers) s.places → IsDerivingSolo s → IsDerivingSolo (solo_step s o)
step-deriving s (Opened ask) may k calm h = subst (λ (x : SoloMachine). IsDerivingSolo (record x { ask = ask })) (sym may) (opened-deriving ask)
step-deriving s (Revised r) may k calm h = settled-deriving (first_empty s.log) (record s { revisions = s.revisions ++ r ∷ [] }) refl (posted-solving s r may k).room (posted-deriving s r may k h)
step-deriving s (Reasked w) may k calm h = h
step-deriving s Closed may k calm h = h
step-deriving s (Volume v) may k calm h = h
step-deriving s (Started i) may k calm h = started-deriving s i may k calm h
step-deriving s (Finished i o) may k calm h = finished-deriving s i (place_at s i).out o refl k h
step-deriving s Exchanged may k calm h = exchanged-deriving s h
