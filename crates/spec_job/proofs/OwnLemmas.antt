-- The clauses of a machine that was run on own events that may happen are its own.
use Rattle.std.proofs.Common.{◌≡◌, ℕ, ◌+◌, true, List, [], ◌∷◌, ◌++◌, take, drop, inl, inr, ◌⊎◌, sym, subst, refl}
use Rattle.std.specs.Prelude.{All, Contains}
use Rattle.std.proofs.lemmas.List.{take-append-drop}
use Rattle.std.proofs.lemmas.List.Elements.{All-weaker, All-contains}
use Rattle.mal_base.specs.Clauses.{rises}
use Rattle.mal_base.specs.NumberedClause.{NumberedClause, Line}
use Rattle.mal_revision.specs.Posted.{Posted}
use Rattle.spec_node.specs.State.{Node}
use Rattle.spec_node.specs.Sound.{IsSound}
use Rattle.spec_node.proofs.ImportLemmas.{All-with_clause}
use Rattle.spec_search.specs.Slice.{Sliced, slice}
use Rattle.spec_search.specs.Derived.{with_line, with_lines}
use Rattle.spec_search.proofs.LineLemmas.{held-of_lines}
use Rattle.spec_proof.specs.Among.{Among}
use Rattle.spec_proof.proofs.Among.{contains-from_among, all-from_among}
use Rattle.spec_job.specs.Journal.{JournalEntry, replay, loads_in}
use Rattle.spec_job.specs.SoloMachine.{Lease, SoloMachine, place_at, exports_of}
use Rattle.spec_job.specs.Models.{clauses_of}
use Rattle.spec_job.specs.Provenance.{IsLineOf, IsOwn, IsOutOwn, ClausesAreOwn, RunnableClausesOwn}
use Rattle.spec_job.proofs.LoadedLemmas.{HasLoaded}
use Rattle.spec_search.specs.Covering.{IsOfLine, IsKnown}
use Rattle.spec_job.proofs.TrackedLemmas.{IsLogged, node-known}
use Rattle.spec_job.proofs.ImportingLemmas.{IsSaid, clause_of}
use Rattle.spec_job.proofs.ExportLemmas.{exports-lines}
use Rattle.spec_job.proofs.DerivingLemmas.{IsRunning}
use Rattle.spec_job.proofs.FinishingLemmas.{out-low}
use Rattle.spec_job.proofs.KeptLemmas.{MachineInvariant, runnable-kept, kept-log}

line-of : (log : List Line) (c : NumberedClause) → IsOfLine log c → IsLineOf log c
line-of log c (line, m, i, l) = (line, contains-from_among log line m, i, l)

known-own : (s : SoloMachine) (c : NumberedClause) → IsKnown (clauses_of s.revisions) s.log c → IsOwn s c
known-own s c (inl e) = inl e
known-own s c (inr k) = inr (line-of s.log c k)

-- a node that has loaded the first revisions, of which the log knows, holds the job's own clauses
node-own : (s : SoloMachine) (i k : ℕ) (n : Node) → HasLoaded (take k s.revisions) n → IsLogged s.log i n → All (IsOwn s) n.clauses
node-own s i k n loaded logged =
    let known : All (IsKnown (clauses_of (take k s.revisions ++ drop k s.revisions)) s.log) n.clauses = node-known (take k s.revisions) (drop k s.revisions) s.log i n loaded.held logged in
    All-weaker (IsKnown (clauses_of s.revisions) s.log) (IsOwn s) (known-own s) n.clauses (subst (λ (ps : List Posted). All (IsKnown (clauses_of ps) s.log) n.clauses) (take-append-drop k s.revisions) known)

-- what holds of all clauses held and of those of lines holds of them together
All-with_lines : (P : NumberedClause → Type 0) (lines : List Line) (cs : List NumberedClause) → ((line : Line) → Among line lines → P (clause_of line)) → All P cs → All P (with_lines cs lines)
All-with_lines P [] cs f h = h
All-with_lines P (l ∷ ls) cs f h = All-with_lines P ls (with_line cs l) (λ line m. f line (inr m)) (All-with_clause P (clause_of l) cs (f l (inl refl)) h)

-- after a slice of a sound node what it holds is the job's own or of a new line
sliced-own : (s : SoloMachine) (n : Node) → IsSound n → All (IsOwn s) n.clauses → All (λ c. IsOwn s c ⊎ IsLineOf (slice n).lines c) (slice n).node.clauses
sliced-own s n sound h =
    let all : All (λ c. IsOwn s c ⊎ IsLineOf (slice n).lines c) (with_lines n.clauses (slice n).lines) = All-with_lines (λ c. IsOwn s c ⊎ IsLineOf (slice n).lines c) (slice n).lines n.clauses (λ line m. inr (line, contains-from_among (slice n).lines line m, refl, refl)) (All-weaker (IsOwn s) (λ c. IsOwn s c ⊎ IsLineOf (slice n).lines c) (λ c k. inl k) n.clauses h) in
    All-weaker (Contains (with_lines n.clauses (slice n).lines)) (λ c. IsOwn s c ⊎ IsLineOf (slice n).lines c) (λ c m. All-contains (λ d. IsOwn s d ⊎ IsLineOf (slice n).lines d) (with_lines n.clauses (slice n).lines) c all m) (slice n).node.clauses (held-of_lines n sound)

running-own : (s : SoloMachine) (i : ℕ) (entries : List JournalEntry) (l : Lease) → IsRunning s.ask.profile s.revisions s.log i entries l → IsOutOwn s i entries l
running-own s i entries l r =
    let own : All (IsOwn s) r.node.clauses = node-own s i (l.revision + 1) r.node r.ready r.logged in
    record {
      before = r.before;
      adds = r.adds;
      handed = subst (λ (n : Node). All (IsOwn s) n.clauses) r.is own;
      ran = subst (λ (x : Sliced). All (λ (c : NumberedClause). IsOwn s c ⊎ IsLineOf x.lines c) x.node.clauses) (sym r.runs) (sliced-own s r.node r.ready.sound own);
    }

kept-own : (s : SoloMachine) → MachineInvariant s → ClausesAreOwn s
kept-own s h = record {
  home = λ i few. node-own s i (loads_in (place_at s i).entries) (replay s.ask.profile i (place_at s i).entries).node (h.solving.ready i few).node (h.derives.tracked i few).logged;
  out = λ i l e. running-own s i (place_at s i).entries l ((h.derives.tracked i (out-low s i l e h.solving)).running l e);
  exports = λ i. All-weaker (IsOfLine s.log) (IsLineOf s.log) (line-of s.log) (exports_of s.log i (place_at s i)) (exports-lines s.log i (place_at s i));
  broadcasts = All-weaker (IsSaid s.log) (All (IsLineOf s.log)) (λ told k. All-weaker (IsOfLine s.log) (IsLineOf s.log) (line-of s.log) told k.lines) s.broadcasts h.derives.said;
  log = kept-log s h;
  rising = all-from_among (λ line. rises line.lits ≡ true) s.log (λ line m. (h.derives.within line m).rising);
}

pub runnable-clauses_own : RunnableClausesOwn
runnable-clauses_own events may = kept-own _ (runnable-kept events may)
