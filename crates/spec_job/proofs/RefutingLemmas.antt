-- A machine that was run on own events that may happen: its log is derived, and its refutations are proved.
use Rattle.std.proofs.Common.{◌≡◌, ℕ, suc, ◌+◌, ◌<◌, ◌≤◌, true, List, [], ◌∷◌, ◌++◌, Contains, length, map, take, Some, sym, ◌∙◌, ap, subst, arith}
use Rattle.std.specs.Prelude.{All, slice_get}
use Rattle.std.proofs.lemmas.List.{map-append}
use Rattle.std.proofs.lemmas.Option.{slice_get_within}
use Rattle.mal_base.specs.NumberedClause.{Line}
use Rattle.mal_base.specs.Literals.{negated}
use Rattle.mal_base.specs.declared.answer.Answer.TheVariants.{Refuted}
use Rattle.mal_revision.specs.Posted.{Posted}
use Rattle.spec_logic.specs.Refutation.{contradicts, IsRefutation}
use Rattle.spec_proof.specs.Log.{proof_of, AreApart}
use Rattle.spec_proof.specs.Trimmed.{reached, renamed, renumbered, new_id, ids_of}
use Rattle.spec_proof.specs.Among.{Among}
use Rattle.spec_proof.proofs.Among.{among-left, among-right, contains-from_among, of-all, all-from_among}
use Rattle.spec_proof.proofs.LogLemmas.{log-orderly}
use Rattle.spec_proof.proofs.Reaching.{goal-is-last}
use Rattle.spec_proof.proofs.Refuting.{trimmed-refutes}
use Rattle.spec_proof.proofs.Contradicting.{contradicts-own, contradicts-members}
use Rattle.spec_proof.specs.Log.{IsAbove}
use Rattle.spec_job.specs.SoloMachine.{SoloMachine, solo}
use Rattle.spec_job.specs.Models.{clauses_of, clauses_through}
use Rattle.spec_job.specs.Proofs.{lits_at, failed, proof_lines, RefutesRevision}
use Rattle.spec_job.specs.Runnable.{RunnableAnswersFollow, RunnableAnswersRefute, RunnableAnswersSolve, RunnableLogsDerived}
use Rattle.spec_job.proofs.LoadedLemmas.{last_assumed, last-at}
use Rattle.spec_job.proofs.SolvedLemmas.{solving-answers}
use Rattle.spec_job.proofs.ReachedLemmas.{reached-stays, lits-found}
use Rattle.spec_job.proofs.DerivingLemmas.{IsRefuted}
use Rattle.spec_job.proofs.KeptLemmas.{MachineInvariant, runnable-kept, kept-log, runnable-solving}

pub runnable-logs_derived : RunnableLogsDerived
runnable-logs_derived events may = kept-log (solo events) (runnable-kept events may)

-- renumbered lines keep their literals
renumbered-last : (m : ℕ) (lines front : List Line) (line : Line) (lits : List ℕ) → lines ≡ front ++ line ∷ [] → line.lits ≡ lits → (before : List Line) × (last : Line) × (renumbered m lines ≡ before ++ last ∷ []) × (last.lits ≡ lits)
renumbered-last m lines front line lits e f =
    let name : ℕ → ℕ = new_id m (ids_of lines) in
    (map (renamed name) front, renamed name line, ap (λ (ls : List Line). map (renamed name) ls) e ∙ map-append (renamed name) front (line ∷ []), f)

-- an answer that refutes a revision has a proof
module _ (s : SoloMachine) (h : MachineInvariant s) (r goal : ℕ) (e : slice_get s.answers r ≡ Some (Refuted goal)) where
  found : IsRefuted (take (r + 1) s.revisions) s.log goal
  found = h.derives.refuted r goal e

  apart : AreApart s.log
  apart = (log-orderly (clauses_of s.revisions) s.log (kept-log s h)).apart

  in-log : Among found.line s.log
  in-log = subst (λ (ls : List Line). Among found.line ls) (sym found.is) (among-left found.front found.more found.line found.among)

  above-more : All IsAbove found.more
  above-more = all-from_among IsAbove found.more (λ l m. of-all IsAbove s.log l (kept-log s h).above (subst (λ (ls : List Line). Among l ls) (sym found.is) (among-right found.front found.more l m)))

  own-lits : lits_at goal s.log ≡ found.line.lits
  own-lits = lits-found s.log apart goal found.line in-log found.number

  same-reached : reached goal s.log ≡ reached goal found.front
  same-reached = ap (λ (ls : List Line). reached goal ls) found.is ∙ reached-stays goal found.front found.more (subst (λ (ls : List Line). AreApart ls) found.is apart) above-more found.closed found.line found.among found.number

  refutation : IsRefutation (clauses_through s.revisions r) (failed goal s.log) (proof_of (proof_lines s.revisions s.log r goal))
  refutation =
      subst (λ (ls : List Line). IsRefutation (clauses_through s.revisions r) (failed goal s.log) (proof_of (renumbered (length (clauses_through s.revisions r)) ls))) (sym same-reached)
      (subst (λ (xs : List ℕ). IsRefutation (clauses_through s.revisions r) (map negated xs) (proof_of (renumbered (length (clauses_through s.revisions r)) (reached goal found.front)))) (sym own-lits)
      (trimmed-refutes (clauses_through s.revisions r) (map negated found.line.lits) goal found.front found.line found.derived (contains-from_among found.front found.line found.among) found.number (contradicts-own found.line.lits)))

  assumed-there : (p : Posted) → slice_get s.revisions r ≡ Some p → All (Contains p.assumptions) (failed goal s.log)
  assumed-there p at =
      let next : r + 1 ≡ suc r = omega arith in
      let same : last_assumed (take (r + 1) s.revisions) ≡ p.assumptions = ap (λ (k : ℕ). last_assumed (take k s.revisions)) next ∙ last-at s.revisions r p [] at in
      subst (λ (xs : List ℕ). All (Contains p.assumptions) (map negated xs)) (sym own-lits) (contradicts-members p.assumptions found.line.lits (subst (λ (xs : List ℕ). contradicts xs (Some found.line.lits) ≡ true) same found.contradicted))

  last-line : (before : List Line) × (line : Line) × (proof_lines s.revisions s.log r goal ≡ before ++ line ∷ []) × (line.lits ≡ lits_at goal s.log)
  last-line =
      let last : (front : List Line) × (reached goal found.front ≡ front ++ found.line ∷ []) = goal-is-last goal found.front found.line (log-orderly (clauses_through s.revisions r) found.front found.derived) (contains-from_among found.front found.line found.among) found.number in
      renumbered-last (length (clauses_through s.revisions r)) (reached goal s.log) last.0 found.line (lits_at goal s.log) (same-reached ∙ last.1) (sym own-lits)

  refutes-revision : RefutesRevision s r goal
  refutes-revision = record {
    posted = let within : r < length s.answers = slice_get_within s.answers r (Refuted goal) e in let order : length s.answers ≤ length s.revisions = h.solving.order in omega arith;
    refuted = refutation;
    assumed = assumed-there;
    last = last-line;
  }

pub runnable-answers_refute : RunnableAnswersRefute
runnable-answers_refute events may r goal e = refutes-revision (solo events) (runnable-kept events may) r goal e

pub runnable-answers_solve : RunnableAnswersSolve
runnable-answers_solve events may = solving-answers (solo events) (runnable-solving events may)

pub runnable-answers_follow : RunnableAnswersFollow
runnable-answers_follow events may = (runnable-solving events may).order
