-- What a lawful job's machine tells as a refutation is one whose claim is taken.
use Rattle.std.proofs.Common.{◌≡◌, ℕ, suc, ◌+◌, ◌*◌, ◌-◌, ◌/◌, ◌^◌, ◌<◌, ◌≤◌, List, [], ◌∷◌, length, take, Some, subst, arith}
use Rattle.std.proofs.lemmas.List.Elements.{All-contains}
use Rattle.std.proofs.lemmas.List.Sums.{sum_by-take-le}
use Rattle.std.proofs.lemmas.Nat.{mul-le}
use Rattle.mal_base.specs.Limits.{limits}
use Rattle.mal_base.specs.NumberedClause.{Line}
use Rattle.mal_base.specs.declared.answer.Answer.{Answer}
use Rattle.mal_base.specs.declared.answer.Answer.TheVariants.{Satisfied, Refuted, Spent, OutOfStarts}
use Rattle.mal_revision.specs.Posted.{Posted}
use Rattle.spec_report.specs.Replies.{Proof}
use Rattle.spec_proof.specs.Among.{Among}
use Rattle.spec_proof.specs.Log.{IsAbove, IsLog}
use Rattle.spec_proof.specs.Trimmed.{IsTrimmed, by_id, reached}
use Rattle.spec_proof.proofs.Among.{of-all}
use Rattle.spec_proof.proofs.LogLemmas.{log-orderly}
use Rattle.spec_proof.proofs.Reaching.{among-sorted, reached-among, reached-trimmed}
use Rattle.spec_job.specs.Counts.{IsOpenedOnce, runs_of, starts_out}
use Rattle.spec_job.specs.Lawful.{IsLawful}
use Rattle.spec_job.specs.Models.{clauses_of, clauses_through, variables_of}
use Rattle.spec_job.specs.Proofs.{proof_lines}
use Rattle.spec_job.specs.Replies.{body_by, body_of}
use Rattle.spec_job.specs.SoloMachine.{Own, Opened, Revised, Reasked, Closed, Volume, Started, Finished, Exchanged, SoloMachine, clauses_in, solo}
use Rattle.spec_job.proofs.CountingLemmas.{step-low, unopened-low}
use Rattle.spec_job.proofs.KeptLemmas.{MachineInvariant, kept-log, runnable-kept}
use Rattle.spec_job.proofs.LawfulLemmas.{lawful-is_once, lawful-runnable}
use Rattle.spec_job.proofs.RunsLemmas.{runs-are_few}
use Rattle.spec_job.proofs.SlicesLemmas.{each-keeps}
use Rattle.spec_inquiry.specs.Evidence.{IsEvidence}
use Rattle.spec_inquiry.proofs.EvidenceLemmas.{told-at}
use Rattle.spec_promises.specs.Taken.{AreReadable, IsRefuted, formula_through}
use Rattle.spec_promises.proofs.Hints.{log-hints}
use Rattle.spec_promises.proofs.Readable.{IsInForm, renumbered-readable}
use Rattle.spec_promises.proofs.Served.{IsServed, count-is, failed-within, lawful-served, through-formed, variables-low}

-- the slices that a lawful job ran are no more than its revisions may have, and one revision more
few-runs : (own : List Own) → IsLawful own → runs_of (solo own).places ≤ 1052672
few-runs [] h = absurd h
few-runs (Opened ask ∷ os) h =
    let s : SoloMachine = solo (Opened ask ∷ os) in
    let once : IsOpenedOnce ask os = lawful-is_once ask os h in
    let most : runs_of s.places + starts_out s.places ≤ (length s.answers + 1) * ask.slices = runs-are_few ask os once in
    let kept : MachineInvariant s = runnable-kept (Opened ask ∷ os) once.runnable in
    let answers : length s.answers ≤ length s.revisions = kept.solving.order in
    let revisions : length s.revisions ≤ limits.revisions = (lawful-served (Opened ask ∷ os) h).few in
    let bound : (length s.answers + 1) * ask.slices ≤ 257 * limits.slices = mul-le (length s.answers + 1) ask.slices 257 limits.slices (omega (arith, answers, revisions)) h.0.slices_bound in
    omega (arith, most, bound)
few-runs (Revised r ∷ os) h = absurd h
few-runs (Reasked w ∷ os) h = absurd h
few-runs (Closed ∷ os) h = absurd h
few-runs (Volume v ∷ os) h = absurd h
few-runs (Started i ∷ os) h = absurd h
few-runs (Finished i o ∷ os) h = absurd h
few-runs (Exchanged ∷ os) h = absurd h

-- a number whose serial is low
low-number : (id all : ℕ) → (id - 2 ^ 32) / 64 < all * 1000 → all ≤ 1052672 → id ≤ 2 ^ 62
low-number id all low few = omega (arith, low, few)

-- the lines that a goal needs are read again after the clauses of the revisions up to its own
lines-readable : (own : List Own) (r goal : ℕ) → IsLawful own → AreReadable (length (clauses_through (solo own).revisions r)) (proof_lines (solo own).revisions (solo own).log r goal)
lines-readable own r goal h = renumbered-readable variables (length (clauses_through s.revisions r)) (reached goal s.log) (variables-low s.revisions (length s.answers + 1) served.posted) trimmed.rising above formed
  where
    s : SoloMachine
    s = solo own

    served : IsServed s
    served = lawful-served own h

    kept : MachineInvariant s
    kept = runnable-kept own (lawful-runnable own h)

    log : IsLog (clauses_of s.revisions) s.log
    log = kept-log s kept

    trimmed : IsTrimmed (reached goal s.log)
    trimmed = reached-trimmed goal s.log (log-orderly (clauses_of s.revisions) s.log log)

    variables : ℕ
    variables = variables_of (take (length s.answers + 1) s.revisions)

    above : (y : Line) → Among y (reached goal s.log) → length (clauses_through s.revisions r) < y.id
    above y k =
        let count : length (clauses_of (take (r + 1) s.revisions)) ≡ clauses_in (take (r + 1) s.revisions) = count-is (take (r + 1) s.revisions) in
        let part : clauses_in (take (r + 1) s.revisions) ≤ clauses_in s.revisions = sum_by-take-le (λ (p : Posted). length p.clauses) s.revisions (r + 1) in
        let derived : 2 ^ 32 ≤ y.id = (of-all IsAbove (reached goal s.log) y trimmed.above k).derived in
        omega (arith, count, part, derived, served.clauses)

    formed : (y : Line) → Among y (reached goal s.log) → IsInForm variables y
    formed y k =
        let there : Among y s.log = among-sorted s.log y (reached-among goal (by_id s.log) y k) in
        let low = (each-keeps _ step-low unopened-low own).lines y there in
        let few : y.id ≤ 2 ^ 62 = low-number y.id (runs_of s.places) low (few-runs own h) in
        record {
          lits = kept.derives.within y there;
          id = few;
          hints = λ hint c.
              let less : hint < y.id = All-contains (λ (h : ℕ). h < y.id) y.hints hint (of-all IsAbove (reached goal s.log) y trimmed.above k).above c in
              (log-hints own (lawful-runnable own h) y hint there c, omega arith);
        }

-- so what is told is refuted
pub lawful-refuted : (own : List Own) (r : ℕ) (fails : List ℕ) (lines : List Line) → IsLawful own → IsEvidence (solo own).revisions r (Proof fails lines) → body_of (suc r) (solo own) ≡ Some (Proof fails lines) → IsRefuted (formula_through (solo own).revisions r) fails lines
lawful-refuted own r fails lines h evidence told = record {
  formed = through-formed s.revisions r served.posted served.clauses served.literals;
  rising = evidence.supported.rising;
  within = failed-within s.revisions r evidence.revision fails served.posted evidence.posted evidence.supported.assumed;
  readable = let at = told-at s r (Proof fails lines) told in by_answer at.0 at.2;
  refuted = evidence.supported.refuted;
}
  where
    s : SoloMachine
    s = solo own

    served : IsServed s
    served = lawful-served own h

    by_answer : (a : Answer) → body_by s r a ≡ Proof fails lines → AreReadable (length (clauses_through s.revisions r)) lines
    by_answer (Satisfied model) e = absurd (cc)
    by_answer (Refuted goal) e = let same : proof_lines s.revisions s.log r goal ≡ lines = cc in subst (λ (ls : List Line). AreReadable (length (clauses_through s.revisions r)) ls) same (lines-readable own r goal h)
    by_answer (Spent n) e = absurd (cc)
    by_answer OutOfStarts e = absurd (cc)
