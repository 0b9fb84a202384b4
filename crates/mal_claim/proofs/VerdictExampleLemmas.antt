use Rattle.std.proofs.Common.{◌≡◌, ℕ, List, [], ◌∷◌, codes, Result, Ok, Err, refl}
use Rattle.spec_lrat.specs.Reading.{Fault}
use Rattle.mal_claim.specs.VerdictExamples.{HasVerdicts, HasSpelled, rows_in, unit_at}
use Rattle.mal_claim.specs.Proofs.{Numbered}
use Rattle.mal_claim.proofs.LineLemmas.{lines_are_read}

pub verdicts : HasVerdicts
verdicts = record { verified = refl; from_reply = refl; not_unit = refl; unknown = refl; no_contradiction = refl; no_goal = refl; assumed = refl; negative_hint = refl; not_rising = refl; whatever_is_after = refl; faults_first = refl }

no_fault : (r : Result (List Numbered) (ℕ × Fault)) (d : ℕ × Fault) (lines : List Numbered) → r ≡ Err d → r ≡ Ok lines → ⊥
no_fault (Ok ls) d lines e f = absurd (cc)
no_fault (Err x) d lines e f = absurd (cc)

pub spelled : HasSpelled
spelled = record {
  one_line = (lines_are_read 1 4 (rows_in (codes "c comment\n\nl 5 1 0 1 2 0\n")) (unit_at 3 ∷ [])).1 refl;
  no_line = (lines_are_read 1 4 (rows_in (codes "c 5 1 0 1 2 0\n")) []).1 refl;
  no_zero = λ lines is. no_fault _ _ lines refl ((lines_are_read 1 4 (rows_in (codes "5 1 0 1 2\n")) lines).0 is);
  id_not_above = λ lines is. no_fault _ _ lines refl ((lines_are_read 1 5 (rows_in (codes "5 1 0 1 2 0\n")) lines).0 is);
}
