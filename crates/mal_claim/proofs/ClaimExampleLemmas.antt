use Rattle.std.proofs.Common.{refl}
use Rattle.mal_claim.specs.Examples.{HasExamples}

pub examples : HasExamples
examples = record { verified = refl; not_unit = refl; unknown_hint = refl; no_contradiction = refl; first_line_alone = refl; negative_hint = refl; id_not_rising = refl; missing_zero = refl; bad_id = refl; faults_before_refusals = refl; assumed = refl; not_assumed = refl; no_proof = refl; no_proof_first = refl; comments_between = refl; proof_and_more = refl; two_lines_of_assumptions = refl; both_signs = refl; above_variables = refl; no_formula = refl; cut_short = refl; no_proof_told = refl; no_goal_told = refl; verified_told = refl }
