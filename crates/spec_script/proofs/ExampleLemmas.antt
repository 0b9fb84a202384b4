use Rattle.std.proofs.Common.{◌≡◌, [], ◌∷◌, codes, Result, Ok, Err, refl}
use Rattle.mal_base.specs.declared.line_fault.LineFault.{LineFault}
use Rattle.std.specs.Fmt.{digits}
use Rattle.spec_script.specs.Script.{spelling}
use Rattle.spec_script.specs.Examples.{HasExamples, ReadingExamples, FaultExamples, LimitExamples}
use Rattle.spec_script.specs.WordExamples.{WordExamples}
use Rattle.spec_script.proofs.Words.{asks-read, read-asks}
use Rattle.spec_script.proofs.Assumed.{assumes-read}
use Rattle.spec_script.proofs.AssumedForms.{read-assumes}

pub examples : HasExamples
unfolding spelling digits
examples = record { no_job = refl; one_clause = refl; profile = refl; assumed = refl; anew = refl }

pub reading_examples : ReadingExamples
reading_examples = record { empty = refl; no_revision = refl; of_profile_2 = refl; profile_by_value = refl; of_profile_1 = refl; tautology_keeps_its_number = refl; from_a_tool = refl; repeated_literal = refl; assumptions_in_order = refl; second_job = refl; fewer_variables_later = refl; asked_anew = refl; asked_first = refl }

pub fault_examples : FaultExamples
fault_examples = record { end_alone = refl; compressed = refl; no_tenant = refl; priority_zero = refl; word_before_range = refl; profile_zero = refl; profile_three = refl; profile_is_no_number = refl; profile_word_before_range = refl; two_profiles = refl; job_not_ended = refl; variable_too_large = refl; block_cut_short = refl; block_not_whole = refl; block_not_ended = refl; opposite = refl; above_the_variables = refl; duplicate = refl; new_priority_zero = refl; new_demand_too_large = refl; new_demand_missing = refl; three_new_numbers = refl; new_priority_is_no_number = refl; new_word_before_range = refl; asked_outside_a_job = refl; asked_in_a_block = refl }

pub limit_examples : LimitExamples
limit_examples = record { third_tenant = refl; second_job_of_tenant = refl; second_job = refl; second_revision = refl }

no_fault : {A : Type 0} (r : Result A LineFault) (fault : LineFault) (x : A) → r ≡ Err fault → r ≡ Ok x → ⊥
no_fault (Ok y) fault x e f = absurd (cc)
no_fault (Err y) fault x e f = absurd (cc)

pub word_examples : WordExamples
word_examples = record {
  greatest = read-asks (codes "1000") (codes "64") (codes "4096") (codes "2" ∷ []) _ refl;
  leading_zeros = read-asks (codes "01") (codes "1") (codes "004") (codes "02" ∷ []) _ refl;
  no_profile = read-asks (codes "1") (codes "1") (codes "4") [] _ refl;
  no_sign = λ ask is. no_fault _ _ ask refl (asks-read (codes "+1") (codes "1") (codes "4") [] ask is);
  no_zero = λ ask is. no_fault _ _ ask refl (asks-read (codes "0") (codes "1") (codes "4") [] ask is);
  above_the_greatest = λ ask is. no_fault _ _ ask refl (asks-read (codes "1") (codes "65") (codes "4") [] ask is);
  third_profile = λ ask is. no_fault _ _ ask refl (asks-read (codes "1") (codes "1") (codes "4") (codes "3" ∷ []) ask is);
  two_profiles = λ ask is. no_fault _ _ ask refl (asks-read (codes "1") (codes "1") (codes "4") (codes "2" ∷ codes "2" ∷ []) ask is);
  in_order = read-assumes 2 (codes "2" ∷ codes "-1" ∷ codes "2" ∷ codes "0" ∷ []) (3 ∷ 4 ∷ []) refl;
  not_closed = λ lits is. no_fault _ _ lits refl (assumes-read 2 (codes "2" ∷ []) lits is);
  both_signs = λ lits is. no_fault _ _ lits refl (assumes-read 2 (codes "2" ∷ codes "-2" ∷ codes "0" ∷ []) lits is);
  above_the_variables = λ lits is. no_fault _ _ lits refl (assumes-read 1 (codes "2" ∷ codes "0" ∷ []) lits is);
  whatever_is_behind = refl;
}
