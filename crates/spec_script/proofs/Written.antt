-- The lines of the text that a script is written as: they are clean, each of them counts, and they are those of parts.
use Rattle.std.proofs.Common.{◌≡◌, ℕ, ◌≤◌, true, false, not, List, [], ◌∷◌, ◌++◌, map, flat_map, length, codes, Option, refl, sym, ap, ap₂, ◌∙◌, subst, arith}
use Rattle.std.specs.List.{list_all, AllByRecursion}
use Rattle.std.proofs.lemmas.Bool.{leb-true}
use Rattle.mal_base.specs.Limits.{limits}
use Rattle.mal_base.specs.Asks.{Weighed}
use Rattle.mal_base.specs.Formulas.{is_within, is_clause_of, is_within_limits, is_formula}
use Rattle.mal_base.specs.Names.{is_name}
use Rattle.mal_base.proofs.Sorting.{and-left, and-right, and-both}
use Rattle.mal_revision.specs.Posted.{Posted, is_posted}
use Rattle.spec_text.specs.Asks.{profile_words}
use Rattle.spec_text.specs.Lines.{text_of, IsRow, AreRows}
use Rattle.spec_text.specs.Numbers.{decimal_word, literal_word, number_of}
use Rattle.spec_text.proofs.Clean.{decimals_are_clean}
use Rattle.spec_text.proofs.Names.{name-clean, profile-clean}
use Rattle.spec_dimacs.specs.Rows.{is_passed, counted_rows}
use Rattle.spec_dimacs.specs.Written.{closed_words, clause_words}
use Rattle.spec_dimacs.proofs.Numbers.{number-not_word}
use Rattle.spec_dimacs.proofs.Behind.{counted_of, keeps_row}
use Rattle.spec_dimacs.proofs.Again.{rows_again, clause_lits, words-lits, lits_within, closed_row, header_row, closed_counts, literal_again}
use Rattle.mal_base.specs.declared.limits.Limits.{Limits}
use Rattle.spec_script.specs.Script.{ScriptedJob, revision_rows, step_rows, weight_words, tenant_words, job_words, job_rows}
use Rattle.spec_script.specs.declared.step.Step.{Step}
use Rattle.spec_script.specs.declared.step.Step.TheVariants.{Revise, Reask}
use Rattle.spec_script.specs.Formed.{is_step, IsJob, MayAllFollow}
use Rattle.spec_script.specs.Grammar.{RevisionLines, StepLines, Revision, Weight, JobLines, Part, Tenant, Job, step_lines, part_lines, is_inside}

-- a line that can be written, and that counts
abbrev pub Stands : List (List ℕ) → Type 0
Stands row = IsRow row × (is_passed row ≡ false)

all-both : (xs ys : List (List (List ℕ))) → AllByRecursion Stands xs → AllByRecursion Stands ys → AllByRecursion Stands (xs ++ ys)
all-both [] ys h k = k
all-both (x ∷ xs) ys h k = (h.0, all-both xs ys h.1 k)

all-count : (rows : List (List (List ℕ))) → AllByRecursion Stands rows → counted_of rows ≡ rows
all-count [] h = refl
all-count (row ∷ rows) h = keeps_row row rows h.0.1 ∙ ap (λ (rs : List (List (List ℕ))). row ∷ rs) (all-count rows h.1)

all-rows : (rows : List (List (List ℕ))) → AllByRecursion Stands rows → AreRows rows
all-rows [] h = tt
all-rows (row ∷ rows) h = (h.0.0, all-rows rows h.1)

-- the lines that count of a text of such lines are these
pub text-rows : (rows : List (List (List ℕ))) → AllByRecursion Stands rows → counted_rows (text_of rows) ≡ rows
text-rows rows h = ap counted_of (rows_again rows (all-rows rows h)) ∙ all-count rows h

-- ---- the lines of a revision

-- the formula of a revision is in form
pub revision-formula : (r : Posted) → is_posted r ≡ true → is_formula (record { variables = r.variables; clauses = r.clauses }) ≡ true
revision-formula r h = and-left _ _ h

pub few-variables : (v : ℕ) (cs : List (Option (List ℕ))) → is_within_limits v cs ≡ true → v ≤ limits.variables
few-variables v cs h = leb-true v limits.variables (and-left _ _ (and-left _ _ h))

clause-stands : (v : ℕ) (c : Option (List ℕ)) → v ≤ limits.variables → is_clause_of v c ≡ true → Stands (clause_words c)
clause-stands v c low h = subst Stands (sym (words-lits c)) (closed_row (clause_lits c), closed_counts v (clause_lits c) low (lits_within v c h))

clauses-stand : (v : ℕ) (cs : List (Option (List ℕ))) → v ≤ limits.variables → list_all (is_clause_of v) cs ≡ true → AllByRecursion Stands (map clause_words cs)
clauses-stand v [] low h = tt
clauses-stand v (c ∷ cs) low h = (clause-stands v c low (and-left _ _ h), clauses-stand v cs low (and-right (is_clause_of v c) _ h))

revision-stands : (r : Posted) → is_posted r ≡ true → AllByRecursion Stands (revision_rows r)
revision-stands r h =
    let form : is_formula (record { variables = r.variables; clauses = r.clauses }) ≡ true = revision-formula r h in
    let within : is_within_limits r.variables r.clauses ≡ true = and-left _ _ form in
    let clauses : list_all (is_clause_of r.variables) r.clauses ≡ true = and-right (is_within_limits r.variables r.clauses) _ form in
    let words = closed_row r.assumptions in (
      (header_row r.variables (length r.clauses), refl),
      all-both (map clause_words r.clauses) ((codes "a" ∷ closed_words r.assumptions) ∷ []) (clauses-stand r.variables r.clauses (few-variables r.variables r.clauses within) clauses)
          (((omega arith, ((omega arith, (omega arith, tt)), words.1)), refl), tt),
    )

weight-stands : (w : Weighed) → Stands (weight_words w)
weight-stands w = ((omega arith, ((omega arith, (omega arith, tt)), (decimals_are_clean w.priority, (decimals_are_clean w.demand, tt)))), refl)

step-stands : (step : Step) → is_step step ≡ true → AllByRecursion Stands (step_rows step)
step-stands (Revise r) h = revision-stands r h
step-stands (Reask w) h = (weight-stands w, tt)

steps-stand : (steps : List Step) → list_all is_step steps ≡ true → AllByRecursion Stands (flat_map step_rows steps)
steps-stand [] h = tt
steps-stand (step ∷ steps) h = all-both (step_rows step) (flat_map step_rows steps) (step-stands step (and-left _ _ h)) (steps-stand steps (and-right (is_step step) _ h))

-- ---- the lines of a job

tenant-stands : (tenant : List ℕ) → is_name tenant ≡ true → Stands (tenant_words tenant)
tenant-stands tenant h = ((omega arith, ((omega arith, (omega arith, tt)), (name-clean tenant h, tt))), refl)

terms-stand : (most : Limits) (j : ScriptedJob) → is_name j.name ≡ true → Stands (job_words j.name j.ask)
terms-stand most j h = ((omega arith, ((omega arith, (omega arith, tt)), (name-clean j.name h, (decimals_are_clean j.ask.priority, (decimals_are_clean j.ask.demand, (decimals_are_clean j.ask.slices, profile-clean j.ask.profile)))))), refl)

end-stands : Stands (codes "e" ∷ [])
end-stands = ((omega arith, ((omega arith, (omega arith, tt)), tt)), refl)

job-stands : (most : Limits) (j : ScriptedJob) → IsJob most j → AllByRecursion Stands (job_rows j)
job-stands most j is = (tenant-stands j.tenant is.tenant, (terms-stand most j is.name, all-both (flat_map step_rows j.steps) ((codes "e" ∷ []) ∷ []) (steps-stand j.steps is.formed) (end-stands, tt)))

pub jobs-stand : (most : Limits) (jobs js : List ScriptedJob) → MayAllFollow most jobs js → AllByRecursion Stands (flat_map job_rows js)
jobs-stand most jobs [] h = tt
jobs-stand most jobs (j ∷ js) (first, others) = all-both (job_rows j) (flat_map job_rows js) (job-stands most j first.formed) (jobs-stand most (jobs ++ j ∷ []) js others)

-- ---- the parts that the lines are

abbrev pub lines_of : Posted → RevisionLines
lines_of r = record { header = codes "cnf" ∷ decimal_word r.variables ∷ decimal_word (length r.clauses) ∷ []; body = map clause_words r.clauses; assumed = closed_words r.assumptions }

abbrev pub step_lines_of : Step → StepLines
step_lines_of (Revise r) = Revision (lines_of r)
step_lines_of (Reask w) = Weight (decimal_word w.priority) (decimal_word w.demand)

abbrev pub job_lines_of : ScriptedJob → JobLines
job_lines_of j = record { name = j.name; priority = decimal_word j.ask.priority; demand = decimal_word j.ask.demand; slices = decimal_word j.ask.slices; profile = profile_words j.ask.profile; steps = map step_lines_of j.steps }

abbrev pub parts_of : List ScriptedJob → List Part
parts_of [] = []
parts_of (j ∷ js) = Tenant j.tenant ∷ Job (job_lines_of j) ∷ parts_of js

step-lines : (step : Step) → step_lines (step_lines_of step) ≡ step_rows step
step-lines (Revise r) = refl
step-lines (Reask w) = refl

steps-lines : (steps : List Step) → flat_map step_lines (map step_lines_of steps) ≡ flat_map step_rows steps
steps-lines [] = refl
steps-lines (step ∷ steps) = ap₂ (λ (first rest : List (List (List ℕ))). first ++ rest) (step-lines step) (steps-lines steps)

pub parts-lines : (js : List ScriptedJob) → flat_map part_lines (parts_of js) ≡ flat_map job_rows js
parts-lines [] = refl
parts-lines (j ∷ js) = ap₂ (λ (x y : List (List (List ℕ))). tenant_words j.tenant ∷ job_words j.name j.ask ∷ ((x ++ (codes "e" ∷ []) ∷ []) ++ y)) (steps-lines j.steps) (parts-lines js)

-- ---- the lines of clauses stand in a block

closed-inside : (v : ℕ) (lits : List ℕ) → v ≤ limits.variables → is_within v lits ≡ true → is_inside (closed_words lits) ≡ true
closed-inside v [] low h = refl
closed-inside v (l ∷ ls) low h =
    and-both _ _ (ap not (closed_counts v (l ∷ ls) low h)) (ap not (number-not_word (literal_word l) v (number_of l) 97 refl refl (literal_again v l low (and-left _ _ h))))

pub clauses-inside : (v : ℕ) (cs : List (Option (List ℕ))) → v ≤ limits.variables → list_all (is_clause_of v) cs ≡ true → list_all is_inside (map clause_words cs) ≡ true
clauses-inside v [] low h = refl
clauses-inside v (c ∷ cs) low h =
    and-both _ _ (ap is_inside (words-lits c) ∙ closed-inside v (clause_lits c) low (lits_within v c (and-left _ _ h))) (clauses-inside v cs low (and-right (is_clause_of v c) _ h))
