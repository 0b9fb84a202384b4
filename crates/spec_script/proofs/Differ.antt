-- A text that a script is written as is read as that script.
use Rattle.std.proofs.Common.{rules, ◌≡◌, ◌≤◌, ℕ, true, List, [], ◌∷◌, length, codes, refl, sym, ap, ◌∙◌, arith, Ok, Result}
use Rattle.mal_base.specs.declared.profile.Profile.{Profile}
use Rattle.mal_base.specs.declared.profile.Profile.TheVariants.{Plain, Lean}
use Rattle.mal_base.specs.Profiles.{number}
use Rattle.mal_base.specs.Asks.{IsAsk}
use Rattle.mal_revision.specs.Posted.{Posted}
use Rattle.std.specs.List.{list_all}
use Rattle.mal_base.specs.declared.line_fault.LineFault.{LineFault}
use Rattle.spec_script.specs.Examples.{asks_anew, asks_first, job_named, job_under, job_with, second_profile}
use Rattle.spec_script.specs.Formed.{IsJob, is_step, clauses_of, clause_literals}
use Rattle.mal_base.specs.Limits.{limits}
use Rattle.spec_script.specs.Reading.{read_text}
use Rattle.spec_script.specs.Script.{Scripted, ScriptedJob, revisions_at, revisions_in}
use Rattle.spec_script.specs.declared.step.Step.{Step}
use Rattle.spec_script.specs.Differ.{ScriptsDiffer, first_p, first_q, HaveOtherTexts}
use Rattle.spec_script.proofs.Again.{written-read}

read-same : (a b : Scripted) → ◌≡◌ {A = Result Scripted (ℕ × LineFault)} (Ok a) (Ok b) → a ≡ b
read-same a b e = cc

pub scripts-differ : ScriptsDiffer
scripts-differ most one other h k e = read-same one other (sym (written-read most one h) ∙ (ap (read_text most) e ∙ written-read most other k))

asked : (profile : Profile) → IsAsk (job_under profile (codes "p") []).ask
asked profile = search (rules, arith)

job-of : (profile : Profile) → IsJob limits (job_under profile (codes "p") [])
job-of profile = record { tenant = refl; name = refl; ask = asked profile; few = omega arith; formed = refl; clauses = omega arith; literals = omega arith }

job-p : IsJob limits (job_named (codes "p") [])
job-p = job-of Plain

job-q : IsJob limits (job_named (codes "q") [])
job-q = record { tenant = refl; name = refl; ask = asked Plain; few = omega arith; formed = refl; clauses = omega arith; literals = omega arith }

-- the job p with these steps, which post one revision, without clauses
abbrev no_clause : Posted
no_clause = record { variables = 0; clauses = []; assumptions = [] }

abbrev job_stepping : List Step → ScriptedJob
job_stepping steps = record { tenant = codes "a"; name = codes "p"; ask = record { priority = 1; demand = 1; slices = 4; profile = Plain }; steps = steps }

job-steps : (steps : List Step) → list_all is_step steps ≡ true → revisions_in steps ≡ no_clause ∷ [] → IsJob limits (job_stepping steps)
job-steps steps formed are =
    let one : length (revisions_in steps) ≡ 1 = ap length are in
    let clauses : clauses_of (revisions_in steps) ≡ 0 = ap clauses_of are in
    let literals : clause_literals (revisions_in steps) ≡ 0 = ap clause_literals are in
    record { tenant = refl; name = refl; ask = asked Plain; few = omega arith; formed = formed; clauses = omega arith; literals = omega arith }

-- the first letter of the name of the first job
letter-in : List ℕ → ℕ
letter-in [] = 0
letter-in (b ∷ bs) = b

first-letter : List ScriptedJob → ℕ
first-letter [] = 0
first-letter (j ∷ js) = letter-in j.name

-- the profile of the first job
first-profile : List ScriptedJob → ℕ
first-profile [] = 0
first-profile (j ∷ js) = number j.ask.profile

-- the revisions of the first step of the first job
posted-first : List Step → ℕ
posted-first [] = 0
posted-first (step ∷ steps) = length (revisions_at step)

first-posted : List ScriptedJob → ℕ
first-posted [] = 0
first-posted (j ∷ js) = posted-first j.steps

other-steps : first-posted asks_anew.jobs ≡ first-posted asks_first.jobs → ⊥
unfolding first-posted posted-first
other-steps e = let same : 1 ≡ 0 = e in absurd (omega (arith, same))

other-profile : first-profile second_profile.jobs ≡ first-profile (job_with []).jobs → ⊥
unfolding first-profile
other-profile e = let same : 2 ≡ 1 = e in absurd (omega (arith, same))

other-order : first-letter first_p.jobs ≡ first-letter first_q.jobs → ⊥
unfolding first-letter letter-in
other-order e = let same : 112 ≡ 113 = e in absurd (omega (arith, same))

pub other-texts : HaveOtherTexts
other-texts = record {
  order = λ e. other-order (ap (λ (s : Scripted). first-letter s.jobs) (scripts-differ limits first_p first_q (record { formed = job-p; new = refl; room = refl; tenants = omega arith }, (record { formed = job-q; new = refl; room = refl; tenants = omega arith }, tt)) (record { formed = job-q; new = refl; room = refl; tenants = omega arith }, (record { formed = job-p; new = refl; room = refl; tenants = omega arith }, tt)) e));
  less = λ e. let same : 2 ≡ 1 = ap (λ (s : Scripted). length s.jobs) (scripts-differ limits first_p (job_with []) (record { formed = job-p; new = refl; room = refl; tenants = omega arith }, (record { formed = job-q; new = refl; room = refl; tenants = omega arith }, tt)) (record { formed = job-p; new = refl; room = refl; tenants = omega arith }, tt) e) in absurd (omega (arith, same));
  profile = λ e. other-profile (ap (λ (s : Scripted). first-profile s.jobs) (scripts-differ limits second_profile (job_with []) (record { formed = job-of Lean; new = refl; room = refl; tenants = omega arith }, tt) (record { formed = job-p; new = refl; room = refl; tenants = omega arith }, tt) e));
  steps = λ e. other-steps (ap (λ (s : Scripted). first-posted s.jobs) (scripts-differ limits asks_anew asks_first (record { formed = job-steps _ refl refl; new = refl; room = refl; tenants = omega arith }, tt) (record { formed = job-steps _ refl refl; new = refl; room = refl; tenants = omega arith }, tt) e));
}
