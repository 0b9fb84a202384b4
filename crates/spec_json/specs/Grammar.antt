-- Which script a description spells.
use Rattle.std.specs.Prelude.{◌≡◌, ℕ, ◌≤◌, true, ℤ, pos, List, [], ◌∷◌, ◌++◌, map, codes, Option, Some}
use Rattle.mal_base.specs.Limits.{limits}
use Rattle.mal_base.specs.declared.limits.Limits.{Limits}
use Rattle.mal_base.specs.Asks.{IsWeight, Terms, Weighed}
use Rattle.mal_base.specs.Formulas.{is_within}
use Rattle.mal_base.specs.Profiles.{number}
use Rattle.mal_revision.specs.Posted.{Posted}
use Rattle.spec_text.specs.Numbers.{number_of}
use Rattle.spec_dimacs.specs.Merged.{IsClauseOf}
use Rattle.spec_script.specs.Script.{ScriptedJob, Scripted}
use Rattle.spec_script.specs.declared.step.Step.{Step}
use Rattle.spec_script.specs.declared.step.Step.TheVariants.{Revise, Reask}
use Rattle.spec_script.specs.Formed.{MayFollow}
use Rattle.serde_json.specs.Data.{Data, string}
use Rattle.serde_json.specs.Find.{get}
use Rattle.spec_json.specs.Shape.{at, is_document_shape, is_job_shape, is_revision_shape, is_weight_shape, json_in, jobs_in, steps_in, whole_in}
use Rattle.spec_json.specs.Numbers.{assumptions_in, clauses_in, profile_in, variables_in}

-- numbers say a clause, None where it is a tautology: they stand for literals of the variables up to this one, and the
-- clause has these once each
pub record SayClause (variables : ℕ) (numbers : List ℤ) (clause : Option (List ℕ)) : Type 0 where
  pub lits : List ℕ
  pub numbered : numbers ≡ map number_of lits
  pub within : is_within variables lits ≡ true
  pub once : IsClauseOf lits clause

-- each list of numbers says the clause at its place
abbrev pub SayClauses : ℕ → List (List ℤ) → List (Option (List ℕ)) → Type 0
SayClauses variables [] [] = Unit {0}
SayClauses variables [] (clause ∷ clauses) = ⊥
SayClauses variables (numbers ∷ lists) [] = ⊥
SayClauses variables (numbers ∷ lists) (clause ∷ clauses) = SayClause variables numbers clause × SayClauses variables lists clauses

-- a value says a revision: no more variables than are served, clauses of them, and assumptions, which are no tautology
pub record SaysRevision (d : Data) (r : Posted) : Type 0 where
  pub shape : is_revision_shape d ≡ true
  pub variables : variables_in d ≡ pos r.variables
  pub few : r.variables ≤ limits.variables
  pub clauses : SayClauses r.variables (clauses_in d) r.clauses
  pub assumptions : SayClause r.variables (assumptions_in d) (Some r.assumptions)

-- a value says a priority and a demand that are served
pub record SaysWeight (d : Data) (w : Weighed) : Type 0 where
  pub shape : is_weight_shape d ≡ true
  pub priority : whole_in (at (codes "priority") d) ≡ pos w.priority
  pub demand : whole_in (at (codes "demand") d) ≡ pos w.demand
  pub formed : IsWeight w

-- a value says a step
abbrev pub SaysStep : Data → Step → Type 0
SaysStep d (Revise r) = SaysRevision d r
SaysStep d (Reask w) = SaysWeight d w

-- each value says the step at its place
abbrev pub SaySteps : List Data → List Step → Type 0
SaySteps [] [] = Unit {0}
SaySteps [] (step ∷ steps) = ⊥
SaySteps (d ∷ ds) [] = ⊥
SaySteps (d ∷ ds) (step ∷ steps) = SaysStep d step × SaySteps ds steps

-- a value says an ask: where it names no profile, it is the first
pub record SaysAsk (d : Data) (ask : Terms) : Type 0 where
  pub priority : whole_in (at (codes "priority") d) ≡ pos ask.priority
  pub demand : whole_in (at (codes "demand") d) ≡ pos ask.demand
  pub slices : whole_in (at (codes "slices") d) ≡ pos ask.slices
  pub profile : profile_in d ≡ pos (number ask.profile)

-- a value says a job
pub record SaysJob (d : Data) (j : ScriptedJob) : Type 0 where
  pub shape : is_job_shape d ≡ true
  pub tenant : get (codes "tenant") d ≡ Some (string j.tenant)
  pub name : get (codes "name") d ≡ Some (string j.name)
  pub ask : SaysAsk d j.ask
  pub steps : SaySteps (steps_in d) j.steps

-- after jobs each value says the job at its place, which may follow those before it: it is in form and within the
-- limits, and its tenant has no other of its name
abbrev pub SayJobs : Limits → List ScriptedJob → List Data → List ScriptedJob → Type 0
SayJobs most before [] [] = Unit {0}
SayJobs most before [] (j ∷ js) = ⊥
SayJobs most before (d ∷ ds) [] = ⊥
SayJobs most before (d ∷ ds) (j ∷ js) = SaysJob d j × MayFollow most before j × SayJobs most (before ++ j ∷ []) ds js

-- a text spells a script within limits: it is JSON, a document whose jobs are those of the script
pub record Spells (most : Limits) (text : List ℕ) (s : Scripted) : Type 0 where
  pub document : Data
  pub is_json : json_in text ≡ Some document
  pub shape : is_document_shape document ≡ true
  pub jobs : SayJobs most [] (jobs_in document) s.jobs
