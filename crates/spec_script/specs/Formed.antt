-- Scripts in form: those that are read from a text.
use Rattle.std.specs.Prelude.{◌≡◌, ℕ, ◌≤◌, Bool, true, false, List, [], ◌∷◌, ◌++◌, length, bytes_eq, if◌then◌else◌, nat_le, ◌&&◌, fold, sum_by}
use Rattle.std.specs.List.{list_all, list_any}
use Rattle.mal_base.specs.Limits.{limits}
use Rattle.mal_base.specs.Asks.{IsAsk, Weighed}
use Rattle.mal_base.specs.Formulas.{literals_of}
use Rattle.mal_base.specs.Names.{is_name}
use Rattle.mal_revision.specs.Posted.{Posted, is_posted}
use Rattle.mal_base.specs.declared.limits.Limits.{Limits}
use Rattle.spec_script.specs.Script.{ScriptedJob, Scripted, revisions}
use Rattle.spec_script.specs.declared.step.Step.{Step}
use Rattle.spec_script.specs.declared.step.Step.TheVariants.{Revise, Reask}
use Rattle.spec_script.specs.Reading.{is_job, has_room}

-- names with one more, where it is not among them
abbrev pub with_name : List (List ℕ) → List ℕ → List (List ℕ)
with_name names name = if list_any (bytes_eq name) names then names else names ++ name ∷ []

-- the tenants of jobs, each once
abbrev pub tenants_of : List ScriptedJob → List (List ℕ)
tenants_of jobs = fold (λ names j. with_name names j.tenant) [] jobs

-- the clauses of revisions
abbrev pub clauses_of : List Posted → ℕ
clauses_of rs = sum_by (λ r. length r.clauses) rs

-- the literals of the clauses of revisions
abbrev pub clause_literals : List Posted → ℕ
clause_literals rs = sum_by (λ r. literals_of r.clauses) rs

-- a number from 1 to this one
abbrev pub is_up_to : ℕ → ℕ → Bool
is_up_to max n = nat_le 1 n && nat_le n max

-- a priority and a demand that are served
abbrev pub is_weight : Weighed → Bool
is_weight w = is_up_to limits.priority w.priority && is_up_to limits.demand w.demand

-- a step in form
abbrev pub is_step : Step → Bool
is_step (Revise r) = is_posted r
is_step (Reask w) = is_weight w

-- a job in form: both names, the ask and the steps are, and its revisions are as many as there may be, with no more
-- clauses and literals in all than are served
pub record IsJob (most : Limits) (j : ScriptedJob) : Type 0 where
  pub tenant : is_name j.tenant ≡ true
  pub name : is_name j.name ≡ true
  pub ask : IsAsk j.ask
  pub few : length (revisions j) ≤ most.revisions
  pub formed : list_all is_step j.steps ≡ true
  pub clauses : clauses_of (revisions j) ≤ limits.clauses
  pub literals : clause_literals (revisions j) ≤ limits.literals

-- a job that may follow these: it is in form, its tenant has no job of this name, and with it there are not too many
-- jobs, jobs of the tenant and tenants
pub record MayFollow (most : Limits) (jobs : List ScriptedJob) (j : ScriptedJob) : Type 0 where
  pub formed : IsJob most j
  pub new : list_any (is_job j.tenant j.name) jobs ≡ false
  pub room : has_room most j.tenant jobs ≡ true
  pub tenants : length (tenants_of (jobs ++ j ∷ [])) ≤ most.tenants

-- jobs that may follow these, one after another
abbrev pub MayAllFollow : Limits → List ScriptedJob → List ScriptedJob → Type 0
MayAllFollow most jobs [] = Unit {0}
MayAllFollow most jobs (j ∷ js) = MayFollow most jobs j × MayAllFollow most (jobs ++ j ∷ []) js

-- a script in form within limits
abbrev pub IsScript : Limits → Scripted → Type 0
IsScript most s = MayAllFollow most [] s.jobs
