-- The grammar of scripts: which script a text spells.
use Rattle.std.specs.Prelude.{◌≡◌, ℕ, ◌+◌, ◌<◌, ◌≤◌, Bool, true, false, not, ◌&&◌, ◌⊎◌, List, [], ◌∷◌, ◌++◌, length, map, flat_map, count_by, codes, bytes_eq, Some, Result, Ok}
use Rattle.std.specs.List.{list_all, list_any}
use Rattle.mal_base.specs.Limits.{limits}
use Rattle.mal_base.specs.Asks.{Terms, Weighed}
use Rattle.mal_base.specs.Formulas.{Formulated, is_within, literals_of}
use Rattle.mal_base.specs.Names.{is_name}
use Rattle.mal_base.specs.Profiles.{number, last_profile}
use Rattle.mal_base.specs.declared.profile.Profile.{Profile}
use Rattle.mal_base.specs.declared.profile.Profile.TheVariants.{Plain}
use Rattle.spec_text.specs.Numbers.{number_in}
use Rattle.spec_text.specs.Numbers.NumberWord.{Number}
use Rattle.mal_base.specs.declared.block_fault.BlockFault.{BlockFault}
use Rattle.spec_dimacs.specs.Grammar.{Says, closed_numbers}
use Rattle.spec_dimacs.specs.Merged.{IsClauseOf}
use Rattle.spec_dimacs.specs.Rows.{is_passed, counted_rows}
use Rattle.spec_dimacs.specs.Reading as block
use Rattle.spec_dimacs.specs.Reading.{◌>>=◌}
use Rattle.mal_base.specs.declared.limits.Limits.{Limits}
use Rattle.spec_script.specs.Script.{ScriptedJob, Scripted, revisions}
use Rattle.spec_script.specs.Formed.{with_name}
use Rattle.spec_script.specs.Reading.{OpenJob, Reading, unread, is_of, is_job, begun, with_revision, with_weight, with_job}

-- the lines of a revision: those of its block, and the line of its assumptions, of which the words after the `a`
pub record RevisionLines : Type 0 where
  pub header : List (List ℕ)
  pub body : List (List (List ℕ))
  pub assumed : List (List ℕ)

-- the lines of a step: those of a revision, or the line of a priority and a demand, of which these two words
pub data StepLines : Type 0 where
  Revision : RevisionLines → StepLines
  Weight : List ℕ → List ℕ → StepLines

-- the lines of a job: the words of its first line, of which that of the profile may be left out, and the lines of its
-- steps
pub record JobLines : Type 0 where
  pub name : List ℕ
  pub priority : List ℕ
  pub demand : List ℕ
  pub slices : List ℕ
  pub profile : List (List ℕ)
  pub steps : List StepLines

-- a part of a script: the line of a tenant's name, or the lines of a job
pub data Part : Type 0 where
  Tenant : List ℕ → Part
  Job : JobLines → Part

-- the words of the lines of a revision: a block from its `p` to the next `a`
abbrev pub revision_lines : RevisionLines → List (List (List ℕ))
revision_lines r = (codes "p" ∷ r.header) ∷ (r.body ++ (codes "a" ∷ r.assumed) ∷ [])

-- the words of the lines of a step
abbrev pub step_lines : StepLines → List (List (List ℕ))
step_lines (Revision r) = revision_lines r
step_lines (Weight p d) = (codes "q" ∷ p ∷ d ∷ []) ∷ []

-- the words of the lines of a job's steps and of its end
abbrev pub job_lines : List StepLines → List (List (List ℕ))
job_lines steps = flat_map step_lines steps ++ (codes "e" ∷ []) ∷ []

-- the words of the lines of a part
abbrev pub part_lines : Part → List (List (List ℕ))
part_lines (Tenant name) = (codes "t" ∷ name ∷ []) ∷ []
part_lines (Job j) = (codes "j" ∷ j.name ∷ j.priority ∷ j.demand ∷ j.slices ∷ j.profile) ∷ job_lines j.steps

-- a line begins with the word `a`
abbrev pub is_assumed : List (List ℕ) → Bool
is_assumed [] = false
is_assumed (first ∷ others) = bytes_eq first (codes "a")

-- a line that may stand in a block: it counts and does not begin with the word `a`
abbrev pub is_inside : List (List ℕ) → Bool
is_inside row = not (is_passed row) && not (is_assumed row)

-- the formula of the lines of a block, as DIMACS CNF reads them
abbrev pub formula_of : List (List ℕ) → List (List (List ℕ)) → Result Formulated BlockFault
formula_of header body = block.opened (codes "p" ∷ header) >>= λ b. block.after_rows body b >>= block.ended

-- a word of digits says a number from 1 to the greatest, leading zeros allowed
abbrev pub SaysUpTo : ℕ → List ℕ → ℕ → Type 0
SaysUpTo max word n = Says word n × (1 ≤ n) × (n ≤ max)

-- words say a profile: no word says the first, and one word says its number
abbrev pub SayProfile : List (List ℕ) → Profile → Type 0
SayProfile [] profile = profile ≡ Plain
SayProfile (word ∷ []) profile = SaysUpTo last_profile word (number profile)
SayProfile words profile = ⊥

-- words say an ask: a priority, a demand and slices that are served, and a profile
pub record Asks (priority demand slices : List ℕ) (profile : List (List ℕ)) (ask : Terms) : Type 0 where
  pub priority_says : SaysUpTo limits.priority priority ask.priority
  pub demand_says : SaysUpTo limits.demand demand ask.demand
  pub slices_says : SaysUpTo limits.slices slices ask.slices
  pub profile_say : SayProfile profile ask.profile

-- words say a weight: a priority and a demand that are served
pub record Weighs (priority demand : List ℕ) (weight : Weighed) : Type 0 where
  pub priority_says : SaysUpTo limits.priority priority weight.priority
  pub demand_says : SaysUpTo limits.demand demand weight.demand

-- a tenant is named: its word is a name, which was named before or is one more than may have been named
pub record Names (most : Limits) (s : Reading) (name : List ℕ) (after : Reading) : Type 0 where
  pub formed : is_name name ≡ true
  pub room : (list_any (bytes_eq name) s.tenants ≡ true) ⊎ (length s.tenants < most.tenants)
  pub left : after ≡ record s { tenants = with_name s.tenants name; tenant = Some name }

-- a tenant may begin a job after these: it has none of this name, and there may be one more of it and in all
pub record Admits (most : Limits) (tenant name : List ℕ) (jobs : List ScriptedJob) : Type 0 where
  pub new : list_any (is_job tenant name) jobs ≡ false
  pub few_of_tenant : count_by (is_of tenant) jobs < most.jobs_of_tenant
  pub few : length jobs < most.jobs

-- words say assumptions: they are the numbers of literals of variables up to this one, and then a 0. The assumptions
-- are those literals once each, by rising variable, so no variable has both signs
pub record Assumes (variables : ℕ) (words : List (List ℕ)) (assumptions : List ℕ) : Type 0 where
  pub lits : List ℕ
  pub closed : map (λ word. number_in word variables) words ≡ map (λ z. Number z) (closed_numbers lits)
  pub within : is_within variables lits ≡ true
  pub once : IsClauseOf lits (Some assumptions)

-- a job may have one more revision of this formula: no more clauses and literals in all than are served
pub record HasRoomFor (o : OpenJob) (formula : Formulated) : Type 0 where
  pub clauses : o.clauses + length formula.clauses ≤ limits.clauses
  pub literals : o.literals + literals_of formula.clauses ≤ limits.literals

-- the lines of a revision make one more revision of a job: there may be one more, its block spells a formula, and its
-- assumptions are literals of the formula's variables
pub record Revises (most : Limits) (o : OpenJob) (r : RevisionLines) (after : OpenJob) : Type 0 where
  pub formula : Formulated
  pub assumptions : List ℕ
  pub room : length (revisions o.job) < most.revisions
  pub inside : list_all is_inside r.body ≡ true
  pub spelled : formula_of r.header r.body ≡ Ok formula
  pub assumed : Assumes formula.variables r.assumed assumptions
  pub fits : HasRoomFor o formula
  pub revised : after ≡ with_revision o formula assumptions

-- the line of a priority and a demand makes one more change of what a job asks for: its words say a weight
pub record Reasks (o : OpenJob) (priority demand : List ℕ) (after : OpenJob) : Type 0 where
  pub weight : Weighed
  pub weighs : Weighs priority demand weight
  pub reasked : after ≡ with_weight o weight

-- what the lines of a step make of a job
abbrev pub Steps : Limits → OpenJob → StepLines → OpenJob → Type 0
Steps most o (Revision r) after = Revises most o r after
Steps most o (Weight p d) after = Reasks o p d after

-- what the lines of several steps make of a job, one after another
abbrev pub StepAll : Limits → OpenJob → List StepLines → OpenJob → Type 0
StepAll most o [] after = o ≡ after
StepAll most o (step ∷ steps) after = (next : OpenJob) × Steps most o step next × StepAll most next steps after

-- the lines of a job make one more job, of the tenant that was named last
pub record Runs (most : Limits) (s : Reading) (j : JobLines) (after : Reading) : Type 0 where
  pub tenant : List ℕ
  pub ask : Terms
  pub ended : OpenJob
  pub owned : s.tenant ≡ Some tenant
  pub name : is_name j.name ≡ true
  pub asks : Asks j.priority j.demand j.slices j.profile ask
  pub admitted : Admits most tenant j.name s.jobs
  pub stepped : StepAll most (begun tenant j.name ask) j.steps ended
  pub left : after ≡ with_job s ended.job

-- what the lines of a part make of a script
abbrev pub Makes : Limits → Reading → Part → Reading → Type 0
Makes most s (Tenant name) after = Names most s name after
Makes most s (Job j) after = Runs most s j after

-- what the lines of several parts make of a script, one after another
abbrev pub MakeAll : Limits → Reading → List Part → Reading → Type 0
MakeAll most s [] after = s ≡ after
MakeAll most s (part ∷ parts) after = (next : Reading) × Makes most s part next × MakeAll most next parts after

-- a text spells a script within limits: its lines that count are those of parts, which make the script's jobs
pub record Spells (most : Limits) (text : List ℕ) (s : Scripted) : Type 0 where
  pub parts : List Part
  pub after : Reading
  pub lines : counted_rows text ≡ flat_map part_lines parts
  pub made : MakeAll most unread parts after
  pub jobs : s.jobs ≡ after.jobs
