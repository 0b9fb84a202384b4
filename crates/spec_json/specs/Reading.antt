-- Reading a description value by value: the script, or the first fault.
use Rattle.std.specs.Prelude.{ℕ, ◌+◌, ◌||◌, not, ℤ, pos, int_lt, nat_abs, nat_lt, List, [], ◌∷◌, ◌++◌, length, map, codes, count_by, if◌then◌else◌, Option, Some, None, Result, Ok, Err}
use Rattle.std.specs.List.{list_any}
use Rattle.mal_base.specs.Limits.{limits}
use Rattle.mal_base.specs.declared.limits.Limits.{Limits}
use Rattle.mal_base.specs.Asks.{Terms, Weighed}
use Rattle.mal_base.specs.Clauses.{clash}
use Rattle.mal_base.specs.Formulas.{literals_of}
use Rattle.mal_base.specs.declared.limit_kind.LimitKind.TheVariants.{Variables, Clauses, Literals, Tenants, Jobs, Revisions}
use Rattle.mal_revision.specs.Posted.{Posted}
use Rattle.spec_dimacs.specs.Merged.{clause_of, sorted}
use Rattle.spec_dimacs.specs.Reading.{◌>>=◌, code_of}
use Rattle.spec_script.specs.Script.{ScriptedJob, Scripted, revisions_in}
use Rattle.spec_script.specs.declared.step.Step.{Step}
use Rattle.spec_script.specs.declared.step.Step.TheVariants.{Revise, Reask}
use Rattle.spec_script.specs.Reading.{is_job, has_room}
use Rattle.spec_script.specs.Formed.{with_name, tenants_of, clauses_of, clause_literals}
use Rattle.serde_json.specs.Data.{Data}
use Rattle.spec_json.specs.Shape.{at, is_document_shape, is_job_shape, is_revision, json_in, jobs_in, steps_in, text_in}
use Rattle.spec_json.specs.Numbers.{ask_in, assumptions_in, clauses_in, has_number, is_above, is_none, variables_in, weight_in}
use Rattle.spec_json.specs.declared.fault.JsonFault.{JsonFault}
use Rattle.spec_json.specs.declared.fault.JsonFault.TheVariants.{NotJson, Shape, Range, Duplicate, VarTooLarge, Opposite, Limit}

-- the literals that numbers stand for
abbrev pub literals : List ℤ → List ℕ
literals numbers = map code_of numbers

-- the revision of a step, where nothing is wrong with its numbers
abbrev pub revision_in : Data → Posted
revision_in d = record {
  variables = nat_abs (variables_in d);
  clauses = map (λ numbers. clause_of (literals numbers)) (clauses_in d);
  assumptions = sorted (literals (assumptions_in d));
}

-- a job has a revision more: after it the job has no more clauses and literals than are served
abbrev pub with_revision : ℕ → List Step → Posted → Result (List Step) JsonFault
with_revision job steps r =
    if nat_lt limits.clauses (clauses_of (revisions_in steps) + length r.clauses) then Err (Limit job Clauses) else
    if nat_lt limits.literals (clause_literals (revisions_in steps) + literals_of r.clauses) then Err (Limit job Literals) else
    Ok (steps ++ Revise r ∷ [])

-- the same where no variable is assumed with both signs; the least that is
abbrev pub with_consistent : ℕ → List Step → Posted → Option ℕ → Result (List Step) JsonFault
with_consistent job steps r None = with_revision job steps r
with_consistent job steps r (Some var) = Err (Opposite job var)

-- the same where each literal is of one of the variables
abbrev pub bounded : ℕ → List Step → Data → Result (List Step) JsonFault
bounded job steps d =
    if has_number (is_above (nat_abs (variables_in d))) (clauses_in d) (assumptions_in d) then Err (VarTooLarge job) else
    with_consistent job steps (revision_in d) (clash (sorted (literals (assumptions_in d))))

-- the steps of a job with a revision more
abbrev pub revised : ℕ → List Step → Data → Result (List Step) JsonFault
revised job steps d =
    if int_lt (variables_in d) (pos 0) || has_number is_none (clauses_in d) (assumptions_in d) then Err (Range job) else
    if nat_lt limits.variables (nat_abs (variables_in d)) then Err (Limit job Variables) else
    bounded job steps d

-- the steps of a job with this priority and this demand more, where they are in range
abbrev pub with_weight : ℕ → List Step → Option Weighed → Result (List Step) JsonFault
with_weight job steps None = Err (Range job)
with_weight job steps (Some weight) = Ok (steps ++ Reask weight ∷ [])

-- the steps of a job with a change of its priority and its demand more
abbrev pub reasked : ℕ → List Step → Data → Result (List Step) JsonFault
reasked job steps d = with_weight job steps (weight_in d)

-- the steps of a job with the step of a value more
abbrev pub stepped : ℕ → List Step → Data → Result (List Step) JsonFault
stepped job steps d = if is_revision d then revised job steps d else reasked job steps d

-- the same with the steps of several values, one after another
abbrev pub all_stepped : ℕ → List Step → List Data → Result (List Step) JsonFault
all_stepped job steps [] = Ok steps
all_stepped job steps (d ∷ ds) = stepped job steps d >>= λ after. all_stepped job after ds

-- the job of a value, with this ask and these steps
abbrev pub job_of : Data → Terms → List Step → ScriptedJob
job_of d ask steps = record { tenant = text_in (at (codes "tenant") d); name = text_in (at (codes "name") d); ask = ask; steps = steps }

-- jobs with that of a value after them, where its steps are read
abbrev pub with_steps : List ScriptedJob → Data → Terms → Result (List ScriptedJob) JsonFault
with_steps jobs d ask = all_stepped (length jobs + 1) [] (steps_in d) >>= λ steps. Ok (jobs ++ job_of d ask steps ∷ [])

-- the same where the job may follow them
abbrev pub admitted : Limits → List ScriptedJob → List ℕ → List ℕ → Data → Terms → Result (List ScriptedJob) JsonFault
admitted most jobs tenant name d ask =
    if nat_lt most.tenants (length (with_name (tenants_of jobs) tenant)) then Err (Limit (length jobs + 1) Tenants) else
    if list_any (is_job tenant name) jobs then Err (Duplicate (length jobs + 1)) else
    if not (has_room most tenant jobs) then Err (Limit (length jobs + 1) Jobs) else
    if nat_lt most.revisions (count_by is_revision (steps_in d)) then Err (Limit (length jobs + 1) Revisions) else
    with_steps jobs d ask

-- the same where its numbers make an ask
abbrev pub asked : Limits → List ScriptedJob → Data → Option Terms → Result (List ScriptedJob) JsonFault
asked most jobs d None = Err (Range (length jobs + 1))
asked most jobs d (Some ask) = admitted most jobs (text_in (at (codes "tenant") d)) (text_in (at (codes "name") d)) d ask

-- the jobs with the job of a value more
abbrev pub with_job : Limits → List ScriptedJob → Data → Result (List ScriptedJob) JsonFault
with_job most jobs d =
    if not (is_job_shape d) then Err (Shape (length jobs + 1)) else
    asked most jobs d (ask_in d)

-- the same with the jobs of several values, one after another
abbrev pub with_jobs : Limits → List ScriptedJob → List Data → Result (List ScriptedJob) JsonFault
with_jobs most jobs [] = Ok jobs
with_jobs most jobs (d ∷ ds) = with_job most jobs d >>= λ after. with_jobs most after ds

-- the script of these jobs
abbrev pub of_jobs : List ScriptedJob → Scripted
of_jobs jobs = record { jobs = jobs }

-- the jobs of a document
abbrev pub read_value : Limits → Data → Result (List ScriptedJob) JsonFault
read_value most d = if not (is_document_shape d) then Err (Shape 0) else with_jobs most [] (jobs_in d)

-- the same where a text is JSON
abbrev pub read_json : Limits → Option Data → Result (List ScriptedJob) JsonFault
read_json most None = Err NotJson
read_json most (Some d) = read_value most d

-- the script of a text, or its first fault
abbrev pub read_text : Limits → List ℕ → Result Scripted JsonFault
read_text most text = read_json most (json_in text) >>= λ jobs. Ok (of_jobs jobs)
