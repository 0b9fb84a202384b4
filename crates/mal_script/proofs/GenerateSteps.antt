-- The steps by which a generated script is made.
use Rattle.std.proofs.Common.{◌≡◌, ℕ, ◌<◌, ◌≤◌, ◌^◌, List, ap, sym, subst}
use Rattle.mal_script.specs.ReadResult.{of_jobs}
use Rattle.spec_script.specs.Generated.{most_generated, jobs_from}
use Rattle.spec_script.specs.Formed.{IsScript}
use Rattle.mal_base.specs.Limits.{limits}
use Rattle.spec_script.specs.Script.{ScriptedJob, Scripted}
use Rattle.spec_script.proofs.GeneratedSteps.{variables-begin, variables-more, variables-end, clauses-more, clauses-end, after-next, after-clauses-end, jobs-more, jobs-end}
use Rattle.spec_script.proofs.GeneratedScript.{generated_script}
use Rattle.spec_script.proofs.GeneratedFormed.{revision-formed, tenant-formed, name-formed}

pub ruleset variable_lemmas = (variables-begin, variables-more, variables-end)

pub ruleset clause_lemmas = (clauses-more, clauses-end, after-next, after-clauses-end)

pub ruleset job_lemmas = (jobs-more, jobs-end, generated_script)

pub ruleset form_lemmas = (revision-formed, tenant-formed, name-formed)

-- the jobs that are made are those of a script in form
pub made-formed : (seed jobs : ℕ) (made : List ScriptedJob) → made ≡ jobs_from jobs 1 seed → seed < 2 ^ 31 → 1 ≤ jobs → jobs ≤ most_generated → IsScript limits (of_jobs made)
made-formed seed jobs made e low some bound = subst (λ (s : Scripted). IsScript limits s) (sym (ap of_jobs e)) (generated_script seed jobs low some bound)
