use Rattle.std.specs.Prelude.{◌≡◌, ℕ, List, [], ◌∷◌, ◌++◌, map, codes, Some, None, Ok, Err}
use Rattle.mal_base.specs.declared.profile.Profile.{Profile}
use Rattle.mal_base.specs.declared.profile.Profile.TheVariants.{Plain, Lean}
use Rattle.mal_base.specs.declared.limit_kind.LimitKind.TheVariants.{Tenants, Jobs, Revisions}
use Rattle.mal_revision.specs.Posted.{Posted}
use Rattle.mal_base.specs.declared.block_fault.BlockFault.TheVariants.{BadNumber, VarTooLarge, ClauseCount}
use Rattle.mal_base.specs.declared.line_fault.LineFault.TheVariants.{BadLine, Dimacs, Opposite, Duplicate, Range, Limit}
use Rattle.mal_base.specs.declared.limits.Limits.{Limits}
use Rattle.mal_base.specs.Limits.{limits}
use Rattle.spec_script.specs.Reading.{read_text}
use Rattle.spec_script.specs.Script.{ScriptedJob, Scripted, spelling}
use Rattle.spec_script.specs.declared.step.Step.TheVariants.{Revise, Reask}

-- the job of tenant a with this profile, this name and these revisions
abbrev pub job_under : Profile → List ℕ → List Posted → ScriptedJob
job_under profile name rs = record { tenant = codes "a"; name = name; ask = record { priority = 1; demand = 1; slices = 4; profile = profile }; steps = map Revise rs }

-- that of the first profile
abbrev pub job_named : List ℕ → List Posted → ScriptedJob
job_named name rs = job_under Plain name rs

-- the job p of tenant a with these revisions
abbrev pub job_with : List Posted → Scripted
job_with rs = record { jobs = job_named (codes "p") rs ∷ [] }

-- the job p of tenant a with the second profile and no revision
abbrev pub second_profile : Scripted
second_profile = record { jobs = job_under Lean (codes "p") [] ∷ [] }

-- the job p of tenant a, which asks for another priority and demand after its one revision, which has no clause
abbrev pub asks_anew : Scripted
asks_anew = record { jobs = record (job_named (codes "p") []) { steps = Revise (record { variables = 0; clauses = []; assumptions = [] }) ∷ Reask (record { priority = 5; demand = 2 }) ∷ [] } ∷ [] }

-- the same job, which asks for them before that revision
abbrev pub asks_first : Scripted
asks_first = record { jobs = record (job_named (codes "p") []) { steps = Reask (record { priority = 5; demand = 2 }) ∷ Revise (record { variables = 0; clauses = []; assumptions = [] }) ∷ [] } ∷ [] }

-- worked examples of the text of a script
pub record HasExamples : Type 0 where
  pub no_job : spelling (record { jobs = [] }) ≡ []
  pub one_clause : spelling (job_with (record { variables = 2; clauses = Some (2 ∷ 4 ∷ []) ∷ []; assumptions = [] } ∷ [])) ≡ codes "t a" ++ 10 ∷ (codes "j p 1 1 4" ++ 10 ∷ (codes "p cnf 2 1" ++ 10 ∷ (codes "1 2 0" ++ 10 ∷ (codes "a 0" ++ 10 ∷ (codes "e" ++ 10 ∷ [])))))
  pub profile : spelling second_profile ≡ codes "t a" ++ 10 ∷ (codes "j p 1 1 4 2" ++ 10 ∷ (codes "e" ++ 10 ∷ []))
  pub assumed : spelling (job_with (record { variables = 2; clauses = None ∷ []; assumptions = 2 ∷ 5 ∷ [] } ∷ [])) ≡ codes "t a" ++ 10 ∷ (codes "j p 1 1 4" ++ 10 ∷ (codes "p cnf 2 1" ++ 10 ∷ (codes "1 -1 0" ++ 10 ∷ (codes "a 1 -2 0" ++ 10 ∷ (codes "e" ++ 10 ∷ [])))))
  pub anew : spelling asks_anew ≡ codes "t a" ++ 10 ∷ (codes "j p 1 1 4" ++ 10 ∷ (codes "p cnf 0 0" ++ 10 ∷ (codes "a 0" ++ 10 ∷ (codes "q 5 2" ++ 10 ∷ (codes "e" ++ 10 ∷ [])))))

-- small texts that spell scripts, of profile 1 where no word names another; a literal is given by its code: 2 and 3 are
-- 1 and -1
pub record ReadingExamples : Type 0 where
  pub empty : read_text limits [] ≡ Ok (record { jobs = [] })
  pub no_revision : read_text limits (codes "t a\nj p 1 1 4\ne\n") ≡ Ok (job_with [])
  pub of_profile_2 : read_text limits (codes "t a\nj p 1 1 4 2\ne\n") ≡ Ok second_profile
  pub profile_by_value : read_text limits (codes "t a\nj p 1 1 4 02\ne\n") ≡ Ok second_profile
  pub of_profile_1 : read_text limits (codes "t a\nj p 1 1 4 1\ne\n") ≡ Ok (job_with [])
  pub tautology_keeps_its_number : read_text limits (codes "t a\nj p 1 1 4\np cnf 2 2\n1 -1 0\n2 0\na 0\ne\n") ≡ Ok (job_with (record { variables = 2; clauses = None ∷ Some (4 ∷ []) ∷ []; assumptions = [] } ∷ []))
  pub from_a_tool : read_text limits (codes "c made by a tool\r\nt a\r\nj p 1 1 4\r\np cnf 2 1\r\n-2\r\n1 0\r\n%\r\n0\r\na 0\r\ne\r\n") ≡ Ok (job_with (record { variables = 2; clauses = Some (2 ∷ 5 ∷ []) ∷ []; assumptions = [] } ∷ []))
  pub repeated_literal : read_text limits (codes "t a\nj p 1 1 4\np cnf 2 1\n1 2 1 0\na 0\ne") ≡ Ok (job_with (record { variables = 2; clauses = Some (2 ∷ 4 ∷ []) ∷ []; assumptions = [] } ∷ []))
  pub assumptions_in_order : read_text limits (codes "t a\nj p 1 1 4\np cnf 2 0\na 2 -1 2 0\ne\n") ≡ Ok (job_with (record { variables = 2; clauses = []; assumptions = 3 ∷ 4 ∷ [] } ∷ []))
  pub second_job : read_text limits (codes "t a\nj p 1 1 4\ne\nj q 1 1 4\ne\n") ≡ Ok (record { jobs = job_named (codes "p") [] ∷ job_named (codes "q") [] ∷ [] })
  pub fewer_variables_later : read_text limits (codes "t a\nj p 1 1 4\np cnf 2 0\na 0\np cnf 1 0\na 1 0\ne\n") ≡ Ok (job_with (record { variables = 2; clauses = []; assumptions = [] } ∷ record { variables = 1; clauses = []; assumptions = 2 ∷ [] } ∷ []))
  pub asked_anew : read_text limits (codes "t a\nj p 1 1 4\np cnf 0 0\na 0\nq 5 2\ne\n") ≡ Ok asks_anew
  pub asked_first : read_text limits (codes "t a\nj p 1 1 4\nq 05 2\np cnf 0 0\na 0\ne\n") ≡ Ok asks_first

-- small texts with their first fault
pub record FaultExamples : Type 0 where
  pub end_alone : read_text limits (codes "e") ≡ Err (1, BadLine)
  pub compressed : read_text limits (31 ∷ 139 ∷ 8 ∷ []) ≡ Err (1, BadLine)
  pub no_tenant : read_text limits (codes "j p 1 1 4") ≡ Err (1, BadLine)
  pub priority_zero : read_text limits (codes "t a\nj p 0 1 4\ne\n") ≡ Err (2, Range)
  pub word_before_range : read_text limits (codes "t a\nj p 0 +1 4\ne\n") ≡ Err (2, BadLine)
  pub profile_zero : read_text limits (codes "t a\nj p 1 1 4 0\ne\n") ≡ Err (2, Range)
  pub profile_three : read_text limits (codes "t a\nj p 1 1 4 3\ne\n") ≡ Err (2, Range)
  pub profile_is_no_number : read_text limits (codes "t a\nj p 1 1 4 x\ne\n") ≡ Err (2, BadLine)
  pub profile_word_before_range : read_text limits (codes "t a\nj p 0 1 4 x\ne\n") ≡ Err (2, BadLine)
  pub two_profiles : read_text limits (codes "t a\nj p 1 1 4 2 2\ne\n") ≡ Err (2, BadLine)
  pub job_not_ended : read_text limits (codes "t a\nj p 1 1 4\n\n") ≡ Err (3, BadLine)
  pub variable_too_large : read_text limits (codes "t a\nj p 1 1 4\np cnf 2 1\n3 0\na 0\ne\n") ≡ Err (4, Dimacs VarTooLarge)
  pub block_cut_short : read_text limits (codes "t a\nj p 1 1 4\np cnf 2 2\n1 2 0\n-1") ≡ Err (5, Dimacs (ClauseCount 2 1))
  pub block_not_whole : read_text limits (codes "t a\nj p 1 1 4\np cnf 2 2\n1 2 0\na 3 0\ne\n") ≡ Err (5, Dimacs (ClauseCount 2 1))
  pub block_not_ended : read_text limits (codes "t a\nj p 1 1 4\np cnf 1 1\n1 0\n") ≡ Err (4, BadLine)
  pub opposite : read_text limits (codes "t a\nj p 1 1 4\np cnf 1 0\na 1 -1 0\ne\n") ≡ Err (4, Opposite 1)
  pub above_the_variables : read_text limits (codes "t a\nj p 1 1 4\np cnf 1 0\na 2 0\ne\n") ≡ Err (4, Range)
  pub duplicate : read_text limits (codes "t a\nj p 1 1 4\ne\nj p 1 1 4\ne\n") ≡ Err (4, Duplicate (codes "a") (codes "p"))
  pub new_priority_zero : read_text limits (codes "t a\nj p 1 1 4\nq 0 1\ne\n") ≡ Err (3, Range)
  pub new_demand_too_large : read_text limits (codes "t a\nj p 1 1 4\nq 1 65\ne\n") ≡ Err (3, Range)
  pub new_demand_missing : read_text limits (codes "t a\nj p 1 1 4\nq 1\ne\n") ≡ Err (3, BadLine)
  pub three_new_numbers : read_text limits (codes "t a\nj p 1 1 4\nq 1 1 4\ne\n") ≡ Err (3, BadLine)
  pub new_priority_is_no_number : read_text limits (codes "t a\nj p 1 1 4\nq x 1\ne\n") ≡ Err (3, BadLine)
  pub new_word_before_range : read_text limits (codes "t a\nj p 1 1 4\nq 0 x\ne\n") ≡ Err (3, BadLine)
  pub asked_outside_a_job : read_text limits (codes "t a\nj p 1 1 4\ne\nq 1 1\n") ≡ Err (4, BadLine)
  pub asked_in_a_block : read_text limits (codes "t a\nj p 1 1 4\np cnf 0 0\nq 1 1\na 0\ne\n") ≡ Err (4, Dimacs BadNumber)

-- limits that small texts pass
abbrev pub few : Limits
few = record limits { tenants = 2; jobs = 2; jobs_of_tenant = 1; revisions = 1 }

-- small texts that pass limits
pub record LimitExamples : Type 0 where
  pub third_tenant : read_text few (codes "t a\nt b\nt a\nt c\n") ≡ Err (4, Limit Tenants)
  pub second_job_of_tenant : read_text few (codes "t a\nj p 1 1 4\ne\nj q 1 1 4\ne\n") ≡ Err (4, Limit Jobs)
  pub second_job : read_text (record few { jobs = 1 }) (codes "t a\nj p 1 1 4\ne\nt b\nj p 1 1 4\ne\n") ≡ Err (5, Limit Jobs)
  pub second_revision : read_text few (codes "t a\nj p 1 1 4\np cnf 0 0\na 0\np cnf 0 0\na 0\ne\n") ≡ Err (5, Limit Revisions)
