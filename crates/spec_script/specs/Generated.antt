-- The scripts of the generator: a seed decides random formulas of three literals a clause.
use Rattle.std.specs.Prelude.{ℕ, zero, suc, ◌+◌, ◌-◌, ◌%◌, ◌==◌, List, [], ◌∷◌, length, decimal, Option}
use Rattle.std.specs.List.{remove, slice_index}
use Rattle.mal_base.specs.declared.profile.Profile.TheVariants.{Plain}
use Rattle.mal_base.specs.Asks.{Terms}
use Rattle.mal_base.specs.Literals.{literal}
use Rattle.mal_revision.specs.Posted.{Posted}
use Rattle.spec_seq.specs.Draws.{next, drawn}
use Rattle.spec_dimacs.specs.Merged.{clause_of}
use Rattle.spec_script.specs.Script.{ScriptedJob, Scripted}
use Rattle.spec_script.specs.declared.step.Step.TheVariants.{Revise}

-- what is picked of so many, 0 included, where the generator's number is x: the next draw modulo this
abbrev pub pick : ℕ → ℕ → ℕ
pick n x = drawn (next x) % n

-- the variables from this one on, so many
abbrev pub variables_from : ℕ → ℕ → List ℕ
variables_from first zero = []
variables_from first (suc k) = first ∷ variables_from (suc first) k

-- the variables of a clause: 1 to 50
unfoldable pub variables : List ℕ
variables = variables_from 1 50

-- the code of the literal of a variable, which is negative where the draw modulo 2 is 1
abbrev pub signed : ℕ → ℕ → ℕ
signed var x = literal var (pick 2 x == 0)

-- so many literals, one after the other: the variable is at a picked place among those that are left, and then its sign
-- is picked
abbrev pub literals_from : ℕ → List ℕ → ℕ → List ℕ
literals_from zero left x = []
literals_from (suc k) left x =
    signed (slice_index left (pick (length left) x)) (next x) ∷ literals_from k (remove left (pick (length left) x)) (next (next x))

-- the generator's number after so many literals
abbrev pub after_literals : ℕ → ℕ → ℕ
after_literals zero x = x
after_literals (suc k) x = after_literals k (next (next x))

-- a clause of three literals
unfoldable pub clause_from : ℕ → Option (List ℕ)
clause_from x = clause_of (literals_from 3 variables x)

-- the generator's number after a clause
unfoldable pub after_clause : ℕ → ℕ
after_clause x = after_literals 3 x

-- so many clauses
unfoldable pub clauses_from : ℕ → ℕ → List (Option (List ℕ))
clauses_from zero x = []
clauses_from (suc k) x = clause_from x ∷ clauses_from k (after_clause x)

-- the generator's number after so many clauses
unfoldable pub after_clauses : ℕ → ℕ → ℕ
after_clauses zero x = x
after_clauses (suc k) x = after_clauses k (after_clause x)

-- the one revision of a job: 213 clauses over 50 variables
abbrev pub revision_from : ℕ → Posted
revision_from x = record { variables = 50; clauses = clauses_from 213 x; assumptions = [] }

-- the generator's number after the revision of a job
abbrev pub after_revision : ℕ → ℕ
after_revision x = after_clauses 213 x

-- the names of the job of this number, from 1 on: the four tenants take turns
abbrev pub tenant_of : ℕ → List ℕ
tenant_of i = 116 ∷ decimal ((i - 1) % 4 + 1)

abbrev pub name_of : ℕ → List ℕ
name_of i = 106 ∷ decimal i

-- what a job asks for: a priority of 1 to 8, demand 1, 64 slices and the first profile
abbrev pub ask_from : ℕ → Terms
ask_from x = record { priority = 1 + pick 8 x; demand = 1; slices = 64; profile = Plain }

-- the job of this number
abbrev pub job_from : ℕ → ℕ → ScriptedJob
job_from i x = record { tenant = tenant_of i; name = name_of i; ask = ask_from x; steps = Revise (revision_from (next x)) ∷ [] }

-- so many jobs, numbered from this one on
abbrev pub jobs_from : ℕ → ℕ → ℕ → List ScriptedJob
jobs_from zero i x = []
jobs_from (suc k) i x = job_from i x ∷ jobs_from k (suc i) (after_revision (next x))

-- a script of the generator has 1 to so many jobs
abbrev pub most_generated : ℕ
most_generated = 256

-- the script of a seed with so many jobs
abbrev pub generated : ℕ → ℕ → Scripted
generated seed jobs = record { jobs = jobs_from jobs 1 seed }
