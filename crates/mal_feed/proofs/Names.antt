-- The names that the jobs so far have.
use Rattle.std.proofs.Common.{◌≡◌, ℕ, ◌<◌, ◌≤◌, ◌^◌, List, length, arith}
use Rattle.std.specs.Prelude.{count_by}
use Rattle.std.proofs.lemmas.List.Sums.{count_by-le-length}
use Rattle.spec_script.specs.Script.{ScriptedJob}
use Rattle.spec_script.specs.Reading.{is_of}
use Rattle.mal_script.specs.TakenNames.{TakenBy, jobs_at}
use Rattle.mal_script.specs.declared.taken.TakenNames.{TakenNames}

-- no tenant has more jobs than there are
pub few_jobs : (jobs : List ScriptedJob) (names : TakenNames) (tenant : List ℕ) → TakenBy jobs names → length jobs < 2 ^ 63 → jobs_at names.counts tenant < 2 ^ 63
few_jobs jobs names tenant taken few =
    let counted : jobs_at names.counts tenant ≡ count_by (is_of tenant) jobs = taken.counted tenant in
    let most : count_by (is_of tenant) jobs ≤ length jobs = count_by-le-length (is_of tenant) jobs in
    omega arith
