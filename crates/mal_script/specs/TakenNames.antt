-- The names that the jobs so far have, as they are kept beside the jobs.
use Rattle.std.specs.Prelude.{◌≡◌, ℕ, List, Option, is_some, count_by}
use Rattle.std.specs.List.{list_any}
use Rattle.std.specs.BTreeMap.{BTreeMap}
use Rattle.std.specs.BTreeMap as tree
use Rattle.std.specs.Cmp.Lexicographic.{slice_cmp}
use Rattle.std.specs.Map.{count_at}
use Rattle.std.specs.declared.cmp.Ordering.{Ordering}
use Rattle.std.specs.Ordering.{nat_cmp, ordering_then}
use Rattle.mal_script.specs.declared.taken.TakenNames.{TakenNames}
use Rattle.spec_script.specs.Script.{ScriptedJob}
use Rattle.spec_script.specs.Reading.{is_job, is_of}

-- how names are ordered
abbrev pub name_cmp : List ℕ → List ℕ → Ordering
name_cmp a b = slice_cmp nat_cmp a b

-- how pairs of a tenant and a name are ordered
abbrev pub pair_cmp : List ℕ × List ℕ → List ℕ × List ℕ → Ordering
pair_cmp a b = ordering_then (slice_cmp nat_cmp a.0 b.0) (slice_cmp nat_cmp a.1 b.1)

-- what is kept under a tenant and a name
abbrev pub kept_at : BTreeMap (List ℕ × List ℕ) ℕ → List ℕ → List ℕ → Option ℕ
kept_at names tenant name = tree.get pair_cmp names (tenant, name)

-- how many jobs a tenant has
abbrev pub jobs_at : BTreeMap (List ℕ) ℕ → List ℕ → ℕ
jobs_at counts tenant = count_at (tree.get name_cmp counts) tenant

-- these are the names of the jobs, and these are the numbers of the tenants' jobs
pub record AreTaken (jobs : List ScriptedJob) (names : BTreeMap (List ℕ × List ℕ) ℕ) (counts : BTreeMap (List ℕ) ℕ) : Type 0 where
  pub named : (tenant name : List ℕ) → is_some (kept_at names tenant name) ≡ list_any (is_job tenant name) jobs
  pub counted : (tenant : List ℕ) → jobs_at counts tenant ≡ count_by (is_of tenant) jobs

-- these names are those of the jobs
abbrev pub TakenBy : List ScriptedJob → TakenNames → Type 0
TakenBy jobs names = AreTaken jobs names.places names.counts
