-- Jobs by their names.
use Rattle.std.specs.Prelude.{◌≡◌, ℕ, ◌+◌, ◌&&◌, List, Option, Some, None, is_none, if◌then◌else◌}
use Rattle.std.specs.List.{list_any}
use Rattle.std.specs.BTreeMap.{BTreeMap}
use Rattle.std.specs.BTreeMap as tree
use Rattle.std.specs.Cmp.Lexicographic.{slice_cmp}
use Rattle.std.specs.Map.{count_at}
use Rattle.std.specs.declared.cmp.Ordering.{Ordering}
use Rattle.std.specs.Ordering.{nat_cmp, ordering_then}
use Rattle.spec_job.specs.KeyedJob.{Key}
use Rattle.spec_hall.specs.Legal.{jobs_of}
use Rattle.spec_hall.specs.Events.{Event}
use Rattle.spec_hall.specs.Own.{is_key, is_text}
use Rattle.mal_hall.specs.declared.names.Names.{Names}
use Rattle.spec_hall.specs.States.{job_number, names_of}

-- how names are ordered
abbrev pub name_cmp : List ℕ → List ℕ → Ordering
name_cmp a b = slice_cmp nat_cmp a b

-- how pairs of a tenant and a name are ordered
abbrev pub pair_cmp : List ℕ × List ℕ → List ℕ × List ℕ → Ordering
pair_cmp a b = ordering_then (slice_cmp nat_cmp a.0 b.0) (slice_cmp nat_cmp a.1 b.1)

-- the number of a key
abbrev pub found : BTreeMap (List ℕ × List ℕ) ℕ → Key → Option ℕ
found numbers k = tree.get pair_cmp numbers (k.tenant, k.job)

-- how many jobs a tenant has
abbrev pub jobs_at : BTreeMap (List ℕ) ℕ → List ℕ → ℕ
jobs_at tenants tenant = count_at (tree.get name_cmp tenants) tenant

-- the number under which a key came last, where it is one that a hall ever had
abbrev pub number_known : Key → List Event → Option ℕ
number_known k events = if list_any (is_key k) (names_of events) then Some (job_number k events) else None

-- each name leads to the number of its last coming, and the names of each tenant are counted
pub record AreNamed (events : List Event) (numbers : BTreeMap (List ℕ × List ℕ) ℕ) (tenants : BTreeMap (List ℕ) ℕ) : Type 0 where
  pub number : (k : Key) → found numbers k ≡ number_known k events
  pub jobs : (tenant : List ℕ) → jobs_at tenants tenant ≡ jobs_of tenant (names_of events)

-- names that lead where they led
pub record AreAlike (before after : Names) : Type 0 where
  pub leads : (k : Key) → found after.numbers k ≡ found before.numbers k
  pub jobs : (tenant : List ℕ) → jobs_at after.tenants tenant ≡ jobs_at before.tenants tenant

-- a name leads to this number now, and is counted where it is new
pub record HasNoted (number : ℕ) (key : Key) (before after : Names) : Type 0 where
  pub leads : (k : Key) → found after.numbers k ≡ (if is_key key k then Some number else found before.numbers k)
  pub jobs : (tenant : List ℕ) → jobs_at after.tenants tenant ≡ jobs_at before.tenants tenant + (if is_text key.tenant tenant && is_none (found before.numbers key) then 1 else 0)
