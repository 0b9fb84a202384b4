-- A generated script is in form: its jobs may follow one another.
use Rattle.std.proofs.Common.{◌≡◌, ℕ, zero, suc, ◌+◌, ◌-◌, ◌/◌, ◌%◌, ◌<◌, ◌≤◌, Bool, true, false, cond, ◌&&◌, ◌||◌, List, [], ◌∷◌, ◌++◌, length, length-append, decimal, bytes_eq, refl, sym, ap, ◌∙◌, subst, arith, rules}
use Rattle.std.specs.Fmt.{digits}
use Rattle.std.specs.List.{AllByRecursion, list_any, count_by}
use Rattle.std.proofs.lemmas.Bool.{lt-ltb}
use Rattle.std.proofs.lemmas.Fmt.{decimal_injective}
use Rattle.std.proofs.lemmas.List.Sums.{sum_by-append, sum_by-cons, fold-append}
use Rattle.std.proofs.lemmas.Slice.Eq.{bytes_eq-Decides}
use Rattle.mal_base.specs.Asks.{IsAsk}
use Rattle.mal_base.proofs.Sorting.{and-both}
use Rattle.spec_script.specs.Formed.{with_name, tenants_of, IsJob, MayFollow, MayAllFollow}
use Rattle.mal_base.specs.Limits.{limits}
use Rattle.spec_script.specs.Reading.{is_of, is_job}
use Rattle.spec_script.specs.Script.{ScriptedJob}
use Rattle.spec_seq.specs.Draws.{next}
use Rattle.spec_script.specs.Generated.{most_generated, pick, tenant_of, name_of, ask_from, after_revision, job_from, jobs_from}
use Rattle.spec_script.specs.GeneratedLaws.{GeneratedIsScript}
use Rattle.spec_script.proofs.GeneratedFormed.{tenant-formed, name-formed, revision-formed, revision-length, revision-literals, pick-below}

-- the name of a tenant, counted from 0
abbrev tenant : ℕ → List ℕ
tenant r = 116 ∷ decimal (r + 1)

-- the tenants of so many jobs
abbrev firsts : ℕ → List (List ℕ)
firsts zero = []
firsts (suc zero) = tenant 0 ∷ []
firsts (suc (suc zero)) = tenant 0 ∷ tenant 1 ∷ []
firsts (suc (suc (suc zero))) = tenant 0 ∷ tenant 1 ∷ tenant 2 ∷ []
firsts (suc (suc (suc (suc m)))) = tenant 0 ∷ tenant 1 ∷ tenant 2 ∷ tenant 3 ∷ []

firsts-few : (m : ℕ) → length (firsts m) ≤ 4
firsts-few zero = omega arith
firsts-few (suc zero) = omega arith
firsts-few (suc (suc zero)) = omega arith
firsts-few (suc (suc (suc zero))) = omega arith
firsts-few (suc (suc (suc (suc m)))) = omega arith

-- each tenant is among the four
among-four : (d : ℕ) → d < 4 → list_any (bytes_eq (tenant d)) (tenant 0 ∷ tenant 1 ∷ tenant 2 ∷ tenant 3 ∷ []) ≡ true
unfolding digits
among-four zero h = refl
among-four (suc zero) h = refl
among-four (suc (suc zero)) h = refl
among-four (suc (suc (suc zero))) h = refl
among-four (suc (suc (suc (suc d)))) h = absurd (omega arith)

four-stay : (d : ℕ) → d < 4 → with_name (firsts 4) (tenant d) ≡ firsts 4
four-stay d h = ap (λ (b : Bool). cond b (firsts 4) (firsts 4 ++ tenant d ∷ [])) (among-four d h)

with-next : (m : ℕ) → with_name (firsts m) (tenant (m % 4)) ≡ firsts (suc m)
unfolding digits
with-next zero = refl
with-next (suc zero) = refl
with-next (suc (suc zero)) = refl
with-next (suc (suc (suc zero))) = refl
with-next (suc (suc (suc (suc m)))) = four-stay (suc (suc (suc (suc m))) % 4) (omega arith)

-- what stands before the job of this number: the jobs of the lesser numbers
record Prior (i : ℕ) (prev : List ScriptedJob) : Type 0 where
  names : AllByRecursion (λ j. (m : ℕ) × (m < i) × (j.name ≡ name_of m)) prev
  count : length prev + 1 ≡ i
  tenants : tenants_of prev ≡ firsts (i - 1)
  shares : (r : ℕ) → r < 4 → count_by (is_of (tenant r)) prev ≡ (i + 2 - r) / 4

differ : (x y : List ℕ) → (x ≡ y → ⊥) → bytes_eq x y ≡ false
differ x y apart = by_test (bytes_eq x y) refl
  where
    by_test : (b : Bool) → bytes_eq x y ≡ b → b ≡ false
    by_test true e = absurd (apart ((bytes_eq-Decides x y).0 e))
    by_test false e = refl

same : (x : List ℕ) → bytes_eq x x ≡ true
same x = (bytes_eq-Decides x x).1 refl

tail-is : (x y : ℕ) (xs ys : List ℕ) → x ∷ xs ≡ y ∷ ys → xs ≡ ys
tail-is x y xs ys e = cc

names-differ : (i m : ℕ) → i ≤ most_generated → m < i → bytes_eq (name_of i) (name_of m) ≡ false
names-differ i m few less = differ (name_of i) (name_of m) (λ e. let equal : i ≡ m = decimal_injective i m (omega arith) (omega arith) (tail-is 106 106 (decimal i) (decimal m) e) in absurd (omega arith))

no-right : (a b : Bool) → b ≡ false → (a && b) ≡ false
no-right true b e = e
no-right false b e = refl

no-either : (a b : Bool) → a ≡ false → b ≡ false → (a || b) ≡ false
no-either true b e f = cc
no-either false b e f = f

fresh : (i : ℕ) (t : List ℕ) (prev : List ScriptedJob) → i ≤ most_generated → AllByRecursion (λ j. (m : ℕ) × (m < i) × (j.name ≡ name_of m)) prev → list_any (is_job t (name_of i)) prev ≡ false
fresh i t [] few names = refl
fresh i t (j ∷ js) few names =
    no-either (is_job t (name_of i) j) (list_any (is_job t (name_of i)) js)
    (no-right (is_of t j) (bytes_eq (name_of i) j.name) (ap (bytes_eq (name_of i)) names.0.2 ∙ names-differ i names.0.0 few names.0.1))
    (fresh i t js few names.1)

-- one job more of a tenant, or of another
counts : (r i : ℕ) (x : ℕ) (prev : List ScriptedJob) → count_by (is_of (tenant r)) (prev ++ job_from i x ∷ []) ≡ count_by (is_of (tenant r)) prev + cond (bytes_eq (tenant r) (tenant_of i)) 1 0
counts r i x prev =
    sum_by-append (λ (j : ScriptedJob). cond (is_of (tenant r) j) 1 0) prev (job_from i x ∷ [])
    ∙ ap (λ (n : ℕ). count_by (is_of (tenant r)) prev + n) (sum_by-cons (λ (j : ScriptedJob). cond (is_of (tenant r) j) 1 0) (job_from i x) [] ∙ plus-zero (cond (bytes_eq (tenant r) (tenant_of i)) 1 0))
  where
    plus-zero : (n : ℕ) → n + 0 ≡ n
    plus-zero n = omega arith

share-more : (i r : ℕ) → 1 ≤ i → r < 4 → r ≡ (i - 1) % 4 → (i + 2 - r) / 4 + 1 ≡ (i + 1 + 2 - r) / 4
share-more i r some less e = omega arith

share-stays : (i r : ℕ) → 1 ≤ i → r < 4 → (r ≡ (i - 1) % 4 → ⊥) → (i + 2 - r) / 4 ≡ (i + 1 + 2 - r) / 4
share-stays i r some less e = grind arith

same-tenant : (r d : ℕ) → r < 4 → d < 4 → tenant r ≡ tenant d → r ≡ d
same-tenant r d l h e = let next : r + 1 ≡ d + 1 = decimal_injective (r + 1) (d + 1) (omega arith) (omega arith) (tail-is 116 116 (decimal (r + 1)) (decimal (d + 1)) e) in omega arith

shared : (i r x : ℕ) (prev : List ScriptedJob) → 1 ≤ i → r < 4 → count_by (is_of (tenant r)) prev ≡ (i + 2 - r) / 4 → count_by (is_of (tenant r)) (prev ++ job_from i x ∷ []) ≡ (i + 1 + 2 - r) / 4
shared i r x prev some less e = counts r i x prev ∙ by_test (bytes_eq (tenant r) (tenant_of i)) refl
  where
    by_test : (b : Bool) → bytes_eq (tenant r) (tenant_of i) ≡ b → count_by (is_of (tenant r)) prev + cond b 1 0 ≡ (i + 1 + 2 - r) / 4
    by_test true t =
        let is : r ≡ (i - 1) % 4 = same-tenant r ((i - 1) % 4) less (omega arith) ((bytes_eq-Decides (tenant r) (tenant_of i)).0 t) in
        ap (λ (n : ℕ). n + 1) e ∙ share-more i r some less is
    by_test false t =
        let not : r ≡ (i - 1) % 4 → ⊥ = λ is. let yes : bytes_eq (tenant r) (tenant_of i) ≡ true = ap (λ (n : ℕ). bytes_eq (tenant n) (tenant_of i)) is ∙ same (tenant_of i) in let bad : true ≡ false = sym yes ∙ t in cc in
        let zero-more : count_by (is_of (tenant r)) prev + 0 ≡ count_by (is_of (tenant r)) prev = omega arith in
        zero-more ∙ (e ∙ share-stays i r some less not)

tenants-more : (jobs : List ScriptedJob) (j : ScriptedJob) → tenants_of (jobs ++ j ∷ []) ≡ with_name (tenants_of jobs) j.tenant
tenants-more jobs j = fold-append (λ (names : List (List ℕ)) (k : ScriptedJob). with_name names k.tenant) [] jobs (j ∷ [])

one-up : (i : ℕ) → 1 ≤ i → suc (i - 1) ≡ i + 1 - 1
one-up i h = omega arith

tenants-next : (i x : ℕ) (prev : List ScriptedJob) → 1 ≤ i → tenants_of prev ≡ firsts (i - 1) → tenants_of (prev ++ job_from i x ∷ []) ≡ firsts (i + 1 - 1)
tenants-next i x prev some e = tenants-more prev (job_from i x) ∙ (ap (λ (names : List (List ℕ)). with_name names (tenant_of i)) e ∙ (with-next (i - 1) ∙ ap firsts (one-up i some)))

more-names : (i : ℕ) (prev : List ScriptedJob) (j : ScriptedJob) → j.name ≡ name_of i → AllByRecursion (λ k. (m : ℕ) × (m < i) × (k.name ≡ name_of m)) prev → AllByRecursion (λ k. (m : ℕ) × (m < i + 1) × (k.name ≡ name_of m)) (prev ++ j ∷ [])
more-names i [] j e names = ((i, omega arith, e), tt)
more-names i (k ∷ ks) j e names = ((names.0.0, let less = names.0.1 in omega arith, names.0.2), more-names i ks j e names.1)

prior-next : (i x : ℕ) (prev : List ScriptedJob) → 1 ≤ i → Prior i prev → Prior (i + 1) (prev ++ job_from i x ∷ [])
prior-next i x prev some p = record {
  names = more-names i prev (job_from i x) refl p.names;
  count = let long = length-append prev (job_from i x ∷ []) in let before = p.count in omega arith;
  tenants = tenants-next i x prev some p.tenants;
  shares = λ r less. shared i r x prev some less (p.shares r less);
}

-- what a generated job asks for is an ask
ask-formed : (x : ℕ) → IsAsk (ask_from x)
ask-formed x = let small : pick 8 x < 8 = pick-below 8 x (omega arith) in search (rules, arith)

job-formed : (i x : ℕ) → i ≤ most_generated → IsJob limits (job_from i x)
job-formed i x few = record {
  tenant = tenant-formed (i - 1);
  name = name-formed i few;
  ask = ask-formed x;
  few = omega arith;
  formed = and-both _ _ (revision-formed (next x)) refl;
  clauses = let many = revision-length (next x) in omega arith;
  literals = let most = revision-literals (next x) in omega arith;
}

share-room : (i n : ℕ) → 1 ≤ i → i ≤ most_generated → n ≡ (i + 2 - (i - 1) % 4) / 4 → n < limits.jobs_of_tenant
share-room i n some few e = omega arith

follows : (i x : ℕ) (prev : List ScriptedJob) → 1 ≤ i → i ≤ most_generated → Prior i prev → MayFollow limits prev (job_from i x)
follows i x prev some few p = record {
  formed = job-formed i x few;
  new = fresh i (tenant_of i) prev few p.names;
  room = let count = p.count in and-both _ _ (lt-ltb _ limits.jobs_of_tenant (share-room i _ some few (p.shares ((i - 1) % 4) (omega arith)))) (lt-ltb (length prev) limits.jobs (omega arith));
  tenants = let four = firsts-few (i + 1 - 1) in subst (λ (names : List (List ℕ)). length names ≤ limits.tenants) (sym (tenants-next i x prev some p.tenants)) (omega arith);
}

all-follow : (k i x : ℕ) (prev : List ScriptedJob) → 1 ≤ i → i + k ≤ most_generated + 1 → Prior i prev → MayAllFollow limits prev (jobs_from k i x)
all-follow zero i x prev some few p = tt
all-follow (suc k) i x prev some few p = (
  follows i x prev some (omega arith) p,
  let more : i + 1 ≡ suc i = omega arith in
      subst (λ (n : ℕ). MayAllFollow limits (prev ++ job_from i x ∷ []) (jobs_from k n (after_revision (next x)))) more (all-follow k (i + 1) (after_revision (next x)) (prev ++ job_from i x ∷ []) (omega arith) (omega arith) (prior-next i x prev some p)),
)

none-prior : Prior 1 []
none-prior = record { names = tt; count = omega arith; tenants = refl; shares = λ r less. let nothing : 0 ≡ (1 + 2 - r) / 4 = omega arith in nothing }

pub generated_script : GeneratedIsScript
generated_script seed jobs low some few = all-follow jobs 1 seed [] (omega arith) (omega arith) none-prior
