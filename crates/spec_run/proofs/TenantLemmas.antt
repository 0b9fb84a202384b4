-- The tenants of the jobs that a script opens: the hall counts no more of them than the script names.
use Rattle.std.proofs.Common.{◌≡◌, ℕ, ◌+◌, ◌<◌, ◌≤◌, Bool, true, false, ◌||◌, ◌==◌, cond, List, [], ◌∷◌, ◌++◌, length, map, fold, count_by, bytes_eq, refl, sym, ◌∙◌, ap, arith, append-nil, append_assoc, subst, length-append, if◌then◌else◌, inl, inr}
use Rattle.std.proofs.lemmas.List.{map-append}
use Rattle.std.proofs.lemmas.Bool.Decides.{Decides-eqb}
use Rattle.std.proofs.lemmas.Bool.{false_from_ne_true, or_cases}
use Rattle.std.specs.List.{list_any}
use Rattle.std.proofs.lemmas.List.Sums.{fold_push, sum_by-cons, sum_by_push}
use Rattle.std.proofs.lemmas.List.Folds.{list_any-append}
use Rattle.spec_job.specs.KeyedJob.{Key}
use Rattle.spec_hall.specs.Own.{is_text}
use Rattle.spec_hall.specs.Legal.{jobs_of, tenant_count}
use Rattle.spec_hall.proofs.KeyLemmas.{is_text-Decides}
use Rattle.spec_run.specs.Complete.{key_of_job}
use Rattle.spec_script.specs.Formed.{with_name, tenants_of}
use Rattle.spec_script.specs.Reading.{is_of}
use Rattle.spec_script.specs.Script.{ScriptedJob}

-- a tenant has as many jobs as it has in the script
pub jobs-counted : (tenant : List ℕ) (js : List ScriptedJob) → jobs_of tenant (map key_of_job js) ≡ count_by (is_of tenant) js
jobs-counted tenant [] = refl
jobs-counted tenant (j ∷ js) =
    sum_by-cons (λ (t : Key). cond (is_text tenant t.tenant) 1 0) (key_of_job j) (map key_of_job js)
    ∙ (ap (λ (n : ℕ). cond (is_of tenant j) 1 0 + n) (jobs-counted tenant js)
    ∙ sym (sum_by-cons (λ (i : ScriptedJob). cond (is_of tenant i) 1 0) j js))

-- of a job that joins the tenant counts at most once more, and not where an earlier job has it
more-of : (tenant : List ℕ) (ts : List Key) (t : Key) → jobs_of tenant (ts ++ t ∷ []) ≡ jobs_of tenant ts + cond (is_text tenant t.tenant) 1 0
more-of tenant ts t = sum_by_push (λ (u : Key). cond (is_text tenant u.tenant) 1 0) ts t

-- one where a count is zero
abbrev one_if_zero : ℕ → ℕ
one_if_zero n = if 0 == n then 1 else 0

none-if-more : (n : ℕ) → 0 < n → one_if_zero n ≡ 0
none-if-more n h = ap (λ (b : Bool). cond b 1 0) (false_from_ne_true (0 == n) (λ q. not-zero n ((Decides-eqb 0 n).0 q) h))
  where
    not-zero : (m : ℕ) → 0 ≡ m → 0 < m → ⊥
    not-zero m e f = omega arith

at-most-one : (n : ℕ) → one_if_zero n ≤ 1
at-most-one n = by_test (0 == n)
  where
    by_test : (b : Bool) → cond b 1 0 ≤ 1
    by_test true = omega arith
    by_test false = omega arith

same-sum : (m h o count rest : ℕ) → m ≡ 0 → rest ≤ count + h → m + rest ≤ (h + count) + o
same-sum m h o count rest none few = omega arith

other-sum : (m h o t count rest : ℕ) → m ≡ h → o ≡ t → rest ≤ count + t → m + rest ≤ (h + count) + o
other-sum m h o t count rest here there few = omega arith

one-behind : (n : ℕ) → 0 < n + 1
one-behind n = omega arith

-- with one more job after these there is one more tenant at most, and none where one of them has its tenant
tenants-grow : (ts : List Key) (t : Key) → tenant_count (ts ++ t ∷ []) ≤ tenant_count ts + one_if_zero (jobs_of t.tenant ts)
tenants-grow [] t = omega arith
tenants-grow (u ∷ us) t = by_test (is_text u.tenant t.tenant) refl (more-of u.tenant us t) (sum_by-cons (λ (x : Key). cond (is_text t.tenant x.tenant) 1 0) u us) (tenants-grow us t)
  where
    by_test : (b : Bool) → is_text u.tenant t.tenant ≡ b → jobs_of u.tenant (us ++ t ∷ []) ≡ jobs_of u.tenant us + cond (is_text u.tenant t.tenant) 1 0 → jobs_of t.tenant (u ∷ us) ≡ cond (is_text t.tenant u.tenant) 1 0 + jobs_of t.tenant us → tenant_count (us ++ t ∷ []) ≤ tenant_count us + one_if_zero (jobs_of t.tenant us) → one_if_zero (jobs_of u.tenant (us ++ t ∷ [])) + tenant_count (us ++ t ∷ []) ≤ (one_if_zero (jobs_of u.tenant us) + tenant_count us) + one_if_zero (jobs_of t.tenant (u ∷ us))
    by_test true e more first rest =
        let same : t.tenant ≡ u.tenant = sym ((is_text-Decides u.tenant t.tenant).0 e) in
        let one : jobs_of u.tenant (us ++ t ∷ []) ≡ jobs_of u.tenant us + 1 = more ∙ ap (λ (b : Bool). jobs_of u.tenant us + cond b 1 0) e in
        let some : 0 < jobs_of u.tenant (us ++ t ∷ []) = subst (λ (n : ℕ). 0 < n) (sym one) (one-behind (jobs_of u.tenant us)) in
        let few : tenant_count (us ++ t ∷ []) ≤ tenant_count us + one_if_zero (jobs_of u.tenant us) = subst (λ (x : List ℕ). tenant_count (us ++ t ∷ []) ≤ tenant_count us + one_if_zero (jobs_of x us)) same rest in
        same-sum (one_if_zero (jobs_of u.tenant (us ++ t ∷ []))) (one_if_zero (jobs_of u.tenant us)) (one_if_zero (jobs_of t.tenant (u ∷ us))) (tenant_count us) (tenant_count (us ++ t ∷ [])) (none-if-more (jobs_of u.tenant (us ++ t ∷ [])) some) few
    by_test false e more first rest =
        let other : is_text t.tenant u.tenant ≡ false = false_from_ne_true (is_text t.tenant u.tenant) (λ q. true-not-false (sym ((is_text-Decides u.tenant t.tenant).1 (sym ((is_text-Decides t.tenant u.tenant).0 q))) ∙ e)) in
        let here : jobs_of u.tenant (us ++ t ∷ []) ≡ jobs_of u.tenant us = more ∙ (ap (λ (b : Bool). jobs_of u.tenant us + cond b 1 0) e ∙ plus-zero (jobs_of u.tenant us)) in
        let there : jobs_of t.tenant (u ∷ us) ≡ jobs_of t.tenant us = first ∙ ap (λ (b : Bool). cond b 1 0 + jobs_of t.tenant us) other ∙ zero-plus (jobs_of t.tenant us) in
        other-sum (one_if_zero (jobs_of u.tenant (us ++ t ∷ []))) (one_if_zero (jobs_of u.tenant us)) (one_if_zero (jobs_of t.tenant (u ∷ us))) (one_if_zero (jobs_of t.tenant us)) (tenant_count us) (tenant_count (us ++ t ∷ [])) (ap (λ (n : ℕ). one_if_zero n) here) (ap (λ (n : ℕ). one_if_zero n) there) rest
      where
        plus-zero : (n : ℕ) → n + 0 ≡ n
        plus-zero n = omega arith

        zero-plus : (n : ℕ) → 0 + n ≡ n
        zero-plus n = omega arith

        true-not-false : true ≡ false → ⊥
        true-not-false q = cc

-- the names of these jobs' tenants: the hall counts no more tenants than there are names, and each is a job's
record AreNames (js : List ScriptedJob) (names : List (List ℕ)) : Type 0 where
  few : tenant_count (map key_of_job js) ≤ length names
  used : (n : List ℕ) → list_any (bytes_eq n) names ≡ true → 0 < count_by (is_of n) js

count-more : (n : List ℕ) (js : List ScriptedJob) (j : ScriptedJob) → count_by (is_of n) (js ++ j ∷ []) ≡ count_by (is_of n) js + cond (is_of n j) 1 0
count-more n js j = sum_by_push (λ (i : ScriptedJob). cond (is_of n i) 1 0) js j

not-fewer : (a b c : ℕ) → a ≡ b + c → 0 < b → 0 < a
not-fewer a b c e h = omega arith

few-same : (all before one names : ℕ) → all ≤ before + one → one ≡ 0 → before ≤ names → all ≤ names
few-same all before one names more none few = omega arith

few-other : (all before one names : ℕ) → all ≤ before + one → one ≤ 1 → before ≤ names → all ≤ names + 1
few-other all before one names more none few = omega arith

names-more : (js : List ScriptedJob) (j : ScriptedJob) (names : List (List ℕ)) → AreNames js names → AreNames (js ++ j ∷ []) (with_name names j.tenant)
names-more js j names is = by_test (list_any (bytes_eq j.tenant) names) refl
  where
    here : ℕ
    here = jobs_of j.tenant (map key_of_job js)

    grown : tenant_count (map key_of_job (js ++ j ∷ [])) ≤ tenant_count (map key_of_job js) + one_if_zero here
    grown = subst (λ (ts : List Key). tenant_count ts ≤ tenant_count (map key_of_job js) + one_if_zero here) (sym (map-append key_of_job js (j ∷ []))) (tenants-grow (map key_of_job js) (key_of_job j))

    used-still : (n : List ℕ) → list_any (bytes_eq n) names ≡ true → 0 < count_by (is_of n) (js ++ j ∷ [])
    used-still n e = not-fewer (count_by (is_of n) (js ++ j ∷ [])) (count_by (is_of n) js) (cond (is_of n j) 1 0) (count-more n js j) (is.used n e)

    used-now : (n : List ℕ) → is_of n j ≡ true → 0 < count_by (is_of n) (js ++ j ∷ [])
    used-now n e = subst (λ (x : ℕ). 0 < x) (sym (count-more n js j ∙ ap (λ (b : Bool). count_by (is_of n) js + cond b 1 0) e)) (one-behind (count_by (is_of n) js))

    used-either : (n : List ℕ) → list_any (bytes_eq n) (names ++ j.tenant ∷ []) ≡ true → 0 < count_by (is_of n) (js ++ j ∷ [])
    used-either n e = elim (or_cases (list_any (bytes_eq n) names) (bytes_eq n j.tenant || false) (sym (list_any-append (bytes_eq n) names (j.tenant ∷ [])) ∙ e)) [ inl old ↦ used-still n old | inr new ↦ used-now n (only (bytes_eq n j.tenant) new) ]
      where
        only : (b : Bool) → (b || false) ≡ true → b ≡ true
        only true q = refl
        only false q = absurd (cc)

    by_test : (b : Bool) → list_any (bytes_eq j.tenant) names ≡ b → AreNames (js ++ j ∷ []) (cond b names (names ++ j.tenant ∷ []))
    by_test true e = record {
      few = few-same (tenant_count (map key_of_job (js ++ j ∷ []))) (tenant_count (map key_of_job js)) (one_if_zero here) (length names) grown (none-if-more here (subst (λ (n : ℕ). 0 < n) (sym (jobs-counted j.tenant js)) (is.used j.tenant e))) is.few;
      used = used-still;
    }
    by_test false e = record {
      few = subst (λ (n : ℕ). tenant_count (map key_of_job (js ++ j ∷ [])) ≤ n) (sym (length-append names (j.tenant ∷ []))) (few-other (tenant_count (map key_of_job (js ++ j ∷ []))) (tenant_count (map key_of_job js)) (one_if_zero here) (length names) grown (at-most-one here) is.few);
      used = used-either;
    }

names-all : (before js : List ScriptedJob) (names : List (List ℕ)) → AreNames before names → AreNames (before ++ js) (fold (λ ns j. with_name ns j.tenant) names js)
names-all before [] names is = subst (λ (x : List ScriptedJob). AreNames x names) (sym (append-nil before)) is
names-all before (j ∷ js) names is =
    subst (λ (x : List ScriptedJob). AreNames x (fold (λ ns i. with_name ns i.tenant) (with_name names j.tenant) js)) (append_assoc before (j ∷ []) js) (names-all (before ++ j ∷ []) js (with_name names j.tenant) (names-more before j names is))

-- so the hall counts no more tenants than a script names
are-names : (js : List ScriptedJob) → AreNames js (tenants_of js)
are-names js = names-all [] js [] (record { few = omega arith; used = λ n e. absurd (cc) })

pub tenants-named : (js : List ScriptedJob) → tenant_count (map key_of_job js) ≤ length (tenants_of js)
tenants-named js = (are-names js).few

-- a tenant of no job is one more: there is room for it
pub tenant-fits : (js : List ScriptedJob) (j : ScriptedJob) (most : ℕ) → length (tenants_of (js ++ j ∷ [])) ≤ most → jobs_of j.tenant (map key_of_job js) ≡ 0 → tenant_count (map key_of_job js) < most
tenant-fits js j most room none = by_test (list_any (bytes_eq j.tenant) (tenants_of js)) refl (subst (λ (x : List (List ℕ)). length x ≤ most) (fold_push (λ ns i. with_name ns i.tenant) [] js j) room)
  where
    are : AreNames js (tenants_of js)
    are = are-names js

    too-few : (n m : ℕ) → m ≡ 0 → n ≡ m → 0 < n → ⊥
    too-few n m p q r = omega arith

    fits : (count names all : ℕ) → count ≤ names → all ≡ names + 1 → all ≤ most → count < most
    fits count names all p q r = omega arith

    by_test : (b : Bool) → list_any (bytes_eq j.tenant) (tenants_of js) ≡ b → length (cond b (tenants_of js) (tenants_of js ++ j.tenant ∷ [])) ≤ most → tenant_count (map key_of_job js) < most
    by_test true e f = absurd (too-few (count_by (is_of j.tenant) js) (jobs_of j.tenant (map key_of_job js)) none (sym (jobs-counted j.tenant js)) (are.used j.tenant e))
    by_test false e f = fits (tenant_count (map key_of_job js)) (length (tenants_of js)) (length (tenants_of js ++ j.tenant ∷ [])) are.few (length-append (tenants_of js) (j.tenant ∷ [])) f
