-- The names that the jobs so far have, and one job more.
use Rattle.std.proofs.Common.{◌≡◌, ℕ, ◌+◌, ◌<◌, ◌≤◌, ◌^◌, Bool, true, false, ◌&&◌, ◌||◌, cond, List, [], ◌∷◌, ◌++◌, length, Option, Some, None, refl, sym, ◌∙◌, ap, arith}
use Rattle.std.specs.Prelude.{is_some, bytes_eq, count_by}
use Rattle.std.specs.List.{list_any}
use Rattle.std.specs.BTreeMap.{BTreeMap}
use Rattle.std.specs.BTreeMap as tree
use Rattle.std.specs.Cmp.Lexicographic.{slice_cmp, texts_ties}
use Rattle.std.specs.Map.{lookup}
use Rattle.std.specs.Option.{unwrap_or}
use Rattle.std.specs.declared.cmp.Ordering.{Ordering}
use Rattle.std.specs.declared.cmp.Ordering.TheVariants.{Less, Equal, Greater}
use Rattle.std.specs.Ordering.{is_eq, nat_cmp, ordering_then}
use Rattle.std.proofs.lemmas.List.Folds.{list_any-append}
use Rattle.std.proofs.lemmas.List.Sums.{sum_by-append, sum_by-cons, count_by-le-length}
use Rattle.std.proofs.lemmas.Slice.Eq.{bytes_eq-Decides}
use Rattle.spec_script.specs.Script.{ScriptedJob}
use Rattle.spec_script.specs.Reading.{is_job, is_of}
use Rattle.mal_script.specs.TakenNames.{name_cmp, pair_cmp, kept_at, jobs_at, AreTaken}

is_eq-then : (x y : Ordering) → is_eq (ordering_then x y) ≡ (is_eq x && is_eq y)
is_eq-then Less y = refl
is_eq-then Equal y = refl
is_eq-then Greater y = refl

-- it does not matter which of two texts is compared with the other
eq_turned : (a b : List ℕ) → bytes_eq a b ≡ bytes_eq b a
eq_turned a b = by_tests (bytes_eq a b) (bytes_eq b a) refl refl
  where
    by_tests : (x y : Bool) → bytes_eq a b ≡ x → bytes_eq b a ≡ y → x ≡ y
    by_tests true true e f = refl
    by_tests false false e f = refl
    by_tests true false e f = let g : bytes_eq b a ≡ true = (bytes_eq-Decides b a).1 (sym ((bytes_eq-Decides a b).0 e)) in absurd (cc)
    by_tests false true e f = let g : bytes_eq a b ≡ true = (bytes_eq-Decides a b).1 (sym ((bytes_eq-Decides b a).0 f)) in absurd (cc)

is_eq-text : (a b : List ℕ) → is_eq (slice_cmp nat_cmp a b) ≡ bytes_eq b a
is_eq-text a b = sym (texts_ties a b) ∙ eq_turned a b

-- a job is ordered alike with the tenant and the name that it has
is_eq-job : (j : ScriptedJob) (tenant name : List ℕ) → is_eq (pair_cmp (j.tenant, j.name) (tenant, name)) ≡ is_job tenant name j
is_eq-job j tenant name =
    is_eq-then (slice_cmp nat_cmp j.tenant tenant) (slice_cmp nat_cmp j.name name)
    ∙ ap (λ (p : Bool). p && is_eq (slice_cmp nat_cmp j.name name)) (is_eq-text j.tenant tenant)
    ∙ ap (λ (q : Bool). bytes_eq tenant j.tenant && q) (is_eq-text j.name name)

some-either : (b : Bool) (place : ℕ) (before : Option ℕ) → is_some (cond b (Some place) before) ≡ (is_some before || (b || false))
some-either true place (Some x) = refl
some-either true place None = refl
some-either false place (Some x) = refl
some-either false place None = refl

count-either : (b : Bool) (n : ℕ) (before : Option ℕ) (m : ℕ) → (b ≡ true → n ≡ m) → unwrap_or before 0 ≡ m → unwrap_or (cond b (Some (n + 1)) before) 0 ≡ m + cond b 1 0
count-either true n before m same was = let e : n ≡ m = same refl in omega arith
count-either false n before m same was = was ∙ omega arith

count-push : (p : ScriptedJob → Bool) (jobs : List ScriptedJob) (j : ScriptedJob) → count_by p (jobs ++ j ∷ []) ≡ count_by p jobs + cond (p j) 1 0
count-push p jobs j =
    sum_by-append (λ x. cond (p x) 1 0) jobs (j ∷ [])
    ∙ ap (λ (n : ℕ). count_by p jobs + n) (sum_by-cons (λ x. cond (p x) 1 0) j [] ∙ omega arith)

-- with the names of a job more, those of the jobs and that job are taken
pub taken-more : (jobs : List ScriptedJob) (j : ScriptedJob) (names names2 : BTreeMap (List ℕ × List ℕ) ℕ) (counts counts2 : BTreeMap (List ℕ) ℕ) (place n : ℕ) → AreTaken jobs names counts → n ≡ jobs_at counts j.tenant → ((q : List ℕ × List ℕ) → tree.get pair_cmp names2 q ≡ cond (tree.is_at (pair_cmp (j.tenant, j.name)) q) (Some place) (tree.get pair_cmp names q)) → ((q : List ℕ) → tree.get name_cmp counts2 q ≡ cond (tree.is_at (name_cmp j.tenant) q) (Some (n + 1)) (tree.get name_cmp counts q)) → AreTaken (jobs ++ j ∷ []) names2 counts2
taken-more jobs j names names2 counts counts2 place n taken is first second = record { named = named; counted = counted }
  where
    named : (tenant name : List ℕ) → is_some (kept_at names2 tenant name) ≡ list_any (is_job tenant name) (jobs ++ j ∷ [])
    named tenant name =
        ap is_some (first (tenant, name))
        ∙ ap (λ (b : Bool). is_some (cond b (Some place) (kept_at names tenant name))) (is_eq-job j tenant name)
        ∙ some-either (is_job tenant name j) place (kept_at names tenant name)
        ∙ ap (λ (b : Bool). b || (is_job tenant name j || false)) (taken.named tenant name)
        ∙ sym (list_any-append (is_job tenant name) jobs (j ∷ []))

    same_tenant : (tenant : List ℕ) → is_of tenant j ≡ true → n ≡ jobs_at counts tenant
    same_tenant tenant e = is ∙ ap (jobs_at counts) (sym ((bytes_eq-Decides tenant j.tenant).0 e))

    counted : (tenant : List ℕ) → jobs_at counts2 tenant ≡ count_by (is_of tenant) (jobs ++ j ∷ [])
    counted tenant =
        ap (λ (o : Option ℕ). unwrap_or o 0) (second tenant)
        ∙ ap (λ (b : Bool). unwrap_or (cond b (Some (n + 1)) (tree.get name_cmp counts tenant)) 0) (is_eq-text j.tenant tenant)
        ∙ count-either (is_of tenant j) n (tree.get name_cmp counts tenant) (jobs_at counts tenant) (same_tenant tenant) refl
        ∙ ap (λ (m : ℕ). m + cond (is_of tenant j) 1 0) (taken.counted tenant)
        ∙ sym (count-push (is_of tenant) jobs j)

-- they are the same where a tenant's number was written as it was
pub taken-kept : (jobs : List ScriptedJob) (names : BTreeMap (List ℕ × List ℕ) ℕ) (counts counts2 : BTreeMap (List ℕ) ℕ) (tenant : List ℕ) (n : ℕ) → AreTaken jobs names counts → n ≡ jobs_at counts tenant → ((q : List ℕ) → tree.get name_cmp counts2 q ≡ cond (tree.is_at (name_cmp tenant) q) (Some n) (tree.get name_cmp counts q)) → AreTaken jobs names counts2
taken-kept jobs names counts counts2 tenant n taken is updates = record { named = taken.named; counted = counted }
  where
    by_test : (other : List ℕ) (b : Bool) → bytes_eq other tenant ≡ b → unwrap_or (cond b (Some n) (tree.get name_cmp counts other)) 0 ≡ jobs_at counts other
    by_test other true e = is ∙ ap (jobs_at counts) (sym ((bytes_eq-Decides other tenant).0 e))
    by_test other false e = refl

    counted : (other : List ℕ) → jobs_at counts2 other ≡ count_by (is_of other) jobs
    counted other =
        ap (λ (o : Option ℕ). unwrap_or o 0) (updates other)
        ∙ ap (λ (b : Bool). unwrap_or (cond b (Some n) (tree.get name_cmp counts other)) 0) (is_eq-text tenant other)
        ∙ by_test other (bytes_eq other tenant) refl
        ∙ taken.counted other

-- and where no name came in
pub taken-unchanged : (jobs : List ScriptedJob) (names names2 : BTreeMap (List ℕ × List ℕ) ℕ) (counts : BTreeMap (List ℕ) ℕ) → AreTaken jobs names counts → tree.IsUnchanged names names2 → AreTaken jobs names2 counts
taken-unchanged jobs names names2 counts taken same = record { named = named; counted = taken.counted }
  where
    named : (tenant name : List ℕ) → is_some (kept_at names2 tenant name) ≡ list_any (is_job tenant name) jobs
    named tenant name = ap (λ (es : List ((List ℕ × List ℕ) × ℕ)). is_some (lookup (tree.is_at (pair_cmp (tenant, name))) es)) same ∙ taken.named tenant name

-- no tenant has more jobs than there are
pub few_jobs : (jobs : List ScriptedJob) (names : BTreeMap (List ℕ × List ℕ) ℕ) (counts : BTreeMap (List ℕ) ℕ) (tenant : List ℕ) → AreTaken jobs names counts → length jobs < 2 ^ 63 → jobs_at counts tenant < 2 ^ 63
few_jobs jobs names counts tenant taken few =
    let counted : jobs_at counts tenant ≡ count_by (is_of tenant) jobs = taken.counted tenant in
    let most : count_by (is_of tenant) jobs ≤ length jobs = count_by-le-length (is_of tenant) jobs in
    omega arith
