-- The jobs that a hall gets of a script are a script in form.
use Rattle.std.proofs.Common.{◌≡◌, ℕ, ◌+◌, ◌%◌, ◌<◌, ◌≤◌, Bool, true, false, cond, ◌&&◌, ◌||◌, ◌==◌, nat_lt, List, [], ◌∷◌, ◌++◌, length, map, fold, count_by, bytes_eq, refl, sym, ◌∙◌, ap, subst, arith, length-append}
use Rattle.std.specs.List.{list_any}
use Rattle.std.proofs.lemmas.Bool.{and_from, and_parts, both_ways, lt-ltb, ltb-true, or_from, or_left, or_parts}
use Rattle.std.proofs.lemmas.List.{map-append}
use Rattle.std.proofs.lemmas.List.Folds.{list_any-append}
use Rattle.std.proofs.lemmas.List.Sums.{sum_by_push}
use Rattle.spec_job.specs.KeyedJob.{Key}
use Rattle.spec_hall.specs.Legal.{jobs_of}
use Rattle.spec_hall.specs.Own.{is_key, is_text}
use Rattle.spec_hall.proofs.KeyLemmas.{AreApart, apart-push, is_text-Decides}
use Rattle.spec_script.specs.Formed.{MayAllFollow, MayFollow, tenants_of, with_name}
use Rattle.mal_base.specs.declared.limits.Limits.{Limits}
use Rattle.mal_base.specs.Limits.{limits}
use Rattle.spec_script.specs.Reading.{is_job, is_of}
use Rattle.spec_script.specs.Script.{ScriptedJob}
use Rattle.spec_cluster.specs.Laws.{DealtIsScript}
use Rattle.spec_cluster.specs.Run.{dealt_from}
use Rattle.spec_cluster.proofs.AmongLemmas.{AreAmong, jobs-among, jobs-cons}
use Rattle.spec_cluster.proofs.NameLemmas.{or-none}

or-joins : (a b c : Bool) → ((a || b) || c) ≡ (a || (b || c))
or-joins true b c = refl
or-joins false b c = refl

-- a name more among names
name-more : (n t : List ℕ) (names : List (List ℕ)) → list_any (bytes_eq n) (with_name names t) ≡ (list_any (bytes_eq n) names || bytes_eq n t)
name-more n t names = by_test (list_any (bytes_eq t) names) (bytes_eq n t) refl refl
  where
    by_test : (a b : Bool) → list_any (bytes_eq t) names ≡ a → bytes_eq n t ≡ b → list_any (bytes_eq n) (cond a names (names ++ t ∷ [])) ≡ (list_any (bytes_eq n) names || b)
    by_test false b p q = list_any-append (bytes_eq n) names (t ∷ []) ∙ (ap (λ (x : Bool). list_any (bytes_eq n) names || x) (sym (or-none (bytes_eq n t))) ∙ ap (λ (x : Bool). list_any (bytes_eq n) names || x) q)
    by_test true false p q = or-none (list_any (bytes_eq n) names)
    by_test true true p q =
        let there : list_any (bytes_eq n) names ≡ true = subst (λ (x : List ℕ). list_any (bytes_eq x) names ≡ true) (sym ((is_text-Decides n t).0 q)) p in
        there ∙ sym (or_left (list_any (bytes_eq n) names) true there)

-- the tenants of jobs are those that some job is of
tenants-fold : (n : List ℕ) (names : List (List ℕ)) (js : List ScriptedJob) → list_any (bytes_eq n) (fold (λ ns j. with_name ns j.tenant) names js) ≡ (list_any (bytes_eq n) names || list_any (is_of n) js)
tenants-fold n names [] = or-none (list_any (bytes_eq n) names)
tenants-fold n names (j ∷ js) = tenants-fold n (with_name names j.tenant) js ∙ (ap (λ (b : Bool). b || list_any (is_of n) js) (name-more n j.tenant names) ∙ or-joins (list_any (bytes_eq n) names) (is_of n j) (list_any (is_of n) js))

-- a name as the key of a job, so that names are counted as keys are
abbrev named : List ℕ → Key
named n = record { tenant = []; job = n }

any-named : (k : Key) (names : List (List ℕ)) → list_any (is_key k) (map named names) ≡ (is_text k.tenant [] && list_any (bytes_eq k.job) names)
any-named k [] = by_test (is_text k.tenant [])
  where
    by_test : (b : Bool) → false ≡ (b && false)
    by_test true = refl
    by_test false = refl
any-named k (n ∷ ns) = ap (λ (b : Bool). is_key k (named n) || b) (any-named k ns) ∙ by_test (is_text k.tenant []) (bytes_eq k.job n) (list_any (bytes_eq k.job) ns)
  where
    by_test : (a b c : Bool) → ((a && b) || (a && c)) ≡ (a && (b || c))
    by_test true b c = refl
    by_test false b c = refl

count-named : (names : List (List ℕ)) → jobs_of [] (map named names) ≡ length names
count-named [] = refl
count-named (n ∷ ns) = let one = jobs-cons [] (named n) (map named ns) in let rest = count-named ns in omega (arith, one, rest)

with-apart : (t : List ℕ) (names : List (List ℕ)) → AreApart (map named names) → AreApart (map named (with_name names t))
with-apart t names apart = by_test (list_any (bytes_eq t) names) refl
  where
    by_test : (b : Bool) → list_any (bytes_eq t) names ≡ b → AreApart (map named (cond b names (names ++ t ∷ [])))
    by_test true q = apart
    by_test false q = subst AreApart (sym (map-append named names (t ∷ []))) (apart-push (map named names) (named t) apart (any-named (named t) names ∙ q))

fold-apart : (names : List (List ℕ)) (js : List ScriptedJob) → AreApart (map named names) → AreApart (map named (fold (λ ns j. with_name ns j.tenant) names js))
fold-apart names [] apart = apart
fold-apart names (j ∷ js) apart = fold-apart (with_name names j.tenant) js (with-apart j.tenant names apart)

-- some of these jobs, each as often as it is there at most
record AreSome (some all : List ScriptedJob) : Type 0 where
  any : (p : ScriptedJob → Bool) → list_any p all ≡ false → list_any p some ≡ false
  count : (p : ScriptedJob → Bool) → count_by p some ≤ count_by p all
  few : length some ≤ length all

none-some : AreSome [] []
none-some = record { any = λ p q. refl; count = λ p. omega arith; few = omega arith }

more-some : (some all : List ScriptedJob) (j : ScriptedJob) → AreSome some all → AreSome some (all ++ j ∷ [])
more-some some all j are = record {
  any = λ p q. are.any p (or_parts (list_any p all) (list_any p (j ∷ [])) (sym (list_any-append p all (j ∷ [])) ∙ q)).0;
  count = λ p. (let one = sum_by_push (λ (i : ScriptedJob). cond (p i) 1 0) all j in let low = are.count p in more (count_by p some) (count_by p all) (cond (p j) 1 0) (count_by p (all ++ j ∷ [])) low one);
  few = (let one = length-append all (j ∷ []) in let low = are.few in more (length some) (length all) 1 (length (all ++ j ∷ [])) low one);
}
  where
    more : (a b c d : ℕ) → a ≤ b → d ≡ b + c → a ≤ d
    more a b c d p q = omega arith

both-some : (some all : List ScriptedJob) (j : ScriptedJob) → AreSome some all → AreSome (some ++ j ∷ []) (all ++ j ∷ [])
both-some some all j are = record {
  any = λ p q. (let parts = or_parts (list_any p all) (list_any p (j ∷ [])) (sym (list_any-append p all (j ∷ [])) ∙ q) in list_any-append p some (j ∷ []) ∙ or_from (list_any p some) (list_any p (j ∷ [])) (are.any p parts.0) parts.1);
  count = λ p. both (count_by p some) (count_by p all) (cond (p j) 1 0) (count_by p (some ++ j ∷ [])) (count_by p (all ++ j ∷ [])) (are.count p) (sum_by_push (λ (i : ScriptedJob). cond (p i) 1 0) some j) (sum_by_push (λ (i : ScriptedJob). cond (p i) 1 0) all j);
  few = both (length some) (length all) 1 (length (some ++ j ∷ [])) (length (all ++ j ∷ [])) are.few (length-append some (j ∷ [])) (length-append all (j ∷ []));
}
  where
    both : (a b c d e : ℕ) → a ≤ b → d ≡ a + c → e ≡ b + c → d ≤ e
    both a b c d e p q r = omega arith

-- they have no more tenants
some-tenants : (some all : List ScriptedJob) → AreSome some all → length (tenants_of some) ≤ length (tenants_of all)
some-tenants some all are = few (jobs_of [] (map named (tenants_of some))) (jobs_of [] (map named (tenants_of all))) (length (tenants_of some)) (length (tenants_of all)) (jobs-among [] (map named (tenants_of some)) (map named (tenants_of all)) (fold-apart [] some tt) among) (count-named (tenants_of some)) (count-named (tenants_of all))
  where
    few : (a b c d : ℕ) → a ≤ b → a ≡ c → b ≡ d → c ≤ d
    few a b c d p q r = omega arith

    here : (n : List ℕ) → list_any (bytes_eq n) (tenants_of some) ≡ true → list_any (bytes_eq n) (tenants_of all) ≡ true
    here n q = by_test (list_any (bytes_eq n) (tenants_of all)) refl
      where
        by_test : (b : Bool) → list_any (bytes_eq n) (tenants_of all) ≡ b → b ≡ true
        by_test true e = refl
        by_test false e = absurd (both_ways (list_any (bytes_eq n) (tenants_of some)) (tenants-fold n [] some ∙ are.any (is_of n) (sym (tenants-fold n [] all) ∙ e)) q)

    among : AreAmong (map named (tenants_of some)) (map named (tenants_of all))
    among k q =
        let parts = and_parts (is_text k.tenant []) (list_any (bytes_eq k.job) (tenants_of some)) (sym (any-named k (tenants_of some)) ∙ q) in
        any-named k (tenants_of all) ∙ and_from (is_text k.tenant []) (list_any (bytes_eq k.job) (tenants_of all)) parts.0 (here k.job parts.1)

-- so what may follow all of them may follow these
some-follow : (limits : Limits) (some all : List ScriptedJob) (j : ScriptedJob) → AreSome some all → MayFollow limits all j → MayFollow limits some j
some-follow limits some all j are may = record {
  formed = may.formed;
  new = are.any (is_job j.tenant j.name) may.new;
  room = and_from (nat_lt (count_by (is_of j.tenant) some) limits.jobs_of_tenant) (nat_lt (length some) limits.jobs) (lt-ltb (count_by (is_of j.tenant) some) limits.jobs_of_tenant (below (count_by (is_of j.tenant) some) (count_by (is_of j.tenant) all) limits.jobs_of_tenant (are.count (is_of j.tenant)) (ltb-true (count_by (is_of j.tenant) all) limits.jobs_of_tenant parts.0))) (lt-ltb (length some) limits.jobs (below (length some) (length all) limits.jobs are.few (ltb-true (length all) limits.jobs parts.1)));
  tenants = within (length (tenants_of (some ++ j ∷ []))) (length (tenants_of (all ++ j ∷ []))) limits.tenants (some-tenants (some ++ j ∷ []) (all ++ j ∷ []) (both-some some all j are)) may.tenants;
}
  where
    parts : (nat_lt (count_by (is_of j.tenant) all) limits.jobs_of_tenant ≡ true) × (nat_lt (length all) limits.jobs ≡ true)
    parts = and_parts (nat_lt (count_by (is_of j.tenant) all) limits.jobs_of_tenant) (nat_lt (length all) limits.jobs) may.room

    below : (a b c : ℕ) → a ≤ b → b < c → a < c
    below a b c p q = omega arith

    within : (a b c : ℕ) → a ≤ b → b ≤ c → a ≤ c
    within a b c p q = omega arith

dealt-follow : (limits : Limits) (halls n i : ℕ) (some all js : List ScriptedJob) → AreSome some all → MayAllFollow limits all js → MayAllFollow limits some (dealt_from halls n i js)
dealt-follow limits halls n i some all [] are follow = tt
dealt-follow limits halls n i some all (j ∷ js) are follow = by_test (i % halls == n) (dealt-follow limits halls n (i + 1) (some ++ j ∷ []) (all ++ j ∷ []) js (both-some some all j are) follow.1) (dealt-follow limits halls n (i + 1) some (all ++ j ∷ []) js (more-some some all j are) follow.1)
  where
    by_test : (b : Bool) → MayAllFollow limits (some ++ j ∷ []) (dealt_from halls n (i + 1) js) → MayAllFollow limits some (dealt_from halls n (i + 1) js) → MayAllFollow limits some (cond b (j ∷ []) [] ++ dealt_from halls n (i + 1) js)
    by_test true here there = (some-follow limits some all j are follow.0, here)
    by_test false here there = there

pub dealt-is_script : DealtIsScript
dealt-is_script halls n s formed = dealt-follow limits halls n 0 [] [] s.jobs none-some formed
