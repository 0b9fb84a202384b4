-- A job that goes on in a round does so by the call that moves it.
use Rattle.std.proofs.Common.{◌≡◌, ◌≢◌, ℕ, ◌+◌, ◌-◌, ◌%◌, ◌<◌, ◌≤◌, Bool, true, false, cond, not, ◌&&◌, ◌||◌, ◌==◌, nat_lt, List, length, Some, None, Ok, Err, inl, inr, refl, sym, ◌∙◌, ap, subst, arith}
use Rattle.std.proofs.lemmas.Bool.{and_from, cases_lt, false_from_ne_true, lt-ltb, ltb-true}
use Rattle.std.proofs.Math.Nat.{mod-eq_of_lt, mod-lt, mod_self}
use Rattle.std.proofs.lemmas.Bool.Decides.{Decides-eqb}
use Rattle.mal_base.specs.Limits.{limits}
use Rattle.spec_job.specs.KeyedJob.{Key}
use Rattle.spec_job.specs.SoloMachine.{Own}
use Rattle.spec_hall.specs.Events.{Event}
use Rattle.spec_hall.specs.Legal.{MayArrive, jobs_of, tenant_count}
use Rattle.spec_hall.specs.States.{names_of}
use Rattle.spec_cluster.specs.declared.fault.MoveFault.TheVariants as moving
use Rattle.spec_cluster.specs.Calls.{went}
use Rattle.spec_cluster.specs.Clusters.{Cluster, IsCluster, is_named}
use Rattle.spec_cluster.specs.Laws.{MovesGoOn}
use Rattle.spec_cluster.specs.Rounds.{goes, may_come, next_hall}
use Rattle.spec_cluster.specs.Visits.{hall_at}
use Rattle.spec_cluster.proofs.AmongLemmas.{key-counts}
use Rattle.spec_cluster.proofs.HallLemmas.{home-found}

-- where a job may arrive it may come
arrive-comes : (k : Key) (h : List Event) (brought : List Own) → MayArrive h k brought → may_come k h ≡ true
arrive-comes k h brought may = by_test (is_named k h) refl
  where
    by_none : (b : Bool) → (jobs_of k.tenant (names_of h) == 0) ≡ b → (not b || nat_lt (tenant_count (names_of h)) 64) ≡ true
    by_none false q = refl
    by_none true q = lt-ltb (tenant_count (names_of h)) 64 (may.hall_room ((Decides-eqb (jobs_of k.tenant (names_of h)) 0).0 q))

    by_test : (b : Bool) → is_named k h ≡ b → (b || (nat_lt (jobs_of k.tenant (names_of h)) 64 && (not (jobs_of k.tenant (names_of h) == 0) || nat_lt (tenant_count (names_of h)) 64))) ≡ true
    by_test true q = refl
    by_test false q = and_from _ _ (lt-ltb (jobs_of k.tenant (names_of h)) 64 (may.tenant_room q)) (by_none (jobs_of k.tenant (names_of h) == 0) refl)

-- where its tenant or the hall is full it may not
not-below : (n m : ℕ) → m ≤ n → nat_lt n m ≡ false
not-below n m low = false_from_ne_true (nat_lt n m) (λ q. over n m low (ltb-true n m q))
  where
    over : (a b : ℕ) → b ≤ a → a < b → ⊥
    over a b p q = omega arith

tenant-stays : (k : Key) (h : List Event) → is_named k h ≡ false → limits.jobs_of_tenant ≤ jobs_of k.tenant (names_of h) → may_come k h ≡ false
tenant-stays k h fresh full =
    ap (λ (b : Bool). b || (nat_lt (jobs_of k.tenant (names_of h)) 64 && (not (jobs_of k.tenant (names_of h) == 0) || nat_lt (tenant_count (names_of h)) 64))) fresh
    ∙ ap (λ (b : Bool). b && (not (jobs_of k.tenant (names_of h) == 0) || nat_lt (tenant_count (names_of h)) 64)) (not-below (jobs_of k.tenant (names_of h)) 64 full)

hall-stays : (k : Key) (h : List Event) → jobs_of k.tenant (names_of h) ≡ 0 → limits.tenants ≤ tenant_count (names_of h) → may_come k h ≡ false
hall-stays k h none full =
    ap (λ (b : Bool). b || (nat_lt (jobs_of k.tenant (names_of h)) 64 && (not (jobs_of k.tenant (names_of h) == 0) || nat_lt (tenant_count (names_of h)) 64))) fresh
    ∙ (ap (λ (n : ℕ). nat_lt n 64 && (not (n == 0) || nat_lt (tenant_count (names_of h)) 64)) none
    ∙ not-below (tenant_count (names_of h)) 64 full)
  where
    not-zero : (n : ℕ) → n ≡ 0 → 0 < n → ⊥
    not-zero n p q = omega arith

    fresh : is_named k h ≡ false
    fresh = false_from_ne_true (is_named k h) (λ q. not-zero (jobs_of k.tenant (names_of h)) none (key-counts k (names_of h) q))

-- the next hall is one of these
pub next-within : (c : Cluster) (from : ℕ) → IsCluster c → next_hall from c < length c.halls
next-within c from is = mod-lt (from + 1) (some (length c.halls) is.few)
  where
    some : (n : ℕ) → 2 ≤ n → 0 < n
    some n low = omega arith

-- and another one
pub next-other : (m n : ℕ) → 2 ≤ n → m < n → (m + 1) % n ≢ m
next-other m n few within q = elim (cases_lt (m + 1) n) [ inl inside ↦ one-more m (sym (mod-eq_of_lt inside) ∙ q) | inr last ↦ first m n few (m + 1) (ends m n within last) (ap (λ (x : ℕ). x % n) (ends m n within last) ∙ mod_self n) q ]
  where
    one-more : (a : ℕ) → a + 1 ≡ a → ⊥
    one-more a e = omega arith

    ends : (a b : ℕ) → a < b → b ≤ a + 1 → a + 1 ≡ b
    ends a b low high = omega arith

    first : (a b : ℕ) → 2 ≤ b → (c : ℕ) → a + 1 ≡ b → c % b ≡ 0 → c % b ≡ a → ⊥
    first a b low c e z r = at a b (c % b) low e z r
      where
        at : (a b d : ℕ) → 2 ≤ b → a + 1 ≡ b → d ≡ 0 → d ≡ a → ⊥
        at a b d low e z r = omega arith

some-same : (m n : ℕ) → Some m ≡ Some n → m ≡ n
some-same m n q = cc

none-some : (n : ℕ) → None ≡ Some n → ⊥
none-some n q = cc

-- the place of the hall of the next number
next-place : (n : ℕ) → (n + 1) - 1 ≡ n
next-place n = omega arith

-- a job that stays
stays-there : (c after : Cluster) (k : Key) (from : ℕ) → may_come k (hall_at c.halls ((next_hall from c + 1) - 1)) ≡ false → after ≡ c → after ≡ goes (Some k) from c
stays-there c after k from not same = same ∙ sym (ap (λ (b : Bool). cond b (went k from (next_hall from c) c) c) (subst (λ (n : ℕ). may_come k (hall_at c.halls n) ≡ false) (next-place (next_hall from c)) not))

pub moves-go_on : MovesGoOn
moves-go_on c after k from (Ok done) is here call memory =
    let move = call.1 in
    let place = next-place (next_hall from c) in
    move.went_on
    ∙ (ap (λ (f : ℕ). went k f ((next_hall from c + 1) - 1) c) (some-same call.0 from (sym move.may.there ∙ here))
    ∙ (ap (λ (t : ℕ). went k from t c) place
    ∙ sym (ap (λ (b : Bool). cond b (went k from (next_hall from c) c) c) (subst (λ (n : ℕ). may_come k (hall_at c.halls n) ≡ true) place (arrive-comes k (hall_at c.halls ((next_hall from c + 1) - 1)) _ move.arrives)))))
moves-go_on c after k from (Err moving.NoJob) is here call memory = absurd (none-some from (sym call.0 ∙ here))
moves-go_on c after k from (Err moving.NoHall) is here call memory = elim call.1 [ inl none ↦ absurd (not-zero (next_hall from c) none) | inr over ↦ absurd (not-over (next_hall from c) (length c.halls) (next-within c from is) over) ]
  where
    not-zero : (n : ℕ) → n + 1 ≡ 0 → ⊥
    not-zero n q = omega arith

    not-over : (n m : ℕ) → n < m → m < n + 1 → ⊥
    not-over n m low high = omega arith
moves-go_on c after k from (Err moving.Same) is here call memory = absurd (next-other from (length c.halls) is.few (home-found k c.halls from here).within (one-less (next_hall from c) call.0 from call.2 (some-same call.0 from (sym call.1 ∙ here))))
  where
    one-less : (n m l : ℕ) → n + 1 ≡ m + 1 → m ≡ l → n ≡ l
    one-less n m l p q = omega arith
moves-go_on c after k from (Err moving.TenantFull) is here call memory = stays-there c after k from (tenant-stays k (hall_at c.halls ((next_hall from c + 1) - 1)) call.1.fresh call.1.full) call.2
moves-go_on c after k from (Err moving.HallFull) is here call memory = stays-there c after k from (hall-stays k (hall_at c.halls ((next_hall from c + 1) - 1)) call.1.none call.1.full) call.2
moves-go_on c after k from (Err moving.OutOfMemory) is here call memory = absurd (memory refl)
