use Rattle.std.proofs.Common.{◌≡◌, ℕ, ◌+◌, ◌≤◌, Bool, true, false, not, ◌||◌, ◌==◌, if◌then◌else◌, List, [], ◌∷◌, ◌++◌, slice_get, slice_set, Some, refl, sym, ◌∙◌, ap, arith}
use Rattle.std.proofs.lemmas.Bool.Decides.{Decides-eqb}
use Rattle.std.proofs.lemmas.List.{set-get_or}
use Rattle.std.proofs.lemmas.List.Sums.{sum_by-cons, sum_by-append, sum_by-set}
use Rattle.std.proofs.lemmas.Option.{slice_get_within, get_or_from_slice_get}
use Rattle.mal_base.specs.Asks.{Terms}
use Rattle.spec_balance.specs.Fair.{volume_at}
use Rattle.spec_job.specs.KeyedJob.{Key}
use Rattle.spec_hall.specs.Legal.{jobs_of, tenant_count}
use Rattle.std.specs.List.{list_any}
use Rattle.spec_hall.specs.Own.{is_key, is_text}
use Rattle.spec_hall.specs.States.{with_key}
use Rattle.spec_hall.specs.Seats.{Seat, is_live_seat, opened_seat, balanced_seat, balanced_from}
use Rattle.spec_hall.proofs.KeyLemmas.{is_key-Decides, is_text-Decides}
use Rattle.mal_hall.specs.HallView.{unclosed_in}

-- what a job counts among those of a tenant
abbrev pub of_tenant : List ℕ → Key → ℕ
of_tenant tenant k = if is_text tenant k.tenant then 1 else 0

-- what a tenant counts that has so many later jobs
abbrev pub first_of : ℕ → ℕ
first_of later = if 0 == later then 1 else 0

first_of-some : (n : ℕ) → 1 ≤ n → first_of n ≡ 0
first_of-some n some = by_test (0 == n) refl
  where
    by_test : (b : Bool) → (0 == n) ≡ b → first_of n ≡ 0
    by_test true e = let none = (Decides-eqb 0 n).0 e in absurd (omega arith)
    by_test false e = rw e refl

-- a further job is one more of its tenant
pub jobs_of-push : (tenant : List ℕ) (ts : List Key) (u : Key) → jobs_of tenant (ts ++ u ∷ []) ≡ jobs_of tenant ts + of_tenant tenant u
jobs_of-push tenant ts u = omega (arith, sum_by-append (of_tenant tenant) ts (u ∷ []), sum_by-cons (of_tenant tenant) u [])

-- it is of a further tenant where its tenant has no jobs
tenants-push : (ts : List Key) (u : Key) → tenant_count (ts ++ u ∷ []) ≡ tenant_count ts + first_of (jobs_of u.tenant ts)
tenants-push [] u = refl
tenants-push (t ∷ ts) u = by_test (tenants-push ts u) (is_text t.tenant u.tenant) (is_text u.tenant t.tenant) refl refl
  where
    a : ℕ
    a = jobs_of t.tenant ts

    b : ℕ
    b = jobs_of u.tenant ts

    p : ℕ
    p = jobs_of t.tenant (ts ++ u ∷ [])

    q : ℕ
    q = jobs_of u.tenant (t ∷ ts)

    p_is : p ≡ a + of_tenant t.tenant u
    p_is = jobs_of-push t.tenant ts u

    q_is : q ≡ of_tenant u.tenant t + b
    q_is = sum_by-cons (of_tenant u.tenant) t ts

    by_test : tenant_count (ts ++ u ∷ []) ≡ tenant_count ts + first_of b → (x y : Bool) → is_text t.tenant u.tenant ≡ x → is_text u.tenant t.tenant ≡ y → first_of p + tenant_count (ts ++ u ∷ []) ≡ first_of a + tenant_count ts + first_of q
    by_test rest true true e f =
        let same : t.tenant ≡ u.tenant = (is_text-Decides t.tenant u.tenant).0 e in
        let at_p : of_tenant t.tenant u ≡ 1 = ap (λ (b : Bool). if b then 1 else 0) e in
        let at_q : of_tenant u.tenant t ≡ 1 = ap (λ (b : Bool). if b then 1 else 0) f in
        let counts : first_of a ≡ first_of b = ap (λ (x : List ℕ). first_of (jobs_of x ts)) same in
        omega (arith, first_of-some p (omega (arith, p_is)), first_of-some q (omega (arith, q_is)), rest)
    by_test rest false false e f =
        let at_p : of_tenant t.tenant u ≡ 0 = ap (λ (b : Bool). if b then 1 else 0) e in
        let at_q : of_tenant u.tenant t ≡ 0 = ap (λ (b : Bool). if b then 1 else 0) f in
        let counts : first_of p ≡ first_of a = ap first_of (omega (arith, p_is)) in
        let counts_q : first_of q ≡ first_of b = ap first_of (omega (arith, q_is)) in
        omega (arith, rest)
    by_test rest true false e f = absurd (differ ((is_text-Decides t.tenant u.tenant).0 e))
      where
        differ : t.tenant ≡ u.tenant → ⊥
        differ same = let back = (is_text-Decides u.tenant t.tenant).1 (sym same) in cc
    by_test rest false true e f = absurd (differ ((is_text-Decides u.tenant t.tenant).0 f))
      where
        differ : u.tenant ≡ t.tenant → ⊥
        differ same = let back = (is_text-Decides t.tenant u.tenant).1 (sym same) in cc

-- a tenant with a name has one at least
pub name-counts : (k : Key) (names : List Key) → list_any (is_key k) names ≡ true → 1 ≤ jobs_of k.tenant names
name-counts k [] there = absurd (cc)
name-counts k (x ∷ xs) there = by_test (is_key k x) refl there (name-counts k xs)
  where
    by_test : (b : Bool) → is_key k x ≡ b → (b || list_any (is_key k) xs) ≡ true → (list_any (is_key k) xs ≡ true → 1 ≤ jobs_of k.tenant xs) → 1 ≤ jobs_of k.tenant (x ∷ xs)
    by_test true e f rest =
        let same : k ≡ x = (is_key-Decides k x).0 e in
        let text : is_text k.tenant x.tenant ≡ true = (is_text-Decides k.tenant x.tenant).1 (ap (λ (j : Key). j.tenant) same) in
        let one : of_tenant k.tenant x ≡ 1 = ap (λ (b : Bool). if b then 1 else 0) text in
        omega (arith, sum_by-cons (of_tenant k.tenant) x xs, one)
    by_test false e f rest = omega (arith, sum_by-cons (of_tenant k.tenant) x xs, rest f)

-- how many tenants there are with a name that may be new
pub tenants-with : (names : List Key) (k : Key) → tenant_count (with_key k names) ≡ tenant_count names + first_of (jobs_of k.tenant names)
tenants-with names k = by_test (list_any (is_key k) names) refl
  where
    by_test : (b : Bool) → list_any (is_key k) names ≡ b → tenant_count (if b then names else names ++ k ∷ []) ≡ tenant_count names + first_of (jobs_of k.tenant names)
    by_test true e = omega (arith, first_of-some (jobs_of k.tenant names) (name-counts k names e))
    by_test false e = tenants-push names k

-- what a job counts among those that are not closed
abbrev pub unclosed_at : Seat → ℕ
unclosed_at s = if not s.job.titled.state.closed then 1 else 0

-- how many are not closed after one job has changed
pub unclosed-set : (ss : List Seat) (n : ℕ) (s now : Seat) → slice_get ss n ≡ Some s → unclosed_in (slice_set ss n now) + unclosed_at s ≡ unclosed_in ss + unclosed_at now
unclosed-set ss n s now at = rw (get_or_from_slice_get ss n s s at) at (sum_by-set unclosed_at ss n now s (slice_get_within ss n s at))

pub unclosed-same : (ss : List Seat) (n : ℕ) (s now : Seat) → slice_get ss n ≡ Some s → now.job.titled.state.closed ≡ s.job.titled.state.closed → unclosed_in ss ≡ unclosed_in (slice_set ss n now)
unclosed-same ss n s now at closed =
    let same : unclosed_at now ≡ unclosed_at s = ap (λ (b : Bool). if not b then 1 else 0) closed in
    omega (arith, unclosed-set ss n s now at)

pub unclosed-closed : (ss : List Seat) (n : ℕ) (s now : Seat) → slice_get ss n ≡ Some s → s.job.titled.state.closed ≡ false → now.job.titled.state.closed ≡ true → unclosed_in ss ≡ unclosed_in (slice_set ss n now) + 1
unclosed-closed ss n s now at before after =
    let one : unclosed_at s ≡ 1 = ap (λ (b : Bool). if not b then 1 else 0) before in
    let none : unclosed_at now ≡ 0 = ap (λ (b : Bool). if not b then 1 else 0) after in
    omega (arith, unclosed-set ss n s now at)

pub unclosed-open : (ss : List Seat) (number : ℕ) (k : Key) (ask : Terms) → unclosed_in (ss ++ opened_seat number k ask ∷ []) ≡ unclosed_in ss + 1
unclosed-open ss number k ask = sum_by-append unclosed_at ss (opened_seat number k ask ∷ [])

pub unclosed-balanced : (n : ℕ) (vs : List ℕ) (ss : List Seat) → unclosed_in ss ≡ unclosed_in (balanced_from n vs ss)
unclosed-balanced n vs [] = refl
unclosed-balanced n vs (x ∷ xs) =
    let m : ℕ = if is_live_seat x then n + 1 else n in
    sum_by-cons unclosed_at x xs
    ∙ (ap (λ (k : ℕ). unclosed_at x + k) (unclosed-balanced m vs xs) ∙ sym (sum_by-cons unclosed_at (balanced_seat (volume_at vs n) x) (balanced_from m vs xs)))

-- a seat that is written as it was
pub set-same : (ss : List Seat) (n : ℕ) (s now : Seat) → slice_get ss n ≡ Some s → now ≡ s → slice_set ss n now ≡ ss
set-same ss n s now at same = ap (λ (x : Seat). slice_set ss n x) (same ∙ sym (get_or_from_slice_get ss n s s at)) ∙ set-get_or ss n s
