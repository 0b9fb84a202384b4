-- How many names of a tenant there are, and how many tenants, among keys.
use Rattle.std.proofs.Common.{◌≡◌, ◌⊎◌, ℕ, zero, suc, ◌+◌, ◌<◌, ◌≤◌, Bool, true, false, cond, not, ◌||◌, ◌==◌, filter, fold, inl, inr, List, [], ◌∷◌, ◌++◌, refl, sym, ◌∙◌, ap, subst, arith, if◌then◌else◌}
use Rattle.std.specs.List.{list_any}
use Rattle.std.proofs.lemmas.Bool.{both_ways, false_from_ne_true, or_left, or_right}
use Rattle.std.proofs.lemmas.Bool.Decides.{Decides-eqb}
use Rattle.std.proofs.lemmas.List.Sums.{sum_by-cons}
use Rattle.spec_job.specs.KeyedJob.{Key}
use Rattle.spec_hall.specs.Events.{Event, Open, Revise, Reask, Close, Balance, Start, Finish, Exchange, Leave, Arrive}
use Rattle.spec_hall.specs.Legal.{jobs_of, tenant_count}
use Rattle.spec_hall.specs.Own.{is_key, is_text}
use Rattle.spec_hall.specs.States.{names_of, names_step, with_key}
use Rattle.spec_hall.proofs.KeyLemmas.{AreApart, apart-push, is_key-Decides, is_text-Decides, key-differs, without, filter-there}

-- these keys are among those
abbrev pub AreAmong : List Key → List Key → Type 0
AreAmong xs ks = (k : Key) → list_any (is_key k) xs ≡ true → list_any (is_key k) ks ≡ true

-- whether a key is of a tenant
abbrev pub counts : List ℕ → Key → ℕ
counts t k = cond (is_text t k.tenant) 1 0

-- one key more
pub jobs-cons : (t : List ℕ) (k : Key) (ks : List Key) → jobs_of t (k ∷ ks) ≡ counts t k + jobs_of t ks
jobs-cons t k ks = sum_by-cons (counts t) k ks

-- a key that is taken away counts no more
jobs-fewer : (t : List ℕ) (k : Key) (ks : List Key) → jobs_of t (without k ks) ≤ jobs_of t ks
jobs-fewer t k [] = omega arith
jobs-fewer t k (x ∷ xs) = by_test (is_key k x) (jobs-fewer t k xs)
  where
    skip : (m n one all : ℕ) → m ≤ n → all ≡ one + n → m ≤ all
    skip m n one all low q = omega arith

    both : (m n one all more : ℕ) → m ≤ n → all ≡ one + n → more ≡ one + m → more ≤ all
    both m n one all more low q r = omega arith

    by_test : (b : Bool) → jobs_of t (without k xs) ≤ jobs_of t xs → jobs_of t (cond (not b) (x ∷ without k xs) (without k xs)) ≤ jobs_of t (x ∷ xs)
    by_test true low = skip (jobs_of t (without k xs)) (jobs_of t xs) (counts t x) (jobs_of t (x ∷ xs)) low (jobs-cons t x xs)
    by_test false low = both (jobs_of t (without k xs)) (jobs_of t xs) (counts t x) (jobs_of t (x ∷ xs)) (jobs_of t (x ∷ without k xs)) low (jobs-cons t x xs) (jobs-cons t x (without k xs))

jobs-taken : (t : List ℕ) (k : Key) (ks : List Key) → list_any (is_key k) ks ≡ true → counts t k + jobs_of t (without k ks) ≤ jobs_of t ks
jobs-taken t k [] among = absurd (both_ways false refl among)
jobs-taken t k (x ∷ xs) among = by_test (is_key k x) refl among (jobs-taken t k xs)
  where
    here : (m n one other all : ℕ) → m ≤ n → one ≡ other → all ≡ other + n → one + m ≤ all
    here m n one other all low same q = omega arith

    there : (m n one other all more : ℕ) → one + m ≤ n → all ≡ other + n → more ≡ other + m → one + more ≤ all
    there m n one other all more low q r = omega arith

    by_test : (b : Bool) → is_key k x ≡ b → (b || list_any (is_key k) xs) ≡ true → (list_any (is_key k) xs ≡ true → counts t k + jobs_of t (without k xs) ≤ jobs_of t xs) → counts t k + jobs_of t (cond (not b) (x ∷ without k xs) (without k xs)) ≤ jobs_of t (x ∷ xs)
    by_test true e q rest = here (jobs_of t (without k xs)) (jobs_of t xs) (counts t k) (counts t x) (jobs_of t (x ∷ xs)) (jobs-fewer t k xs) (ap (counts t) ((is_key-Decides k x).0 e)) (jobs-cons t x xs)
    by_test false e q rest = there (jobs_of t (without k xs)) (jobs_of t xs) (counts t k) (counts t x) (jobs_of t (x ∷ xs)) (jobs_of t (x ∷ without k xs)) (rest q) (jobs-cons t x xs) (jobs-cons t x (without k xs))

-- the first of keys that are apart and among others is one of those, and the others are among the rest
rest-among : (x : Key) (xs ks : List Key) → list_any (is_key x) xs ≡ false → AreAmong (x ∷ xs) ks → AreAmong xs (without x ks)
rest-among x xs ks apart among k there =
    filter-there k x ks (among k (or_right (is_key k x) (list_any (is_key k) xs) there)) (key-differs xs x k apart there)

first-among : (x : Key) (xs ks : List Key) → AreAmong (x ∷ xs) ks → list_any (is_key x) ks ≡ true
first-among x xs ks among = among x (or_left (is_key x x) (list_any (is_key x) xs) ((is_key-Decides x x).1 refl))

-- keys that are apart and among others have no more names of a tenant
pub jobs-among : (t : List ℕ) (xs ks : List Key) → AreApart xs → AreAmong xs ks → jobs_of t xs ≤ jobs_of t ks
jobs-among t [] ks apart among = omega arith
jobs-among t (x ∷ xs) ks apart among = sum (jobs_of t xs) (jobs_of t (without x ks)) (jobs_of t ks) (counts t x) (jobs_of t (x ∷ xs)) (jobs-among t xs (without x ks) apart.1 (rest-among x xs ks apart.0 among)) (jobs-taken t x ks (first-among x xs ks among)) (jobs-cons t x xs)
  where
    sum : (m n all one more : ℕ) → m ≤ n → one + n ≤ all → more ≡ one + m → more ≤ all
    sum m n all one more low high q = omega arith

-- the keys of other tenants
abbrev pub others_of : List ℕ → List Key → List Key
others_of t ks = filter (λ k. not (is_text t k.tenant)) ks

-- a tenant that is not t has as many names among them
other-jobs : (s t : List ℕ) (ks : List Key) → is_text s t ≡ false → jobs_of s (others_of t ks) ≡ jobs_of s ks
other-jobs s t [] other = refl
other-jobs s t (x ∷ xs) other = by_test (is_text t x.tenant) refl (other-jobs s t xs other)
  where
    zero-plus : (n : ℕ) → 0 + n ≡ n
    zero-plus n = omega arith

    by_test : (b : Bool) → is_text t x.tenant ≡ b → jobs_of s (others_of t xs) ≡ jobs_of s xs → jobs_of s (cond (not b) (x ∷ others_of t xs) (others_of t xs)) ≡ jobs_of s (x ∷ xs)
    by_test true e same =
        let differs : is_text s x.tenant ≡ false = false_from_ne_true (is_text s x.tenant) (λ q. both_ways (is_text s t) other ((is_text-Decides s t).1 ((is_text-Decides s x.tenant).0 q ∙ sym ((is_text-Decides t x.tenant).0 e)))) in
        same ∙ sym (jobs-cons s x xs ∙ (ap (λ (b : Bool). cond b 1 0 + jobs_of s xs) differs ∙ zero-plus (jobs_of s xs)))
    by_test false e same = jobs-cons s x (others_of t xs) ∙ (ap (λ (n : ℕ). counts s x + n) same ∙ sym (jobs-cons s x xs))

-- where a tenant has no name, all keys are of others
none-other : (t : List ℕ) (ks : List Key) → jobs_of t ks ≡ 0 → others_of t ks ≡ ks
none-other t [] none = refl
none-other t (x ∷ xs) none = by_test (is_text t x.tenant) refl (none-other t xs)
  where
    split : (one n all : ℕ) → all ≡ one + n → all ≡ 0 → n ≡ 0
    split one n all q r = omega arith

    one-not : (n all : ℕ) → all ≡ 1 + n → all ≡ 0 → ⊥
    one-not n all q r = omega arith

    by_test : (b : Bool) → is_text t x.tenant ≡ b → (jobs_of t xs ≡ 0 → others_of t xs ≡ xs) → cond (not b) (x ∷ others_of t xs) (others_of t xs) ≡ x ∷ xs
    by_test true e rest = absurd (one-not (jobs_of t xs) (jobs_of t (x ∷ xs)) (jobs-cons t x xs ∙ ap (λ (b : Bool). cond b 1 0 + jobs_of t xs) e) none)
    by_test false e rest = ap (λ (ks : List Key). x ∷ ks) (rest (split (counts t x) (jobs_of t xs) (jobs_of t (x ∷ xs)) (jobs-cons t x xs) none))

-- one where a count is zero
abbrev one_if_zero : ℕ → ℕ
one_if_zero n = if 0 == n then 1 else 0

zero-one : (n : ℕ) → n ≡ 0 → one_if_zero n ≡ 1
zero-one n q = ap one_if_zero q

some-none : (n : ℕ) → 0 < n → one_if_zero n ≡ 0
some-none n some = ap (λ (b : Bool). cond b 1 0) (false_from_ne_true (0 == n) (λ q. not-zero n ((Decides-eqb 0 n).0 q) some))
  where
    not-zero : (m : ℕ) → 0 ≡ m → 0 < m → ⊥
    not-zero m e f = omega arith

-- without a tenant that has a name there is one tenant less
tenant-taken : (t : List ℕ) (ks : List Key) → 0 < jobs_of t ks → 1 + tenant_count (others_of t ks) ≤ tenant_count ks
tenant-taken t [] some = absurd (omega (arith, some))
tenant-taken t (x ∷ xs) some = by_test (is_text t x.tenant) refl (tenant-taken t xs)
  where
    zero_or : (n : ℕ) → (n ≡ 0) ⊎ (0 < n)
    zero_or zero = inl refl
    zero_or (suc n) = inr (omega arith)

    last : (m n : ℕ) → m ≡ 1 → 1 + n ≤ m + n
    last m n q = omega arith

    more : (m n k : ℕ) → 1 + n ≤ k → 1 + n ≤ m + k
    more m n k low = omega arith

    kept : (m o n k : ℕ) → m ≡ o → 1 + n ≤ k → 1 + (m + n) ≤ o + k
    kept m o n k same low = omega arith

    positive : (n all : ℕ) → all ≡ 0 + n → 0 < all → 0 < n
    positive n all q some = omega arith

    by_test : (b : Bool) → is_text t x.tenant ≡ b → (0 < jobs_of t xs → 1 + tenant_count (others_of t xs) ≤ tenant_count xs) → 1 + tenant_count (cond (not b) (x ∷ others_of t xs) (others_of t xs)) ≤ tenant_count (x ∷ xs)
    by_test true e rest =
        let same : t ≡ x.tenant = (is_text-Decides t x.tenant).0 e in
        elim (zero_or (jobs_of t xs)) [
          | inl none ↦ subst (λ (ks : List Key). 1 + tenant_count ks ≤ one_if_zero (jobs_of x.tenant xs) + tenant_count xs) (sym (none-other t xs none)) (last (one_if_zero (jobs_of x.tenant xs)) (tenant_count xs) (zero-one (jobs_of x.tenant xs) (ap (λ (s : List ℕ). jobs_of s xs) (sym same) ∙ none)))
          | inr others ↦ more (one_if_zero (jobs_of x.tenant xs)) (tenant_count (others_of t xs)) (tenant_count xs) (rest others)
        ]
    by_test false e rest =
        let other : is_text x.tenant t ≡ false = false_from_ne_true (is_text x.tenant t) (λ q. both_ways (is_text t x.tenant) e ((is_text-Decides t x.tenant).1 (sym ((is_text-Decides x.tenant t).0 q)))) in
        kept (one_if_zero (jobs_of x.tenant (others_of t xs))) (one_if_zero (jobs_of x.tenant xs)) (tenant_count (others_of t xs)) (tenant_count xs) (ap one_if_zero (other-jobs x.tenant t xs other)) (rest (positive (jobs_of t xs) (jobs_of t (x ∷ xs)) (jobs-cons t x xs ∙ ap (λ (b : Bool). cond b 1 0 + jobs_of t xs) e) some))

-- a key is among those of other tenants
key-other : (t : List ℕ) (k : Key) (ks : List Key) → list_any (is_key k) ks ≡ true → is_text t k.tenant ≡ false → list_any (is_key k) (others_of t ks) ≡ true
key-other t k [] among other = among
key-other t k (x ∷ xs) among other = by_test (is_text t x.tenant) (is_key k x) refl refl among (λ q. key-other t k xs q other)
  where
    by_test : (a b : Bool) → is_text t x.tenant ≡ a → is_key k x ≡ b → (b || list_any (is_key k) xs) ≡ true → (list_any (is_key k) xs ≡ true → list_any (is_key k) (others_of t xs) ≡ true) → list_any (is_key k) (cond (not a) (x ∷ others_of t xs) (others_of t xs)) ≡ true
    by_test true true p q r rest = absurd (both_ways (is_text t k.tenant) other (ap (λ (y : Key). is_text t y.tenant) ((is_key-Decides k x).0 q) ∙ p))
    by_test true false p q r rest = rest r
    by_test false true p q r rest = or_left (is_key k x) (list_any (is_key k) (others_of t xs)) q
    by_test false false p q r rest = or_right (is_key k x) (list_any (is_key k) (others_of t xs)) (rest r)

-- a key counts for its tenant
pub key-counts : (k : Key) (ks : List Key) → list_any (is_key k) ks ≡ true → 0 < jobs_of k.tenant ks
key-counts k [] among = absurd (both_ways false refl among)
key-counts k (x ∷ xs) among = by_test (is_key k x) refl among (key-counts k xs)
  where
    one-more : (n all : ℕ) → all ≡ 1 + n → 0 < all
    one-more n all q = omega arith

    behind : (one n all : ℕ) → all ≡ one + n → 0 < n → 0 < all
    behind one n all q some = omega arith

    by_test : (b : Bool) → is_key k x ≡ b → (b || list_any (is_key k) xs) ≡ true → (list_any (is_key k) xs ≡ true → 0 < jobs_of k.tenant xs) → 0 < jobs_of k.tenant (x ∷ xs)
    by_test true e q rest = one-more (jobs_of k.tenant xs) (jobs_of k.tenant (x ∷ xs)) (jobs-cons k.tenant x xs ∙ ap (λ (b : Bool). cond b 1 0 + jobs_of k.tenant xs) ((is_text-Decides k.tenant x.tenant).1 (ap (λ (y : Key). y.tenant) ((is_key-Decides k x).0 e))))
    by_test false e q rest = behind (counts k.tenant x) (jobs_of k.tenant xs) (jobs_of k.tenant (x ∷ xs)) (jobs-cons k.tenant x xs) (rest q)

-- keys that are among others have no more tenants
pub tenants-among : (xs ks : List Key) → AreAmong xs ks → tenant_count xs ≤ tenant_count ks
tenants-among [] ks among = omega arith
tenants-among (x ∷ xs) ks among = elim (zero_or (jobs_of x.tenant xs)) [ inl none ↦ new none (tenants-among xs (others_of x.tenant ks) (rest none)) | inr old ↦ same (one_if_zero (jobs_of x.tenant xs)) (tenant_count xs) (tenant_count ks) (some-none (jobs_of x.tenant xs) old) (tenants-among xs ks (λ k there. among k (or_right (is_key k x) (list_any (is_key k) xs) there))) ]
  where
    zero_or : (n : ℕ) → (n ≡ 0) ⊎ (0 < n)
    zero_or zero = inl refl
    zero_or (suc n) = inr (omega arith)

    same : (one n all : ℕ) → one ≡ 0 → n ≤ all → one + n ≤ all
    same one n all q low = omega arith

    more : (one n m all : ℕ) → one ≡ 1 → n ≤ m → 1 + m ≤ all → one + n ≤ all
    more one n m all q low high = omega arith

    not-positive : (n : ℕ) → n ≡ 0 → 0 < n → ⊥
    not-positive n q some = omega arith

    rest : jobs_of x.tenant xs ≡ 0 → AreAmong xs (others_of x.tenant ks)
    rest none k there = key-other x.tenant k ks (among k (or_right (is_key k x) (list_any (is_key k) xs) there)) (false_from_ne_true (is_text x.tenant k.tenant) (λ q. not-positive (jobs_of x.tenant xs) none (subst (λ (t : List ℕ). 0 < jobs_of t xs) (sym ((is_text-Decides x.tenant k.tenant).0 q)) (key-counts k xs there))))

    new : jobs_of x.tenant xs ≡ 0 → tenant_count xs ≤ tenant_count (others_of x.tenant ks) → one_if_zero (jobs_of x.tenant xs) + tenant_count xs ≤ tenant_count ks
    new none low = more (one_if_zero (jobs_of x.tenant xs)) (tenant_count xs) (tenant_count (others_of x.tenant ks)) (tenant_count ks) (zero-one (jobs_of x.tenant xs) none) low (tenant-taken x.tenant ks (key-counts x ks (among x (or_left (is_key x x) (list_any (is_key x) xs) ((is_key-Decides x x).1 refl)))))

-- the names of a history are apart
with-apart : (k : Key) (names : List Key) → AreApart names → AreApart (with_key k names)
with-apart k names apart = by_test (list_any (is_key k) names) refl
  where
    by_test : (b : Bool) → list_any (is_key k) names ≡ b → AreApart (cond b names (names ++ k ∷ []))
    by_test true q = apart
    by_test false q = apart-push names k apart q

step-apart : (names : List Key) (e : Event) → AreApart names → AreApart (names_step names e)
step-apart names (Open j ask) apart = with-apart j names apart
step-apart names (Revise j number r) apart = apart
step-apart names (Reask j w) apart = apart
step-apart names (Close j) apart = apart
step-apart names (Balance shares) apart = apart
step-apart names (Start j index worker) apart = apart
step-apart names (Finish j index worker outcome) apart = apart
step-apart names (Exchange j) apart = apart
step-apart names (Leave j) apart = apart
step-apart names (Arrive j brought) apart = with-apart j names apart

fold-apart : (names : List Key) (es : List Event) → AreApart names → AreApart (fold names_step names es)
fold-apart names [] apart = apart
fold-apart names (e ∷ es) apart = fold-apart (names_step names e) es (step-apart names e apart)

pub names-apart : (h : List Event) → AreApart (names_of h)
names-apart h = fold-apart [] h tt

-- a new key among others, after names among them: there is room for it
pub record HasRoom (k : Key) (names ks : List Key) : Type 0 where
  pub jobs : jobs_of k.tenant names < jobs_of k.tenant ks
  pub tenants : jobs_of k.tenant names ≡ 0 → tenant_count names < tenant_count ks

pub has-room : (k : Key) (names ks : List Key) → AreApart names → AreAmong names ks → list_any (is_key k) names ≡ false → list_any (is_key k) ks ≡ true → HasRoom k names ks
has-room k names ks apart among fresh there = record {
  jobs = below (jobs_of k.tenant names) (jobs_of k.tenant (k ∷ names)) (jobs_of k.tenant ks) (jobs-cons k.tenant k names ∙ ap (λ (b : Bool). cond b 1 0 + jobs_of k.tenant names) ((is_text-Decides k.tenant k.tenant).1 refl)) (jobs-among k.tenant (k ∷ names) ks (fresh, apart) all);
  tenants = λ none. below (tenant_count names) (tenant_count (k ∷ names)) (tenant_count ks) (ap (λ (n : ℕ). n + tenant_count names) (zero-one (jobs_of k.tenant names) none)) (tenants-among (k ∷ names) ks all);
}
  where
    below : (n more all : ℕ) → more ≡ 1 + n → more ≤ all → n < all
    below n more all q low = omega arith

    all : AreAmong (k ∷ names) ks
    all j among-j = by_test (is_key j k) refl among-j
      where
        by_test : (b : Bool) → is_key j k ≡ b → (b || list_any (is_key j) names) ≡ true → list_any (is_key j) ks ≡ true
        by_test true q r = subst (λ (x : Key). list_any (is_key x) ks ≡ true) (sym ((is_key-Decides j k).0 q)) there
        by_test false q r = among j r
