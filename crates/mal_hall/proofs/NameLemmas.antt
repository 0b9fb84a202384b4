-- What names lead to.
use Rattle.std.proofs.Common.{◌≡◌, ℕ, ◌+◌, Bool, true, false, ◌&&◌, cond, List, Option, Some, None, is_none, refl, sym, ◌∙◌, ap, arith}
use Rattle.std.specs.BTreeMap.{BTreeMap}
use Rattle.std.specs.BTreeMap as tree
use Rattle.std.specs.Cmp.Lexicographic.{slice_cmp, texts_ties}
use Rattle.std.specs.Option.{unwrap_or}
use Rattle.std.specs.declared.cmp.Ordering.{Ordering}
use Rattle.std.specs.declared.cmp.Ordering.TheVariants.{Less, Equal, Greater}
use Rattle.std.specs.Ordering.{is_eq, nat_cmp, ordering_then}
use Rattle.spec_job.specs.KeyedJob.{Key}
use Rattle.spec_hall.specs.Own.{is_key, is_text}
use Rattle.spec_hall.proofs.KeyLemmas.{is_text-Decides}
use Rattle.mal_hall.specs.Named.{found, jobs_at, name_cmp, pair_cmp}

-- how much a name adds to a count
abbrev one : Bool → ℕ
one b = cond b 1 0

is_eq-then : (x y : Ordering) → is_eq (ordering_then x y) ≡ (is_eq x && is_eq y)
is_eq-then Less y = refl
is_eq-then Equal y = refl
is_eq-then Greater y = refl

-- keys are ordered alike where they are equal
is_eq-key : (a b : Key) → is_eq (pair_cmp (a.tenant, a.job) (b.tenant, b.job)) ≡ is_key a b
is_eq-key a b =
    is_eq-then (slice_cmp nat_cmp a.tenant b.tenant) (slice_cmp nat_cmp a.job b.job)
    ∙ (ap (λ (p : Bool). p && is_eq (slice_cmp nat_cmp a.job b.job)) (sym (texts_ties a.tenant b.tenant))
    ∙ ap (λ (q : Bool). is_text a.tenant b.tenant && q) (sym (texts_ties a.job b.job)))

is_eq-text : (a b : List ℕ) → is_eq (slice_cmp nat_cmp a b) ≡ is_text a b
is_eq-text a b = sym (texts_ties a b)

-- what a map of numbers leads to with one more
pub found-update : (m n : BTreeMap (List ℕ × List ℕ) ℕ) (key : Key) (number : ℕ) → ((q : List ℕ × List ℕ) → tree.get pair_cmp n q ≡ cond (tree.is_at (pair_cmp (key.tenant, key.job)) q) (Some number) (tree.get pair_cmp m q)) → (k : Key) → found n k ≡ cond (is_key key k) (Some number) (found m k)
found-update m n key number updates k = updates (k.tenant, k.job) ∙ ap (λ (b : Bool). cond b (Some number) (found m k)) (is_eq-key key k)

-- how many names a tenant has after one count was written
jobs-update : (m n : BTreeMap (List ℕ) ℕ) (tenant : List ℕ) (jobs : ℕ) → ((q : List ℕ) → tree.get name_cmp n q ≡ cond (tree.is_at (name_cmp tenant) q) (Some jobs) (tree.get name_cmp m q)) → (other : List ℕ) → jobs_at n other ≡ cond (is_text tenant other) jobs (jobs_at m other)
jobs-update m n tenant jobs updates other =
    ap (λ (o : Option ℕ). unwrap_or o 0) (updates other)
    ∙ (ap (λ (b : Bool). unwrap_or (cond b (Some jobs) (tree.get name_cmp m other)) 0) (is_eq-text tenant other) ∙ by_test (is_text tenant other))
  where
    by_test : (b : Bool) → unwrap_or (cond b (Some jobs) (tree.get name_cmp m other)) 0 ≡ cond b jobs (jobs_at m other)
    by_test true = refl
    by_test false = refl

-- it stays where the count was written as it was
pub jobs-kept : (m n : BTreeMap (List ℕ) ℕ) (tenant : List ℕ) (jobs : ℕ) → jobs ≡ jobs_at m tenant → ((q : List ℕ) → tree.get name_cmp n q ≡ cond (tree.is_at (name_cmp tenant) q) (Some jobs) (tree.get name_cmp m q)) → (other : List ℕ) → jobs_at n other ≡ jobs_at m other
jobs-kept m n tenant jobs is updates other = jobs-update m n tenant jobs updates other ∙ by_test (is_text tenant other) refl
  where
    by_test : (b : Bool) → is_text tenant other ≡ b → cond b jobs (jobs_at m other) ≡ jobs_at m other
    by_test true e = let same : tenant ≡ other = (is_text-Decides tenant other).0 e in is ∙ ap (jobs_at m) same
    by_test false e = refl

-- nothing is added for a name that is known
pub jobs-known : (m n : BTreeMap (List ℕ) ℕ) (tenant : List ℕ) (jobs : ℕ) (before : Option ℕ) (number : ℕ) → before ≡ Some number → jobs ≡ jobs_at m tenant → ((q : List ℕ) → tree.get name_cmp n q ≡ cond (tree.is_at (name_cmp tenant) q) (Some jobs) (tree.get name_cmp m q)) → (other : List ℕ) → jobs_at n other ≡ jobs_at m other + one (is_text tenant other && is_none before)
jobs-known m n tenant jobs before number known is updates other =
    let none : one (is_text tenant other && is_none before) ≡ 0 = ap (λ (o : Option ℕ). one (is_text tenant other && is_none o)) known ∙ by_test (is_text tenant other) in
    omega (arith, none, jobs-kept m n tenant jobs is updates other)
  where
    by_test : (b : Bool) → one (b && false) ≡ 0
    by_test true = refl
    by_test false = refl

-- and one for a name that is new, where the count is written again after that
pub jobs-more : (m n o : BTreeMap (List ℕ) ℕ) (tenant : List ℕ) (jobs : ℕ) (before : Option ℕ) → before ≡ None → jobs ≡ jobs_at m tenant → ((q : List ℕ) → tree.get name_cmp n q ≡ cond (tree.is_at (name_cmp tenant) q) (Some jobs) (tree.get name_cmp m q)) → ((q : List ℕ) → tree.get name_cmp o q ≡ cond (tree.is_at (name_cmp tenant) q) (Some (jobs + 1)) (tree.get name_cmp n q)) → (other : List ℕ) → jobs_at o other ≡ jobs_at m other + one (is_text tenant other && is_none before)
jobs-more m n o tenant jobs before new is first second other = jobs-update n o tenant (jobs + 1) second other ∙ (by_test (is_text tenant other) refl (jobs-kept m n tenant jobs is first other) ∙ sym (ap (λ (b : Option ℕ). jobs_at m other + one (is_text tenant other && is_none b)) new))
  where
    by_test : (b : Bool) → is_text tenant other ≡ b → jobs_at n other ≡ jobs_at m other → cond b (jobs + 1) (jobs_at n other) ≡ jobs_at m other + one (b && true)
    by_test true e kept =
        let same : tenant ≡ other = (is_text-Decides tenant other).0 e in
        let here : jobs_at m tenant ≡ jobs_at m other = ap (jobs_at m) same in
        omega (arith, here, is)
    by_test false e kept = omega (arith, kept)
