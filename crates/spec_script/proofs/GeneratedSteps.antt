-- The generator's lists, one step at a time.
use Rattle.std.proofs.Common.{◌≡◌, ℕ, suc, ◌+◌, ◌-◌, ◌<◌, List, [], ◌∷◌, ◌++◌, length, refl, sym, ap, ◌∙◌, append-nil, append_assoc, ◌≤◌, arith}
use Rattle.std.specs.Prelude.{Option}
use Rattle.std.specs.List.{remove, slice_index}
use Rattle.spec_script.specs.Script.{ScriptedJob}
use Rattle.spec_seq.specs.Draws.{next}
use Rattle.spec_script.specs.Generated.{pick, variables, variables_from, signed, literals_from, after_literals, clause_from, after_clause, clauses_from, after_clauses, job_from, jobs_from, after_revision}

pub clauses-none : (x : ℕ) → clauses_from 0 x ≡ []
unfolding clauses_from
clauses-none x = refl

pub after-none : (x : ℕ) → after_clauses 0 x ≡ x
unfolding after_clauses
after-none x = refl

pub clauses-suc : (k x : ℕ) → clauses_from (suc k) x ≡ clause_from x ∷ clauses_from k (after_clause x)
unfolding clauses_from
clauses-suc k x = refl

after-suc : (k x : ℕ) → after_clauses (suc k) x ≡ after_clauses k (after_clause x)
unfolding after_clauses
after-suc k x = refl

one-less : (n k : ℕ) → k < n → n - k ≡ suc (n - (k + 1))
one-less n k l = omega arith

-- of n clauses k are made: the next one, and those after it
pub next-clause : (n k x : ℕ) → k < n → clauses_from (n - k) x ≡ clause_from x ∷ clauses_from (n - (k + 1)) (after_clause x)
next-clause n k x l = rw (one-less n k l) (clauses-suc (n - (k + 1)) x)

pub after-next : (n k x : ℕ) → k < n → after_clauses (n - k) x ≡ after_clauses (n - (k + 1)) (after_clause x)
after-next n k x l = rw (one-less n k l) (after-suc (n - (k + 1)) x)

-- of n literals k are made
pub next-literal : (n k : ℕ) (left : List ℕ) (x : ℕ) → k < n → literals_from (n - k) left x ≡ signed (slice_index left (pick (length left) x)) (next x) ∷ literals_from (n - (k + 1)) (remove left (pick (length left) x)) (next (next x))
next-literal n k left x l = rw (one-less n k l) refl

pub after-literal : (n k x : ℕ) → k < n → after_literals (n - k) x ≡ after_literals (n - (k + 1)) (next (next x))
after-literal n k x l = rw (one-less n k l) refl

-- of the jobs up to n those before i are made
pub next-job : (n i x : ℕ) → i < n → jobs_from (n - i) i x ≡ job_from i x ∷ jobs_from (n - (i + 1)) (i + 1) (after_revision (next x))
next-job n i x l = let more : suc i ≡ i + 1 = omega arith in rw (one-less n i l) (ap (λ (m : ℕ). job_from i x ∷ jobs_from (n - (i + 1)) m (after_revision (next x))) more)

-- of the variables up to n those before i are there
pub next-variable : (n i : ℕ) → i < n → variables_from i (n - i) ≡ i ∷ variables_from (i + 1) (n - (i + 1))
next-variable n i l = let more : suc i ≡ i + 1 = omega arith in rw (one-less n i l) (ap (λ (m : ℕ). i ∷ variables_from m (n - (i + 1))) more)

-- what is made, with what is still to be made after it, is all
moved : {X : Type 0} (made rest all : List X) (x : X) (xs : List X) → rest ≡ x ∷ xs → made ++ rest ≡ all → (made ++ x ∷ []) ++ xs ≡ all
moved made rest all x xs e is = append_assoc made (x ∷ []) xs ∙ ap (λ ys. made ++ ys) (sym e) ∙ is

ended : {X : Type 0} (made rest all : List X) → rest ≡ [] → made ++ rest ≡ all → made ≡ all
ended made rest all e is = sym (append-nil made) ∙ ap (λ ys. made ++ ys) (sym e) ∙ is

nothing-left : (n k : ℕ) → n ≤ k → n - k ≡ 0
nothing-left n k h = omega arith

pub variables-begin : variables_from 1 (51 - 1) ≡ variables
unfolding variables
variables-begin = refl

pub variables-more : (made : List ℕ) (n i : ℕ) → i < n → made ++ variables_from i (n - i) ≡ variables → (made ++ i ∷ []) ++ variables_from (i + 1) (n - (i + 1)) ≡ variables
variables-more made n i l e = moved made _ variables i _ (next-variable n i l) e

pub variables-end : (made : List ℕ) (n i : ℕ) → n ≤ i → made ++ variables_from i (n - i) ≡ variables → made ≡ variables
variables-end made n i h e = ended made _ variables (rw (nothing-left n i h) refl) e

pub literals-more : (made all left : List ℕ) (n k x : ℕ) → k < n → made ++ literals_from (n - k) left x ≡ all → (made ++ signed (slice_index left (pick (length left) x)) (next x) ∷ []) ++ literals_from (n - (k + 1)) (remove left (pick (length left) x)) (next (next x)) ≡ all
literals-more made all left n k x l e = moved made _ all _ _ (next-literal n k left x l) e

pub literals-end : (made all left : List ℕ) (n k x : ℕ) → n ≤ k → made ++ literals_from (n - k) left x ≡ all → made ≡ all
literals-end made all left n k x h e = ended made _ all (rw (nothing-left n k h) refl) e

pub after-literals-end : (n k x y : ℕ) → n ≤ k → after_literals (n - k) x ≡ y → x ≡ y
after-literals-end n k x y h e = sym (rw (nothing-left n k h) (let same : after_literals 0 x ≡ x = refl in same)) ∙ e

pub clauses-more : (made all : List (Option (List ℕ))) (n k x : ℕ) → k < n → made ++ clauses_from (n - k) x ≡ all → (made ++ clause_from x ∷ []) ++ clauses_from (n - (k + 1)) (after_clause x) ≡ all
clauses-more made all n k x l e = moved made _ all _ _ (next-clause n k x l) e

pub clauses-end : (made all : List (Option (List ℕ))) (n k x : ℕ) → n ≤ k → made ++ clauses_from (n - k) x ≡ all → made ≡ all
clauses-end made all n k x h e = ended made _ all (rw (nothing-left n k h) (clauses-none x)) e

pub after-clauses-end : (n k x y : ℕ) → n ≤ k → after_clauses (n - k) x ≡ y → x ≡ y
after-clauses-end n k x y h e = sym (rw (nothing-left n k h) (after-none x)) ∙ e

pub jobs-more : (made all : List ScriptedJob) (n i x : ℕ) → i < n → made ++ jobs_from (n - i) i x ≡ all → (made ++ job_from i x ∷ []) ++ jobs_from (n - (i + 1)) (i + 1) (after_revision (next x)) ≡ all
jobs-more made all n i x l e = moved made _ all _ _ (next-job n i x l) e

pub jobs-end : (made all : List ScriptedJob) (n i x : ℕ) → n ≤ i → made ++ jobs_from (n - i) i x ≡ all → made ≡ all
jobs-end made all n i x h e = ended made _ all (rw (nothing-left n i h) refl) e

pub literals-begin : (made left : List ℕ) (n x : ℕ) → made ≡ [] → left ≡ variables → made ++ literals_from (n - 0) left x ≡ literals_from n variables x
literals-begin made left n x e f = let same : n - 0 ≡ n = omega arith in rw (e, f, same) refl

pub after-begin : (n x : ℕ) → after_literals (n - 0) x ≡ after_literals n x
after-begin n x = let same : n - 0 ≡ n = omega arith in rw same refl

pub literals-step : (made more all left rest : List ℕ) (n k x y lit : ℕ) → k < n → more ≡ made ++ lit ∷ [] → lit ≡ signed (slice_index left (pick (length left) x)) (next x) → rest ≡ remove left (pick (length left) x) → y ≡ next (next x) → made ++ literals_from (n - k) left x ≡ all → more ++ literals_from (n - (k + 1)) rest y ≡ all
literals-step made more all left rest n k x y lit l e f g h is = rw (e, f, g, h) (literals-more made all left n k x l is)

pub after-step : (n k x y z : ℕ) → k < n → y ≡ next (next x) → after_literals (n - k) x ≡ z → after_literals (n - (k + 1)) y ≡ z
after-step n k x y z l e is = rw e (sym (after-literal n k x l) ∙ is)
