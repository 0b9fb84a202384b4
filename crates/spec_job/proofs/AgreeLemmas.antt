-- Answers and logs of courses: those of one begin with those of another.
use Rattle.std.proofs.Common.{◌≡◌, ℕ, zero, suc, ◌-◌, ◌<◌, ◌≤◌, List, ◌++◌, Some, None, inl, inr, ◌⊎◌, sym, ◌∙◌, ap, subst, arith}
use Rattle.std.specs.Prelude.{slice_get}
use Rattle.std.proofs.lemmas.Bool.{cases_lt}
use Rattle.mal_base.specs.declared.profile.Profile.{Profile}
use Rattle.mal_base.specs.NumberedClause.{Line}
use Rattle.mal_base.specs.declared.answer.Answer.{Answer}
use Rattle.mal_base.specs.declared.answer.Answer.TheVariants.{Refuted}
use Rattle.mal_revision.specs.Posted.{Posted}
use Rattle.spec_job.specs.SoloMachine.{first_empty}
use Rattle.spec_job.specs.DemandOne.{Agree}
use Rattle.spec_job.proofs.CourseLemmas.{Course, course, GoesOn, WentOn, beyond, beyond-gap, went-before, course-answers, course-log}

-- answers come from a course: they begin with its answers, and an empty clause gives the others
pub record ComeFrom (c : Course) (answers : List Answer) : Type 0 where
  pub kept : (r : ℕ) (a : Answer) → slice_get c.answers r ≡ Some a → slice_get answers r ≡ Some a
  pub given : (r : ℕ) (a : Answer) → slice_get answers r ≡ Some a → (slice_get c.answers r ≡ Some a) ⊎ ((goal : ℕ) × (first_empty c.log ≡ Some goal) × (a ≡ Refuted goal))

-- answers of one course agree
agree-same : (c : Course) (xs ys : List Answer) → ComeFrom c xs → ComeFrom c ys → Agree xs ys
agree-same c xs ys h k r a b e f = by_given (h.given r a e) (k.given r b f)
  where
    by_given : (slice_get c.answers r ≡ Some a) ⊎ ((goal : ℕ) × (first_empty c.log ≡ Some goal) × (a ≡ Refuted goal)) → (slice_get c.answers r ≡ Some b) ⊎ ((goal : ℕ) × (first_empty c.log ≡ Some goal) × (b ≡ Refuted goal)) → a ≡ b
    by_given (inl p) q = let there : slice_get ys r ≡ Some a = k.kept r a p in cc
    by_given (inr p) (inl q) = let there : slice_get xs r ≡ Some b = h.kept r b q in cc
    by_given (inr (goal, p, i)) (inr (other, q, j)) = let same : goal ≡ other = cc in i ∙ (ap (λ (g : ℕ). Refuted g) same ∙ sym j)

-- answers of a course and of a longer one agree
agree-later : (profile : Profile) (slices : ℕ) (revisions : List Posted) (n k : ℕ) (xs ys : List Answer) → WentOn profile slices revisions (beyond (suc k) n) → ComeFrom (course profile slices revisions n) xs → ComeFrom (course profile slices revisions (beyond (suc k) n)) ys → Agree xs ys
agree-later profile slices revisions n k xs ys w h m r a b e f = by_given (h.given r a e)
  where
    on : GoesOn revisions (course profile slices revisions n)
    on = went-before profile slices revisions n k w

    by_given : (slice_get (course profile slices revisions n).answers r ≡ Some a) ⊎ ((goal : ℕ) × (first_empty (course profile slices revisions n).log ≡ Some goal) × (a ≡ Refuted goal)) → a ≡ b
    by_given (inl p) = let there : slice_get ys r ≡ Some a = m.kept r a (course-answers profile slices revisions n (suc k) r a p) in cc
    by_given (inr (goal, p, i)) = absurd (let bad : None ≡ Some goal = sym on.open_yet ∙ p in cc)

agree-by : (profile : Profile) (slices : ℕ) (revisions : List Posted) (n k : ℕ) (xs ys : List Answer) → WentOn profile slices revisions (beyond k n) → ComeFrom (course profile slices revisions n) xs → ComeFrom (course profile slices revisions (beyond k n)) ys → Agree xs ys
agree-by profile slices revisions n zero xs ys w h m = agree-same (course profile slices revisions n) xs ys h m
agree-by profile slices revisions n (suc k) xs ys w h m = agree-later profile slices revisions n k xs ys w h m

-- whichever course is the longer one
pub courses-agree : (profile : Profile) (slices : ℕ) (revisions : List Posted) (n m : ℕ) (xs ys : List Answer) → WentOn profile slices revisions n → WentOn profile slices revisions m → ComeFrom (course profile slices revisions n) xs → ComeFrom (course profile slices revisions m) ys → (n ≤ m) ⊎ (m < n) → Agree xs ys
courses-agree profile slices revisions n m xs ys v w h k (inl low) =
    let sum : m ≡ beyond (m - n) n = beyond-gap n m low in
    agree-by profile slices revisions n (m - n) xs ys (subst (λ (x : ℕ). WentOn profile slices revisions x) sum w) h (subst (λ (x : ℕ). ComeFrom (course profile slices revisions x) ys) sum k)
courses-agree profile slices revisions n m xs ys v w h k (inr low) =
    let sum : n ≡ beyond (n - m) m = beyond-gap m n (omega arith) in
    λ r a b e f. sym (agree-by profile slices revisions m (n - m) ys xs (subst (λ (x : ℕ). WentOn profile slices revisions x) sum v) k (subst (λ (x : ℕ). ComeFrom (course profile slices revisions x) xs) sum h) r b a f e)

pub le-or_lt : (n m : ℕ) → (n ≤ m) ⊎ (m < n)
le-or_lt n m = by_order (cases_lt m n)
  where
    by_order : (m < n) ⊎ (n ≤ m) → (n ≤ m) ⊎ (m < n)
    by_order (inl low) = inr low
    by_order (inr low) = inl low

-- the logs of two courses: one begins with the other
abbrev pub IsFront : List Line → List Line → Type 0
IsFront xs ys = (lines : List Line) × (ys ≡ xs ++ lines)

front-by : (profile : Profile) (slices : ℕ) (revisions : List Posted) (n m : ℕ) (xs ys : List Line) → xs ≡ (course profile slices revisions n).log → ys ≡ (course profile slices revisions m).log → n ≤ m → IsFront xs ys
front-by profile slices revisions n m xs ys a b low = by_log (course-log profile slices revisions n (m - n))
  where
    by_log : (lines : List Line) × ((course profile slices revisions (beyond (m - n) n)).log ≡ (course profile slices revisions n).log ++ lines) → IsFront xs ys
    by_log (lines, e) = (lines, b ∙ (ap (λ (k : ℕ). (course profile slices revisions k).log) (beyond-gap n m low) ∙ (e ∙ ap (λ (ls : List Line). ls ++ lines) (sym a))))

pub courses-logs : (profile : Profile) (slices : ℕ) (revisions : List Posted) (n m : ℕ) (xs ys : List Line) → xs ≡ (course profile slices revisions n).log → ys ≡ (course profile slices revisions m).log → (n ≤ m) ⊎ (m < n) → IsFront xs ys ⊎ IsFront ys xs
courses-logs profile slices revisions n m xs ys a b (inl low) = inl (front-by profile slices revisions n m xs ys a b low)
courses-logs profile slices revisions n m xs ys a b (inr low) = inr (front-by profile slices revisions m n ys xs b a (omega arith))
