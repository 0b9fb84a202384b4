use Rattle.std.proofs.Common.{◌≡◌, ℕ, suc, ◌+◌, List, [], ◌∷◌, length, Option, refl, sym, subst, arith}
use Rattle.std.proofs.lemmas.List.Elements.{All-head, All-tail}
use Rattle.mal_revision.specs.Posted.{Posted}
use Rattle.spec_report.specs.Replies.{ReplyBody}
use Rattle.spec_course.specs.Course.{Next, Asked, Leads}
use Rattle.spec_course.specs.Course.Next.{Asks, Ends}
use Rattle.spec_course.specs.Supported.{IsSupported, AreSupported}
use Rattle.spec_course.specs.Laws.{CourseGoesOn}

pub course-goes-on : {S O : Type 0} (step : S → ReplyBody → Next S O) → CourseGoesOn step
course-goes-on step now [] s r x h e = subst (λ n. Leads step n (x ∷ []) (step s x.told)) (sym h) (e, refl)
course-goes-on step (Ends o) (y ∷ ys) s r x h e = absurd h
course-goes-on step (Asks t q) (y ∷ ys) s r x h e = (h.0, course-goes-on step (step t y.told) ys s r x h.1 e)

-- what each question keeps of what follows, where what is told has its evidence
abbrev pub IsKept : {S O : Type 0} → (S → ReplyBody → Next S O) → ℕ → List (Option (List ℕ)) → (ℕ → Next S O → Type 0) → Type 0
IsKept {S} {O} step variables clauses Holds =
    (n : ℕ) (s : S) (r : Posted) (told : ReplyBody)
    → Holds n (Asks s r) → IsSupported variables clauses r.assumptions told → Holds (suc n) (step s told)

-- it holds after all questions
abbrev pub CourseKeeps : {S O : Type 0} → (S → ReplyBody → Next S O) → Type 1
CourseKeeps {S} {O} step =
    (variables : ℕ) (clauses : List (Option (List ℕ))) (Holds : ℕ → Next S O → Type 0) → IsKept step variables clauses Holds
    → (n : ℕ) (now : Next S O) (asked : List Asked) (end : Next S O)
    → Holds n now → AreSupported variables clauses asked → Leads step now asked end → Holds (n + length asked) end

pub course-keeps : {S O : Type 0} (step : S → ReplyBody → Next S O) → CourseKeeps step
course-keeps {S} {O} step variables clauses Holds kept n now [] end h t l = subst (Holds (n + 0)) l (subst (λ (k : ℕ). Holds k now) none h)
  where
    none : n ≡ n + 0
    none = omega arith
course-keeps {S} {O} step variables clauses Holds kept n (Ends o) (x ∷ xs) end h t l = absurd l
course-keeps {S} {O} step variables clauses Holds kept n (Asks s r) (x ∷ xs) end h t l =
    let here : IsSupported variables clauses x.revision.assumptions x.told = All-head (λ (y : Asked). IsSupported variables clauses y.revision.assumptions y.told) x xs t in
    let rest : AreSupported variables clauses xs = All-tail (λ (y : Asked). IsSupported variables clauses y.revision.assumptions y.told) x xs t in
    let after = kept n s r x.told h (subst (λ (q : Posted). IsSupported variables clauses q.assumptions x.told) l.0 here) in
    subst (λ (k : ℕ). Holds k end) one-more (course-keeps step variables clauses Holds kept (suc n) (step s x.told) xs end after rest l.1)
  where
    one-more : suc n + length xs ≡ n + suc (length xs)
    one-more = omega arith
