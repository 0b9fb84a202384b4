-- What holds of courses of questions, in the form in which the law functions state it.
use Rattle.std.specs.Prelude.{◌≡◌, ℕ, List, [], ◌∷◌, ◌++◌, Option, All, Contains}
use Rattle.mal_revision.specs.Posted.{Posted}
use Rattle.spec_logic.specs.Refutation.{ProofLine, IsRefutation}
use Rattle.spec_report.specs.Replies.{ReplyBody}
use Rattle.spec_course.specs.Course.{Next, Asked, Leads}
use Rattle.spec_course.specs.Course.Next.{Asks}

-- a course takes one more question after it
abbrev pub CourseGoesOn : {S O : Type 0} → (S → ReplyBody → Next S O) → Type 0
CourseGoesOn {S} {O} step =
    (now : Next S O) (asked : List Asked) (s : S) (r : Posted) (x : Asked)
    → Leads step now asked (Asks s r) → x.revision ≡ r → Leads step now (asked ++ x ∷ []) (step s x.told)

-- what is refuted under some assumptions is refuted under more
abbrev pub RefutedUnderMore : Type 0
RefutedUnderMore =
    (clauses : List (Option (List ℕ))) (some more : List ℕ) (lines : List ProofLine)
    → All (Contains more) some → IsRefutation clauses some lines → IsRefutation clauses more lines
