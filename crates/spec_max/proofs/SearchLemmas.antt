use Rattle.std.proofs.Common.{◌≡◌, ℕ, suc, ◌+◌, ◌≤◌, Bool, true, false, cond, ◌==◌, List, [], ◌∷◌, ◌++◌, length, Option, Some, None, refl, sym, ap, subst, ◌∙◌, arith}
use Rattle.std.specs.Prelude.{fold, All, Contains}
use Rattle.std.proofs.lemmas.Bool.{eqb-true, eqb-false}
use Rattle.mal_base.specs.NumberedClause.{Line}
use Rattle.mal_revision.specs.Posted.{Posted, is_posted}
use Rattle.spec_logic.specs.Refutation.{IsRefutation}
use Rattle.spec_proof.specs.Log.{proof_of}
use Rattle.spec_report.specs.Replies.{ReplyBody, Model, Proof, AllSpent, AllStarved}
use Rattle.spec_course.specs.Course.{Next, Asked, Leads, Cause, Spent, Starved, unknown}
use Rattle.spec_course.specs.Course.Next.{Asks, Ends}
use Rattle.spec_course.specs.Supported.{IsModel, IsProof, IsSupported, AreSupported}
use Rattle.spec_course.proofs.CourseLemmas.{course-goes-on, course-keeps}
use Rattle.spec_course.proofs.RefutedLemmas.{refuted-under-more}
use Rattle.spec_max.specs.Cost.{cost}
use Rattle.spec_max.specs.Optimum.{Instance, Solution, Optimum, Best, NoModel, Unknown, variables_in, clauses_in, costs_less, opening, cheaper, solution_in, improved, concluded, step, first, after_told, last_solution}
use Rattle.spec_max.specs.Right.{IsServed, IsSolution, IsRight}
use Rattle.spec_max.specs.OptimumLaws.{IsAsked, IsQuestion, SearchAsks, SearchIsRight, SearchGoesOn, UnknownIsTold}
use Rattle.spec_max.proofs.Refuting.{nothing_is_cheaper, nothing_satisfies}
use Rattle.spec_max.proofs.SolutionLemmas.{solution-few, opening-posted, cheaper-posted, front-solves, front-cheaper}

pub search-goes-on : SearchGoesOn
search-goes-on w = course-goes-on (step w)

-- what holds of what follows after so many questions
abbrev pub Holds : Instance → ℕ → Next (Option Solution) Optimum → Type 0
Holds w n (Asks best r) = IsAsked w n best r
Holds w n (Ends optimum) = IsRight w optimum × (n ≤ length w.softs + 1)

improved-holds : (w : Instance) (n : ℕ) (found : Solution) → IsSolution w found → suc n + found.cost ≤ length w.softs + 1 → Holds w (suc n) (improved w found)
improved-holds w n found s room = by_cost (found.cost == 0) refl
  where
    by_cost : (b : Bool) → (found.cost == 0) ≡ b → Holds w (suc n) (cond b (Ends (Best found [])) (Asks (Some found) (cheaper w found.cost)))
    by_cost true e =
        let none : found.cost ≡ 0 = eqb-true found.cost 0 e in (
          record { solution = s; free = λ q. refl; refuted = λ some. absurd (omega arith); least = λ a h. omega arith },
          omega arith,
        )
    by_cost false e = let some = eqb-false found.cost 0 e in record { solution = s; costs = omega arith; fallen = room; less = refl }

refuted-holds : (w : Instance) (n : ℕ) (best : Option Solution) (r : Posted) (failed : List ℕ) (lines : List Line) → IsServed w → IsAsked w n best r → IsProof (clauses_in w) r.assumptions failed lines → Holds w (suc n) (Ends (concluded best lines))
refuted-holds w n None r failed lines s q p =
    let under : All (Contains []) failed = subst (λ (x : Posted). All (Contains x.assumptions) failed) q.1 p.assumed in
    let refuted : IsRefutation (clauses_in w) [] (proof_of lines) = refuted-under-more (clauses_in w) failed [] (proof_of lines) under p.refuted in
    let none = q.0 in
    (record { refuted = refuted; unsatisfiable = nothing_satisfies w.formula w.softs (proof_of lines) s.formed s.within refuted }, omega arith)
refuted-holds w n (Some best) r failed lines s q p =
    let some = q.costs in
    let room = q.fallen in
    let few = solution-few w best q.solution in
    let under : All (Contains (costs_less w best.cost ∷ [])) failed = subst (λ (x : Posted). All (Contains x.assumptions) failed) q.less p.assumed in
    let refuted : IsRefutation (clauses_in w) (costs_less w best.cost ∷ []) (proof_of lines) = refuted-under-more (clauses_in w) failed (costs_less w best.cost ∷ []) (proof_of lines) under p.refuted in (
      record {
        solution = q.solution;
        free = λ none. absurd (omega arith);
        refuted = λ low. refuted;
        least = nothing_is_cheaper w.formula w.softs best.cost (proof_of lines) s.formed s.within some few refuted;
      },
      omega arith,
    )

model-holds : (w : Instance) (n : ℕ) (best : Option Solution) (r : Posted) (model : List Bool) → IsServed w → IsAsked w n best r → IsModel (variables_in w) (clauses_in w) r.assumptions model → Holds w (suc n) (improved w (solution_in w model))
model-holds w n None r model s q m =
    let f = front-solves w model r.assumptions s m in
    let few = f.few in
    let none = q.0 in
    improved-holds w n (solution_in w model) f.solution (omega arith)
model-holds w n (Some best) r model s q m =
    let room = q.fallen in
    let f = front-solves w model r.assumptions s m in
    let less = front-cheaper w model best.cost s q.costs (subst (λ (x : Posted). IsModel (variables_in w) (clauses_in w) x.assumptions model) q.less m) in
    improved-holds w n (solution_in w model) f.solution (omega arith)

unknown-holds : (w : Instance) (n : ℕ) (best : Option Solution) (r : Posted) (cause : Cause) → IsAsked w n best r → Holds w (suc n) (Ends (Unknown best cause))
unknown-holds w n None r cause q = let none = q.0 in (tt, omega arith)
unknown-holds w n (Some best) r cause q = let some = q.costs in let room = q.fallen in (q.solution, omega arith)

step-holds : (w : Instance) → IsServed w → (n : ℕ) (best : Option Solution) (r : Posted) (told : ReplyBody) → IsAsked w n best r → IsSupported (variables_in w) (clauses_in w) r.assumptions told → Holds w (suc n) (step w best told)
step-holds w s n best r (Model model) q m = model-holds w n best r model s q m
step-holds w s n best r (Proof failed lines) q p = refuted-holds w n best r failed lines s q p
step-holds w s n best r (AllSpent k) q u = unknown-holds w n best r (Spent k) q
step-holds w s n best r AllStarved q u = unknown-holds w n best r Starved q

search-holds : (w : Instance) (asked : List Asked) (end : Next (Option Solution) Optimum) → IsServed w → AreSupported (variables_in w) (clauses_in w) asked → Leads (step w) (first w) asked end → Holds w (length asked) end
search-holds w asked end s t l =
    let none : 0 + length asked ≡ length asked = omega arith in
    subst (λ (k : ℕ). Holds w k end) none (course-keeps (step w) (variables_in w) (clauses_in w) (Holds w) (λ n best r told q h. step-holds w s n best r told q h) 0 (first w) asked end (refl, refl) t l)

question-of : (w : Instance) (n : ℕ) (best : Option Solution) (r : Posted) → IsServed w → IsAsked w n best r → IsQuestion w n best r
question-of w n None r s q = let none = q.0 in record { posted = ap is_posted q.1 ∙ opening-posted w s; few = omega arith; asked = q }
question-of w n (Some best) r s q =
    let some = q.costs in
    let room = q.fallen in
    let few = solution-few w best q.solution in
    record { posted = ap is_posted q.less ∙ cheaper-posted w best.cost s some few; few = omega arith; asked = q }

pub search-asks : SearchAsks
search-asks w asked best r s t l = question-of w (length asked) best r s (search-holds w asked (Asks best r) s t l)

pub search-is-right : SearchIsRight
search-is-right w asked optimum s t l = search-holds w asked (Ends optimum) s t l

-- the state of a search is the solution in the last model
state-is-last : (w : Instance) (s : Option Solution) (r : Posted) (asked : List Asked) (t : Option Solution) (q : Posted) → Leads (step w) (Asks s r) asked (Asks t q) → t ≡ fold (λ (best : Option Solution) (x : Asked). after_told w best x.told) s asked
state-is-last w s r [] t q l = inner l
  where
    inner : ◌≡◌ {A = Next (Option Solution) Optimum} (Asks s r) (Asks t q) → t ≡ s
    inner e = cc
state-is-last w s r (x ∷ xs) t q l = by_told x.told l.1 (λ a b k. state-is-last w a b xs t q k)
  where
    ended : (o : Optimum) (ys : List Asked) → Leads (step w) (Ends o) ys (Asks t q) → ⊥
    ended o [] e = absurd (cc)
    ended o (y ∷ ys) e = e

    by_told : (told : ReplyBody) → Leads (step w) (step w s told) xs (Asks t q) → ((a : Option Solution) (b : Posted) → Leads (step w) (Asks a b) xs (Asks t q) → t ≡ fold (λ (best : Option Solution) (y : Asked). after_told w best y.told) a xs) → t ≡ fold (λ (best : Option Solution) (y : Asked). after_told w best y.told) (after_told w s told) xs
    by_told (Model model) k rest = by_cost ((solution_in w model).cost == 0) k
      where
        by_cost : (b : Bool) → Leads (step w) (cond b (Ends (Best (solution_in w model) [])) (Asks (Some (solution_in w model)) (cheaper w (solution_in w model).cost))) xs (Asks t q) → t ≡ fold (λ (best : Option Solution) (y : Asked). after_told w best y.told) (Some (solution_in w model)) xs
        by_cost true h = absurd (ended (Best (solution_in w model) []) xs h)
        by_cost false h = rest (Some (solution_in w model)) (cheaper w (solution_in w model).cost) h
    by_told (Proof failed lines) k rest = absurd (ended (concluded s lines) xs k)
    by_told (AllSpent n) k rest = absurd (ended (Unknown s (Spent n)) xs k)
    by_told AllStarved k rest = absurd (ended (Unknown s Starved) xs k)

-- a course that ends after a question was at that question before
pub record WasAsked (w : Instance) (now : Next (Option Solution) Optimum) (asked : List Asked) (x : Asked) (optimum : Optimum) : Type 0 where
  pub best : Option Solution
  pub revision : Posted
  pub before : Leads (step w) now asked (Asks best revision)
  pub behind : step w best x.told ≡ Ends optimum

was-asked : (w : Instance) (now : Next (Option Solution) Optimum) (asked : List Asked) (x : Asked) (optimum : Optimum) → Leads (step w) now (asked ++ x ∷ []) (Ends optimum) → WasAsked w now asked x optimum
was-asked w (Ends o) [] x optimum l = absurd l
was-asked w (Asks s r) [] x optimum l = record { best = s; revision = r; before = refl; behind = l.1 }
was-asked w (Ends o) (y ∷ ys) x optimum l = absurd l
was-asked w (Asks s r) (y ∷ ys) x optimum l =
    let h = was-asked w (step w s y.told) ys x optimum l.1 in
    record { best = h.best; revision = h.revision; before = (l.0, h.before); behind = h.behind }

unknown-from : (w : Instance) (best : Option Solution) (cause : Cause) → step w best (unknown cause) ≡ Ends (Unknown best cause)
unknown-from w best (Spent n) = refl
unknown-from w best Starved = refl

same-end : (o p : Optimum) → ◌≡◌ {A = Next (Option Solution) Optimum} (Ends o) (Ends p) → o ≡ p
same-end o p e = cc

unknown-back : (w : Instance) (best other : Option Solution) (told : ReplyBody) (cause : Cause) → step w best told ≡ Ends (Unknown other cause) → told ≡ unknown cause
unknown-back w best other (Model model) cause e = by_cost ((solution_in w model).cost == 0) e
  where
    by_cost : (b : Bool) → cond b (Ends (Best (solution_in w model) [])) (Asks (Some (solution_in w model)) (cheaper w (solution_in w model).cost)) ≡ Ends (Unknown other cause) → Model model ≡ unknown cause
    by_cost true q = absurd (let same = same-end (Best (solution_in w model) []) (Unknown other cause) q in cc)
    by_cost false q = absurd (cc)
unknown-back w None other (Proof failed lines) cause e = absurd (let same = same-end (NoModel lines) (Unknown other cause) e in cc)
unknown-back w (Some best) other (Proof failed lines) cause e = absurd (let same = same-end (Best best lines) (Unknown other cause) e in cc)
unknown-back w best other (AllSpent n) cause e = by_cause cause (same-end (Unknown best (Spent n)) (Unknown other cause) e)
  where
    by_cause : (c : Cause) → Unknown best (Spent n) ≡ Unknown other c → AllSpent n ≡ unknown c
    by_cause (Spent m) q = let same : n ≡ m = cc in ap AllSpent same
    by_cause Starved q = absurd (cc)
unknown-back w best other AllStarved cause e = by_cause cause (same-end (Unknown best Starved) (Unknown other cause) e)
  where
    by_cause : (c : Cause) → Unknown best Starved ≡ Unknown other c → AllStarved ≡ unknown c
    by_cause (Spent m) q = absurd (cc)
    by_cause Starved q = refl

pub unknown-is-told : UnknownIsTold
unknown-is-told w asked x optimum cause l =
    let h = was-asked w (first w) asked x optimum l in
    let last : h.best ≡ last_solution w asked = state-is-last w None (opening w) asked h.best h.revision h.before in (
      λ e. same-end optimum (Unknown (last_solution w asked) cause) (sym h.behind ∙ ap (λ (told : ReplyBody). step w h.best told) e ∙ unknown-from w h.best cause ∙ ap (λ (b : Option Solution). Ends (Unknown b cause)) last),
      λ e. unknown-back w h.best (last_solution w asked) x.told cause (h.behind ∙ ap (λ (o : Optimum). Ends o) e),
    )
