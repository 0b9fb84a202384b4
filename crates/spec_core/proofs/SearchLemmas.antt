use Rattle.std.proofs.Common.{◌≡◌, ℕ, suc, ◌+◌, ◌-◌, ◌/◌, ◌≤◌, Bool, true, false, cond, ◌&&◌, ◌==◌, nat_le, List, [], ◌∷◌, ◌++◌, length, length-append, Option, Some, None, refl, sym, ap, subst, ◌∙◌, arith}
use Rattle.std.specs.Prelude.{Contains, remove}
use Rattle.std.specs.List.{list_all}
use Rattle.std.proofs.lemmas.Bool.{and_parts, and_from, eqb-true, eqb-false}
use Rattle.std.proofs.lemmas.List.Elements.{All-contains}
use Rattle.mal_base.specs.Limits.{limits}
use Rattle.mal_base.specs.Clauses.{rises}
use Rattle.mal_base.specs.Formulas.{is_within, is_clause_of, is_within_limits, literals_of}
use Rattle.mal_base.specs.NumberedClause.{Line}
use Rattle.mal_revision.specs.Posted.{Posted, is_posted}
use Rattle.spec_report.specs.Replies.{ReplyBody, Model, Proof, AllSpent, AllStarved}
use Rattle.spec_course.specs.Course.{Next, Asked, Leads, Cause, Spent, Starved, unknown}
use Rattle.spec_course.specs.Course.Next.{Asks, Ends}
use Rattle.spec_course.specs.Supported.{IsModel, IsProof, IsSupported, AreSupported}
use Rattle.spec_course.proofs.CourseLemmas.{course-goes-on, course-keeps}
use Rattle.spec_core.specs.Core.{Instance, Narrowed, Minimal, Core, Satisfiable, Unknown, opening, without_next, going, satisfied, models_of, step, first}
use Rattle.spec_core.specs.Right.{IsServed, IsNarrowed, IsRight}
use Rattle.spec_core.specs.Laws.{SearchGoesOn, IsAsked, IsQuestion, SearchAsks, SearchIsRight, UnknownIsTold}
use Rattle.spec_core.proofs.RisingLemmas.{Inside, inside-from, inside-shorter}
use Rattle.spec_core.proofs.RemovedLemmas.{all-inside, removed-inside, removed-rises}
use Rattle.spec_core.proofs.NarrowedLemmas.{one-model-more, proof-narrows, opening-narrows, all-minimal}

pub search-goes-on : SearchGoesOn
search-goes-on w = course-goes-on (step w)

-- what holds of what follows after so many questions
abbrev pub Holds : Instance → ℕ → Next (Option Narrowed) Minimal → Type 0
Holds w n (Asks c r) = IsAsked w n c r
Holds w n (Ends end) = IsRight w end × (n ≤ length w.assumptions + 1)

going-holds : (w : Instance) (n : ℕ) (c : Narrowed) → IsNarrowed w c → suc n + (length c.core - length c.models) ≤ length w.assumptions + 1 → Holds w (suc n) (going w c)
going-holds w n c h room = by_count (length c.models == length c.core) refl
  where
    by_count : (b : Bool) → (length c.models == length c.core) ≡ b → Holds w (suc n) (cond b (Ends (Core c)) (Asks (Some c) (without_next w c)))
    by_count true e = (all-minimal w c h (eqb-true (length c.models) (length c.core) e), omega arith)
    by_count false e =
        let differ = eqb-false (length c.models) (length c.core) e in
        let few = h.few in
        record { narrowed = h; next = omega arith; fewer = room; without = refl }

-- a core so far has assumptions alone
core-few : (w : Instance) (c : Narrowed) → IsServed w → IsNarrowed w c → length c.core ≤ length w.assumptions
core-few w c s h = inside-shorter c.core w.assumptions h.rising s.rising (inside-from c.core w.assumptions (λ l k. All-contains (Contains w.assumptions) c.core l h.given k))

model-holds : (w : Instance) (n : ℕ) (c : Option Narrowed) (r : Posted) (model : List Bool) → IsServed w → IsAsked w n c r → IsModel w.formula.variables w.formula.clauses r.assumptions model → Holds w (suc n) (satisfied w c model)
model-holds w n None r model s q m = let none = q.0 in (subst (λ (x : Posted). IsModel w.formula.variables w.formula.clauses x.assumptions model) q.1 m, omega arith)
model-holds w n (Some c) r model s q m =
    let under = subst (λ (x : Posted). IsModel w.formula.variables w.formula.clauses x.assumptions model) q.without m in
    let next = q.next in
    let fewer = q.fewer in
    let longer : length (c.models ++ model ∷ []) ≡ length c.models + 1 = length-append c.models (model ∷ []) in
    going-holds w n (record { core = c.core; lines = c.lines; models = c.models ++ model ∷ [] }) (one-model-more w c model q.narrowed next under) (omega arith)

proof-holds : (w : Instance) (n : ℕ) (c : Option Narrowed) (r : Posted) (failed : List ℕ) (lines : List Line) → IsServed w → IsAsked w n c r → IsProof w.formula.clauses r.assumptions failed lines → Holds w (suc n) (going w (record { core = failed; lines = lines; models = models_of c }))
proof-holds w n None r failed lines s q p =
    let narrowed = opening-narrows w failed lines (subst (λ (x : Posted). IsProof w.formula.clauses x.assumptions failed lines) q.1 p) in
    let few = core-few w (record { core = failed; lines = lines; models = [] }) s narrowed in
    let none = q.0 in
    going-holds w n (record { core = failed; lines = lines; models = [] }) narrowed (omega arith)
proof-holds w n (Some c) r failed lines s q p =
    let next = q.next in
    let fewer = q.fewer in
    let smaller = proof-narrows w c failed lines q.narrowed next (subst (λ (x : Posted). IsProof w.formula.clauses x.assumptions failed lines) q.without p) in
    let less = smaller.less in
    let few = smaller.narrowed.few in
    going-holds w n (record { core = failed; lines = lines; models = c.models }) smaller.narrowed (omega arith)

unknown-holds : (w : Instance) (n : ℕ) (c : Option Narrowed) (r : Posted) (cause : Cause) → IsAsked w n c r → Holds w (suc n) (Ends (Unknown cause))
unknown-holds w n None r cause q = let none = q.0 in (tt, omega arith)
unknown-holds w n (Some c) r cause q = let next = q.next in let fewer = q.fewer in (tt, omega arith)

step-holds : (w : Instance) → IsServed w → (n : ℕ) (c : Option Narrowed) (r : Posted) (told : ReplyBody) → IsAsked w n c r → IsSupported w.formula.variables w.formula.clauses r.assumptions told → Holds w (suc n) (step w c told)
step-holds w s n c r (Model model) q m = model-holds w n c r model s q m
step-holds w s n c r (Proof failed lines) q p = proof-holds w n c r failed lines s q p
step-holds w s n c r (AllSpent k) q u = unknown-holds w n c r (Spent k) q
step-holds w s n c r AllStarved q u = unknown-holds w n c r Starved q

search-holds : (w : Instance) (asked : List Asked) (end : Next (Option Narrowed) Minimal) → IsServed w → AreSupported w.formula.variables w.formula.clauses asked → Leads (step w) (first w) asked end → Holds w (length asked) end
search-holds w asked end s t l =
    let none : 0 + length asked ≡ length asked = omega arith in
    subst (λ (k : ℕ). Holds w k end) none (course-keeps (step w) w.formula.variables w.formula.clauses (Holds w) (λ n c r told q h. step-holds w s n c r told q h) 0 (first w) asked end (refl, refl) t l)

-- the questions may be posted
opening-posted : (w : Instance) → IsServed w → is_posted (opening w) ≡ true
opening-posted w s =
    and_from (is_within_limits w.formula.variables w.formula.clauses && list_all (is_clause_of w.formula.variables) w.formula.clauses) (rises w.assumptions && is_within w.formula.variables w.assumptions) s.formed
    (and_from (rises w.assumptions) (is_within w.formula.variables w.assumptions) s.rising s.within)

without-posted : (w : Instance) (c : Narrowed) → IsServed w → IsNarrowed w c → is_posted (without_next w c) ≡ true
without-posted w c s h =
    let v : ℕ = w.formula.variables in
    let others : List ℕ = remove c.core (length c.models) in
    let within = and_parts (is_within_limits v w.formula.clauses) (list_all (is_clause_of v) w.formula.clauses) s.formed in
    let two = and_parts (nat_le v limits.variables && nat_le (length w.formula.clauses) limits.clauses) (nat_le (literals_of w.formula.clauses) limits.literals) within.0 in
    let one = and_parts (nat_le v limits.variables) (nat_le (length w.formula.clauses) limits.clauses) two.0 in
    let given : Inside c.core w.assumptions = inside-from c.core w.assumptions (λ l k. All-contains (Contains w.assumptions) c.core l h.given k) in
    let within : is_within v others ≡ true = all-inside (λ (l : ℕ). nat_le 1 (l / 2) && nat_le (l / 2) v) others w.assumptions (λ x k. given x (removed-inside c.core (length c.models) x k)) s.within in
    and_from (is_within_limits v [] && true) (rises others && is_within v others)
    (and_from (is_within_limits v []) true (and_from (nat_le v limits.variables && true) true (and_from (nat_le v limits.variables) true one.0 refl) refl) refl)
    (and_from (rises others) (is_within v others) (removed-rises c.core (length c.models) h.rising) within)

question-of : (w : Instance) (n : ℕ) (c : Option Narrowed) (r : Posted) → IsServed w → IsAsked w n c r → IsQuestion w n c r
question-of w n None r s q = let none = q.0 in record { posted = ap is_posted q.1 ∙ opening-posted w s; few = omega arith; asked = q }
question-of w n (Some c) r s q =
    let next = q.next in
    let fewer = q.fewer in
    record { posted = ap is_posted q.without ∙ without-posted w c s q.narrowed; few = omega arith; asked = q }

pub search-asks : SearchAsks
search-asks w asked c r s t l = question-of w (length asked) c r s (search-holds w asked (Asks c r) s t l)

pub search-is-right : SearchIsRight
search-is-right w asked end s t l = search-holds w asked (Ends end) s t l

-- a course that ends after a question was at that question before
was-asked : (w : Instance) (now : Next (Option Narrowed) Minimal) (asked : List Asked) (x : Asked) (end : Minimal) → Leads (step w) now (asked ++ x ∷ []) (Ends end) → (c : Option Narrowed) × (step w c x.told ≡ Ends end)
was-asked w (Ends e) [] x end l = absurd l
was-asked w (Asks c r) [] x end l = (c, l.1)
was-asked w (Ends e) (y ∷ ys) x end l = absurd l
was-asked w (Asks c r) (y ∷ ys) x end l = was-asked w (step w c y.told) ys x end l.1

unknown-from : (w : Instance) (c : Option Narrowed) (cause : Cause) → step w c (unknown cause) ≡ Ends (Unknown cause)
unknown-from w c (Spent n) = refl
unknown-from w c Starved = refl

same-end : (e f : Minimal) → ◌≡◌ {A = Next (Option Narrowed) Minimal} (Ends e) (Ends f) → e ≡ f
same-end e f q = cc

-- going on is not unknown
going-known : (w : Instance) (c : Narrowed) (cause : Cause) → going w c ≡ Ends (Unknown cause) → ⊥
going-known w c cause e = by_count (length c.models == length c.core) e
  where
    by_count : (b : Bool) → cond b (Ends (Core c)) (Asks (Some c) (without_next w c)) ≡ Ends (Unknown cause) → ⊥
    by_count true q = let same = same-end (Core c) (Unknown cause) q in absurd (cc)
    by_count false q = absurd (cc)

unknown-back : (w : Instance) (c : Option Narrowed) (told : ReplyBody) (cause : Cause) → step w c told ≡ Ends (Unknown cause) → told ≡ unknown cause
unknown-back w None (Model model) cause e = absurd (let same = same-end (Satisfiable model) (Unknown cause) e in cc)
unknown-back w (Some c) (Model model) cause e = absurd (going-known w (record { core = c.core; lines = c.lines; models = c.models ++ model ∷ [] }) cause e)
unknown-back w c (Proof failed lines) cause e = absurd (going-known w (record { core = failed; lines = lines; models = models_of c }) cause e)
unknown-back w c (AllSpent n) cause e = by_cause cause (same-end (Unknown (Spent n)) (Unknown cause) e)
  where
    by_cause : (k : Cause) → Unknown (Spent n) ≡ Unknown k → AllSpent n ≡ unknown k
    by_cause (Spent m) q = let same : n ≡ m = cc in ap AllSpent same
    by_cause Starved q = absurd (cc)
unknown-back w c AllStarved cause e = by_cause cause (same-end (Unknown Starved) (Unknown cause) e)
  where
    by_cause : (k : Cause) → Unknown Starved ≡ Unknown k → AllStarved ≡ unknown k
    by_cause (Spent m) q = absurd (cc)
    by_cause Starved q = refl

pub unknown-is-told : UnknownIsTold
unknown-is-told w asked x end cause l =
    let h = was-asked w (first w) asked x end l in (
      λ e. same-end end (Unknown cause) (sym h.1 ∙ ap (λ (told : ReplyBody). step w h.0 told) e ∙ unknown-from w h.0 cause),
      λ e. unknown-back w h.0 x.told cause (h.1 ∙ ap (λ (o : Minimal). Ends o) e),
    )
