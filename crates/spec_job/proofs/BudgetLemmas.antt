-- What answers leave of a job whose slices are within its budgets.
use Rattle.std.proofs.Common.{◌≡◌, ℕ, ◌+◌, ◌-◌, ◌*◌, ◌<◌, ◌≤◌, Bool, true, false, cond, ◌==◌, List, [], ◌∷◌, ◌++◌, length, replicate, Option, Some, None, inl, inr, ◌⊎◌, refl, ◌∙◌, ap, arith, length-append}
use Rattle.std.proofs.lemmas.Bool.{cases_lt}
use Rattle.std.proofs.lemmas.List.{length-replicate}
use Rattle.mal_base.specs.declared.answer.Answer.{Answer}
use Rattle.mal_base.specs.declared.answer.Answer.TheVariants.{Satisfied, Refuted, Spent, OutOfStarts}
use Rattle.mal_base.specs.declared.verdict.Verdict.{Verdict}
use Rattle.mal_base.specs.declared.verdict.Verdict.TheVariants.{Satisfiable, Unsatisfiable}
use Rattle.spec_node.specs.State.{Node}
use Rattle.spec_node.specs.Model.{model_of}
use Rattle.spec_job.specs.SoloMachine.{SoloMachine, answered, spend, starve, conclude, settled_by}
use Rattle.spec_job.specs.Counts.{runs_of, starts_out}
use Rattle.spec_job.proofs.SolvingLemmas.{IsSolvingSolo}
use Rattle.spec_job.proofs.FewLemmas.{outs_for, next-budget, budgets-more, none-ahead}

-- the slices run and out are no more than the budgets of the revisions with answers, and what the current one has used,
-- which is within its budget
pub record IsFew (slices : ℕ) (s : SoloMachine) : Type 0 where
  pub budget : s.ask.slices ≡ slices
  pub shared : s.spent + outs_for (length s.answers) s.places ≤ slices
  pub few : runs_of s.places + starts_out s.places ≤ length s.answers * slices + (s.spent + outs_for (length s.answers) s.places)
  pub idle : length s.answers ≡ length s.revisions → s.spent ≡ 0

-- a start has come back for the current revision, and its slice is not counted as spent
pub record IsBack (slices : ℕ) (s : SoloMachine) : Type 0 where
  pub budget : s.ask.slices ≡ slices
  pub shared : s.spent + outs_for (length s.answers) s.places + 1 ≤ slices
  pub few : runs_of s.places + starts_out s.places ≤ length s.answers * slices + (s.spent + outs_for (length s.answers) s.places + 1)
  pub live : length s.answers < length s.revisions
  pub ahead : outs_for (length s.answers + 1) s.places ≡ 0

answered-few : (slices : ℕ) (s : SoloMachine) (a : Answer) → IsBack slices s → IsFew slices (answered s a)
answered-few slices s a h =
    let long : length (s.answers ++ a ∷ []) ≡ length s.answers + 1 = length-append s.answers (a ∷ []) in
    let none : outs_for (length (s.answers ++ a ∷ [])) s.places ≡ 0 = ap (λ (n : ℕ). outs_for n s.places) long ∙ h.ahead in
    let product : length (s.answers ++ a ∷ []) * slices ≡ length s.answers * slices + slices = ap (λ (n : ℕ). n * slices) long ∙ next-budget (length s.answers) slices in
    record { budget = h.budget; shared = omega (arith, none); few = omega (arith, none, product, h.few, h.shared); idle = λ e. refl }

spend-few : (slices : ℕ) (s : SoloMachine) → IsBack slices s → IsFew slices (spend s)
spend-few slices s h = by_test (s.spent + 1 == s.ask.slices)
  where
    by_test : (b : Bool) → IsFew slices (cond b (answered s (Spent s.ask.slices)) (record s { spent = s.spent + 1 }))
    by_test true = answered-few slices s (Spent s.ask.slices) h
    by_test false = record { budget = h.budget; shared = omega (arith, h.shared); few = omega (arith, h.few); idle = λ e. absurd (omega (arith, e, h.live)) }

pub conclude-few : (slices : ℕ) (v : Option Verdict) (n : Node) (s : SoloMachine) → IsBack slices s → IsFew slices (conclude v n s)
conclude-few slices None n s h = spend-few slices s h
conclude-few slices (Some Satisfiable) n s h = answered-few slices s (Satisfied (model_of n)) h
conclude-few slices (Some (Unsatisfiable goal)) n s h = answered-few slices s (Refuted goal) h

pub starve-few : (slices : ℕ) (s : SoloMachine) → IsBack slices s → IsFew slices s → IsFew slices (starve s)
starve-few slices s h k = by_test (s.starved + 1 == 3)
  where
    by_test : (b : Bool) → IsFew slices (cond b (answered s OutOfStarts) (record s { starved = s.starved + 1 }))
    by_test true = answered-few slices s OutOfStarts h
    by_test false = record { budget = k.budget; shared = k.shared; few = k.few; idle = k.idle }

-- what an empty clause answers
pub settled-few : (slices : ℕ) (o : Option ℕ) (s : SoloMachine) → IsSolvingSolo s → IsFew slices s → IsFew slices (settled_by o s)
settled-few slices None s k h = h
settled-few slices (Some goal) s k h = record { budget = h.budget; shared = omega (arith, none); few = by_order (cases_lt (length s.answers) (length s.revisions)); idle = λ e. refl }
  where
    answers : List Answer
    answers = s.answers ++ replicate (length s.revisions - length s.answers) (Refuted goal)

    all : length answers ≡ length s.revisions
    all =
        let long : length answers ≡ length s.answers + length (replicate (length s.revisions - length s.answers) (Refuted goal)) = length-append s.answers (replicate (length s.revisions - length s.answers) (Refuted goal)) in
        let count : length (replicate (length s.revisions - length s.answers) (Refuted goal)) ≡ length s.revisions - length s.answers = length-replicate (length s.revisions - length s.answers) (Refuted goal) in
        let order : length s.answers ≤ length s.revisions = k.order in
        omega arith

    nothing : outs_for (length s.revisions) s.places ≡ 0
    nothing = none-ahead s (length s.revisions) k (inr (omega arith))

    none : outs_for (length answers) s.places ≡ 0
    none = ap (λ (n : ℕ). outs_for n s.places) all ∙ nothing

    product : length answers * slices ≡ length s.revisions * slices
    product = ap (λ (n : ℕ). n * slices) all

    by_order : (length s.answers < length s.revisions) ⊎ (length s.revisions ≤ length s.answers) → runs_of s.places + starts_out s.places ≤ length answers * slices + (0 + outs_for (length answers) s.places)
    by_order (inl low) =
        let most : length s.answers * slices + slices ≤ length s.revisions * slices = budgets-more (length s.answers) (length s.revisions) slices low in
        omega (arith, most, product, none, h.few, h.shared)
    by_order (inr high) =
        let order : length s.answers ≤ length s.revisions = k.order in
        let same : length s.answers ≡ length s.revisions = omega arith in
        let spent : s.spent ≡ 0 = h.idle same in
        let outs : outs_for (length s.answers) s.places ≡ 0 = ap (λ (n : ℕ). outs_for n s.places) same ∙ nothing in
        let equal : length s.answers * slices ≡ length s.revisions * slices = ap (λ (n : ℕ). n * slices) same in
        omega (arith, equal, product, none, spent, outs, h.few)
