-- A verdict that is written at the front of bytes is read from there.
use Rattle.std.proofs.Common.{◌≡◌, ℕ, ◌<◌, ◌≤◌, ◌^◌, Bool, true, false, List, [], ◌∷◌, ◌++◌, map, length, Option, Some, None, refl, sym, ap, ◌∙◌, arith}
use Rattle.std.specs.Prelude.{◌==◌, if◌then◌else◌, option_map, option_and_then}
use Rattle.std.specs.Int.{w64}
use Rattle.std.proofs.lemmas.Bool.{ne_eqb}
use Rattle.std.proofs.lemmas.List.{length-map}
use Rattle.mal_base.specs.declared.answer.Answer.{Answer}
use Rattle.mal_base.specs.declared.answer.Answer.TheVariants.{Satisfied, Refuted, Spent, OutOfStarts}
use Rattle.mal_freeze.specs.Spelling.{spelled, phase_code}
use Rattle.spec_parcel.specs.Packed.{answer_bytes}
use Rattle.mal_parcel.specs.Answered.{answer_at, given_at, goal_at, model_at}
use Rattle.mal_parcel.proofs.TakeLemmas.{front-again, number-again, phase-again}

-- a verdict of a job of so many variables by then: a model has a value for each, and 8 bytes hold a goal
abbrev pub IsVerdict : ℕ → Answer → Type 0
IsVerdict variables (Satisfied model) = length model ≡ variables
IsVerdict variables (Refuted goal) = (1 ≤ goal) × (goal < 2 ^ 64)
IsVerdict variables (Spent slices) = ⊥
IsVerdict variables OutOfStarts = ⊥

-- it comes next
pub record ComesNext (variables : ℕ) (bytes : List ℕ) (answer : Answer) : Type 0 where
  pub verdict : IsVerdict variables answer
  pub more : List ℕ
  pub front : bytes ≡ answer_bytes answer ++ more

-- the values of a model are read from their bytes
values-again : (model : List Bool) → map (λ (b : ℕ). b == 1) (map phase_code model) ≡ model
values-again [] = refl
values-again (value ∷ model) = ap (λ (b : Bool). b ∷ map (λ (n : ℕ). n == 1) (map phase_code model)) (phase-again value) ∙ ap (λ (rest : List Bool). value ∷ rest) (values-again model)

model-again : (model : List Bool) (more : List ℕ) → model_at (length model) (map phase_code model ++ more) ≡ Some (Some (Satisfied model), more)
model-again model more =
    let bytes : List ℕ = map phase_code model in
    ap (λ (n : ℕ). model_at n (bytes ++ more)) (sym (length-map model phase_code))
    ∙ (ap (option_map (λ (m : List ℕ × List ℕ). (Some (Satisfied (map (λ (b : ℕ). b == 1) m.0)), m.1))) (front-again bytes more)
    ∙ ap (λ (values : List Bool). Some (Some (Satisfied values), more)) (values-again model))

goal-again : (goal : ℕ) (more : List ℕ) → 1 ≤ goal → goal < 2 ^ 64 → goal_at (spelled w64 goal ++ more) ≡ Some (Some (Refuted goal), more)
goal-again goal more some fits =
    let other : (goal == 0) ≡ false = ne_eqb goal 0 (λ e. absurd (omega (arith, e, some))) in
    ap (option_and_then (λ (n : ℕ × List ℕ). if n.0 == 0 then None else Some (Some (Refuted n.0), n.1))) (number-again goal more fits)
    ∙ ap (λ (b : Bool). if b then None else Some (Some (Refuted goal), more)) other

verdict-again : (variables : ℕ) (answer : Answer) (more : List ℕ) → IsVerdict variables answer → answer_at variables (answer_bytes answer ++ more) ≡ Some (Some answer, more)
verdict-again variables (Satisfied model) more h = ap (λ (n : ℕ). model_at n (map phase_code model ++ more)) (sym h) ∙ model-again model more
verdict-again variables (Refuted goal) more h = goal-again goal more h.0 h.1
verdict-again variables (Spent slices) more h = absurd h
verdict-again variables OutOfStarts more h = absurd h

pub given-again : (variables : ℕ) (bytes : List ℕ) (answer : Answer) → ComesNext variables bytes answer → given_at true variables bytes ≡ Some (Some answer)
given-again variables bytes answer next =
    ap (λ (bs : List ℕ). option_map (λ (a : Option Answer × List ℕ). a.0) (answer_at variables bs)) next.front
    ∙ ap (option_map (λ (a : Option Answer × List ℕ). a.0)) (verdict-again variables answer next.more next.verdict)
