-- A dialogue, step by step, and what answers promise.
use Rattle.std.specs.Prelude.{◌≡◌, true, false, [], ◌∷◌, Some}
use Rattle.spec_logic.specs.Logic.{satisfies_with}
use Rattle.spec_solving.specs.Solving.{Solving, Promises, fresh, reopened, with_literal, with_clause, with_assumption}
use Rattle.spec_solving.specs.Solving.Answer.{Unknown, Model, Core}

-- the clauses 1 2 and -1, under the assumption -2
abbrev pub asked : Solving
asked =
    let one : Solving = with_clause (Some (2 ∷ 4 ∷ [])) (with_literal 4 (with_literal 2 (fresh false))) in
    let two : Solving = with_clause (Some (3 ∷ [])) (with_literal 3 one) in
    record (with_assumption 5 two) { answer = Unknown }

abbrev pub refuted : Solving
refuted = record asked { answer = Core (5 ∷ []) [] }

-- each clause stands at its 0; an answer keeps all; with the next input the assumption is gone, and the clauses stay
pub record HasDialogue : Type 0 where
  pub clauses : asked.clauses ≡ Some (2 ∷ 4 ∷ []) ∷ Some (3 ∷ []) ∷ []
  pub closed : asked.open_clause ≡ []
  pub assumed : refuted.assumed ≡ 5 ∷ []
  pub over : (reopened refuted).assumed ≡ []
  pub stay : (reopened refuted).clauses ≡ asked.clauses
  pub next : (with_assumption 4 (reopened refuted)).assumed ≡ 4 ∷ []
  pub same : reopened (with_assumption 5 (fresh true)) ≡ with_assumption 5 (fresh true)

-- false, true satisfies both clauses without the assumption, and not with it
pub record HasPromises : Type 0 where
  pub model : Promises false asked.clauses [] (Model (false ∷ true ∷ []))
  pub not_assumed : satisfies_with (false ∷ true ∷ []) asked.clauses asked.assumed ≡ false
  pub core : Promises false asked.clauses asked.assumed (Core (5 ∷ []) [])
