use Rattle.std.specs.Prelude.{◌≡◌, ℕ, ◌+◌, ◌<◌, ◌≤◌, Bool, true, List, ◌++◌, length, take, fold, max, flat_map, slice_get, Option, Some}
use Rattle.std.specs.List.{list_all}
use Rattle.mal_base.specs.declared.answer.Answer.{Answer}
use Rattle.mal_base.specs.declared.answer.Answer.TheVariants.{Satisfied}
use Rattle.mal_revision.specs.Posted.{Posted}
use Rattle.spec_logic.specs.Logic.{satisfies, is_true_in}
use Rattle.spec_job.specs.SoloMachine.{SoloMachine}

-- the clauses of these revisions
abbrev pub clauses_of : List Posted → List (Option (List ℕ))
clauses_of revisions = flat_map (λ p. p.clauses) revisions

-- the clauses of the revisions up to and with this one, counted from 0
abbrev pub clauses_through : List Posted → ℕ → List (Option (List ℕ))
clauses_through revisions r = clauses_of (take (r + 1) revisions)

-- how many variables these revisions have: the most that one of them has
abbrev pub variables_of : List Posted → ℕ
variables_of revisions = fold (λ (v : ℕ) (p : Posted). max v p.variables) 0 revisions

-- how many variables a job has at this revision, counted from 0
abbrev pub variables_through : List Posted → ℕ → ℕ
variables_through revisions r = variables_of (take (r + 1) revisions)

-- a revision was posted, an assignment satisfies the clauses of the revisions up to it, each of its assumptions is true
-- in that, and the assignment is whole: it has a value for each variable of these revisions, and no more
pub record SolvesRevision (revisions : List Posted) (r : ℕ) (model : List Bool) : Type 0 where
  pub posted : r < length revisions
  pub satisfied : satisfies model (clauses_through revisions r) ≡ true
  pub assumed : (p : Posted) → slice_get revisions r ≡ Some p → list_all (is_true_in model) p.assumptions ≡ true
  pub whole : length model ≡ variables_through revisions r

-- each satisfiable answer carries a model of its revision
abbrev pub AnswersSolve : SoloMachine → Type 0
AnswersSolve s = (r : ℕ) (model : List Bool) → slice_get s.answers r ≡ Some (Satisfied model) → SolvesRevision s.revisions r model

-- no revision is answered before it is posted
abbrev pub AnswersFollow : SoloMachine → Type 0
AnswersFollow s = length s.answers ≤ length s.revisions

-- the answers of a later state begin with those of an earlier one
pub record KeepsAnswers (before after : SoloMachine) : Type 0 where
  pub more : List Answer
  pub kept : after.answers ≡ before.answers ++ more
