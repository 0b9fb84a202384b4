-- What a solver keeps beside its value.
use Rattle.std.specs.Prelude.{◌≡◌, ◌≢◌, ℕ, List, [], ◌∷◌, ◌++◌, Option, None, is_some}
use Rattle.mal_base.specs.Clauses.{HaveSame}
use Rattle.spec_solving.specs.declared.refusal.Refusal.{Refusal}
use Rattle.spec_solving.specs.Solving.{Answer, Solving, Promises, IsClauseOf}
use Rattle.spec_solving.specs.Solving.Answer.{Open, Unknown}
use Rattle.mal_solving.specs.Loaded.{Loaded}

-- the value of a solver of these parts
abbrev pub solving_of : Loaded → List (Option (List ℕ)) → List ℕ → List ℕ → Option Refusal → Answer → Solving
solving_of loaded pending open_clause assumed refused answer = record {
  clauses = loaded.clauses ++ pending;
  open_clause = open_clause;
  assumed = assumed;
  refused = refused;
  proving = is_some loaded.kept;
  answer = answer;
}

-- its answer is what it promises to be, and none where an input was refused; while it is asked, the node has all clauses
-- and the assumptions, and no verdict
pub record IsSolving (loaded : Loaded) (pending : List (Option (List ℕ))) (s : Solving) : Type 0 where
  pub promises : Promises s.proving s.clauses s.assumed s.answer
  pub silent : s.refused ≢ None → s.answer ≡ Open
  pub whole : s.answer ≡ Unknown → pending ≡ []
  pub goes : s.answer ≡ Unknown → loaded.node.verdict ≡ None
  pub same : s.answer ≡ Unknown → loaded.node.assumptions ≡ s.assumed

-- clauses were loaded under assumptions, which have the same members
pub record IsLoadedWith (more : List (Option (List ℕ))) (assumed sorted : List ℕ) (old new : Loaded) : Type 0 where
  pub clauses : new.clauses ≡ old.clauses ++ more
  pub kept : new.kept ≡ old.kept
  pub calm : new.node.verdict ≡ None
  pub same : new.node.assumptions ≡ sorted
  pub members : HaveSame assumed sorted

-- the clause of these literals was put after others
abbrev pub IsPut : List ℕ → List (Option (List ℕ)) → List (Option (List ℕ)) → Type 0
IsPut lits before after = (clause : Option (List ℕ)) × IsClauseOf lits clause × (after ≡ before ++ clause ∷ [])
