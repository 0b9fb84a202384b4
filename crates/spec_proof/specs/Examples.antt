use Rattle.std.specs.Prelude.{◌≡◌, ℕ, List, [], ◌∷◌, length, Option, Some}
use Rattle.mal_base.specs.NumberedClause.{Line}
use Rattle.spec_logic.specs.Refutation.{IsProof, IsRefutation, numbered}
use Rattle.spec_proof.specs.Log.{proof_of}
use Rattle.spec_proof.specs.Trimmed.{reached, renumbered}

abbrev pub line : ℕ → List ℕ → List ℕ → Line
line id lits hints = record { id = id; lits = lits; hints = hints }

abbrev pub trimmed : ℕ → ℕ → List Line → List Line
trimmed m goal lines = renumbered m (reached goal lines)

-- the clauses 1 and -1; the empty clause alone; the clauses 1 2, 1 -2, -1 2 and -1 -2
abbrev pub two : List (Option (List ℕ))
two = Some (2 ∷ []) ∷ Some (3 ∷ []) ∷ []

abbrev pub none : List (Option (List ℕ))
none = Some [] ∷ []

abbrev pub four : List (Option (List ℕ))
four = Some (2 ∷ 4 ∷ []) ∷ Some (2 ∷ 5 ∷ []) ∷ Some (3 ∷ 4 ∷ []) ∷ Some (3 ∷ 5 ∷ []) ∷ []

-- a log over these four, of two solvers: a line that the empty clause needs stands after one with a greater number,
-- and one line is not needed
abbrev pub log : List Line
log = line 4294967297 (4 ∷ []) (1 ∷ 3 ∷ []) ∷ line 4294967296 (2 ∷ []) (1 ∷ 2 ∷ []) ∷ line 4294967360 [] (4294967296 ∷ 3 ∷ 4 ∷ []) ∷ []

-- what is trimmed of these logs
pub record HasTrims : Type 0 where
  pub both_signs : trimmed (length two) 4294967296 (line 4294967296 [] (1 ∷ 2 ∷ []) ∷ []) ≡ line 3 [] (1 ∷ 2 ∷ []) ∷ []
  pub empty_original : trimmed (length none) 4294967296 (line 4294967296 [] (1 ∷ []) ∷ []) ≡ line 2 [] (1 ∷ []) ∷ []
  pub needed : reached 4294967360 log ≡ line 4294967296 (2 ∷ []) (1 ∷ 2 ∷ []) ∷ line 4294967360 [] (4294967296 ∷ 3 ∷ 4 ∷ []) ∷ []
  pub four_clauses : trimmed (length four) 4294967360 log ≡ line 5 (2 ∷ []) (1 ∷ 2 ∷ []) ∷ line 6 [] (5 ∷ 3 ∷ 4 ∷ []) ∷ []
  pub other_goal : trimmed (length four) 4294967297 log ≡ line 5 (4 ∷ []) (1 ∷ 3 ∷ []) ∷ []
  pub no_goal : reached 4294967298 log ≡ []
  pub rising : reached 4294967360 (line 4294967297 (4 ∷ []) (1 ∷ 3 ∷ []) ∷ line 4294967296 (2 ∷ []) (1 ∷ 2 ∷ []) ∷ line 4294967360 [] (4294967297 ∷ 4294967296 ∷ 4 ∷ []) ∷ []) ≡ line 4294967296 (2 ∷ []) (1 ∷ 2 ∷ []) ∷ line 4294967297 (4 ∷ []) (1 ∷ 3 ∷ []) ∷ line 4294967360 [] (4294967297 ∷ 4294967296 ∷ 4 ∷ []) ∷ []

-- the log is derived from its originals, and what is trimmed of it refutes them
pub record HasRefutations : Type 0 where
  pub derived : IsProof (numbered four) (proof_of log)
  pub refuted : IsRefutation four [] (proof_of (trimmed (length four) 4294967360 log))
