-- The grammar of claims: which claim a text spells.
use Rattle.std.specs.Prelude.{◌≡◌, ℕ, true, List, [], ◌∷◌, ◌++◌, ◌⊎◌, length, codes}
use Rattle.std.specs.List.{list_all}
use Rattle.spec_dimacs.specs.Rows.{is_passed, rows_of}
use Rattle.spec_dimacs.specs.Grammar as dimacs
use Rattle.spec_script.specs.Grammar.{Assumes}
use Rattle.mal_instance.specs.Rows.{is_formula_row}
use Rattle.mal_claim.specs.ProofGrammar.{SpellLines}
use Rattle.mal_claim.specs.Claims.{Claim, ending}

-- what may stand between the formula and the line `proof`: nothing, or a line of assumptions, which begins with the
-- word `a`, and then such lines as are passed over
abbrev pub AreAssumed : ℕ → List (List (List ℕ)) → List ℕ → Type 0
AreAssumed variables rows lits =
    ((rows ≡ []) × (lits ≡ []))
    ⊎ ((words : List (List ℕ)) × (others : List (List (List ℕ))) × (rows ≡ (codes "a" ∷ words) ∷ others) × Assumes variables words lits × (list_all is_passed others ≡ true))

-- a text spells a claim: its lines are those of a text that spells the formula, of which none begins with `a` or
-- `proof`, maybe the assumptions, the line `proof`, and the lines of a proof from the formula's clauses
pub record Spells (text : List ℕ) (claim : Claim) : Type 0 where
  pub first : List ℕ
  pub between : List (List (List ℕ))
  pub last : List (List (List ℕ))
  pub rows : rows_of text ≡ rows_of first ++ (between ++ (codes "proof" ∷ []) ∷ last)
  pub inside : list_all (is_formula_row ending) (rows_of first) ≡ true
  pub formula : dimacs.Spells first claim.formula
  pub assumed : AreAssumed claim.formula.variables between claim.assumptions
  pub lines : SpellLines 1 (length claim.formula.clauses) last claim.lines
