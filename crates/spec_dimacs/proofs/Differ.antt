-- A text that a formula is written as is read as that formula.
use Rattle.std.proofs.Common.{◌≡◌, ℕ, List, [], ◌∷◌, Option, Some, None, refl, sym, ap, ◌∙◌, arith, Ok, Result}
use Rattle.mal_base.specs.Formulas.{Formulated}
use Rattle.mal_base.specs.declared.block_fault.BlockFault.{BlockFault}
use Rattle.spec_dimacs.specs.Reading.{read_text}
use Rattle.spec_dimacs.specs.Differ.{FormulasDiffer, of_two, HaveOtherTexts}
use Rattle.spec_dimacs.proofs.Laws.{written_is_read}

read-same : (f g : Formulated) → ◌≡◌ {A = Result Formulated (ℕ × BlockFault)} (Ok f) (Ok g) → f ≡ g
read-same f g e = cc

pub formulas-differ : FormulasDiffer
formulas-differ f g h k e = read-same f g (sym (written_is_read f h) ∙ (ap read_text e ∙ written_is_read g k))

clauses-same : (f g : Formulated) → f ≡ g → f.clauses ≡ g.clauses
clauses-same f g e = ap (λ (x : Formulated). x.clauses) e

-- the first literal of the first clause
first_lit : List (Option (List ℕ)) → ℕ
first_lit [] = 0
first_lit (None ∷ cs) = 0
first_lit (Some [] ∷ cs) = 0
first_lit (Some (l ∷ ls) ∷ cs) = l

in-order : (of_two (Some (2 ∷ []) ∷ Some (4 ∷ []) ∷ [])).clauses ≡ (of_two (Some (4 ∷ []) ∷ Some (2 ∷ []) ∷ [])).clauses → ⊥
unfolding first_lit
in-order e = let two : 2 ≡ 4 = ap first_lit e in absurd (omega (arith, two))

pub other-texts : HaveOtherTexts
other-texts = record {
  tautology = λ e. let same : (of_two (None ∷ [])).clauses ≡ (of_two (Some (2 ∷ []) ∷ [])).clauses = clauses-same _ _ (formulas-differ (of_two (None ∷ [])) (of_two (Some (2 ∷ []) ∷ [])) refl refl e) in absurd (cc);
  order = λ e. in-order (clauses-same _ _ (formulas-differ (of_two (Some (2 ∷ []) ∷ Some (4 ∷ []) ∷ [])) (of_two (Some (4 ∷ []) ∷ Some (2 ∷ []) ∷ [])) refl refl e));
  variables = λ e. let same : 2 ≡ 3 = ap (λ (x : Formulated). x.variables) (formulas-differ (of_two []) (record { variables = 3; clauses = [] }) refl refl e) in absurd (omega (arith, same));
}
