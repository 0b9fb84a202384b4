-- The laws, from the lemmas of the other files.
use Rattle.std.proofs.Common.{◌≡◌, ℕ, true, List, [], ◌∷◌, Option, Result, Ok, Err, refl, sym, ap, ◌∙◌, subst}
use Rattle.std.specs.List.{list_all}
use Rattle.mal_base.specs.Formulas.{Formulated, is_within, is_clause_of}
use Rattle.mal_base.proofs.Sorting.{and-left, and-right, and-both}
use Rattle.mal_base.specs.declared.block_fault.BlockFault.{BlockFault}
use Rattle.spec_dimacs.specs.Merged.{IsClauseOf, AreClausesOf}
use Rattle.spec_dimacs.specs.Written.{spelling}
use Rattle.spec_dimacs.specs.Laws.{SpellingIsRead, SpellsOne, SpelledIsFormula, WrittenIsSpelled, WrittenIsRead, LiteralsMakeOne}
use Rattle.spec_dimacs.proofs.Merging.{clause_of-made, clause_of-unique, clause_within}
use Rattle.spec_dimacs.proofs.Spelled.{read_is_spelled, spelled_is_read}
use Rattle.spec_dimacs.proofs.Again.{written_is_spelled}

pub spelling_is_read : SpellingIsRead
spelling_is_read text formula = (spelled_is_read text formula, read_is_spelled text formula)

read_formula : Formulated → Result Formulated (ℕ × BlockFault)
read_formula f = Ok f

the_formula : Formulated → Result Formulated (ℕ × BlockFault) → Formulated
the_formula f (Ok g) = g
the_formula f (Err e) = f

same_formula : (f g : Formulated) → read_formula f ≡ read_formula g → f ≡ g
unfolding the_formula read_formula
same_formula f g e = ap (the_formula f) e

pub spells_one : SpellsOne
unfolding read_formula
spells_one text f g is is' = same_formula f g (sym (spelled_is_read text f is) ∙ spelled_is_read text g is')

-- clauses of literals of some variables are of these variables
pub clauses_within : (v : ℕ) (lists : List (List ℕ)) (clauses : List (Option (List ℕ))) → list_all (is_within v) lists ≡ true → AreClausesOf lists clauses → list_all (is_clause_of v) clauses ≡ true
clauses_within v [] [] h is = refl
clauses_within v [] (c ∷ cs) h is = absurd is
clauses_within v (l ∷ ls) [] h is = absurd is
clauses_within v (l ∷ ls) (c ∷ cs) h is = and-both _ _ (clause_within v l c (and-left _ _ h) is.0) (clauses_within v ls cs (and-right (is_within v l) _ h) is.1)

pub spelled_is_formula : SpelledIsFormula
spelled_is_formula text formula is = and-both _ _ is.limits (clauses_within formula.variables is.lists formula.clauses is.within is.clauses)

pub written_spelled : WrittenIsSpelled
written_spelled formula h = written_is_spelled formula h

pub written_is_read : WrittenIsRead
written_is_read formula h = spelled_is_read (spelling formula) formula (written_is_spelled formula h)

pub literals_make_one : LiteralsMakeOne
literals_make_one lits clause = (clause_of-unique lits clause, λ e. subst (IsClauseOf lits) (sym e) (clause_of-made lits))
