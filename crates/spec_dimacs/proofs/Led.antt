-- The formula that lines lead to is in form.
use Rattle.std.proofs.Common.{◌≡◌, ℕ, ◌≤◌, true, false, List, [], ◌∷◌, map, length, Ok, refl, sym, ap, ◌∙◌, subst, arith}
use Rattle.std.specs.List.{list_all, AllByRecursion}
use Rattle.std.proofs.lemmas.Bool.{le-leb}
use Rattle.std.proofs.lemmas.List.{length-map}
use Rattle.mal_base.specs.Limits.{limits}
use Rattle.mal_base.specs.Formulas.{Formulated, literals_of, is_formula, is_clause_of}
use Rattle.mal_base.proofs.Sorting.{and-both}
use Rattle.spec_dimacs.specs.Rows.{is_passed}
use Rattle.spec_dimacs.specs.Merged.{clause_of}
use Rattle.spec_dimacs.specs.Grammar.{words_in}
use Rattle.spec_dimacs.specs.Reading.{Block, after_rows, ended}
use Rattle.spec_dimacs.proofs.Steps.{block_after, Gathers, gathers}
use Rattle.spec_dimacs.proofs.Behind.{Leads, Splits, splits}
use Rattle.spec_dimacs.proofs.Spelled.{Opens, opens, Ends, ends, formula_at, block_of-after, clauses_made}
use Rattle.spec_dimacs.proofs.Laws.{clauses_within}

-- the lines after a header of these numbers
led-behind : (rest : List (List (List ℕ))) (v c : ℕ) (f : Formulated) (d : Block) → v ≤ limits.variables → c ≤ limits.clauses → AllByRecursion (λ row. is_passed row ≡ false) rest → after_rows rest (block_after v c [] []) ≡ Ok d → ended d ≡ Ok f → is_formula f ≡ true
unfolding formula_at
led-behind rest v c f d low few counted reads ended_ok =
    let split : Splits rest (block_after v c [] []) d = splits rest (block_after v c [] []) d counted refl reads in
    let g : Gathers v c [] [] (words_in split.body) split.last = gathers v c (words_in split.body) split.last [] [] refl refl (omega arith) split.reads in
    let last : ended (block_after v c g.all g.left) ≡ Ok f = ap ended (sym g.is) ∙ sym split.same ∙ ended_ok in
    let end : Ends v c g.all g.left f = ends v c g.all g.left f few last in
    let count : length (map clause_of g.all) ≡ c = length-map g.all clause_of ∙ end.count in
    let forms : list_all (is_clause_of v) (map clause_of g.all) ≡ true = clauses_within v g.all (map clause_of g.all) g.within (clauses_made g.all) in
    subst (λ (x : Formulated). is_formula x ≡ true) end.is (and-both _ _ (and-both _ _ (and-both _ _ (le-leb v limits.variables low) (le-leb (length (map clause_of g.all)) limits.clauses (omega arith))) (le-leb (literals_of (map clause_of g.all)) limits.literals g.few)) forms)

-- lines of which none is passed over and that lead to a formula
pub led_formula : (rows : List (List (List ℕ))) (f : Formulated) → AllByRecursion (λ row. is_passed row ≡ false) rows → Leads rows f → is_formula f ≡ true
led_formula rows f counted lead =
    let start : Opens lead.header lead.first = opens lead.header lead.first lead.opens in
    let same : lead.first ≡ block_after start.variables start.declared [] [] = sym start.is ∙ block_of-after start.variables start.declared in
    let each : AllByRecursion (λ row. is_passed row ≡ false) (lead.header ∷ lead.others) = subst (AllByRecursion (λ row. is_passed row ≡ false)) lead.halves counted in
    led-behind lead.others start.variables start.declared f lead.rest.behind start.few_variables start.few_clauses each.1 (ap (after_rows lead.others) (sym same) ∙ lead.rest.reads) lead.rest.ends
