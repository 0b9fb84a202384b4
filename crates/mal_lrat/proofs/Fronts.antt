-- What is read word by word, with what was read before in front of it.
use Rattle.std.proofs.Common.{true, ◌≡◌, ◌≢◌, ℕ, List, ◌++◌, Option, Some, None, Result, Ok, Err, IfOk, MatchOption, sym, ap, ◌∙◌}
use Rattle.mal_base.specs.Clauses.{rises, IsTautology, HaveSame}
use Rattle.spec_lrat.specs.Reading.{reading}
use Rattle.spec_lrat.specs.Grammar.{Spells}
use Rattle.spec_lrat.proofs.SpelledLemmas.{spells-read}
use Rattle.mal_lrat.specs.declared.line.Line.{Line}
use Rattle.mal_lrat.specs.declared.fault.LineFault.{LineFault}
use Rattle.mal_lrat.specs.LineView.{seen}
use Rattle.mal_lrat.specs.Answers.{Gives}
use Rattle.spec_dimacs.specs.Merged.{clause_of}
use Rattle.spec_lrat.proofs.MergedLemmas.{one_clause}

abbrev pub behind : {A : Type 0} → List A → Option (List A) → Option (List A)
behind front None = None
behind front (Some xs) = Some (front ++ xs)

-- the clause of literals is the one that they make
pub clause-made : {E : Type 0} (r : Result (Option (List ℕ)) E) (lits : List ℕ) → IfOk r (λ o. MatchOption o (IsTautology lits) (λ c. IsTautology lits → ⊥)) → IfOk r (λ o. MatchOption o (IsTautology lits) (λ c. rises c ≡ true)) → IfOk r (λ o. MatchOption o (IsTautology lits) (λ c. HaveSame lits c)) → IfOk r (λ o. o ≡ clause_of lits)
clause-made (Err e) lits n u s = tt
clause-made (Ok None) lits n u s = sym ((one_clause lits None).0 n)
clause-made (Ok (Some c)) lits n u s = sym ((one_clause lits (Some c)).0 (u, s))

-- literals that rise are their clause
pub rising-made : (lits : List ℕ) (o : Option (List ℕ)) (made : List ℕ) → MatchOption o (rises lits ≢ true) (λ c. (c ≡ lits) × (rises lits ≡ true)) → o ≡ Some made → Some made ≡ clause_of lits
rising-made lits None made h e = absurd (cc)
rising-made lits (Some c) made h e = sym e ∙ (ap (λ (d : List ℕ). Some d) h.0 ∙ sym ((one_clause lits (Some lits)).0 (h.1, record { there = λ x k. k; back = λ x k. k })))

-- what was read is spelled
pub read-spelled : (last : ℕ) (row : List (List ℕ)) (r : Result Line LineFault) → Gives seen r (reading last row) → IfOk r (λ line. Spells last row (seen line))
read-spelled last row (Ok line) e = (spells-read last row (seen line)).1 e
read-spelled last row (Err e) h = tt
