-- The clause of some literals, as it is made.
use Rattle.std.proofs.Common.{◌≡◌, ◌≢◌, ℕ, Bool, true, false, List, sym}
use Rattle.mal_base.specs.Clauses.{rises, IsTautology, HaveSame}
use Rattle.mal_base.specs.Formulas.{is_within, is_clause_of}
use Rattle.spec_dimacs.specs.Merged.{clause_of, IsClauseOf}
use Rattle.spec_dimacs.proofs.Merging.{clause_of-unique, clause_within}
use Rattle.mal_dimacs.specs.Merged.{merged}

-- what is made is what the literals make
made : (b : Bool) (lits sorted : List ℕ) → b ≡ rises sorted → (rises sorted ≢ true → IsTautology lits) → HaveSame lits sorted → IsClauseOf lits (merged b sorted)
made true lits sorted e both same = (sym e, same)
made false lits sorted e both same = both (λ up. absurd (cc (e, up)))

pub made_value : (b : Bool) (lits sorted : List ℕ) → b ≡ rises sorted → (rises sorted ≢ true → IsTautology lits) → HaveSame lits sorted → merged b sorted ≡ clause_of lits
made_value b lits sorted e both same = clause_of-unique lits (merged b sorted) (made b lits sorted e both same)

pub made_form : (v : ℕ) (b : Bool) (lits sorted : List ℕ) → is_within v lits ≡ true → b ≡ rises sorted → (rises sorted ≢ true → IsTautology lits) → HaveSame lits sorted → is_clause_of v (merged b sorted) ≡ true
made_form v b lits sorted h e both same = clause_within v lits (merged b sorted) h (made b lits sorted e both same)
