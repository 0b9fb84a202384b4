-- What an answer of reading says of the grammar.
use Rattle.std.proofs.Common.{◌≡◌, ℕ, true, Result, Ok, Err, IfOk, MatchResult, List, sym, ◌∙◌, subst, ap, refl}
use Rattle.mal_base.specs.Formulas.{Formulated, is_formula}
use Rattle.mal_base.specs.declared.block_fault.BlockFault.{BlockFault}
use Rattle.spec_dimacs.specs.Grammar.{Spells}
use Rattle.spec_dimacs.specs.Reading.{read_text}
use Rattle.spec_dimacs.specs.Written.{spelling}
use Rattle.spec_dimacs.proofs.Spelled.{read_is_spelled, spelled_is_read}
use Rattle.spec_dimacs.proofs.Again.{written_is_spelled}
use Rattle.mal_dimacs.specs.declared.fault.DimacsFault.{DimacsFault}
use Rattle.mal_dimacs.specs.declared.fault.DimacsFault.TheVariants.{Fault, OutOfMemory}
use Rattle.mal_dimacs.specs.Reads.{GivesAt}

-- the formula that is answered is spelled
pub spelled : (result : Result Formulated DimacsFault) (text : List ℕ) → GivesAt result (read_text text) → IfOk result (λ f. Spells text f)
spelled (Ok f) text e = read_is_spelled text f e
spelled (Err x) text e = tt

the_formula : Formulated → Result Formulated (ℕ × BlockFault) → Formulated
the_formula f (Ok g) = g
the_formula f (Err e) = f

-- the formula that is spelled is answered
pub answered : (result : Result Formulated DimacsFault) (text : List ℕ) (f : Formulated) → GivesAt result (read_text text) → Spells text f → MatchResult result (λ g. g ≡ f) (λ e. e ≡ OutOfMemory)
unfolding the_formula
answered (Ok g) text f e is = ap (the_formula g) (sym e ∙ spelled_is_read text f is)
answered (Err OutOfMemory) text f e is = refl
answered (Err (Fault line fault)) text f e is = let read = spelled_is_read text f is in absurd (cc)

-- the formula of the text that it is written as is answered
pub answered_again : (result : Result Formulated DimacsFault) (text : List ℕ) (f : Formulated) → GivesAt result (read_text text) → is_formula f ≡ true → text ≡ spelling f → MatchResult result (λ g. g ≡ f) (λ e. e ≡ OutOfMemory)
answered_again result text f e h q = answered result text f e (subst (λ (t : List ℕ). Spells t f) (sym q) (written_is_spelled f h))
