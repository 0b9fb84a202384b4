-- What a text spells is what is read of it, and is served.
use Rattle.std.proofs.Common.{◌≡◌, ℕ, List, Result, Ok, Err, ap, ◌∙◌, subst}
use Rattle.std.specs.Prelude.{IfOk}
use Rattle.mal_base.specs.Limits.{limits}
use Rattle.mal_base.specs.Clauses.{rises}
use Rattle.mal_base.specs.Formulas.{is_within}
use Rattle.mal_base.specs.declared.line_fault.LineFault.{LineFault}
use Rattle.spec_dimacs.specs.Reading.{◌>>=◌}
use Rattle.spec_dimacs.proofs.Laws.{spelled_is_formula}
use Rattle.spec_script.specs.Assumptions.{assumptions_in}
use Rattle.spec_script.proofs.Assumed.{assumes-read}
use Rattle.spec_script.proofs.AssumedForms.{assumed-formed, read-assumes}
use Rattle.spec_script.proofs.Inversions.{bind_ok, ok_is}
use Rattle.spec_core.specs.Core.{Instance}
use Rattle.spec_core.specs.Right.{IsServed}
use Rattle.mal_instance.specs.Reading as lits
use Rattle.mal_instance.specs.Reading.{Fault, wrong, at_most}
use Rattle.mal_instance.specs.Laws.{LitsAreRead}
use Rattle.mal_instance.specs.ReadResult.{Gives}
use Rattle.mal_instance.specs.declared.fault.InputFault.{InputFault}
use Rattle.mal_instance.proofs.FormulaLemmas.{and-left}
use Rattle.mal_instance.proofs.LitsLemmas.{wrong_ok, few-at_most, at_most-few}
use Rattle.mal_instance.proofs.ReadLemmas.{spelled-is-read}
use Rattle.mal_core.specs.Reading.{word, assumptions_of, instance_of, read_text}
use Rattle.mal_core.specs.Grammar.{SayAssumptions, Spells}
use Rattle.mal_core.specs.InputLaws.{SpelledIsRead, SpelledIsServed}
use Rattle.mal_core.specs.ReadResult.{seen_instance}
use Rattle.mal_core.specs.declared.input.Instance as declared

-- words say assumptions exactly where reading gives them
assumptions-read : LitsAreRead SayAssumptions assumptions_of
assumptions-read f words found = (there, back)
  where
    there : SayAssumptions f words found → assumptions_of f words ≡ Ok found
    there says =
        ap (λ (r : Result (List ℕ) LineFault). wrong r >>= at_most limits.assumptions) (assumes-read f.variables words found says.0)
        ∙ few-at_most limits.assumptions found says.1

    back : assumptions_of f words ≡ Ok found → SayAssumptions f words found
    back e =
        let a = bind_ok (wrong (assumptions_in f.variables words)) (at_most limits.assumptions) found e in
        let few = at_most-few limits.assumptions a.0 found a.2 in
        let read : assumptions_in f.variables words ≡ Ok a.0 = wrong_ok (assumptions_in f.variables words) a.0 a.1 in
        subst (λ (ls : List ℕ). SayAssumptions f words ls) few.1 (read-assumes f.variables words a.0 read, few.0)

abbrev lits_of : Instance → lits.Instance
lits_of w = record { formula = w.formula; literals = w.assumptions }

pub spelled_read : SpelledIsRead
spelled_read text w = (there, back)
  where
    there : Spells text w → read_text text ≡ Ok w
    there s = ap (λ (r : Result lits.Instance Fault). r >>= λ i. Ok (instance_of i)) ((spelled-is-read SayAssumptions assumptions_of assumptions-read word text (lits_of w)).0 s)

    back : read_text text ≡ Ok w → Spells text w
    back e =
        let i = bind_ok (lits.read_text word assumptions_of text) (λ i. Ok (instance_of i)) w e in
        let spelled = (spelled-is-read SayAssumptions assumptions_of assumptions-read word text i.0).1 i.1 in
        let same : instance_of i.0 ≡ w = ok_is (instance_of i.0) w i.2 in
        subst (λ (x : Instance). Spells text x) same spelled

pub spelled_served : SpelledIsServed
spelled_served text w s =
    let formed = and-left (rises w.assumptions) (is_within w.formula.variables w.assumptions) (assumed-formed w.formula.variables s.words w.assumptions s.literals.0) in
    record { formed = spelled_is_formula s.first w.formula s.formula; rising = formed.0; within = formed.1; few = s.literals.1 }

-- what is read is spelled so, and is served
pub read_spelled : (text : List ℕ) (r : Result declared.Instance InputFault) → Gives seen_instance r (read_text text) → IfOk r (λ w. Spells text (seen_instance w))
read_spelled text (Ok w) h = (spelled_read text (seen_instance w)).1 h
read_spelled text (Err e) h = tt

pub read_served : (text : List ℕ) (r : Result declared.Instance InputFault) → Gives seen_instance r (read_text text) → IfOk r (λ w. IsServed (seen_instance w))
read_served text (Ok w) h = spelled_served text (seen_instance w) ((spelled_read text (seen_instance w)).1 h)
read_served text (Err e) h = tt
