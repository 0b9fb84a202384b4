use Rattle.std.proofs.Common.{◌≡◌, ◌∙◌, sym, subst, List, ℕ, Result, pos, arith, rules, FitsSigned, w64}
use Rattle.std.proofs.lemmas.Int.{ints}
use Rattle.spec_text.specs.Inputs.{words_of}
use Rattle.mal_base.specs.declared.line_fault.LineFault.{LineFault}
use Rattle.mal_script.specs.ReadResult.{GivesAssumed}
use Rattle.mal_script.proofs.Steps.{closed-at}
use Rattle.mal_script.proofs.assuming.literals.Goals as goal

pub returns-then-number-eq0-clause-value : goal.returns-then-number-eq0-clause-value
returns-then-number-eq0-clause-value c =
    let f : FitsSigned w64 c.in-Ok.number = search rules in
    let zero : c.in-Ok.number ≡ pos 0 = omega (arith, ints) in
    let said = rw c.from.ensures at c.in-Ok.ensures in
    subst (λ (r : Result (List ℕ) LineFault). GivesAssumed (λ v. v.items) c.closed.result r)
    (sym (closed-at c.args.variables c.loop-word.lits.items c.loop-word.above (words_of c.loop-word.rest.now) c.in-Some.word.now (words_of c.in-Some.behind.now) _ c.in-Some.ensures.words said zero) ∙ c.loop-word.invariant.0)
    (c.closed.ensures.value c.args.variables)
