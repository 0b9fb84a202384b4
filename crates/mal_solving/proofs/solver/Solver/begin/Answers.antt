use Rattle.std.proofs.Common.{◌≡◌, ℕ, Some, None, List, sym, ◌∙◌, ap, subst}
use Rattle.mal_base.specs.Clauses.{clash, HaveSame}
use Rattle.spec_solving.specs.Solving.{Solving, reopened}
use Rattle.spec_solving.specs.Calls.{IsBegun}
use Rattle.mal_solving.proofs.SolverLemmas.{both-assumed, begun-sorted, none-by}
use Rattle.mal_solving.proofs.solver.Solver.begin.Goals as goal

pub contradict-requires-clause-both : goal.contradict-requires-clause-both
contradict-requires-clause-both c =
    let found : clash c.sort.new.lits.items ≡ Some c.in-Some.var = cc (c.as_slice.ensures.value, c.opposite.ensures, c.in-Some.is) in
    both-assumed c.sort.new.lits.items c.in-Some.var c.sort.ensures.rising found

pub returns-in-Some-clause-begun : goal.returns-in-Some-clause-begun
returns-in-Some-clause-begun c =
    let old : Solving = c.args.self.now in
    let sorted : List ℕ = c.sort.new.lits.items in
    let taken : old.refused ≡ None = sym (ap (λ (v : Solving). v.refused) c.self.view_is) ∙ none-by c.self.inside.refused (sym c.is_some.ensures ∙ c.if-is_some.false) in
    let same : HaveSame (reopened old).assumed sorted = subst (λ (v : Solving). HaveSame v.assumed sorted) (c.self-2.view_is ∙ c.reopen.ensures) c.sort.ensures.same in
    begun-sorted old c.contradict.new.self sorted taken same
    (subst (λ (v : Solving). IsBegun (record v { assumed = sorted }) c.contradict.new.self) (c.self-2.view_is ∙ c.reopen.ensures) c.contradict.ensures.begun)

pub returns-in-None-clause-begun : goal.returns-in-None-clause-begun
returns-in-None-clause-begun c =
    let old : Solving = c.args.self.now in
    let sorted : List ℕ = c.sort.new.lits.items in
    let taken : old.refused ≡ None = sym (ap (λ (v : Solving). v.refused) c.self.view_is) ∙ none-by c.self.inside.refused (sym c.is_some.ensures ∙ c.if-is_some.false) in
    let same : HaveSame (reopened old).assumed sorted = subst (λ (v : Solving). HaveSame v.assumed sorted) (c.self-2.view_is ∙ c.reopen.ensures) c.sort.ensures.same in
    begun-sorted old c.ask.new.self sorted taken same
    (subst (λ (v : Solving). IsBegun (record v { assumed = sorted }) c.ask.new.self) (c.self-2.view_is ∙ c.reopen.ensures) c.ask.ensures.begun)
