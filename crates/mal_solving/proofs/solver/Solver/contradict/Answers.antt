use Rattle.std.proofs.Common.{◌≡◌, ℕ, true, false, List, [], Contains, None, sym, ◌∙◌, ap, subst, inr}
use Rattle.mal_base.specs.Clauses.{HaveSame}
use Rattle.mal_base.specs.Literals.{literal}
use Rattle.mal_base.specs.NumberedClause.{Line}
use Rattle.spec_solving.specs.Solving.{Answer, Solving}
use Rattle.spec_solving.specs.Solving.Answer.{Core}
use Rattle.mal_solving.specs.Steps.{solving_of, IsSolving}
use Rattle.mal_solving.proofs.SolverLemmas.{core-solving, asked-as, same-itself}
use Rattle.mal_solving.proofs.solver.Solver.contradict.Goals as goal

pub invariant_of-self : goal.invariant_of-self
invariant_of-self c =
    let s = c.self.inside in
    let taken : s.refused ≡ None = ap (λ (v : Solving). v.refused) c.self.view_is ∙ c.requires.taken in
    let there : Contains s.assumptions.items (literal c.args.var true) × Contains s.assumptions.items (literal c.args.var false) = subst (λ (xs : List ℕ). Contains xs (literal c.args.var true) × Contains xs (literal c.args.var false)) (sym (ap (λ (v : Solving). v.assumed) c.self.view_is)) c.requires.both in
    let core : c.core.result ≡ Core c.in-Ok.failed.items [] = c.core.ensures ∙ ap (λ (ls : List Line). Core c.in-Ok.failed.items ls) c.new.ensures in
    subst (λ (a : Answer). IsSolving s.kernel s.pending (solving_of s.kernel s.pending s.clause.items s.assumptions.items s.refused a)) (sym core) (core-solving s.kernel s.pending s.clause.items s.assumptions.items c.in-Ok.failed.items s.refused c.args.var taken c.in-Ok.ensures there)

pub returns-in-Ok-clause-begun : goal.returns-in-Ok-clause-begun
returns-in-Ok-clause-begun c =
    let s = c.self.inside in
    let core : c.core.result ≡ Core c.in-Ok.failed.items [] = c.core.ensures ∙ ap (λ (ls : List Line). Core c.in-Ok.failed.items ls) c.new.ensures in
    let same : HaveSame c.args.self.now.assumed s.assumptions.items = subst (λ (xs : List ℕ). HaveSame xs s.assumptions.items) (ap (λ (v : Solving). v.assumed) c.self.view_is) (same-itself s.assumptions.items) in
    asked-as c.args.self.now _ s.assumptions.items c.core.result c.requires.open same
    (ap (λ (v : Solving). record v { assumed = s.assumptions.items; answer = c.core.result }) c.self.view_is)
    (inr (c.args.var, core ∙ ap (λ (lits : List ℕ). Core lits []) c.in-Ok.ensures))
