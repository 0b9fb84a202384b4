use Rattle.std.proofs.Common.{◌≡◌, true, Bool, List, Some, is_some, sym, subst}
use Rattle.mal_base.specs.declared.verdict.Verdict.TheVariants.{Satisfiable}
use Rattle.spec_logic.specs.Logic.{satisfies_with}
use Rattle.spec_node.specs.State.{Node}
use Rattle.spec_node.specs.Model.{model_of}
use Rattle.spec_solving.specs.Solving.{Answer, Promises}
use Rattle.spec_solving.specs.Solving.Answer.{Model}
use Rattle.spec_solving.proofs.ServingLemmas.{serves-solves}
use Rattle.mal_solving.specs.Loaded.{Loaded, given_clauses}
use Rattle.mal_solving.proofs.kernel.Kernel.model.Goals as goal

pub returns-clause-promises : goal.returns-clause-promises
returns-clause-promises c =
    let n : Node = c.self.inside.node.state in
    let found : n.verdict ≡ Some Satisfiable = subst (λ (l : Loaded). l.node.verdict ≡ Some Satisfiable) (sym c.self.view_is) c.requires in
    let solved : satisfies_with (model_of n) (given_clauses c.self.inside.given) n.assumptions ≡ true = serves-solves (given_clauses c.self.inside.given) c.self.invariant.log n c.self.invariant.serves found in
    let here : Promises (is_some c.args.self.now.kept) c.args.self.now.clauses c.args.self.now.node.assumptions (Model (model_of n)) = subst (λ (l : Loaded). Promises (is_some l.kept) l.clauses l.node.assumptions (Model (model_of n))) c.self.view_is solved in
    let values : Promises (is_some c.args.self.now.kept) c.args.self.now.clauses c.args.self.now.node.assumptions (Model c.model.new.values.items) = subst (λ (vs : List Bool). Promises (is_some c.args.self.now.kept) c.args.self.now.clauses c.args.self.now.node.assumptions (Model vs)) (sym c.model.ensures.items) here in
    subst (λ (a : Answer). Promises (is_some c.args.self.now.kept) c.args.self.now.clauses c.args.self.now.node.assumptions a) (sym c.model-2.ensures) values
