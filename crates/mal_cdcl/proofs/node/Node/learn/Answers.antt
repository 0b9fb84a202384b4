use Rattle.std.proofs.Common.{◌≡◌, ℕ, ◌+◌, true, List, sym, ap, ◌∙◌, subst, arith}
use Rattle.spec_node.specs.State.{Node}
use Rattle.spec_node.specs.Value.{has_value}
use Rattle.spec_learn.specs.Analysis.{vars_in}
use Rattle.spec_learn.specs.Learning.{analysis, counted_in, learned}
use Rattle.spec_learn.specs.Order.{moved_all}
use Rattle.mal_cdcl.specs.Within.{NodeWithRoom, IsNode}
use Rattle.mal_cdcl.proofs.ImageLemmas.{formed-node}
use Rattle.mal_cdcl.proofs.BumpLemmas.{are_in}
use Rattle.mal_cdcl.proofs.DeriveLemmas.{formed-learned, has-learned}
use Rattle.mal_cdcl.proofs.node.Node.learn.Goals as goal

pub bump_all-requires : goal.bump_all-requires
bump_all-requires g c =
    let n = c.args.self.now.state in
    let same = ap (λ (s : NodeWithRoom). s.state) c.self.view_is ∙ c.teach.ensures.state in
    let order : c.self.inside.order.list ≡ n.order = ap (λ (m : Node). m.order) same in
    let lits : c.clause.result.now ≡ (analysis c.args.id n).lits = c.clause.ensures ∙ c.requires.shown.lits in
    let has : are_in n.order (vars_in c.clause.result.now) ≡ true = rw lits (has-learned n c.args.id c.requires.sound c.requires.conflict c.requires.level) in
    subst (λ (ws : List ℕ). are_in ws (vars_in c.clause.result.now) ≡ true) (sym order) has

pub invariant_of-self : goal.invariant_of-self
invariant_of-self g c =
    let n = c.args.self.now.state in
    let a = analysis c.args.id n in
    let v = c.self.inside in
    let same = ap (λ (s : NodeWithRoom). s.state) c.self.view_is ∙ c.teach.ensures.state in
    let lits : c.clause.result.now ≡ a.lits = c.clause.ensures ∙ c.requires.shown.lits in
    let listed : c.bump_all.new.order.list ≡ moved_all (vars_in a.lits) n.order = rw (c.bump_all.ensures.list, lits) (ap (λ (m : Node). moved_all (vars_in a.lits) m.order) same) in
    let turned : c.bump_all.new.order.index ≡ n.index = c.bump_all.ensures.index ∙ (c.self.invariant.0.turned ∙ ap (λ (m : Node). m.index) same) in
    let form = formed-learned n c.args.id c.requires.sound c.requires.conflict c.requires.level c.requires.counts.serial in
    let variables : v.variables ≡ n.variables = ap (λ (m : Node). m.variables) same in
    let after = formed-node (learned c.args.id n) v.trail.room c.bump_all.new.order (omega (arith, c.self.invariant.0.room, variables)) turned listed form in (
      subst (λ (m : Node). IsNode m.index m.variables v.trail.room m.assumptions c.bump_all.new.order m.phases m.clauses) (sym same) after,
      c.self.invariant.1,
      record { valued = c.bump_all.ensures.passed (has_value v.trail.entries) c.self.invariant.2.valued; assumed = c.self.invariant.2.assumed },
    )

pub returns-clause-state : goal.returns-clause-state
returns-clause-state g c =
    let n = c.args.self.now.state in
    let a = analysis c.args.id n in
    let same = ap (λ (s : NodeWithRoom). s.state) c.self.view_is ∙ c.teach.ensures.state in
    let lits : c.clause.result.now ≡ a.lits = c.clause.ensures ∙ c.requires.shown.lits in
    rw (c.counted-count.ensures, c.policy-reduction.ensures, c.bump_all.ensures.list, lits)
    (ap (λ (m : Node). record m {
      conflicts_since_restart = m.conflicts_since_restart + 1;
      conflicts_since_dropping = counted_in m.profile m.conflicts_since_dropping;
      order = moved_all (vars_in a.lits) m.order;
    }) same)
