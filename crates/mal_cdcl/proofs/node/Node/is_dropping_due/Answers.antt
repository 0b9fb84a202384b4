use Rattle.std.proofs.Common.{◌≡◌, sym, ap, ◌∙◌}
use Rattle.mal_base.specs.declared.profile.Policy.{Policy}
use Rattle.mal_base.specs.Profiles.{policy}
use Rattle.mal_cdcl.specs.Within.{NodeWithRoom}
use Rattle.mal_cdcl.proofs.StepLemmas.{due-reduces}
use Rattle.mal_cdcl.proofs.node.Node.is_dropping_due.Goals as goal

pub returns-clause-reduces : goal.returns-clause-reduces
returns-clause-reduces g c due =
    let same : (policy c.args.self.now.state.profile).reduction ≡ c.policy-reduction.result.reduction = ap (λ (s : NodeWithRoom). (policy s.state.profile).reduction) (sym c.self.view_is) ∙ ap (λ (p : Policy). p.reduction) (sym c.policy-reduction.ensures) in
    λ never. due-reduces c.policy-reduction.result.reduction c.self.inside.conflicts_since_dropping (sym c.is_due.ensures ∙ due) (sym same ∙ never)
