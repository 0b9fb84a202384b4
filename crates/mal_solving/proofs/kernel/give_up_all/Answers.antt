use Rattle.std.proofs.Common.{◌≡◌, ℕ, List, filter, sym, ap, ◌∙◌, rules}
use Rattle.std.proofs.lemmas.Fn.{filter_same}
use Rattle.mal_base.specs.declared.trail_entry.TrailEntry.{TrailEntry}
use Rattle.spec_node.specs.State.{Node}
use Rattle.spec_node.specs.Adding.{forgetting}
use Rattle.spec_solving.specs.Holding.{may_be_given_up}
use Rattle.spec_solving.proofs.ServingLemmas.{given-up-at-once}
use Rattle.mal_solving.proofs.kernel.give_up_all.Goals as goal

pub returns : goal.returns
returns c =
    let n : Node = c.args.node.now.state in
    let ids : List ℕ = c.args.ids.now.items in
    let left : c.retain.new.self.items ≡ filter (may_be_given_up c.trail-trail.result.now.entries) ids = filter_same _ (may_be_given_up c.trail-trail.result.now.entries) _ (λ x b f t. search rules) ids c.retain.new.self.items c.retain.ensures.filtered in
    let kept : c.as_mut_slice.result.now ≡ filter (may_be_given_up n.trail) ids = c.as_mut_slice.ensures.value ∙ (left ∙ ap (λ (es : List TrailEntry). filter (may_be_given_up es) ids) c.trail-trail.ensures.entries) in
    c.forget.ensures.state ∙ (ap (λ (gone : List ℕ). record n { clauses = forgetting gone n.clauses }) kept ∙ sym (given-up-at-once ids n))
