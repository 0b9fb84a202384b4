use Rattle.mal_job.specs.Viewed.{TreeView, shared}
use Rattle.mal_job.proofs.TreeLemmas.{tree-grown}
use Rattle.mal_job.proofs.tree.Tree.grow.Goals as goal

pub invariant_of-self : goal.invariant_of-self
invariant_of-self c =
    let t : TreeView = record { number = c.self.inside.number; profile = c.self.inside.profile; volume = c.self.inside.volume; places = c.self.inside.places.items; broadcasts = shared c.self.inside.broadcasts.items; ran = c.self.inside.ran } in
    tree-grown t c.grow.new.places.items c.grow.ensures.grown c.grow.ensures.few c.self.invariant

pub returns-clause-kept : goal.returns-clause-kept
returns-clause-kept c = invariant_of-self c
