use Rattle.std.proofs.Common.{ap}
use Rattle.mal_job.specs.Viewed.{PlaceView, TreeView, shared}
use Rattle.mal_job.proofs.PlaceLemmas.{out-within}
use Rattle.mal_job.proofs.TreeLemmas.{tree-set}
use Rattle.mal_job.proofs.tree.Tree.lose.Goals as goal

pub invariant_of-self : goal.invariant_of-self
invariant_of-self c =
    let t : TreeView = record { number = c.self.inside.number; profile = c.self.inside.profile; volume = c.self.inside.volume; places = c.self.inside.places.items; broadcasts = shared c.self.inside.broadcasts.items; ran = c.self.inside.ran } in
    let k = tree-set t c.args.index c.index_mut.result.now c.lose.new.self (out-within c.self.inside.places.items c.args.index 0 0 (rw (← c.self.view_is) at c.requires.out)) c.index_mut.ensures.value (ap (λ (p : PlaceView). p.journal.job) c.lose.ensures) (ap (λ (p : PlaceView). p.journal.index) c.lose.ensures) (ap (λ (p : PlaceView). p.journal.profile) c.lose.ensures) c.self.invariant in
    record { few = k.few; volume = k.volume; own = k.own }

pub returns-clause-kept : goal.returns-clause-kept
returns-clause-kept c = invariant_of-self c
