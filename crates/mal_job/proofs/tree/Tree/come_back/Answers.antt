use Rattle.std.proofs.Common.{ap}
use Rattle.mal_job.specs.Viewed.{PlaceView}
use Rattle.mal_job.proofs.TreeLemmas.{tree-set}
use Rattle.mal_job.proofs.tree.Tree.come_back.Goals as goal

pub invariant_of-self : goal.invariant_of-self
invariant_of-self c =
    let k = tree-set _ c.args.index c.index_mut.result.now c.come_back.new.self (rw (← c.self.view_is) at c.revision-revision.ensures.place) c.index_mut.ensures.value (ap (λ (p : PlaceView). p.journal.job) c.come_back.ensures) (ap (λ (p : PlaceView). p.journal.index) c.come_back.ensures) (ap (λ (p : PlaceView). p.journal.profile) c.come_back.ensures) c.self.invariant in
    record { few = k.few; volume = k.volume; own = k.own }

pub returns-clause-kept : goal.returns-clause-kept
returns-clause-kept c = invariant_of-self c
