use Rattle.std.proofs.Common.{arith, List, sym, ◌∙◌, ap}
use Rattle.mal_hall.specs.HallView.{HallView}
use Rattle.spec_cluster.specs.Clusters.{home}
use Rattle.spec_hall.specs.Dressed.{keyed}
use Rattle.mal_cluster.specs.Kept.{histories}
use Rattle.mal_cluster.proofs.KeptLemmas.{revised-at, revised-kept, home-within}
use Rattle.mal_cluster.proofs.cluster.Cluster.revise_job.Goals as goal

pub index_mut-requires : goal.index_mut-requires
index_mut-requires c =
    let k = keyed c.args.tenant.now c.args.job.now in
    let within = home-within k c.self.inside.halls.items c.in-Some.at (ap (λ (hs : List HallView). home k (histories hs)) (sym c.deref.ensures.value) ∙ sym c.in-Some.ensures) in
    omega (arith, within)

pub invariant_of-self : goal.invariant_of-self
invariant_of-self c =
    let k = keyed c.args.tenant.now c.args.job.now in
    let found = ap (λ (hs : List HallView). home k (histories hs)) (sym c.deref.ensures.value) ∙ sym c.in-Some.ensures in
    revised-kept c.self.inside.workers c.self.inside.halls.items c.self.inside.moves.items c.in-Some.at c.index_mut.result.now c.revise_job.new.self k c.self.invariant (home-within k c.self.inside.halls.items c.in-Some.at found) c.index_mut.ensures.value c.args.revision c.revise_job.result found c.revise_job.ensures.workers c.revise_job.ensures.call

pub returns-in-Some : goal.returns-in-Some
returns-in-Some c =
    let k = keyed c.args.tenant.now c.args.job.now in
    let found = ap (λ (hs : List HallView). home k (histories hs)) (sym c.deref.ensures.value) ∙ sym c.in-Some.ensures in
    rw (← c.self.view_is) (revised-at c.self.inside.workers c.self.inside.halls.items c.self.inside.moves.items c.in-Some.at c.index_mut.result.now c.revise_job.new.self k c.self.invariant (home-within k c.self.inside.halls.items c.in-Some.at found) c.index_mut.ensures.value c.args.revision c.revise_job.result found c.revise_job.ensures.call)
