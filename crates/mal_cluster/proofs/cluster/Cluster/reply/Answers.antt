use Rattle.std.proofs.Common.{arith, List, sym, ◌∙◌, ap, subst}
use Rattle.mal_hall.specs.HallView.{HallView}
use Rattle.mal_hall.specs.Offered.{replied}
use Rattle.spec_cluster.specs.Clusters.{Cluster, home}
use Rattle.spec_cluster.specs.Visits.{all_of}
use Rattle.spec_cluster.proofs.StayedLemmas.{all-is_evident}
use Rattle.spec_hall.specs.Dressed.{keyed}
use Rattle.spec_run.specs.Run.{IsEvident}
use Rattle.mal_cluster.specs.Kept.{cluster_of, histories}
use Rattle.mal_cluster.proofs.KeptLemmas.{home-within, replied-at}
use Rattle.mal_cluster.proofs.cluster.Cluster.reply.Goals as goal

pub index-requires : goal.index-requires
index-requires c =
    let k = keyed c.args.tenant.now c.args.job.now in
    let within = home-within k c.self.inside.halls.items c.in-Some.at (ap (λ (hs : List HallView). home k (histories hs)) (sym c.deref.ensures.value) ∙ sym c.in-Some.ensures) in
    omega (arith, within)

pub returns-in-None-clause-evident : goal.returns-in-None-clause-evident
returns-in-None-clause-evident c = subst (λ (x : Cluster). IsEvident (all_of (keyed c.args.tenant.now c.args.job.now) x.halls x.moves)) c.self.view_is (all-is_evident (cluster_of c.self.inside.workers c.self.inside.halls.items c.self.inside.moves.items) (keyed c.args.tenant.now c.args.job.now) c.self.invariant.cluster)

pub returns-in-Some-clause-reply : goal.returns-in-Some-clause-reply
returns-in-Some-clause-reply c =
    let k = keyed c.args.tenant.now c.args.job.now in
    let found = ap (λ (hs : List HallView). home k (histories hs)) (sym c.deref.ensures.value) ∙ sym c.in-Some.ensures in
    rw (← c.self.view_is) (replied-at c.self.inside.workers c.self.inside.halls.items c.self.inside.moves.items c.in-Some.at c.index.result.now k c.args.r c.self.invariant found c.index.ensures (replied c.reply.result) c.reply.ensures.call)

pub returns-in-Some-clause-evident : goal.returns-in-Some-clause-evident
returns-in-Some-clause-evident c = subst (λ (x : Cluster). IsEvident (all_of (keyed c.args.tenant.now c.args.job.now) x.halls x.moves)) c.self.view_is (all-is_evident (cluster_of c.self.inside.workers c.self.inside.halls.items c.self.inside.moves.items) (keyed c.args.tenant.now c.args.job.now) c.self.invariant.cluster)
