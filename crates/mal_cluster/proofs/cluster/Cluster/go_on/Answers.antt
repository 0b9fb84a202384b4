use Rattle.std.proofs.Common.{◌≡◌, ◌≤◌, length, ap, subst, arith}
use Rattle.spec_cluster.specs.Clusters.{Cluster, IsCluster}
use Rattle.spec_hall.specs.Dressed.{keyed}
use Rattle.mal_cluster.proofs.KeptLemmas.{histories-length}
use Rattle.mal_cluster.proofs.TurningLemmas.{done-fed, err-then, goes-by, moving-begun, ok-then, stayed-fed, wanting-same}
use Rattle.mal_cluster.proofs.cluster.Cluster.go_on.Goals as goal

pub overflow_add-next : goal.overflow_add-next
overflow_add-next c =
    let bound : length c.args.self.now.halls ≤ 8 = (subst IsCluster c.self.view_is c.self.invariant.cluster).bound in
    omega (arith, bound, c.requires.within)

pub returns-in-Ok-clause-goes : goal.returns-in-Ok-clause-goes
returns-in-Ok-clause-goes c =
    let many : c.len-count.result ≡ length c.args.self.now.halls = omega (arith, c.len-count.ensures, ap (λ (x : Cluster). length x.halls) c.self.view_is, histories-length c.self.inside.halls.items) in
    goes-by c.args.self.now c.move_job.new.self (keyed c.args.tenant.now c.args.job.now) c.args.from c.len-count.result c.move_job.result (subst IsCluster c.self.view_is c.self.invariant.cluster) c.requires.there many c.move_job.ensures (done-fed c.move_job.result c.in-Ok.field-0 c.in-Ok.is)

pub returns-in-Ok-clause-begun : goal.returns-in-Ok-clause-begun
returns-in-Ok-clause-begun c = moving-begun c.args.self.now c.move_job.new.self (keyed c.args.tenant.now c.args.job.now) _ c.move_job.result c.move_job.ensures

pub returns-in-Err-clause-goes : goal.returns-in-Err-clause-goes
returns-in-Err-clause-goes c =
    let many : c.len-count.result ≡ length c.args.self.now.halls = omega (arith, c.len-count.ensures, ap (λ (x : Cluster). length x.halls) c.self.view_is, histories-length c.self.inside.halls.items) in
    ok-then _ _ c.stays.result (λ other. goes-by c.args.self.now c.move_job.new.self (keyed c.args.tenant.now c.args.job.now) c.args.from c.len-count.result c.move_job.result (subst IsCluster c.self.view_is c.self.invariant.cluster) c.requires.there many c.move_job.ensures (stayed-fed c.move_job.result c.in-Err.fault c.in-Err.is other)) c.stays.ensures.stays

pub returns-in-Err-clause-begun : goal.returns-in-Err-clause-begun
returns-in-Err-clause-begun c = moving-begun c.args.self.now c.move_job.new.self (keyed c.args.tenant.now c.args.job.now) _ c.move_job.result c.move_job.ensures

pub returns-in-Err-clause-kept : goal.returns-in-Err-clause-kept
returns-in-Err-clause-kept c = err-then _ _ c.stays.result (λ memory. wanting-same c.args.self.now c.move_job.new.self (keyed c.args.tenant.now c.args.job.now) _ c.move_job.result c.in-Err.fault c.in-Err.is memory c.move_job.ensures) c.stays.ensures.memory
