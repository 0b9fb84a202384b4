use Rattle.std.proofs.Common.{ℕ, List, Err, sym, ◌∙◌, ap, subst, refl}
use Rattle.mal_hall.specs.HallView.{HallView}
use Rattle.spec_cluster.specs.Calls.{IsMove, IsMoving}
use Rattle.spec_cluster.specs.Clusters.{Cluster, home}
use Rattle.spec_cluster.specs.declared.fault.MoveFault.{MoveFault}
use Rattle.spec_hall.specs.Dressed.{keyed}
use Rattle.mal_cluster.specs.Kept.{cluster_of, histories}
use Rattle.mal_cluster.proofs.MovingLemmas.{may-hand, moved, moved-kept, refused, wanted, wanted-kept}
use Rattle.mal_cluster.proofs.cluster.Cluster.move_job.Goals as goal

pub returns-in-Err : goal.returns-in-Err
returns-in-Err c =
    let halls : List HallView = c.self.inside.halls.items in
    let k = keyed c.args.tenant.now c.args.job.now in
    let found = ap (λ (hs : List HallView). home k (histories hs)) (sym c.deref.ensures.value) ∙ sym c.in-Some.ensures in
    let placed = rw c.deref-2.ensures.value at c.in_ok-at.ensures in
    subst (λ (x : Cluster). IsMoving x k c.args.to (Err c.refusal.result) x) c.self.view_is (subst (λ (f : MoveFault). let x : Cluster = cluster_of c.self.inside.workers halls c.self.inside.moves.items in IsMoving x k c.args.to (Err f) x) (sym c.refusal.ensures) (refused c.self.inside.workers halls c.self.inside.moves.items k c.in-Some.from c.in_ok-at.at c.args.to c.self.invariant found placed c.index.result.now c.index.ensures c.in-Err.fault c.in-Err.ensures))

pub returns-in-Err-reserve : goal.returns-in-Err-reserve
returns-in-Err-reserve c =
    let halls : List HallView = c.self.inside.halls.items in
    let k = keyed c.args.tenant.now c.args.job.now in
    let found = ap (λ (hs : List HallView). home k (histories hs)) (sym c.deref.ensures.value) ∙ sym c.in-Some.ensures in
    let placed = rw c.deref-2.ensures.value at c.in_ok-at.ensures in
    rw (← c.self.view_is) (wanted c.self.inside.workers halls c.self.inside.moves.items k c.in-Some.from c.in_ok-at.at c.args.to c.self.invariant found placed c.index.result.now c.index.ensures c.in-Ok.ensures halls c.reserve.new.self.items refl c.reserve.ensures.items)

pub hand_over-requires : goal.hand_over-requires
hand_over-requires c =
    let halls : List HallView = c.self.inside.halls.items in
    let k = keyed c.args.tenant.now c.args.job.now in
    let found = ap (λ (hs : List HallView). home k (histories hs)) (sym c.deref.ensures.value) ∙ sym c.in-Some.ensures in
    let placed = rw c.deref-2.ensures.value at c.in_ok-at.ensures in
    may-hand c.self.inside.workers halls c.self.inside.moves.items k c.in-Some.from c.in_ok-at.at c.args.to c.self.invariant found placed c.index.result.now c.index.ensures c.in-Ok.ensures

pub invariant_of-self-in-Err-hand_over : goal.invariant_of-self-in-Err-hand_over
invariant_of-self-in-Err-hand_over c =
    let halls : List HallView = c.self.inside.halls.items in
    let k = keyed c.args.tenant.now c.args.job.now in
    let found = ap (λ (hs : List HallView). home k (histories hs)) (sym c.deref.ensures.value) ∙ sym c.in-Some.ensures in
    let placed = rw c.deref-2.ensures.value at c.in_ok-at.ensures in
    wanted-kept c.self.inside.workers halls c.self.inside.moves.items k c.in-Some.from c.in_ok-at.at c.args.to c.self.invariant found placed c.index.result.now c.index.ensures c.in-Ok.ensures c.hand_over.new.halls.items c.reserve.new.self.items c.hand_over.ensures.workers c.in-Err-hand_over.ensures.kept c.reserve.ensures.items

pub returns-in-Err-hand_over : goal.returns-in-Err-hand_over
returns-in-Err-hand_over c =
    let halls : List HallView = c.self.inside.halls.items in
    let k = keyed c.args.tenant.now c.args.job.now in
    let found = ap (λ (hs : List HallView). home k (histories hs)) (sym c.deref.ensures.value) ∙ sym c.in-Some.ensures in
    let placed = rw c.deref-2.ensures.value at c.in_ok-at.ensures in
    rw (← c.self.view_is) (wanted c.self.inside.workers halls c.self.inside.moves.items k c.in-Some.from c.in_ok-at.at c.args.to c.self.invariant found placed c.index.result.now c.index.ensures c.in-Ok.ensures c.hand_over.new.halls.items c.reserve.new.self.items c.in-Err-hand_over.ensures.kept c.reserve.ensures.items)

pub invariant_of-self-2 : goal.invariant_of-self-2
invariant_of-self-2 c =
    let halls : List HallView = c.self.inside.halls.items in
    let k = keyed c.args.tenant.now c.args.job.now in
    let found = ap (λ (hs : List HallView). home k (histories hs)) (sym c.deref.ensures.value) ∙ sym c.in-Some.ensures in
    let placed = rw c.deref-2.ensures.value at c.in_ok-at.ensures in
    moved-kept c.self.inside.workers halls c.self.inside.moves.items k c.in-Some.from c.in_ok-at.at c.args.to c.self.invariant found placed c.index.result.now c.index.ensures c.in-Ok.ensures c.hand_over.new.halls.items c.reserve.new.self.items c.push_reserved.new.self.items c.index-2.result.now c.events_in.result c.in-Ok-hand_over.ensures.went c.index-2.ensures c.reserve.ensures.items c.events_in.ensures c.push_reserved.ensures.items c.hand_over.ensures.workers

pub returns : goal.returns
returns c =
    let halls : List HallView = c.self.inside.halls.items in
    let k = keyed c.args.tenant.now c.args.job.now in
    let found = ap (λ (hs : List HallView). home k (histories hs)) (sym c.deref.ensures.value) ∙ sym c.in-Some.ensures in
    let placed = rw c.deref-2.ensures.value at c.in_ok-at.ensures in
    subst (λ (x : Cluster). (from : ℕ) × IsMove x k c.args.to from (cluster_of c.self.inside.workers c.hand_over.new.halls.items c.push_reserved.new.self.items)) c.self.view_is (c.in-Some.from, moved c.self.inside.workers halls c.self.inside.moves.items k c.in-Some.from c.in_ok-at.at c.args.to c.self.invariant found placed c.index.result.now c.index.ensures c.in-Ok.ensures c.hand_over.new.halls.items c.reserve.new.self.items c.push_reserved.new.self.items c.index-2.result.now c.events_in.result c.in-Ok-hand_over.ensures.went c.index-2.ensures c.reserve.ensures.items c.events_in.ensures c.push_reserved.ensures.items)
