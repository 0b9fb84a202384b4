use Rattle.std.proofs.Common.{◌≡◌, ◌-◌, ◌<◌, false, List, length, sym, ◌∙◌, ap}
use Rattle.mal_hall.specs.HallView.{HallView}
use Rattle.spec_cluster.specs.Clusters.{is_had}
use Rattle.spec_hall.specs.Dressed.{keyed}
use Rattle.mal_cluster.specs.Kept.{histories}
use Rattle.mal_cluster.proofs.KeptLemmas.{opened-at, opened-kept, place-low}
use Rattle.mal_cluster.proofs.cluster.Cluster.open_job.Goals as goal

pub invariant_of-self : goal.invariant_of-self
invariant_of-self c =
    let halls : List HallView = c.self.inside.halls.items in
    let k = keyed c.args.tenant c.args.job in
    let low : c.args.hall - 1 < length halls = place-low c.args.hall halls c.requires.low (rw (← c.self.view_is) at c.requires.high) in
    let fresh : is_had k (histories halls) ≡ false = ap (λ (hs : List HallView). is_had k (histories hs)) (sym c.deref.ensures.value) ∙ (sym c.is_had.ensures ∙ c.if-is_had.false) in
    opened-kept c.self.inside.workers halls c.self.inside.moves.items (c.args.hall - 1) c.index_mut.result.now c.open_job.new.self k c.self.invariant low c.index_mut.ensures.value c.args.ask c.open_job.result fresh c.open_job.ensures.workers c.open_job.ensures.call

pub returns : goal.returns
returns c =
    let halls : List HallView = c.self.inside.halls.items in
    let k = keyed c.args.tenant c.args.job in
    let low : c.args.hall - 1 < length halls = place-low c.args.hall halls c.requires.low (rw (← c.self.view_is) at c.requires.high) in
    let fresh : is_had k (histories halls) ≡ false = ap (λ (hs : List HallView). is_had k (histories hs)) (sym c.deref.ensures.value) ∙ (sym c.is_had.ensures ∙ c.if-is_had.false) in
    rw (← c.self.view_is) (opened-at c.self.inside.workers halls c.self.inside.moves.items (c.args.hall - 1) c.index_mut.result.now c.open_job.new.self k c.self.invariant low c.index_mut.ensures.value c.args.ask c.open_job.result fresh c.open_job.ensures.call)
