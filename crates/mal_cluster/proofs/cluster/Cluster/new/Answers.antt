use Rattle.std.proofs.Common.{List, sym, subst}
use Rattle.spec_cluster.specs.Visits.{Move}
use Rattle.mal_cluster.specs.Kept.{IsKept}
use Rattle.mal_cluster.proofs.KeptLemmas.{new-kept}
use Rattle.mal_cluster.proofs.cluster.Cluster.new.Goals as goal

pub invariant_of-result : goal.invariant_of-result
invariant_of-result c = subst (λ (ms : List Move). IsKept c.args.workers c.in_ok-new_halls.field-0.items ms) (sym c.new.ensures.items) (new-kept c.args.halls c.args.workers c.in_ok-new_halls.field-0.items c.requires.few c.requires.bound c.requires.some c.requires.most c.in_ok-new_halls.ensures.each c.in_ok-new_halls.ensures.events)
