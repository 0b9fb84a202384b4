use Rattle.std.proofs.Common.{subst}
use Rattle.spec_job.specs.Journaled.{Journaled}
use Rattle.mal_suspend.specs.Freezing.{IsFrozen}
use Rattle.mal_job.proofs.PartLemmas.{journal-same}
use Rattle.mal_job.proofs.Parts.{parts}
use Rattle.mal_job.proofs.job.Job.wake.Goals as goal

pub wake-requires : goal.wake-requires
wake-requires c = λ low. subst (λ (j : Journaled). IsFrozen c.args.bytes.items j) (journal-same c.self.inside.tenant c.self.inside.name (parts c.self.inside) c.args.index low c.self.invariant.tree c.self.invariant.solvers) (rw (← c.self.view_is) at c.requires)
