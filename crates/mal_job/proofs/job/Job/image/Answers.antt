use Rattle.std.proofs.Common.{sym, ◌∙◌, subst}
use Rattle.std.specs.Prelude.{IfOk}
use Rattle.spec_job.specs.Journaled.{Journaled}
use Rattle.mal_suspend.specs.Freezing.{IsFrozen}
use Rattle.mal_job.proofs.LentLemmas.{journal-fresh}
use Rattle.mal_job.proofs.Parts.{parts}
use Rattle.mal_job.proofs.PlaceLemmas.{out-same}
use Rattle.mal_job.proofs.job.Job.image.Goals as goal

pub image-requires-clause-home : goal.image-requires-clause-home
image-requires-clause-home c = sym (out-same c.self.inside.tree.places c.args.index 0 0) ∙ (rw (← c.self.view_is) at c.requires.home)

pub returns : goal.returns
returns c = rw (← c.self.view_is) (subst (λ (j : Journaled). IfOk c.image.result (λ v. IsFrozen v.items j)) (sym (journal-fresh c.self.inside.tenant c.self.inside.name (parts c.self.inside) c.args.index c.self.invariant.tree c.self.invariant.solvers)) c.image.ensures)
