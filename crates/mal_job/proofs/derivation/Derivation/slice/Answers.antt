use Rattle.mal_job.proofs.LentLemmas.{slice-at}
use Rattle.mal_job.proofs.derivation.Derivation.slice.Goals as goal

pub returns : goal.returns
returns c = rw (← c.self.view_is) (slice-at c.self.inside.log.parts c.args.n _ _ c.part.ensures)
