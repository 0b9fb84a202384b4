use Rattle.mal_trail.proofs.SignLemmas.{never-both}
use Rattle.mal_trail.proofs.trail.Trail.is_consistent.Goals as goal

pub returns : goal.returns
returns c = let t = c.self.inside in rw (← c.self.view_is) (λ l h. never-both t.entries.items l c.self.invariant.fits.distinct h)
