-- What a job has, as its proofs cite it.
use Rattle.mal_job.specs.declared.job.Job.TheInside.{Inside}
use Rattle.mal_job.specs.Viewed.{Parts}

-- what a job has
abbrev pub parts : Inside → Parts
parts j = record { asked = j.questions; tree = j.tree; log = j.log }
