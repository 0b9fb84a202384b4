use Rattle.std.proofs.Common.{◌≡◌, ◌+◌, drop}
use Rattle.spec_job.specs.SoloMachine.{clauses_in}
use Rattle.mal_job.specs.Viewed.{shared}
use Rattle.mal_job.proofs.loading.count_clauses.Given as goal

abbrev pub invariant-loop-revision : goal.invariant-loop-revision
invariant-loop-revision l = l.count + clauses_in (shared (drop l.revision-index l.revisions)) ≡ clauses_in (shared l.revisions)
