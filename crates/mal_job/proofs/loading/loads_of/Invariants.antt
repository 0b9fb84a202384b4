use Rattle.std.proofs.Common.{◌≡◌, ◌+◌, ◌++◌, drop}
use Rattle.spec_job.specs.SoloMachine.{clauses_in}
use Rattle.mal_suspend.specs.Starting.{shared_loads}
use Rattle.mal_job.specs.Loads.{paired}
use Rattle.mal_job.specs.Viewed.{shared}
use Rattle.mal_job.proofs.loading.loads_of.Given as goal

abbrev pub invariant-loop-revision : goal.invariant-loop-revision
invariant-loop-revision l =
    record {
      made : shared_loads l.loads.items ++ paired l.next (shared (drop l.revision-index l.revisions)) ≡ paired l.first (shared l.revisions);
      numbers : l.next + clauses_in (shared (drop l.revision-index l.revisions)) ≡ l.first + clauses_in (shared l.revisions);
    }
