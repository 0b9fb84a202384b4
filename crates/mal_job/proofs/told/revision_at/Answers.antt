use Rattle.std.proofs.Common.{◌-◌, length, sym}
use Rattle.std.proofs.lemmas.Bool.{ltb-true}
use Rattle.mal_job.proofs.TreeLemmas.{among-shared}
use Rattle.mal_job.proofs.told.revision_at.Goals as goal

pub returns-in-Some : goal.returns-in-Some
returns-in-Some c = among-shared c.args.revisions.now c.args.r c.in-Some.revision.now c.in-Some.revision.now c.deref.result.now c.if-r-eq0.false (ltb-true (c.args.r - 1) (length c.args.revisions.now) (sym c.in-Some.ensures.lookup.0)) c.in-Some.ensures.lookup.1 c.deref.ensures
