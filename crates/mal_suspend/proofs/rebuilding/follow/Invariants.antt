use Rattle.std.proofs.Common.{◌≡◌, take}
use Rattle.spec_job.specs.Journal.{replay}
use Rattle.mal_suspend.specs.Entries.{entries_of}
use Rattle.mal_suspend.proofs.rebuilding.follow.Given as goal

abbrev pub invariant-loop-one : goal.invariant-loop-one
invariant-loop-one l = l.node.state ≡ (replay l.journal.profile l.journal.index (entries_of (take l.one-index l.counted))).node
