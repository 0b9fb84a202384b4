use Rattle.spec_cluster.proofs.CallKeepLemmas.{calls-grow, calls-keep}
use Rattle.spec_cluster.proofs.calls_keep.Goals as goal

pub returns : goal.returns
returns c = record { grows = calls-grow; keep = calls-keep }
