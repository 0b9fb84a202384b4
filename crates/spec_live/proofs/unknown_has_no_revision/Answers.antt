use Rattle.spec_live.proofs.UnknownLemmas.{unknown-has_no_revision}
use Rattle.spec_live.proofs.unknown_has_no_revision.Goals as goal

pub returns : goal.returns
returns c = unknown-has_no_revision
