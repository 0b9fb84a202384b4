use Rattle.spec_course.proofs.RefutedLemmas.{refuted-under-more}
use Rattle.spec_course.proofs.refuted_under_more.Goals as goal

pub returns : goal.returns
returns c = refuted-under-more
