use Rattle.mal_service.proofs.OpenedLemmas.{opened-is_found}
use Rattle.mal_service.proofs.laws.opened_job_is_found.Goals as goal

pub returns : goal.returns
returns c = opened-is_found
