use Rattle.mal_service.proofs.LossLemmas.{record-loses-none}
use Rattle.mal_service.proofs.laws.records_lose_none.Goals as goal

pub returns : goal.returns
returns c = record-loses-none
