use Rattle.mal_service.proofs.RecordLemmas.{answers-are_legal}
use Rattle.mal_service.proofs.laws.answers_make_a_legal_record.Goals as goal

pub returns : goal.returns
returns c = answers-are_legal
