use Rattle.mal_service.proofs.OpenedLemmas.{agreeing-tell_equal, replies-are_solo}
use Rattle.mal_service.proofs.laws.replies_are_solo.Goals as goal

pub returns : goal.returns
returns c = record { solo = replies-are_solo; agree = agreeing-tell_equal }
