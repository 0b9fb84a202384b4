use Rattle.mal_turn.specs.Tokens.{IsOf}
use Rattle.mal_hall_tests.proofs.tests.service.many.Caller+R+Sixteen.listen_to_all.Given as goal

abbrev pub invariant-loop-at : goal.invariant-loop-at
invariant-loop-at g l = IsOf l.self.service.now.turn l.pass
