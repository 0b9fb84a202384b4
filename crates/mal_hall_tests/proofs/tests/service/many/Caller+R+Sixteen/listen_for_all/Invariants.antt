use Rattle.mal_turn.specs.Tokens.{IsOf}
use Rattle.mal_hall_tests.proofs.tests.service.many.Caller+R+Sixteen.listen_for_all.Given as goal

abbrev pub invariant-loop-tenant : goal.invariant-loop-tenant
invariant-loop-tenant g l = IsOf l.self.service.now.turn l.pass
