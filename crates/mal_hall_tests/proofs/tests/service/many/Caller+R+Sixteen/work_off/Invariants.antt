use Rattle.mal_turn.specs.Tokens.{IsOf}
use Rattle.mal_hall_tests.proofs.tests.service.many.Caller+R+Sixteen.work_off.Given as goal

abbrev pub invariant-loop-made : goal.invariant-loop-made
invariant-loop-made g l = IsOf l.self.service.now.turn l.pass
