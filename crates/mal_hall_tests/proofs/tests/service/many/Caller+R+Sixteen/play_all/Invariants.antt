use Rattle.std.specs.List.{All}
use Rattle.mal_turn.specs.Tokens.{IsOf}
use Rattle.mal_hall_tests.proofs.tests.service.many.Caller+R+Sixteen.play_all.Given as goal

abbrev pub invariant-loop-round : goal.invariant-loop-round
invariant-loop-round g l = All (λ x. IsOf l.self.service.now.turn x) l.passes.items
