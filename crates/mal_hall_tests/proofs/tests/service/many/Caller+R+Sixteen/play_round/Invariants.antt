use Rattle.std.specs.List.{All}
use Rattle.mal_turn.specs.Tokens.{IsOf}
use Rattle.mal_hall_tests.proofs.tests.service.many.Caller+R+Sixteen.play_round.Given as goal

abbrev pub invariant-loop-pass : goal.invariant-loop-pass
invariant-loop-pass g l = All (λ x. IsOf l.self.service.now.turn x) l.played.items
