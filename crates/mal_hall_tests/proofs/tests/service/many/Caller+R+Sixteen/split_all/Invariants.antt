use Rattle.std.specs.List.{All}
use Rattle.mal_turn.specs.Tokens.{IsOf}
use Rattle.mal_hall_tests.proofs.tests.service.many.Caller+R+Sixteen.split_all.Given as goal

abbrev pub invariant-loop-made : goal.invariant-loop-made
invariant-loop-made g l = IsOf l.self.service.now.turn l.pass × All (λ x. IsOf l.self.service.now.turn x) l.passes.items
