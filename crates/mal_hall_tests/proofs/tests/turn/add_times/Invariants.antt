use Rattle.std.proofs.Common.{◌≡◌}
use Rattle.mal_turn.specs.Tokens.{view, IsOf}
use Rattle.mal_hall_tests.proofs.tests.turn.add_times.Given as goal

abbrev pub invariant-loop-made : goal.invariant-loop-made
invariant-loop-made g l = IsOf l.fn.turn l.token × ((view l.token).of ≡ (view l.fn.token).of)
