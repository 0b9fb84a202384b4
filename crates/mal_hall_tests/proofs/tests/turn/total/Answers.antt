use Rattle.std.proofs.Common.{refl, sym, subst}
use Rattle.mal_turn.specs.declared.view.View.{View}
use Rattle.mal_turn.specs.Rule.{IsWhole}
use Rattle.mal_turn.proofs.Wholes.{back_whole}
use Rattle.mal_turn.specs.Tokens.{view}
use Rattle.mal_hall_tests.proofs.tests.turn.total.Goals as goal

pub closed-requires-clause-whole : goal.closed-requires-clause-whole
closed-requires-clause-whole g c =
    back_whole (view c.in_ok-turn.token).of (view c.add_all-token.result).of c.add_all-token.ensures.back (subst (λ (v : View _). IsWhole v.of) (sym c.in_ok-turn.ensures.1) (refl, refl))
