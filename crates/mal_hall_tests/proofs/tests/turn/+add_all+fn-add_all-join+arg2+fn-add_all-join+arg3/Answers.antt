use Rattle.std.proofs.Common.{sym, subst}
use Rattle.mal_turn.specs.declared.view.Numbers.{Numbers}
use Rattle.mal_turn.specs.Many.{IsBack}
use Rattle.mal_turn.proofs.Wholes.{back_joined}
use Rattle.mal_turn.specs.Tokens.{view}
use Rattle.mal_hall_tests.proofs.tests.turn.+add_all+fn-add_all-join+arg2+fn-add_all-join+arg3.Goals as goal

pub returns-clause-back : goal.returns-clause-back
returns-clause-back g t c =
    let n = (view c.args.token).of in
    let a = (view c.join-one.result.0).of in
    let b = (view c.join-one.result.1).of in
    let one = subst (λ (z : Numbers). IsBack z a) c.split-one.ensures.old c.join-one.ensures.first.1 in
    let two = subst (λ (z : Numbers). IsBack z b) c.split-one.ensures.new c.join-one.ensures.second.1 in
    subst (IsBack n) (sym c.join.ensures.numbers) (back_joined n a b one two)
