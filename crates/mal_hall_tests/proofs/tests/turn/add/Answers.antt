use Rattle.std.proofs.Common.{[], ◌∷◌, ◌++◌, ap, ◌∙◌}
use Rattle.mal_turn.specs.declared.view.Numbers.{Numbers}
use Rattle.mal_turn.proofs.Wholes.{extends}
use Rattle.mal_turn.specs.Tokens.{view, held_view}
use Rattle.mal_hall_tests.proofs.tests.turn.add.Goals as goal

pub returns-clause-entry : goal.returns-clause-entry
returns-clause-entry g c =
    let v = view c.args.token in
    let h = held_view c.take-held.result in
    let added = c.add.new.self.last in
    let told = c.take-held.ensures in (
      added,
      extends v (view c.put.result) h.seen added told.first told.seen (c.put.ensures.seen ∙ ap (λ (n : Numbers). h.seen ++ (n.first, added) ∷ []) told.numbers) (c.put.ensures.numbers ∙ told.numbers),
    )
