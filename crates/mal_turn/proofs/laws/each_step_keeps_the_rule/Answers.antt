use Rattle.mal_turn.proofs.Keeps.{opens, splits_keep, joins_keep, draws_keep, looks_keep, learns_keep, enters_keep, passes_keep}
use Rattle.mal_turn.proofs.laws.each_step_keeps_the_rule.Goals as goal

pub returns : goal.returns
returns g c = let stands = g.T.Recorded.stands in record {
  start = opens stands;
  split = splits_keep stands;
  join = joins_keep stands;
  draw = draws_keep stands;
  look = looks_keep stands;
  idle_look = learns_keep stands;
  enter = enters_keep stands g.T.Recorded.last;
  pass = passes_keep stands;
}
