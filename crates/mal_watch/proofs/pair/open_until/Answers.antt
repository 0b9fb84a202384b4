use Rattle.std.proofs.Common.{◌∙◌, arith}
use Rattle.mal_watch.proofs.FalseLemmas.{below-least}
use Rattle.mal_watch.proofs.pair.open_until.Goals as goal

pub returns : goal.returns
returns c = record {
  until_is = λ n l. c.open_until.ensures n (omega (arith, l, c.requires)) ∙ below-least c.open_until.result c.args.count n c.min.result c.min.ensures l;
  bound = omega (arith, c.min.ensures);
}
