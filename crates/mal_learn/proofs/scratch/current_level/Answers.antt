use Rattle.std.proofs.Common.{◌<◌, sym, arith}
use Rattle.mal_learn.proofs.AnalysedLemmas.{top-reverse}
use Rattle.mal_learn.proofs.scratch.current_level.Goals as goal

pub returns : goal.returns
returns g c =
    let some : 0 < c.len-count.result = omega arith in
    sym (top-reverse (g.T.TrailView.entries c.args.trail.now) c.at.result c.len-count.result c.len-count.ensures some c.at.ensures)
