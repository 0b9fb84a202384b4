use Rattle.std.proofs.Common.{◌≡◌, length, arith}
use Rattle.mal_base.proofs.LaidLemmas.{length-marks}
use Rattle.mal_base.proofs.clause_list.ClauseList.len.Goals as goal

pub returns : goal.returns
returns c =
    let same : length c.self.inside.marks.items ≡ length c.args.self.now = length-marks c.self.inside.literals.items _ _ c.self.view_is in
    omega (arith, c.len.ensures)
