use Rattle.std.proofs.Common.{◌≡◌, length, arith}
use Rattle.mal_base.proofs.LaidLemmas.{length-marks, end-at}
use Rattle.mal_base.proofs.clause_list.ClauseList.end_of.Goals as goal

pub index-requires : goal.index-requires
index-requires c =
    let same : length c.self.inside.marks.items ≡ length c.args.self.now = length-marks _ _ _ c.self.view_is in
    omega (arith, c.requires)

pub returns : goal.returns
returns c = end-at c.self.inside.literals.items c.self.inside.marks.items _ _ _ c.self.invariant c.self.view_is c.requires c.index.ensures
