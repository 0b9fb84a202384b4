use Rattle.std.proofs.Common.{◌≡◌, length, arith}
use Rattle.mal_base.specs.Formulas.{literals_of}
use Rattle.mal_base.proofs.LaidLemmas.{literals-laid}
use Rattle.mal_base.proofs.clause_list.ClauseList.literals.Goals as goal

pub returns : goal.returns
returns c =
    let same : length c.self.inside.literals.items ≡ literals_of c.args.self.now = literals-laid _ c.self.inside.marks.items _ c.self.invariant c.self.view_is in
    omega (arith, c.len.ensures)
