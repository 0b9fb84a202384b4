use Rattle.std.proofs.Common.{rules, ◌≡◌, [], ◌∷◌, w64, to_z, of_z, arith}
use Rattle.mal_c.proofs.LaidLemmas.{laid-one, laid-past}
use Rattle.mal_c.proofs.lines.write.Goals as goal

pub returns-then-at-out : goal.returns-then-at-out
returns-then-at-out c =
    let same : to_z w64 (of_z w64 c.args.number) ≡ c.args.number = search rules in
    rw same (laid-one c.args.at c.args.number c.args.out.now)

pub returns-else-at-out : goal.returns-else-at-out
returns-else-at-out c = laid-past c.args.at (c.args.number ∷ []) c.args.out.now (omega (arith, c.if-at-out.false))
