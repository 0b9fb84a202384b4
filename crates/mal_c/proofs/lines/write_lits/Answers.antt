use Rattle.std.proofs.Common.{rules, w64, to_z, of_z, ◌≡◌, ◌+◌, [], ◌∷◌, slice_index_or, sym, ◌∙◌, arith}
use Rattle.mal_base.specs.Literals.{dimacs_of}
use Rattle.mal_c.specs.Numbers.{laid}
use Rattle.mal_c.proofs.LaidLemmas.{laid-nothing, laid-next}
use Rattle.mal_c.proofs.lines.write_lits.Goals as goal

pub loop-index-init : goal.loop-index-init
loop-index-init c = sym (laid-nothing c.args.at c.args.out.now)

pub loop-index-preserved : goal.loop-index-preserved
loop-index-preserved c =
    let same : to_z w64 (of_z w64 c.from.result) ≡ dimacs_of (slice_index_or c.args.lits.now c.loop-index.index c.index-lits-index.result) = search rules in
    c.write.ensures ∙ (λ i. laid (c.args.at + c.loop-index.index) (same i ∷ []) (c.loop-index.invariant i))
    ∙ laid-next dimacs_of c.args.lits.now c.args.at c.loop-index.index c.index-lits-index.result c.args.out.now (omega (arith, c.loop-index-test.true))
