use Rattle.std.proofs.Common.{rules, w64, to_z, of_z, ◌≡◌, ◌+◌, [], ◌∷◌, slice_index_or, sym, ◌∙◌, arith}
use Rattle.mal_c.specs.Numbers.{number_of_clause, laid}
use Rattle.mal_c.proofs.LaidLemmas.{laid-nothing, laid-next}
use Rattle.mal_c.proofs.lines.write_hints.Goals as goal

pub loop-index-init : goal.loop-index-init
loop-index-init c = sym (laid-nothing c.args.at c.args.out.now)

pub loop-index-preserved : goal.loop-index-preserved
loop-index-preserved c =
    let same : to_z w64 (of_z w64 c.clause_number.result) ≡ number_of_clause (slice_index_or c.args.hints.now c.loop-index.index c.index-hints-index.result) = search rules in
    c.write.ensures ∙ (λ i. laid (c.args.at + c.loop-index.index) (same i ∷ []) (c.loop-index.invariant i))
    ∙ laid-next number_of_clause c.args.hints.now c.args.at c.loop-index.index c.index-hints-index.result c.args.out.now (omega (arith, c.loop-index-test.true))
