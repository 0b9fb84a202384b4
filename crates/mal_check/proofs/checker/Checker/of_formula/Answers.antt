use Rattle.std.proofs.Common.{◌<◌, None, ◌∙◌, ap, arith, length, take}
use Rattle.std.proofs.lemmas.List.{length-take-le}
use Rattle.spec_logic.specs.Derivation.{Holding}
use Rattle.mal_check.specs.Checked.{held}
use Rattle.mal_check.proofs.NumberLemmas.{numbered-past, numbered-next, originals-next}
use Rattle.mal_check.proofs.checker.Checker.of_formula.Goals as goal

pub original-requires-in-loop-index : goal.original-requires-in-loop-index
original-requires-in-loop-index c =
    let low : c.loop-index.index < length c.clauses-clauses.result.now = omega arith in
    let front = length-take-le c.loop-index.index c.clauses-clauses.result.now (omega arith) in
    ap (λ (h : Holding). h c.original.result) c.loop-index.invariant.2 ∙ numbered-past (take c.loop-index.index c.clauses-clauses.result.now) c.original.result (omega (arith, front, c.original.ensures))

pub loop-index-preserved : goal.loop-index-preserved
loop-index-preserved c =
    let low : c.loop-index.index < length c.clauses-clauses.result.now = omega arith in
    (originals-next c.clauses-clauses.result.now c.loop-index.checker.originals c.original-in-loop-index.new.self.originals c.loop-index.index c.in_ok-clause.clause None low c.loop-index.invariant.0 c.in_ok-original.ensures.originals c.in_ok-clause.ensures, c.in_ok-original.ensures.added ∙ c.loop-index.invariant.1, c.in_ok-original.ensures.held ∙ numbered-next (held c.loop-index.checker) c.clauses-clauses.result.now c.loop-index.index c.original.result c.in_ok-clause.clause None low c.loop-index.invariant.2 c.original.ensures c.in_ok-clause.ensures, c.original-in-loop-index.ensures.room)

pub returns-clause-room : goal.returns-clause-room
returns-clause-room c = c.loop-index.invariant.3
