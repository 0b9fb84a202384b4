use Rattle.std.proofs.Common.{arith}
use Rattle.mal_cdcl.proofs.FillLemmas.{lits_more}
use Rattle.mal_cdcl.proofs.ImageLemmas.{not_before, one_more, within-at, lits-after}
use Rattle.mal_cdcl.proofs.copies.engine_of.Goals as goal

pub load-requires-clause-new : goal.load-requires-clause-new
load-requires-clause-new g c =
    rw (c.id.ensures, c.loop-held.invariant.clauses_are) (not_before c.args.clauses.now c.loop-held.held-index c.held-item.result c.held-item.result 0 c.requires.rising (omega arith) c.held-item.is)

pub load-requires-clause-room : goal.load-requires-clause-room
load-requires-clause-room g c =
    let within = within-at c.args.variables c.args.clauses.now c.loop-held.held-index c.held-item.result c.held-item.result c.requires.form (omega arith) c.held-item.is in
    let after = lits-after c.args.clauses.now c.loop-held.held-index c.held-item.result c.held-item.result (omega arith) c.held-item.is in
    rw (c.lits.ensures.value, c.clause.ensures) (record {
      within = lits_more c.args.variables (g.E.Engine.room c.loop-held.engine).variables c.held-item.result.lits c.loop-held.invariant.for_variables within;
      clauses = omega (arith, c.loop-held.invariant.for_clauses);
      literals = omega (arith, c.loop-held.invariant.for_literals, after);
    })

pub loop-held-preserved : goal.loop-held-preserved
loop-held-preserved g c =
    let after = lits-after c.args.clauses.now c.loop-held.held-index c.held-item.result c.held-item.result (omega arith) c.held-item.is in
    let left = rw (c.lits.ensures.value, c.clause.ensures) at c.load.ensures.room in
    record {
      clauses_are = rw (c.load.ensures.clauses, c.id.ensures, c.lits.ensures.value, c.clause.ensures, c.loop-held.invariant.clauses_are) (one_more c.args.clauses.now c.loop-held.held-index c.held-item.result c.held-item.result c.requires.rising (omega arith) c.held-item.is);
      fits = c.load.ensures.fits;
      for_variables = omega (arith, c.loop-held.invariant.for_variables, left.variables);
      for_clauses = omega (arith, c.loop-held.invariant.for_clauses, left.clauses);
      for_literals = omega (arith, c.loop-held.invariant.for_literals, left.literals, after);
    }
