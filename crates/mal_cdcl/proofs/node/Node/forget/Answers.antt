use Rattle.std.proofs.Common.{List}
use Rattle.mal_base.specs.NumberedClause.{NumberedClause}
use Rattle.mal_cdcl.proofs.HeldCountLemmas.{within-fewer, rising-fewer}
use Rattle.mal_cdcl.proofs.node.Node.forget.Goals as goal

pub invariant_of-self : goal.invariant_of-self
invariant_of-self g c =
    let n = c.self.inside in
    let inv = c.self.invariant.0 in
    let held : List NumberedClause = g.E.ClauseView.clauses n.engine in (
      record {
        place = inv.place;
        small = inv.small;
        room = inv.room;
        assumed = inv.assumed;
        turned = inv.turned;
        ordered = inv.ordered;
        complete = inv.complete;
        phased = inv.phased;
        claused = rw c.forget.ensures.clauses (within-fewer n.variables _ held inv.claused);
        rising = rw c.forget.ensures.clauses (rising-fewer _ held inv.rising);
      },
      c.forget.ensures.fits n.trail.entries n.trail.processed c.self.invariant.1,
      c.self.invariant.2,
    )
