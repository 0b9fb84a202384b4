use Rattle.std.proofs.Common.{◌+◌, length, arith}
use Rattle.std.specs.Option.{option_map}
use Rattle.mal_lrat.specs.LineView.{seen}
use Rattle.mal_claim.proofs.RowSteps.{fault-step, short-step}
use Rattle.mal_claim.proofs.checking.read_behind.Goals as goal

pub loop-row-preserved-in_ok-line-2 : goal.loop-row-preserved-in_ok-line-2
loop-row-preserved-in_ok-line-2 c = (
  fault-step c.loop-row.number c.loop-row.last (c.loop-row.number + 1) c.last_behind-last.result (option_map seen c.in_ok-line.line) c.loop-row.rest.now c.in-Some.row.now c.in-Some.behind.now _ c.in-Some.ensures.lines c.in_ok-line.ensures (omega arith) c.last_behind-last.ensures c.loop-row.invariant.0,
  short-step c.loop-row.number (length c.loop-row.rest.now) (length c.in-Some.behind.now) _ c.in-Some.ensures.shorter c.loop-row.invariant.1,
)
