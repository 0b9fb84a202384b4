use Rattle.std.proofs.Common.{◌+◌, length, arith}
use Rattle.std.specs.Option.{option_map}
use Rattle.mal_lrat.specs.LineView.{seen}
use Rattle.mal_check.specs.Checked.{held}
use Rattle.mal_claim.specs.ReadResult.{verdict_in}
use Rattle.mal_claim.proofs.RowSteps.{refusal-step, short-step, verdict-step}
use Rattle.mal_claim.proofs.checking.check_rows.Goals as goal

pub returns-in-Err : goal.returns-in-Err
returns-in-Err c =
    refusal-step (held c.loop-row.checker) c.loop-row.checker.added c.args.assumptions.now c.loop-row.number c.loop-row.last (c.loop-row.number + 1) c.last_behind-last.result (option_map seen c.in_ok-line.line) (verdict_in c.in-Err.fault) c.loop-row.rest.now c.in-Some.row.now c.in-Some.behind.now _ c.in-Some.ensures.lines c.in_ok-line.ensures (omega arith) c.last_behind-last.ensures c.in-Err.ensures.refused c.in_ok-read_behind-in-Err.ensures c.loop-row.invariant.0

pub loop-row-preserved : goal.loop-row-preserved
loop-row-preserved c = (
  verdict-step (held c.loop-row.checker) (held c.take_line.new.checker) c.loop-row.checker.added c.take_line.new.checker.added c.args.assumptions.now c.loop-row.number c.loop-row.last (c.loop-row.number + 1) c.last_behind-last.result (option_map seen c.in_ok-line.line) c.loop-row.rest.now c.in-Some.row.now c.in-Some.behind.now _ c.in-Some.ensures.lines c.in_ok-line.ensures (omega arith) c.last_behind-last.ensures c.in-Ok.ensures.taken c.loop-row.invariant.0,
  short-step c.loop-row.number (length c.loop-row.rest.now) (length c.in-Some.behind.now) _ c.in-Some.ensures.shorter c.loop-row.invariant.1,
)
