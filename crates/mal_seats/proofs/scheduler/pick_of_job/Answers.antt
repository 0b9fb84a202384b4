use Rattle.std.proofs.Common.{◌∙◌}
use Rattle.mal_seats.proofs.ScanLemmas.{picked-then, picked-else, picks-more}
use Rattle.mal_seats.proofs.scheduler.pick_of_job.Goals as goal
use Rattle.mal_seats.proofs.scheduler.pick_of_job.Goals.{then-is_startable, else-is_startable}

pub loop-index-preserved : goal.loop-index-preserved
loop-index-preserved c =
    let s = c.args.seat.now.job.titled.state in
    let i = c.loop-index.index in
    let within = rw c.volume-index-end.ensures.value at c.loop-index-test.true in
    let may = c.is_startable.ensures in
    elim c.if-is_startable.branch [
      | then-is_startable w ↦ picks-more c.args.job s c.loop-index.best c.if-is_startable.best _ i within (w.best-is ∙ picked-then c.args.job s c.loop-index.best _ i _ _ may w.if-is_startable.true w.starts-starts.ensures w.fewer-best.ensures) c.loop-index.invariant
      | else-is_startable w ↦ picks-more c.args.job s c.loop-index.best c.if-is_startable.best _ i within (w.best-is ∙ picked-else c.args.job s c.loop-index.best i _ may w.if-is_startable.false) c.loop-index.invariant
    ]
