use Rattle.std.proofs.Common.{arith}
use Rattle.mal_job.proofs.TakenLemmas.{marked-step}
use Rattle.mal_job.proofs.exchange.move_marks.Goals as goal

pub loop-index-preserved : goal.loop-index-preserved
loop-index-preserved c = marked-step c.loop-index.index c.args.mark c.args.places.now.items c.loop-index.places.items c.index_mut.result.now c.move_mark.new.place (omega (arith, c.requires, c.loop-index-test.true)) c.loop-index.invariant c.index_mut.ensures.value c.move_mark.ensures
