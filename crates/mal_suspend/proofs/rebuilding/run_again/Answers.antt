use Rattle.std.proofs.Common.{◌∙◌, arith}
use Rattle.mal_suspend.proofs.RebuildLemmas.{slice-may, slice-more}
use Rattle.mal_suspend.proofs.rebuilding.run_again.Goals as goal

pub run_once-requires : goal.run_once-requires
run_once-requires c = slice-may c.args.node.now.state c.loop.node.state c.args.slices c.loop.counter (omega arith) c.loop.invariant c.requires

pub loop-preserved : goal.loop-preserved
loop-preserved c = c.in_ok-run_once.ensures ∙ slice-more c.args.node.now.state c.loop.node.state c.loop.counter c.loop.invariant
