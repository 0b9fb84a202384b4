use Rattle.mal_cli.proofs.ClusterLemmas.{dealt-all}
use Rattle.mal_cli.proofs.clusters.dealt.Goals as goal

pub of_form-requires : goal.of_form-requires
of_form-requires c = dealt-all c.args.halls c.args.n c.loop-at.at c.args.script.now c.jobs-all.result.now c.loop-at.jobs.items c.jobs-all.ensures.formed c.jobs-all.ensures.jobs c.loop-at-test.false c.loop-at.invariant
