use Rattle.mal_cli.proofs.ClusterLemmas.{cluster-run, driven-there}
use Rattle.mal_cli.proofs.clusters.run_in.Goals as goal

pub replies-requires : goal.replies-requires
replies-requires c = driven-there c.args.halls c.args.workers c.args.every c.args.script.now c.in_ok-cluster.cluster c.drive.new.cluster c.requires.two c.requires.eight c.requires.some c.requires.bound c.in_ok-cluster.ensures.formed c.in_ok-cluster.ensures.posted c.in_ok-drive.ensures

pub returns : goal.returns
returns c = cluster-run c.args.halls c.args.workers c.args.every c.args.script.now c.in_ok-cluster.cluster c.drive.new.cluster c.into_halls.result.items c.in_ok-out.out.items c.requires.two c.requires.eight c.requires.some c.requires.bound c.in_ok-cluster.ensures.formed c.in_ok-cluster.ensures.posted c.in_ok-drive.ensures c.in_ok-out.ensures c.into_halls.ensures.histories c.into_halls.ensures.workers
