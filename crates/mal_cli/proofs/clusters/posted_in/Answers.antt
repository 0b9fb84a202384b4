use Rattle.std.proofs.Common.{◌≡◌, List, [], sym, ◌∙◌, ap, subst, arith}
use Rattle.std.specs.List.{All}
use Rattle.std.proofs.lemmas.List.Elements.{All-push}
use Rattle.mal_hall.specs.HallView.{HallView}
use Rattle.mal_cluster.specs.Kept.{cluster_of, histories}
use Rattle.spec_cluster.specs.Run.{posted}
use Rattle.mal_cli.proofs.ClusterLemmas.{dealt-next, posted-all, posted-kept}
use Rattle.mal_cli.proofs.clusters.posted_in.Goals as goal

pub of-requires : goal.of-requires
of-requires c =
    let all : c.loop-n.n ≡ c.args.halls = omega arith in
    let are : cluster_of c.args.workers c.loop-n.made.items [] ≡ posted c.args.halls c.args.workers c.args.script.now = posted-all c.args.halls c.args.workers c.loop-n.n c.args.script.now c.loop-n.made.items all c.requires.eight c.loop-n.invariant.events in
    posted-kept c.args.halls c.args.workers c.args.script.now c.loop-n.made.items c.requires.two c.requires.eight c.requires.some c.requires.bound c.jobs.ensures.formed c.loop-n.invariant.each are

pub returns-clause-posted : goal.returns-clause-posted
returns-clause-posted c =
    let all : c.loop-n.n ≡ c.args.halls = omega arith in
    c.of.ensures ∙ posted-all c.args.halls c.args.workers c.loop-n.n c.args.script.now c.loop-n.made.items all c.requires.eight c.loop-n.invariant.events

pub loop-n-preserved : goal.loop-n-preserved
loop-n-preserved c = record {
  each = subst (λ (hs : List HallView). All (λ h. h.workers ≡ c.args.workers) hs) (sym c.in_ok-push.ensures.items) (All-push (λ (h : HallView). h.workers ≡ c.args.workers) c.loop-n.made.items c.in_ok-hall_of.field-0 c.loop-n.invariant.each c.in_ok-hall_of.ensures.workers);
  events = ap histories c.in_ok-push.ensures.items ∙ dealt-next c.args.halls c.loop-n.n c.args.script.now c.loop-n.made.items c.in_ok-hall_of.field-0 c.loop-n.invariant.events c.in_ok-hall_of.ensures.events;
}
