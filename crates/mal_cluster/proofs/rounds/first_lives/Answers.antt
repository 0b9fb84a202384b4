use Rattle.std.proofs.Common.{List, ◌∙◌, ap}
use Rattle.std.proofs.lemmas.List.{take_all}
use Rattle.mal_hall.specs.HallView.{HallView}
use Rattle.mal_cluster.proofs.FindingLemmas.{firsts, firsts-are, firsts-more}
use Rattle.mal_cluster.proofs.rounds.first_lives.Goals as goal

pub loop-hall-init : goal.loop-hall-init
loop-hall-init c = c.new-firsts.ensures.items

pub loop-hall-preserved : goal.loop-hall-preserved
loop-hall-preserved c = firsts-more c.args.halls.now c.loop-hall.hall-index c.hall-item.result c.first_live.result c.loop-hall.firsts.items c.push.new.self.items c.loop-hall-test.true c.hall-item.is c.first_live.ensures c.loop-hall.invariant c.in_ok-push.ensures.items

pub returns : goal.returns
returns c = c.loop-hall.invariant ∙ (ap (λ (hs : List HallView). firsts hs) (take_all c.loop-hall.hall-index c.args.halls.now c.loop-hall-test.false) ∙ firsts-are c.args.halls.now)
