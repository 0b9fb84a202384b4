use Rattle.std.proofs.Common.{[], ◌∷◌, ◌++◌, refl, sym, ◌∙◌}
use Rattle.spec_cluster.proofs.MeasureLemmas.{rounds-end}
use Rattle.mal_cluster.proofs.MovingLemmas.{on-err}
use Rattle.mal_cluster.proofs.TurningLemmas.{begun-more, begun-none, round-first, round-last, round-next, rounds-gone}
use Rattle.mal_cluster.proofs.cluster.Cluster.drive_moving.Goals as goal

pub loop-self-init : goal.loop-self-init
loop-self-init c = record { rounds = round-first c.args.every c.args.self.now; begun = begun-none c.args.self.now; rounds_gone = []; gone = refl }

pub loop-self-smaller : goal.loop-self-smaller
loop-self-smaller c = rounds-end c.args.every c.loop-self.self c.go_round.new.self c.requires.low c.is_live.ensures.is (sym c.is_live.ensures.live ∙ c.loop-self-test.true) c.in_ok-go_round.ensures.round

pub loop-self-preserved : goal.loop-self-preserved
loop-self-preserved c = record {
  rounds = round-next c.args.every c.args.self.now c.loop-self.self c.go_round.new.self (sym c.is_live.ensures.live ∙ c.loop-self-test.true) c.in_ok-go_round.ensures.round c.loop-self.invariant.rounds;
  begun = begun-more c.args.self.now c.loop-self.self c.go_round.new.self c.loop-self.invariant.begun c.go_round.ensures.begun;
  rounds_gone = c.loop-self.invariant.rounds_gone ++ c.go_round.new.self ∷ [];
  gone = rounds-gone c.args.every c.args.self.now c.loop-self.invariant.rounds_gone c.loop-self.self c.go_round.new.self c.loop-self.invariant.gone (sym c.is_live.ensures.live ∙ c.loop-self-test.true) c.in_ok-go_round.ensures.round;
}

pub returns-in_err-go_round-clause-begun : goal.returns-in_err-go_round-clause-begun
returns-in_err-go_round-clause-begun c = begun-more c.args.self.now c.loop-self.self c.go_round.new.self c.loop-self.invariant.begun c.go_round.ensures.begun

pub returns-clause-rounds : goal.returns-clause-rounds
returns-clause-rounds c = round-last c.args.every c.args.self.now c.loop-self.self (sym c.is_live.ensures.live ∙ c.loop-self-test.false) c.loop-self.invariant.rounds

pub returns-clause-begun : goal.returns-clause-begun
returns-clause-begun c = c.loop-self.invariant.begun

pub returns-in_err-go_round-clause-broken : goal.returns-in_err-go_round-clause-broken
returns-in_err-go_round-clause-broken c = on-err _ c.from_residual.result (record {
  rounds = c.loop-self.invariant.rounds_gone;
  last = c.loop-self.self;
  whole = c.loop-self.invariant.gone;
  live = sym c.is_live.ensures.live ∙ c.loop-self-test.true;
  part = c.in_err-go_round.ensures.part;
})
