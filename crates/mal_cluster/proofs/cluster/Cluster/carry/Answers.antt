use Rattle.std.proofs.Common.{◌+◌, List, Option, take, sym, ◌∙◌, ap, subst, arith}
use Rattle.spec_cluster.specs.Rounds.{carried}
use Rattle.spec_job.specs.KeyedJob.{Key}
use Rattle.mal_cluster.proofs.MovingLemmas.{on-err}
use Rattle.mal_cluster.proofs.TurningLemmas.{IsCarrying, begun-more, carrying-first, carrying-last, carrying-next, carrying-none, carrying-there, chosen-at, chosen-count}
use Rattle.mal_cluster.proofs.cluster.Cluster.carry.Goals.{in-None, in-Some+in_ok-go_on-in-Some}
use Rattle.mal_cluster.proofs.cluster.Cluster.carry.Goals as goal

pub loop-from-init : goal.loop-from-init
loop-from-init c = carrying-first c.args.chosen.now c.args.self.now c.requires

pub go_on-requires-clause-within : goal.go_on-requires-clause-within
go_on-requires-clause-within c = omega (arith, c.loop-from-test.true, chosen-count c.args.chosen.now c.args.self.now.halls c.requires, c.loop-from.invariant.size)

pub go_on-requires-clause-there : goal.go_on-requires-clause-there
go_on-requires-clause-there c =
    let one = chosen-at c.args.chosen.now c.loop-from.from c.index-chosen-from.result c.loop-from-test.true c.index-chosen-from.is ∙ c.in-Some.is in
    carrying-there c.args.chosen.now c.loop-from.from c.args.self.now c.loop-from.self c.in-Some.key c.loop-from-test.true one c.loop-from.invariant

pub returns-in_err-go_on-in-Some-clause-begun : goal.returns-in_err-go_on-in-Some-clause-begun
returns-in_err-go_on-in-Some-clause-begun c = begun-more c.args.self.now c.loop-from.self c.go_on.new.self c.loop-from.invariant.begun c.go_on.ensures.begun

pub returns-in_err-go_on-in-Some-clause-gone : goal.returns-in_err-go_on-in-Some-clause-gone
returns-in_err-go_on-in-Some-clause-gone c = on-err _ c.from_residual.result (c.loop-from.from, c.in_err-go_on-in-Some.ensures.kept ∙ (c.loop-from.invariant.gone ∙ ap (λ (ks : List (Option Key)). carried (take c.loop-from.from ks) 0 c.args.self.now) c.requires))

pub loop-from-preserved : goal.loop-from-preserved
loop-from-preserved c =
    let low = c.loop-from-test.true in
    let one = chosen-at c.args.chosen.now c.loop-from.from c.index-chosen-from.result c.loop-from-test.true c.index-chosen-from.is in
    elim c.match-chosen-from.branch [
      | in-None w ↦ subst (IsCarrying c.args.chosen.now (c.loop-from.from + 1) c.args.self.now) (sym w.self-is) (carrying-none c.args.chosen.now c.loop-from.from c.args.self.now c.loop-from.self low (one ∙ w.in-None.is) c.loop-from.invariant)
      | in-Some+in_ok-go_on-in-Some w ↦ subst (IsCarrying c.args.chosen.now (c.loop-from.from + 1) c.args.self.now) (sym w.self-is) (carrying-next c.args.chosen.now c.loop-from.from c.args.self.now c.loop-from.self w.in-Some.key low (one ∙ w.in-Some.is) c.loop-from.invariant w.go_on.new.self w.go_on.ensures.was w.in_ok-go_on-in-Some.ensures.goes w.go_on.ensures.begun)
    ]

pub returns-clause-carried : goal.returns-clause-carried
returns-clause-carried c = carrying-last c.args.chosen.now c.loop-from.from c.args.self.now c.loop-from.self (omega (arith, c.loop-from-test.false)) c.loop-from.invariant ∙ ap (λ (ks : List (Option Key)). carried ks 0 c.args.self.now) c.requires

pub returns-clause-begun : goal.returns-clause-begun
returns-clause-begun c = c.loop-from.invariant.begun
