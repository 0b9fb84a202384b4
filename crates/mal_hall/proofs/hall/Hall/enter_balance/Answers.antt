use Rattle.std.proofs.Common.{refl}
use Rattle.spec_hall.specs.Events.{Balance}
use Rattle.mal_hall.proofs.ApplyLemmas.{balance-entered, balance-refused}
use Rattle.mal_hall.proofs.InsideLemmas.{enters-same, stands}
use Rattle.mal_hall.proofs.PhaseLemmas.{test-not, test-yes}
use Rattle.mal_hall.proofs.hall.Hall.enter_balance.Goals as goal

pub returns-then-not-has_listed-clause-refused : goal.returns-then-not-has_listed-clause-refused
returns-then-not-has_listed-clause-refused c = λ is may. balance-refused _ _ _ c.args.volumes.now c.in-Ok.ensures.ok (test-not c.has_listed.result c.has_listed.ensures c.if-not-has_listed.true) may

pub returns-clause-entered : goal.returns-clause-entered
returns-clause-entered c =
    let is = stands _ _ refl c.is_due.ensures.some c.is_due.ensures.bound c.is_due.ensures.legal c.requires in
    enters-same _ _ (Balance c.args.volumes.now) is c.in-Ok.ensures.workers c.in-Ok.ensures.inside (balance-entered _ _ _ c.args.volumes.now c.in-Ok.ensures.ok (test-yes c.has_listed.result c.has_listed.ensures c.if-not-has_listed.false)) refl
