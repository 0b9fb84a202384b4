use Rattle.std.proofs.Common.{◌∙◌}
use Rattle.spec_hall.specs.Dressed.{keyed}
use Rattle.mal_hall.proofs.ApplyLemmas.{enters-finish, held-slot, lodged-is, never-none}
use Rattle.mal_hall.proofs.InsideLemmas.{stands}
use Rattle.mal_hall.proofs.PhaseLemmas.{test-yes}
use Rattle.mal_hall.proofs.hall.Hall.enter_finish.Goals as goal

pub take_lodged-requires-clause-bound : goal.take_lodged-requires-clause-bound
take_lodged-requires-clause-bound c =
    let is = stands _ c.workers.result (c.workers.ensures.value ∙ c.history.ensures.workers) c.workers.ensures.some c.workers.ensures.bound c.history.ensures.legal c.requires in
    let out = test-yes c.holds.result c.holds.ensures.value c.if-not-holds.false in
    held-slot _ (keyed c.args.tenant.now c.args.job.now) c.args.index c.args.worker is out

pub unreachable-requires : goal.unreachable-requires
unreachable-requires c =
    let is = stands _ c.workers.result (c.workers.ensures.value ∙ c.history.ensures.workers) c.workers.ensures.some c.workers.ensures.bound c.history.ensures.legal c.requires in
    let out = test-yes c.holds.result c.holds.ensures.value c.if-not-holds.false in
    never-none _ (keyed c.args.tenant.now c.args.job.now) c.args.index c.args.worker c.take_lodged.result is out c.take_lodged.ensures.taken c.in_default.is

pub end_lodged-requires-clause-lodged : goal.end_lodged-requires-clause-lodged
end_lodged-requires-clause-lodged c =
    let is = stands _ c.workers.result (c.workers.ensures.value ∙ c.history.ensures.workers) c.workers.ensures.some c.workers.ensures.bound c.history.ensures.legal c.requires in
    let out = test-yes c.holds.result c.holds.ensures.value c.if-not-holds.false in
    lodged-is _ c.take_lodged.new.self (keyed c.args.tenant.now c.args.job.now) c.args.index c.args.worker c.take_lodged.result c.in-Some.lease is out c.take_lodged.ensures.taken c.in-Some.is c.take_lodged.ensures.events

pub returns-in-Ok-clause-entered : goal.returns-in-Ok-clause-entered
returns-in-Ok-clause-entered c =
    let is = stands _ c.workers.result (c.workers.ensures.value ∙ c.history.ensures.workers) c.workers.ensures.some c.workers.ensures.bound c.history.ensures.legal c.requires in
    let out = test-yes c.holds.result c.holds.ensures.value c.if-not-holds.false in
    let e = c.end_lodged.ensures in
    enters-finish _ _ _ (keyed c.args.tenant.now c.args.job.now) c.args.index c.args.worker c.args.outcome is out c.take_lodged.ensures.workers c.take_lodged.ensures.events c.take_lodged.ensures.inside e.workers e.inside c.in-Ok.ensures.ended
