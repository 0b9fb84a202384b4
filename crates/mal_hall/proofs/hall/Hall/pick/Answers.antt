use Rattle.std.proofs.Common.{◌∙◌, sym}
use Rattle.mal_hall.proofs.PhaseLemmas.{arranged-same, may-pick, pick-busy, pick-done, pick-idle, pick-start, pick-wanting, start-may}
use Rattle.mal_hall.proofs.hall.Hall.pick.Goals as goal

pub returns-then-has_lease-clause-call : goal.returns-then-has_lease-clause-call
returns-then-has_lease-clause-call c = pick-busy _ _ c.args.worker (sym c.has_lease.ensures ∙ c.if-has_lease.true)

pub returns-then-is_over-clause-call : goal.returns-then-is_over-clause-call
returns-then-is_over-clause-call c = pick-done _ _ c.args.worker (sym c.is_over.ensures ∙ c.if-is_over.true)

pub returns-in-Err-clause-call : goal.returns-in-Err-clause-call
returns-in-Err-clause-call c =
    let may = may-pick _ c.args.worker _ _ c.has_lease.ensures c.if-has_lease.false c.is_over.ensures c.if-is_over.false in
    pick-wanting _ _ _ c.args.worker may c.in-Err.ensures.due

pub returns-in_default-clause-call : goal.returns-in_default-clause-call
returns-in_default-clause-call c =
    let may = may-pick _ c.args.worker _ _ c.has_lease.ensures c.if-has_lease.false c.is_over.ensures c.if-is_over.false in
    pick-idle _ _ _ c.args.worker may c.in-Ok.ensures.due c.in-Ok.ensures.calm (sym c.next.ensures ∙ c.in_default.is)

pub start_at-requires : goal.start_at-requires
start_at-requires c =
    let may = may-pick _ c.args.worker _ _ c.has_lease.ensures c.if-has_lease.false c.is_over.ensures c.if-is_over.false in
    rw (c.job.ensures, c.index.ensures) (start-may _ _ _ _ c.args.worker _ c.in-Some.next c.in-Ok.ensures.workers c.requires.some c.requires.bound may c.in-Ok.ensures.due c.in-Ok.ensures.calm c.next.ensures c.in-Some.is)

pub returns-in-Ok-start_at-clause-call : goal.returns-in-Ok-start_at-clause-call
returns-in-Ok-start_at-clause-call c =
    let may = may-pick _ c.args.worker _ _ c.has_lease.ensures c.if-has_lease.false c.is_over.ensures c.if-is_over.false in
    pick-start _ _ _ _ _ c.args.worker _ _ c.in-Ok.ensures.workers may c.in-Ok.ensures.due c.in-Ok-start_at.ensures.ok

pub returns-in-Err-start_at-clause-call : goal.returns-in-Err-start_at-clause-call
returns-in-Err-start_at-clause-call c =
    let may = may-pick _ c.args.worker _ _ c.has_lease.ensures c.if-has_lease.false c.is_over.ensures c.if-is_over.false in
    pick-wanting _ _ _ c.args.worker may (arranged-same _ _ _ _ c.in-Err-start_at.ensures.err c.in-Ok.ensures.due)
