use Rattle.mal_hall.proofs.DriveLemmas.{done-stopped, err-rested, idle-stopped, not-busy, rested-turn, stopped-turn, worked-turn}
use Rattle.mal_hall.proofs.hall.Hall.turn.Goals as goal

pub unreachable-requires : goal.unreachable-requires
unreachable-requires c = not-busy _ _ _ c.requires.home (rw c.in-Err-Busy.field-0-is at c.in-Err-Busy.ensures.call)

pub returns-in-Err-OutOfMemory-clause-turned : goal.returns-in-Err-OutOfMemory-clause-turned
returns-in-Err-OutOfMemory-clause-turned c =
    let called = rw c.in-Err-OutOfMemory.field-0-is at c.in-Err-OutOfMemory.ensures.call in
    rested-turn _ _ _ _ (err-rested _ _ _ _ c.is_due.ensures.some c.is_due.ensures.legal c.requires.home called) called

pub returns-in-Ok-Idle-clause-turned : goal.returns-in-Ok-Idle-clause-turned
returns-in-Ok-Idle-clause-turned c = stopped-turn _ _ _ (idle-stopped _ _ _ c.is_due.ensures.some c.is_due.ensures.bound c.is_due.ensures.legal c.requires.home (rw c.in-Ok-Idle.field-0-is at c.in-Ok-Idle.ensures.call))

pub returns-in-Ok-AllDone-clause-turned : goal.returns-in-Ok-AllDone-clause-turned
returns-in-Ok-AllDone-clause-turned c = stopped-turn _ _ _ (done-stopped _ _ _ c.is_due.ensures.some c.is_due.ensures.bound c.is_due.ensures.legal c.requires.home (rw c.in-Ok-AllDone.field-0-is at c.in-Ok-AllDone.ensures.call))

pub returns-in-Ok-Leased-clause-turned : goal.returns-in-Ok-Leased-clause-turned
returns-in-Ok-Leased-clause-turned c = worked-turn _ _ _ _ _ c.in-Ok-Leased.lease c.in-Ok-Leased.ensures.workers c.is_due.ensures.some c.is_due.ensures.bound c.is_due.ensures.legal c.requires.home (rw c.in-Ok-Leased.field-0-is at c.in-Ok-Leased.ensures.call) c.work_off.ensures.off
