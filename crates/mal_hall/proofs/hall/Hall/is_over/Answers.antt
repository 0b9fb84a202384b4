use Rattle.std.proofs.Common.{sym}
use Rattle.mal_hall.proofs.PhaseLemmas.{phase-left, phase-over}
use Rattle.mal_hall.proofs.hall.Hall.is_over.Goals as goal

pub returns-then-is_done : goal.returns-then-is_done
returns-then-is_done c =
    let done = sym (rw c.if-is_done.true at c.is_done.ensures) in
    rw (← c.self.view_is) (phase-over _ _ _ c.self.invariant done c.deref.ensures.value c.count_out.ensures.value)

pub returns-else-is_done : goal.returns-else-is_done
returns-else-is_done c = rw (← c.self.view_is) (phase-left _ _ c.self.invariant c.is_done.ensures c.if-is_done.false)
