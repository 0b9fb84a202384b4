use Rattle.std.proofs.Common.{Bool, true, ◌||◌, ap, refl, sym, ◌∙◌}
use Rattle.spec_hall.specs.Seats.{is_due}
use Rattle.mal_hall.proofs.PhaseLemmas.{phase-calm, phase-due}
use Rattle.mal_hall.proofs.hall.Hall.is_due.Goals as goal

pub returns-then-self-clause-due : goal.returns-then-self-clause-due
returns-then-self-clause-due c = λ is. rw (← c.self.view_is) (phase-due _ true c.self.invariant (sym (ap (λ (m : Bool). m || is_due c.self.inside.seats) c.if-self.true)) refl)

pub returns-else-self-clause-due : goal.returns-else-self-clause-due
returns-else-self-clause-due c = λ is. rw (← c.self.view_is) (phase-due _ _ c.self.invariant (c.is_due.ensures ∙ sym (ap (λ (m : Bool). m || is_due c.self.inside.seats) c.if-self.false)) is)

pub returns-else-self-clause-calm : goal.returns-else-self-clause-calm
returns-else-self-clause-calm c = λ is. rw (← c.self.view_is) (phase-calm _ _ c.self.invariant (c.is_due.ensures ∙ sym (ap (λ (m : Bool). m || is_due c.self.inside.seats) c.if-self.false)) is)

pub returns-then-self-clause-legal : goal.returns-then-self-clause-legal
returns-then-self-clause-legal c = rw (← c.self.view_is) c.self.invariant.seated.legal

pub returns-then-self-clause-some : goal.returns-then-self-clause-some
returns-then-self-clause-some c = rw (← c.self.view_is) c.self.invariant.seated.some_worker

pub returns-then-self-clause-bound : goal.returns-then-self-clause-bound
returns-then-self-clause-bound c = rw (← c.self.view_is) c.self.invariant.bound

pub returns-else-self-clause-legal : goal.returns-else-self-clause-legal
returns-else-self-clause-legal c = rw (← c.self.view_is) c.self.invariant.seated.legal

pub returns-else-self-clause-some : goal.returns-else-self-clause-some
returns-else-self-clause-some c = rw (← c.self.view_is) c.self.invariant.seated.some_worker

pub returns-else-self-clause-bound : goal.returns-else-self-clause-bound
returns-else-self-clause-bound c = rw (← c.self.view_is) c.self.invariant.bound
