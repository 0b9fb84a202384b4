use Rattle.std.proofs.Common.{arith, refl, sym}
use Rattle.std.proofs.lemmas.Option.{slice_get_past, slice_get_read}
use Rattle.mal_posts.proofs.CursorLemmas.{left-none, next-closing, next-step, number-low, numbered-step}
use Rattle.mal_posts.proofs.cursor.Cursor.next_other.Goals as goal

pub number_after-self-inside-requires : goal.number_after-self-inside-requires
number_after-self-inside-requires c =
    let job = c.in-Some.ensures.lookup in
    let low = number-low c.self.inside.jobs.now c.self.inside.at c.in-Some.job.now c.self.inside.number c.self.invariant (slice_get_read c.self.inside.jobs.now _ c.self.inside.at.job c.in-Some.job.now refl job.3.0 job.1) in
    omega (arith, low, c.in-Some-step_at.ensures.low)

pub invariant_of-self : goal.invariant_of-self
invariant_of-self c =
    let job = c.in-Some.ensures.lookup in
    numbered-step c.self.inside.jobs.now c.self.inside.at c.in-Some.job.now c.in-Some-step_at.step.now c.self.inside.number c.number_after-self-inside.result c.self.invariant
    (slice_get_read c.self.inside.jobs.now _ c.self.inside.at.job c.in-Some.job.now refl job.3.0 job.1) (sym c.in-Some-step_at.ensures.step) c.number_after-self-inside.ensures.number

pub returns-in-None-clause-others : goal.returns-in-None-clause-others
returns-in-None-clause-others c = rw (← c.self.view_is) (left-none c.self.inside.jobs.now c.self.inside.at (slice_get_past c.self.inside.jobs.now c.self.inside.at.job c.in-None.ensures.lookup.3))

pub returns-in-Some-step_at-clause-others : goal.returns-in-Some-step_at-clause-others
returns-in-Some-step_at-clause-others c =
    let job = c.in-Some.ensures.lookup in
    rw (← c.self.view_is) (next-step c.self.inside.jobs.now c.self.inside.at c.in-Some.job.now c.in-Some-step_at.step.now c.self.inside.number c.self.invariant
    (slice_get_read c.self.inside.jobs.now _ c.self.inside.at.job c.in-Some.job.now refl job.3.0 job.1) (sym c.in-Some-step_at.ensures.step))

pub returns-in-None-step_at-clause-others : goal.returns-in-None-step_at-clause-others
returns-in-None-step_at-clause-others c =
    let job = c.in-Some.ensures.lookup in
    rw (← c.self.view_is) (next-closing c.self.inside.jobs.now c.self.inside.at c.in-Some.job.now c.place_of.result
    (slice_get_read c.self.inside.jobs.now _ c.self.inside.at.job c.in-Some.job.now refl job.3.0 job.1) (sym c.in-None-step_at.ensures.step) (rw c.tenant.ensures at c.place_of.ensures))
