use Rattle.std.proofs.Common.{length, drop, sym, ◌∙◌, ap, subst}
use Rattle.spec_job.specs.SoloMachine.{Lease}
use Rattle.mal_job.specs.Placing.{out_of, IsNodeAt}
use Rattle.mal_job.specs.Viewed.{PlaceView}
use Rattle.mal_job.proofs.TreeLemmas.{back-ran, back-starved}
use Rattle.mal_job.proofs.node_slot.NodeSlot.is_back.Goals as goal

pub returns-in-Ran : goal.returns-in-Ran
returns-in-Ran c =
    let l : Lease = record { revision = c.in-Out.field-0; adds = drop (length c.self.inside.journal.entries) c.in-Out.grown.entries } in
    let p : PlaceView = record { journal = c.self.inside.journal; out = out_of c.self.inside.journal.entries c.self.inside.whereabouts; starts = c.self.inside.starts; mark = c.self.inside.mark } in
    let there = c.same.ensures in
    rw (← c.self.view_is) (back-ran p c.args.back.now l c.same.result (ap (λ s. out_of c.self.inside.journal.entries s) c.in-Out.is) c.in-Out.grown (subst (λ s. IsNodeAt c.self.inside.journal s) c.in-Out.is c.self.invariant) (sym c.outcome.ensures.value ∙ c.in-Ran.is) (λ h. there.0 h ∙ c.journal.ensures) (λ e. there.1 (e ∙ sym c.journal.ensures)))

pub returns-in-Starved : goal.returns-in-Starved
returns-in-Starved c =
    let l : Lease = record { revision = c.in-Out.field-0; adds = drop (length c.self.inside.journal.entries) c.in-Out.grown.entries } in
    let p : PlaceView = record { journal = c.self.inside.journal; out = out_of c.self.inside.journal.entries c.self.inside.whereabouts; starts = c.self.inside.starts; mark = c.self.inside.mark } in
    let there = c.same-in-Starved.ensures in
    rw (← c.self.view_is) (back-starved p c.args.back.now l c.same-in-Starved.result (ap (λ s. out_of c.self.inside.journal.entries s) c.in-Out.is) (sym c.outcome.ensures.value ∙ c.in-Starved.is) (λ h. there.0 h ∙ c.journal-in-Starved.ensures) (λ e. there.1 (e ∙ sym c.journal-in-Starved.ensures)))
