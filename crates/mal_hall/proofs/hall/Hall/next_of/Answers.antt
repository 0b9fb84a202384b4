use Rattle.std.proofs.Common.{ℕ, ◌+◌, ◌∙◌, ap, length, sym}
use Rattle.std.proofs.lemmas.List.{length-map}
use Rattle.spec_hall.specs.Dressed.{keyed}
use Rattle.mal_hall.proofs.ApplyLemmas.{next-none, next-some}
use Rattle.mal_hall.proofs.hall.Hall.next_of.Goals as goal

pub returns-in-None : goal.returns-in-None
returns-in-None c = next-none c.args.self.now.events (keyed c.args.tenant.now c.args.job.now) (rw c.in-None.is at c.job_named.ensures.found)

pub returns-in-Some : goal.returns-in-Some
returns-in-Some c =
    ap (λ (n : ℕ). n + 1) (sym (length-map c.revisions.result.now _) ∙ ap (λ rs. length rs) c.revisions.ensures.value)
    ∙ next-some c.args.self.now.events (keyed c.args.tenant.now c.args.job.now) c.in-Some.job.now.titled (rw c.in-Some.is at c.job_named.ensures.found)
