use Rattle.std.proofs.Common.{List, [], ◌∷◌, ◌++◌, ap, sym, ◌∙◌}
use Rattle.spec_job.specs.SoloMachine.{Own, Volume}
use Rattle.mal_hall.proofs.MovingLemmas.{brings-none, brings-still}
use Rattle.mal_hall.proofs.moving.brought_by.Goals as goal
use Rattle.mal_hall.proofs.moving.brought_by.Goals.{then-volume-ne0+in_ok-push, else-volume-ne0}

pub returns : goal.returns
returns c =
    let mine = rw (c.tenant-tenant.ensures, c.name-name.ensures) at c.in_ok-own.ensures in
    elim c.if-volume-ne0.branch [
      | then-volume-ne0+in_ok-push w ↦ w.own-is ∙ (w.in_ok-push.ensures.ok ∙ (ap (λ (os : List Own). os ++ Volume 0 ∷ []) mine ∙ brings-still c.args.job.now.titled.key c.args.entries.now.events c.args.job.now.titled.state.volume c.requires (λ q. w.if-volume-ne0.true (c.volume.ensures.value ∙ q))))
      | else-volume-ne0 w ↦ w.own-is ∙ (mine ∙ brings-none c.args.job.now.titled.key c.args.entries.now.events c.args.job.now.titled.state.volume c.requires (sym c.volume.ensures.value ∙ w.if-volume-ne0.false))
    ]
