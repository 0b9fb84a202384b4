use Rattle.std.proofs.Common.{◌≡◌, true, refl}
use Rattle.mal_base.proofs.Sorting.{and-both}
use Rattle.mal_revision.specs.Posted.{is_posted}
use Rattle.mal_script.proofs.opened.revision_of.Goals as goal

pub returns-in-Ok : goal.returns-in-Ok
returns-in-Ok c =
    let posted : is_posted (record { variables = c.variables-variables.result; clauses = c.into_clauses.result; assumptions = c.args.assumptions.now }) ≡ true = rw (c.variables-variables.ensures.value, c.into_clauses.ensures) (and-both _ _ c.requires.form (and-both _ _ c.requires.rising c.requires.within)) in
    let made = c.in-Ok.ensures.fits posted in
    rw (made, c.variables-variables.ensures.value, c.into_clauses.ensures) refl
