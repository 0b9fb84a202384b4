use Rattle.mal_base.specs.declared.verdict.Outcome.TheVariants.{Ran}
use Rattle.mal_hall.proofs.ApplyLemmas.{lodged-may, lost-may, unrun-may}
use Rattle.mal_hall.proofs.hall.Hall.end_lodged.Goals as goal

pub end-requires-clause-may : goal.end-requires-clause-may
end-requires-clause-may c = lodged-may _ c.args.worker c.args.lease Ran _ c.requires.lodged c.in_ok-done-in-Ran.ensures

pub end_starved-requires-clause-may : goal.end_starved-requires-clause-may
end_starved-requires-clause-may c = unrun-may _ c.args.worker c.args.lease _ c.requires.lodged c.into_kept.ensures.journal c.into_kept.ensures.gone

pub end-requires-in-Lost-clause-may : goal.end-requires-in-Lost-clause-may
end-requires-in-Lost-clause-may c = lost-may _ c.args.worker c.args.lease c.requires.lodged
