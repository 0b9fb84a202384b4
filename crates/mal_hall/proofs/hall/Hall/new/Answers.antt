use Rattle.std.proofs.Common.{List, Option, map, option_map, refl, ◌∙◌, ap}
use Rattle.mal_hall.proofs.HallLemmas.{hall-none}
use Rattle.mal_hall.proofs.InsideLemmas.{inside-none, none-lodged}
use Rattle.mal_hall.specs.Offered.{handed_of}
use Rattle.spec_job.specs.Leased.{Leased}
use Rattle.mal_hall.proofs.hall.Hall.new.Goals as goal

pub invariant_of-result : goal.invariant_of-result
invariant_of-result c = hall-none c.new.result c.args.workers c.new-2.result c.in_ok-spots.spots.items c.new-3.result c.new.ensures.workers c.requires.some c.requires.bound c.new.ensures.events c.new-2.ensures c.in_ok-spots.ensures c.new-3.ensures.found c.new-3.ensures.jobs

pub returns-clause-none : goal.returns-clause-none
returns-clause-none c = ap (λ (ls : List (Option Leased)). map (option_map handed_of) ls) c.in_ok-lodged.ensures ∙ none-lodged c.args.workers

pub returns-clause-inside : goal.returns-clause-inside
returns-clause-inside c = inside-none _ c.args.workers c.in_ok-lodged.lodged.items c.new.ensures.workers c.new.ensures.events refl c.in_ok-lodged.ensures
