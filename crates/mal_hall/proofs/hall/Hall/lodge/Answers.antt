use Rattle.std.proofs.Common.{◌-◌, ap, map, option_map, slice_set, ◌∙◌}
use Rattle.mal_hall.specs.Offered.{handed_of}
use Rattle.mal_hall.proofs.ApplyLemmas.{set-slot}
use Rattle.mal_hall.proofs.hall.Hall.lodge.Goals as goal

pub returns-clause-inside : goal.returns-clause-inside
returns-clause-inside c = rw (← c.self.view_is) (set-slot c.self.inside.lodged.items (c.args.worker - 1) c.replace-before.new.dest ∙ ap (λ o. slice_set (map (option_map handed_of) c.self.inside.lodged.items) (c.args.worker - 1) (option_map handed_of o)) c.replace-before.ensures.after)
