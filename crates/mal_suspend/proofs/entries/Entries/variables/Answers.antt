use Rattle.std.proofs.Common.{[], sym, ◌∙◌, ap}
use Rattle.std.specs.Arc.{arc_value}
use Rattle.mal_suspend.specs.Entries.{entries_of}
use Rattle.mal_suspend.specs.Replaying.{variables_after}
use Rattle.mal_suspend.proofs.EntryLemmas.{variables-behind}
use Rattle.mal_suspend.proofs.entries.Entries.variables.Goals as goal

pub returns-in-None : goal.returns-in-None
returns-in-None c = rw (← c.self.view_is, c.in-None.is) (sym (variables-behind 0 [] c.self.inside.slices))

pub returns-in-Some : goal.returns-in-Some
returns-in-Some c = rw (← c.self.view_is, c.in-Some.is) (c.variables.ensures ∙ (ap (λ cs. variables_after 0 (entries_of cs)) c.deref.ensures ∙ sym (variables-behind 0 (entries_of (arc_value c.in-Some.listed)) c.self.inside.slices)))
