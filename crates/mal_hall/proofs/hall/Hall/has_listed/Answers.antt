use Rattle.std.proofs.Common.{◌∙◌, sym}
use Rattle.mal_hall.proofs.ApplyLemmas.{listed-test}
use Rattle.mal_hall.proofs.hall.Hall.has_listed.Goals as goal

pub returns-in-Some : goal.returns-in-Some
returns-in-Some c = rw (← c.self.view_is) (listed-test _ c.events.result.now c.in-Some.event.now _ c.args.volumes.now (c.events.ensures ∙ c.history.ensures.events) (sym (rw c.in-Some.is at c.last.ensures.value)) c.lists.ensures)
