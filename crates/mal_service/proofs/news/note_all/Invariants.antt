use Rattle.std.proofs.Common.{◌≡◌, ◌++◌, take}
use Rattle.mal_service.specs.News.{lines_of_events}
use Rattle.mal_service.proofs.news.note_all.Given as goal

abbrev pub invariant-loop-event : goal.invariant-loop-event
invariant-loop-event l = l.text.items ≡ l.fn.text.items ++ lines_of_events (take l.event-index l.events)
