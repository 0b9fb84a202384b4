-- What was entered since somebody looked.
use Rattle.std.specs.Prelude.{◌≡◌, ℕ, List, length, drop, flat_map, map}
use Rattle.mal_history.specs.declared.event.Event as written
use Rattle.mal_history.specs.Text.{event_words}
use Rattle.mal_service.specs.declared.news.News.{News}
use Rattle.spec_hall.specs.Events.{Event, bare}
use Rattle.spec_text.specs.Lines.{line_of}

-- the lines of events as a history's text has them
abbrev pub lines_of_events : List written.Event → List ℕ
lines_of_events events = flat_map (λ e. line_of (event_words e)) events

-- the news since so many events of a history
pub record AreNews (from : ℕ) (history : List Event) (n : News) : Type 0 where
  pub text : n.text.items ≡ lines_of_events (drop from (map bare history))
  pub count : n.count ≡ length history
