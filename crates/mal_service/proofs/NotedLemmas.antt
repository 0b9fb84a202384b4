-- What is noted of a call of the hall.
use Rattle.std.proofs.Common.{◌≡◌, ℕ, ◌≤◌, List, [], ◌∷◌, ◌++◌, ap, ◌∙◌}
use Rattle.spec_hall.specs.Events.{Event}
use Rattle.mal_service.specs.Passes.{Enters, HasNoted}
use Rattle.mal_service.specs.Record.{Answered, Entry, StandsFor}
use Rattle.mal_service.proofs.RecordLemmas.{noted-enters}
use Rattle.mal_turn.specs.declared.view.View.{View}
use Rattle.mal_turn.specs.declared.view.Numbers.{Numbers}
use Rattle.mal_turn.specs.Rule.{Begins, Has}

module _ (w : ℕ) (some : 1 ≤ w) (bound : w ≤ 64) (v h after : View Entry) (past now : List Event) (c : Answered) (e : Entry) where
  -- a pass took the turn, its call was noted, and it put the hall back
  pub entered : Has v.of v.of.first → Begins h.seen v.of.all v.seen → h.of ≡ v.of → StandsFor w past h.seen → HasNoted w past c now e
      → after.seen ≡ h.seen ++ (h.of.first, e) ∷ [] → after.of ≡ h.of → Enters w v c after
  entered has begins numbers stands is seen of =
      noted-enters w some bound past now c e h.seen v after has begins stands is (seen ∙ ap (λ (n : Numbers). h.seen ++ (n.first, e) ∷ []) numbers) (of ∙ numbers)
