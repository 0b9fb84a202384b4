-- What holds of every text, in the form in which the law functions state it.
use Rattle.std.specs.Prelude.{◌≡◌, ◌↔◌, ℕ, List, Ok}
use Rattle.spec_max.specs.Optimum.{Instance}
use Rattle.spec_max.specs.Right.{IsServed}
use Rattle.mal_max.specs.Reading.{read_text}
use Rattle.mal_max.specs.Grammar.{Spells}

-- a text spells an instance exactly where reading gives it: no text spells two instances, or has a first fault and
-- spells one
abbrev pub SpelledIsRead : Type 0
SpelledIsRead = (text : List ℕ) (w : Instance) → Spells text w ↔ (read_text text ≡ Ok w)

-- what a text spells is served
abbrev pub SpelledIsServed : Type 0
SpelledIsServed = (text : List ℕ) (w : Instance) → Spells text w → IsServed w
