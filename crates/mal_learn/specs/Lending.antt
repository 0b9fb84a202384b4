-- What a scratch is once the numbers that it lends are given back.
use Rattle.std.specs.Prelude.{ℕ, List, ◌++◌, take, drop, length}
use Rattle.std.specs.Borrow.{Lends, MutBor, Fml, Array}
use Rattle.mal_base.specs.contracts.clause_id.ClauseId as clause_id
use Rattle.mal_learn.specs.Shown.{Shown, Choice}
use Rattle.mal_learn.specs.contracts.dropping.Choice as choice
use Rattle.mal_learn.specs.contracts.scratch.Scratch as scratch

-- numbers, written over by others, as many as there were
abbrev pub written_over : List ℕ → List ℕ → List ℕ
written_over ids new = take (length ids) (new ++ drop (length new) ids)

-- a choice ends with the numbers that r shows last
abbrev pub ChoiceLends : MutBor Choice → MutBor (List ℕ) → Fml
ChoiceLends c r = Lends choice.the_row (Array clause_id.the_row 0) c r (λ ids. record { ids = c.now.ids; chosen = written_over c.now.chosen ids })

-- a scratch ends with the numbers that r shows last, and is as before in all else
abbrev pub ScratchLends : MutBor Shown → MutBor (List ℕ) → Fml
ScratchLends s r = Lends scratch.the_row (Array clause_id.the_row 0) s r (λ ids. record { clause = s.now.clause; hints = s.now.hints; level = s.now.level; room = s.now.room; ids = s.now.ids; chosen = written_over s.now.chosen ids })
