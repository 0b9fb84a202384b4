-- What clauses say of a turn, its tokens and what is held.
use Rattle.std.specs.Prelude.{◌≡◌}
use Rattle.mal_turn.specs.declared.view.View.{View}
use Rattle.mal_turn.specs.declared.table.TokenOf.{TokenOf}
use Rattle.mal_turn.specs.declared.table.HeldOf.{HeldOf}
use Rattle.mal_turn.specs.declared.table.Turn.{Turn}

module _ {T E : Type 0} where
  -- what the token knows
  abbrev pub view : TokenOf T E → View E
  view s = s.place.me.0

  -- what the holder's token knows
  abbrev pub held_view : HeldOf T E → View E
  held_view h = h.place.me.0

  -- the token is of this turn
  abbrev pub IsOf : Turn T E → TokenOf T E → Type 0
  IsOf t s = s.place.table_id ≡ t.table.shared.table_id

  -- what is held is of this turn
  abbrev pub IsHeldOf : Turn T E → HeldOf T E → Type 0
  IsHeldOf t h = h.place.table_id ≡ t.table.shared.table_id
