-- What each kind of step tells the token that makes it. Slot out and slot home are plain moves of what the token holds.
use Rattle.std.specs.Prelude.{List, ◌≡◌, ◌≢◌, ℕ, [], ◌∷◌, ◌++◌, length, Option, Some}
use Rattle.atomic_table.specs.Table.{Me, Step}
use Rattle.mal_turn.specs.declared.view.View.{View}
use Rattle.mal_turn.specs.declared.view.Stage.{Stage}
use Rattle.mal_turn.specs.declared.view.Stage.TheVariants.{Idle, Drawn, Holds, Entered}
use Rattle.mal_turn.specs.Rule.{At, Log, Begins, IsUnborn, at_stage, seeing}

-- a token as the table knows it: its view, and the slots that are out with it
abbrev pub Tabled : Type 0 → Type 0 → Type 0
Tabled T E = Me (Option T) (View E)

-- the ticket of a stage
abbrev pub ticket_of : Stage → ℕ
ticket_of Idle = 0
ticket_of (Drawn t) = t
ticket_of (Holds t) = t
ticket_of (Entered t) = t

module _ {T E : Type 0} where
  -- draw ticket: where the next ticket is the one that was expected, it is the token's
  abbrev pub draws : Step (Option T) → Tabled T E → ℕ → Tabled T E → Type 0
  draws st m r m' = (r ≡ st.first → m' ≡ (at_stage (Drawn st.first) m.0, m.1)) × (r ≢ st.first → m' ≡ m)

  -- the token is served: it has the value and has seen the whole record, in which no token has entered that it would still
  -- make
  abbrev pub served : (T → Log E → Type 0) → Tabled T E → ℕ → Tabled T E → Type 0
  served stands m t m' = (log : Log E) × (x : T) × (m' ≡ (seeing (Holds t) log m.0, (0, Some x) ∷ [])) × stands x log × Begins log m.0.of.all m.0.seen × (length log ≡ t) × IsUnborn m.0.of log

  -- the token sees the record so far, which begins with what it had seen, and with what the tokens had seen that it was
  -- joined of, and in which no token has entered that it would still make
  abbrev pub learns : Tabled T E → Tabled T E → Type 0
  learns m m' = (log : Log E) × (m' ≡ (seeing m.0.stage log m.0, m.1)) × Begins log m.0.of.all m.0.seen × ((i : ℕ) (o : List (List ℕ) × Log E) → At m.0.old i o → Begins log o.0 o.1) × IsUnborn m.0.of log

  -- look at serving: a token with a ticket is served or not, and one without sees the record so far
  abbrev pub looks_at : (T → Log E → Type 0) → Stage → Tabled T E → ℕ → Tabled T E → Type 0
  looks_at stands Idle m r m' = learns m m'
  looks_at stands (Drawn t) m r m' = (r ≡ t → served stands m t m') × (r ≢ t → m' ≡ m)
  looks_at stands (Holds t) m r m' = m' ≡ m
  looks_at stands (Entered t) m r m' = m' ≡ m

  -- look at serving, at the stage that the token has
  abbrev pub looks : (T → Log E → Type 0) → Step (Option T) → Tabled T E → ℕ → Tabled T E → Type 0
  looks stands st m r m' = looks_at stands m.0.stage m r m'

  -- enter history: the value's last entry, by the token's first number, stands after all that was seen
  abbrev pub enters : (T → E) → Step (Option T) → Tabled T E → ℕ → Tabled T E → Type 0
  enters last st m r m' = (x : T) → m.1 ≡ (0, Some x) ∷ [] → m' ≡ (seeing (Entered (ticket_of m.0.stage)) (m.0.seen ++ (m.0.of.first, last x) ∷ []) m.0, m.1)

  -- pass on: the value is at home, and the ticket is given up
  abbrev pub passes : Step (Option T) → Tabled T E → ℕ → Tabled T E → Type 0
  passes st m r m' = m' ≡ (at_stage Idle m.0, [])
