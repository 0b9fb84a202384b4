-- Laws of the turn, as they stand on the functions of `laws.rt`.
use Rattle.std.specs.Prelude.{◌≡◌, ℕ, ◌+◌, eqb, true, List, [], ◌∷◌, ◌++◌, Option, Some, ◌⊎◌}
use mathlib.Core.Option as lean
use prog.Atomic.{either}
use Rattle.atomic_table.specs.Table.{State, Allows, Splits, Joins, step, opening as opened}
use Rattle.mal_turn.specs.declared.view.View.{View}
use Rattle.mal_turn.specs.declared.view.Numbers.{Numbers}
use Rattle.mal_turn.specs.declared.view.Stage.TheVariants.{Idle, Drawn, Holds, Entered}
use Rattle.mal_turn.specs.Numbers.{among, part}
use Rattle.mal_turn.specs.Rule.{Log, At, Begins, Extends, Has, IsSpent, IsWhole, is_inside, Leaves, TurnRule, child, joined, opening, splitting, at_stage, opener, split_left, split_right, join_both, nobody}
use Rattle.std.specs.List.Sorted.{IsPermutation}
use Rattle.mal_turn.specs.Many.{split_times, children, join_all, numbers_of, awaited_of, AwaitsOthers, IsBack}
use Rattle.mal_turn.specs.Steps.{draws, looks, enters, passes}

module _ {T E : Type 0} (stands : T → Log E → Type 0) where
  -- the rule holds of a new table with a value that stands for no entries
  abbrev pub BeginsOrderly : Type 0
  BeginsOrderly = (xs : List (Option T)) (x : T) → xs ≡ Some x ∷ [] → stands x [] → TurnRule stands (opened (0 ∷ 0 ∷ 0 ∷ []) xs opener)

  -- splitting an idle token keeps the rule
  abbrev pub SplitKeeps : Type 0
  SplitKeeps = (id : ℕ) (v : View E) → Has v.of v.of.first → Splits (TurnRule stands) id (at_stage Idle v) (split_left (at_stage Idle v)) (split_right (at_stage Idle v))

  -- so does joining two idle tokens
  abbrev pub JoinKeeps : Type 0
  JoinKeeps = (id : ℕ) (v : View E) (other : ℕ) (w : View E) → Has v.of v.of.first
      → Joins (TurnRule stands) id (at_stage Idle v) other (at_stage Idle w) (join_both (at_stage Idle v) (at_stage Idle w)) nobody

  -- so does drawing the next ticket, where it is the one that was expected
  abbrev pub DrawKeeps : Type 0
  DrawKeeps = (slots id n k : ℕ) (v : View E) → Has v.of v.of.first → k ≡ n + 1
      → Allows (TurnRule stands) slots id (at_stage Idle v, []) 0 (λ x. either (eqb x n) k x) (draws (step slots 0 n k lean.none) (at_stage Idle v, []))

  -- so does a look of a token with a ticket, which then takes the value where it is served
  abbrev pub LookKeeps : Type 0
  LookKeeps = (slots id t : ℕ) (v : View E)
      → Allows (TurnRule stands) slots id (at_stage (Drawn t) v, []) 1 (λ x. x) (looks stands (step slots 1 0 0 lean.none) (at_stage (Drawn t) v, []))

  -- so does a look of a token without one
  abbrev pub IdleLookKeeps : Type 0
  IdleLookKeeps = (slots id : ℕ) (v : View E) → Has v.of v.of.first
      → Allows (TurnRule stands) slots id (at_stage Idle v, []) 1 (λ x. x) (looks stands (step slots 1 0 0 lean.none) (at_stage Idle v, []))

  -- so does the entry of the holder, who has put the value back into its slot
  abbrev pub EntryKeeps : (T → E) → Type 0
  EntryKeeps last = (slots id t k : ℕ) (v : View E) (y : T) → k ≡ t + 1
      → Allows (TurnRule stands) slots id (at_stage (Holds t) v, (0, Some y) ∷ []) 2 (λ x. either (eqb x t) k x) (enters last (step slots 2 t k lean.none) (at_stage (Holds t) v, (0, Some y) ∷ []))

  -- so does passing on, where the value stands for the record with the entry
  abbrev pub PassingKeeps : Type 0
  PassingKeeps = (slots id t k : ℕ) (v : View E) (x : T) → k ≡ t + 1 → stands x v.seen
      → Allows (TurnRule stands) slots id (at_stage (Entered t) v, (0, Some x) ∷ []) 1 (λ _. k) (λ _. passes (step slots 1 k 0 lean.none) (at_stage (Entered t) v, (0, Some x) ∷ []) k)

  -- at most one token holds the value
  abbrev pub OneHolds : Type 0
  OneHolds = (s : State (Option T) (View E)) → TurnRule stands s → (j k : ℕ) (v w : View E) → At s.views j v → At s.views k w → is_inside v.stage ≡ true → is_inside w.stage ≡ true → j ≡ k

  -- a number is at most one token's
  abbrev pub OneHas : Type 0
  OneHas = (s : State (Option T) (View E)) → TurnRule stands s → (j k : ℕ) (v w : View E) (x : List ℕ) → At s.views j v → At s.views k w → Has v.of x → Has w.of x → j ≡ k

  -- beside a whole token no other is left: the others were taken in
  abbrev pub WholeIsAlone : Type 0
  WholeIsAlone = (s : State (Option T) (View E)) → TurnRule stands s → (j k : ℕ) (v w : View E) → At s.views j v → At s.views k w → IsWhole v.of → IsSpent w.of ⊎ (j ≡ k)

  -- what a whole token's close leaves stands for a record which the token has seen whole, and of which each entry is
  -- its own
  abbrev pub WholeSeesAll : Type 0
  WholeSeesAll = (x : T) (v : View E) → IsWhole v.of → (l : Leaves stands x v) → (l.log ≡ v.seen) × (part v.of.all l.log ≡ l.log) × stands x v.seen

module _ (E : Type 0) where
  -- what was seen of a record is still its beginning where the record goes on
  abbrev pub SeenStays : Type 0
  SeenStays = (log between seen : Log E) (ns ms : List (List ℕ)) → Begins log ns between → Begins between ms seen
      → ((x : List ℕ) → among x ms ≡ true → among x ns ≡ true) → Begins log ms seen

  -- its part of the record has nothing that it did not see
  abbrev pub PartIsSeen : Type 0
  PartIsSeen = (log seen : Log E) (ns : List (List ℕ)) → Begins log ns seen → part ns log ≡ part ns seen

  -- one take and one put
  abbrev pub TurnExtends : Type 0
  TurnExtends = (v w : View E) (earlier : Log E) (e : E) → Has v.of v.of.first → Begins earlier v.of.all v.seen → w.seen ≡ earlier ++ (v.of.first, e) ∷ [] → w.of ≡ v.of → Extends v e w

-- after so many splits of the first token and as many joins, in any order of the new tokens, the token is whole
abbrev pub ManyAreWhole : Type 0
ManyAreWhole = (k : ℕ) (ms : List Numbers) → IsPermutation (children k opening) ms → IsWhole (join_all (split_times k opening) ms)

-- however the others were split: where each number that one of the tokens awaits is one of theirs, the token that took
-- them all in is whole
abbrev pub AllAreWhole : Type 0
AllAreWhole = (n : Numbers) (ms : List Numbers) → Has n [] → AwaitsOthers n → ((x : List ℕ) → among x (n.awaited ++ awaited_of ms) ≡ true → among x (n.all ++ numbers_of ms) ≡ true) → IsWhole (join_all n ms)

-- a token of which both parts came back and were joined is back
abbrev pub BothAreBack : Type 0
BothAreBack = (n a b : Numbers) → IsBack (splitting n) a → IsBack (child n) b → IsBack n (joined a b)

-- a whole token that is back is whole
abbrev pub BackIsWhole : Type 0
BackIsWhole = (n m : Numbers) → IsBack n m → IsWhole n → IsWhole m
