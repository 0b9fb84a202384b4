-- The rule of the turn: of the words, the slot and what each token knows.
use Rattle.std.specs.Prelude.{◌≡◌, ℕ, ◌+◌, ◌<◌, ◌≤◌, Bool, true, false, List, [], ◌∷◌, ◌++◌, map, length, nat_le, if◌then◌else◌, ◌⊎◌, Option, Some}
use mathlib.Core.Option as lean
use lib.ListN.{get_elem?}
use Rattle.atomic_table.specs.Table.{State}
use Rattle.mal_turn.specs.declared.view.View.{View}
use Rattle.mal_turn.specs.declared.view.Numbers.{Numbers}
use Rattle.mal_turn.specs.declared.view.Stage.{Stage}
use Rattle.mal_turn.specs.declared.view.Stage.TheVariants.{Idle, Drawn, Holds, Entered}
use Rattle.mal_turn.specs.Numbers.{among, without, part}

-- a record: entries, each with the number of the token that made it
abbrev pub Log : Type 0 → Type 0
Log E = List (List ℕ × E)

-- numbers, with what was seen when they were one token's
abbrev pub Olds : Type 0 → Type 0
Olds E = List (List (List ℕ) × Log E)

-- at this place of the list stands v
abbrev pub At : {V : Type 0} → List V → ℕ → V → Type 0
At views j v = get_elem? views j ≡ lean.some v

-- the ticket that the token has drawn
abbrev pub HasTicket : ℕ → Stage → Type 0
HasTicket t Idle = ⊥
HasTicket t (Drawn u) = u ≡ t
HasTicket t (Holds u) = u ≡ t
HasTicket t (Entered u) = u ≡ t

-- the token has the slot
abbrev pub is_inside : Stage → Bool
is_inside Idle = false
is_inside (Drawn t) = false
is_inside (Holds t) = true
is_inside (Entered t) = true

-- the numbers of the first token
abbrev pub opening : Numbers
opening = record { first = []; count = 0; all = [] ∷ []; awaited = [] }

-- the numbers of a token that another took in: none
abbrev pub spent : Numbers
spent = record { first = []; count = 0; all = []; awaited = [] }

-- the token has the number
abbrev pub Has : Numbers → List ℕ → Type 0
Has n x = among x n.all ≡ true

-- another token took it in
abbrev pub IsSpent : Numbers → Type 0
IsSpent n = n.all ≡ []

-- the new number that a split makes
abbrev pub next_number : Numbers → List ℕ
next_number n = n.first ++ n.count ∷ []

-- the numbers of the old token after a split
abbrev pub splitting : Numbers → Numbers
splitting n = record { first = n.first; count = n.count + 1; all = n.all; awaited = next_number n ∷ n.awaited }

-- the numbers of the new token after a split
abbrev pub child : Numbers → Numbers
child n = record { first = next_number n; count = 0; all = next_number n ∷ []; awaited = [] }

-- the numbers of a token that took in another
abbrev pub joined : Numbers → Numbers → Numbers
joined n m = record { first = n.first; count = n.count; all = n.all ++ m.all; awaited = without (n.awaited ++ m.awaited) (n.all ++ m.all) }

-- it has the first token's number and awaits nothing: no other token is left
abbrev pub IsWhole : Numbers → Type 0
IsWhole n = Has n [] × (n.awaited ≡ [])

module _ {E : Type 0} where
  -- a view of these parts
  abbrev pub viewing : Stage → Log E → Olds E → Numbers → View E
  viewing s seen old n = record { stage = s; seen = seen; old = old; of = n }

  -- the view of the first token
  abbrev pub opener : View E
  opener = viewing Idle [] [] opening

  -- the view of a token that another took in
  abbrev pub nobody : View E
  nobody = viewing Idle [] [] spent

  -- the view at another stage
  abbrev pub at_stage : Stage → View E → View E
  at_stage s v = viewing s v.seen v.old v.of

  -- the view at another stage that has seen the record so far
  abbrev pub seeing : Stage → Log E → View E → View E
  seeing s log v = viewing s log [] v.of

  -- of two records that were seen, the longer
  abbrev pub longer : Log E → Log E → Log E
  longer a b = if nat_le (length a) (length b) then b else a

  -- the old token's view after a split
  abbrev pub split_left : View E → View E
  split_left v = viewing v.stage v.seen v.old (splitting v.of)

  -- the new token's view after a split
  abbrev pub split_right : View E → View E
  split_right v = viewing Idle v.seen [] (child v.of)

  -- the view of a token that took in another: the longer record seen, and what both had seen
  abbrev pub join_both : View E → View E → View E
  join_both v w = viewing v.stage (longer v.seen w.seen) ((v.of.all, v.seen) ∷ (w.of.all, w.seen) ∷ []) (joined v.of w.of)

  -- a view's numbers
  abbrev pub numbers : View E → Numbers
  numbers v = v.of

  -- the record begins with what was seen, and goes on with entries of other numbers alone
  abbrev pub Begins : Log E → List (List ℕ) → Log E → Type 0
  Begins log ns seen = (rest : Log E) × (log ≡ seen ++ rest) × (part ns rest ≡ [])

  -- the same of each token that this one was, or took in
  abbrev pub Former : Log E → List (List ℕ) → Olds E → Type 0
  Former log all olds = (i : ℕ) (o : List (List ℕ) × Log E) → At olds i o → Begins log o.0 o.1 × ((x : List ℕ) → among x o.0 ≡ true → among x all ≡ true)

  -- no entry is by a number that a token with these numbers may still make by a split, nor by one that such a number would
  -- make
  abbrev pub IsUnborn : Numbers → Log E → Type 0
  IsUnborn n log = (i : ℕ) (rest : List ℕ) (k : ℕ) (e : List ℕ × E) → n.count ≤ i → At log k e → e.0 ≡ n.first ++ i ∷ rest → ⊥

  -- What a token that took the turn and put the value back knows: all that it had seen, what others entered since, and
  -- then its own entry. Of its numbers the record has the entries that it had and this one.
  pub record Extends (v : View E) (e : E) (w : View E) : Type 0 where
    pub earlier : Log E
    pub begins : Begins earlier v.of.all v.seen
    pub seen : w.seen ≡ earlier ++ (v.of.first, e) ∷ []
    pub own : part v.of.all w.seen ≡ part v.of.all v.seen ++ (v.of.first, e) ∷ []
    pub numbers : w.of ≡ v.of

  module _ (log : Log E) (ticket serving : ℕ) (owner : ℕ → ℕ) (j : ℕ) (seen : Log E) where
    -- what a token at this stage may rely on: its ticket is drawn and not passed on, and whoever holds the value has
    -- seen the whole record
    abbrev pub Stands : Stage → Type 0
    Stands Idle = Unit {0}
    Stands (Drawn t) = (serving ≤ t) × (t < ticket) × (j ≡ owner t)
    Stands (Holds t) = (t ≡ serving) × (t < ticket) × (j ≡ owner t) × (seen ≡ log) × (length log ≡ t)
    Stands (Entered t) = (t ≡ serving) × (t < ticket) × (j ≡ owner t) × (seen ≡ log) × (length log ≡ t + 1)

  -- what one token knows is so, and whoever has a ticket is not spent
  pub record Fits (log : Log E) (ticket serving : ℕ) (owner : ℕ → ℕ) (j : ℕ) (v : View E) : Type 0 where
    pub staged : Stands log ticket serving owner j v.seen v.stage
    pub begins : Begins log v.of.all v.seen
    pub former : Former log v.of.all v.old
    pub live : (v.stage ≡ Idle) ⊎ Has v.of v.of.first

  -- The rule on numbers: no number is in two views; a view that is not spent has its own first number; a number that is
  -- a view's first with k put after it has k below that view's count; of each number in a view, but for the empty one,
  -- some view has the number without its last element, and has the number itself or awaits it; and the number of each
  -- entry is in some view.
  pub record NumberRule (log : Log E) (token : List ℕ → ℕ) (ns : List Numbers) : Type 0 where
    pub own : (j : ℕ) (n : Numbers) (x : List ℕ) → At ns j n → Has n x → j ≡ token x
    pub rooted : (j : ℕ) (n : Numbers) → At ns j n → IsSpent n ⊎ Has n n.first
    pub fresh : (j k i : ℕ) (n m : Numbers) → At ns j n → At ns k m → Has n n.first → Has m (n.first ++ i ∷ []) → i < n.count
    pub parent : (k i : ℕ) (m : Numbers) (p : List ℕ) → At ns k m → Has m (p ++ i ∷ [])
        → (n : Numbers) × At ns (token p) n × Has n p × (Has n (p ++ i ∷ []) ⊎ (among (p ++ i ∷ []) n.awaited ≡ true))
    pub entered : (i : ℕ) (e : List ℕ × E) → At log i e → (n : Numbers) × At ns (token e.0) n × Has n e.0

module _ {T E : Type 0} (stands : T → Log E → Type 0) where
  -- the value is at home, stands for the record, and nobody holds it
  abbrev pub Home : Log E → ℕ → List (lean.Option (Option T)) → List (View E) → Type 0
  Home log serving homes views = (x : T) × (homes ≡ lean.some (Some x) ∷ []) × stands x log × (length log ≡ serving) × ((j : ℕ) (v : View E) → At views j v → is_inside v.stage ≡ false)

  -- the value is out, and somebody holds it
  abbrev pub Away : List (lean.Option (Option T)) → List (View E) → Type 0
  Away homes views = (homes ≡ lean.none ∷ []) × ((j : ℕ) × (v : View E) × At views j v × (is_inside v.stage ≡ true))

  -- The rule of the turn. There is a record, whose length is the third word; `owner` says whose a ticket is, `token`
  -- whose a number is.
  pub record TurnRule (s : State (Option T) (View E)) : Type 0 where
    pub ticket : ℕ
    pub serving : ℕ
    pub log : Log E
    pub owner : ℕ → ℕ
    pub token : List ℕ → ℕ
    pub words : s.words ≡ ticket ∷ serving ∷ length log ∷ []
    pub below : serving ≤ ticket
    pub drawn : (t : ℕ) → serving ≤ t → t < ticket → (v : View E) × At s.views (owner t) v × HasTicket t v.stage
    pub slot : Home log serving s.homes s.views ⊎ Away s.homes s.views
    pub each : (j : ℕ) (v : View E) → At s.views j v → Fits log ticket serving owner j v
    pub numbered : NumberRule log token (map numbers s.views)

  -- What a closed turn leaves: a value that stands for a record, which begins with what the token had seen and goes on
  -- with entries of other numbers alone. Each entry is of a whole token's numbers.
  pub record Leaves (x : T) (v : View E) : Type 0 where
    pub log : Log E
    pub value : stands x log
    pub begins : Begins log v.of.all v.seen
    pub own : IsWhole v.of → (i : ℕ) (e : List ℕ × E) → At log i e → Has v.of e.0
