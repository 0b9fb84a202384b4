-- Many tokens: one token that is split again and again, and tokens that are joined one after another.
use Rattle.std.specs.Prelude.{◌≡◌, ℕ, zero, suc, true, List, [], ◌∷◌, ◌++◌}
use Rattle.mal_turn.specs.declared.view.Numbers.{Numbers}
use Rattle.mal_turn.specs.Numbers.{among}
use Rattle.mal_turn.specs.Rule.{Has, splitting, child, joined}

-- the numbers of a token that was split so often
abbrev pub split_times : ℕ → Numbers → Numbers
split_times zero n = n
split_times (suc k) n = split_times k (splitting n)

-- the numbers of the new tokens, in order
abbrev pub children : ℕ → Numbers → List Numbers
children zero n = []
children (suc k) n = child n ∷ children k (splitting n)

-- the numbers of a token that took in others, one after another
abbrev pub join_all : Numbers → List Numbers → Numbers
join_all n [] = n
join_all n (m ∷ ms) = join_all (joined n m) ms

-- all numbers of these tokens
abbrev pub numbers_of : List Numbers → List (List ℕ)
numbers_of [] = []
numbers_of (m ∷ ms) = m.all ++ numbers_of ms

-- all numbers that these tokens await
abbrev pub awaited_of : List Numbers → List (List ℕ)
awaited_of [] = []
awaited_of (m ∷ ms) = m.awaited ++ awaited_of ms

-- the token awaits none of its own numbers
abbrev pub AwaitsOthers : Numbers → Type 0
AwaitsOthers n = (x : List ℕ) → among x n.awaited ≡ true → Has n x → ⊥

-- a token came back from wherever it was split and joined: it has the numbers that it had, and awaits no others than it
-- did
pub record IsBack (before after : Numbers) : Type 0 where
  pub kept : (x : List ℕ) → Has before x → Has after x
  pub awaited : (x : List ℕ) → among x after.awaited ≡ true → among x before.awaited ≡ true
