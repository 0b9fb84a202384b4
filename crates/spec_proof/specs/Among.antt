-- A line among lines, and lines whose hints stand.
use Rattle.std.specs.Prelude.{◌≡◌, ◌⊎◌, ℕ, ◌<◌, ◌^◌, List, [], ◌∷◌, Contains}
use Rattle.mal_base.specs.NumberedClause.{Line}

-- membership by recursion on the list
abbrev pub Among : Line → List Line → Type 0
Among x [] = ⊥
Among x (y ∷ ys) = (y ≡ x) ⊎ Among x ys

-- one of the lines has this number
abbrev pub HasNumber : List Line → ℕ → Type 0
HasNumber lines id = (line : Line) × Among line lines × (line.id ≡ id)

-- each hint of a line is the number of an original clause or of one of the lines
abbrev pub IsClosed : List Line → Type 0
IsClosed lines = (line : Line) (hint : ℕ) → Among line lines → Contains line.hints hint → (hint < 2 ^ 32) ⊎ HasNumber lines hint
