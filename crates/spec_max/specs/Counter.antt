-- A counter of false literals: clauses over new variables that say, row by row, how many of the literals so far are
-- false (a sequential counter in unary).
use Rattle.std.specs.Prelude.{ℕ, zero, suc, ◌+◌, ◌-◌, ◌*◌, true, false, List, [], ◌∷◌, ◌++◌, length, Option, Some}
use Rattle.mal_base.specs.Literals.{literal}

-- the variable s(i, j) of a counter of n literals after these variables: at least j of the first i literals are false
abbrev pub counted : ℕ → ℕ → ℕ → ℕ → ℕ
counted variables n i j = variables + (i - 1) * n + j

-- the i-th literal is true, or one is false: l s(i, 1)
abbrev pub starts : ℕ → ℕ → ℕ → ℕ → Option (List ℕ)
starts variables n i l = Some (l ∷ literal (counted variables n i 1) true ∷ [])

-- what is counted stays counted: -s(i, j) s(i + 1, j), for so many numbers from j on
abbrev pub carries : ℕ → ℕ → ℕ → ℕ → ℕ → List (Option (List ℕ))
carries variables n i j zero = []
carries variables n i j (suc k) =
    Some (literal (counted variables n i j) false ∷ literal (counted variables n (suc i) j) true ∷ [])
    ∷ carries variables n i (suc j) k

-- literal i + 1 is true, or one more is false: l -s(i, j) s(i + 1, j + 1), for so many numbers from j on
abbrev pub adds : ℕ → ℕ → ℕ → ℕ → ℕ → ℕ → List (Option (List ℕ))
adds variables n i l j zero = []
adds variables n i l j (suc k) =
    Some (l ∷ literal (counted variables n i j) false ∷ literal (counted variables n (suc i) (suc j)) true ∷ [])
    ∷ adds variables n i l (suc j) k

-- row i + 1, after row i
abbrev pub row : ℕ → ℕ → ℕ → ℕ → List (Option (List ℕ))
row variables n i l = starts variables n (suc i) l ∷ (carries variables n i 1 n ++ adds variables n i l 1 (n - 1))

-- the rows of literals, the first of them after row i
abbrev pub rows : ℕ → ℕ → ℕ → List ℕ → List (Option (List ℕ))
rows variables n i [] = []
rows variables n i (l ∷ ls) = row variables n i l ++ rows variables n (suc i) ls

-- the counter of these literals: the first row has no row before it
abbrev pub counter : ℕ → List ℕ → List (Option (List ℕ))
counter variables [] = []
counter variables (l ∷ ls) = starts variables (suc (length ls)) 1 l ∷ rows variables (suc (length ls)) 1 ls

-- the variables of formula and counter
abbrev pub variables_with : ℕ → List ℕ → ℕ
variables_with variables lits = variables + length lits * length lits
