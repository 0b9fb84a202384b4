-- The counter is made clause by clause and row by row.
use Rattle.std.proofs.Common.{◌≡◌, ℕ, suc, ◌+◌, ◌-◌, ◌<◌, true, false, List, [], ◌∷◌, ◌++◌, append_assoc, Option, Some, sym, ap, ap₂, ◌∙◌, arith}
use Rattle.mal_base.specs.Literals.{literal}
use Rattle.spec_max.specs.Counter.{adds, carries, counted, row, rows}

add-one : (m : ℕ) → m + 1 ≡ suc m
add-one m = omega arith

-- a clause that is put after others is the first of those that are left
clause-next : (old clauses new left : List (Option (List ℕ))) (x : List ℕ) (rest : List (Option (List ℕ))) → new ≡ clauses ++ Some x ∷ [] → left ≡ Some x ∷ rest → clauses ++ left ≡ old → new ++ rest ≡ old
clause-next old clauses new left x rest a b c =
    ap (λ (cs : List (Option (List ℕ))). cs ++ rest) a
    ∙ (append_assoc clauses (Some x ∷ []) rest ∙ (ap (λ (cs : List (Option (List ℕ))). clauses ++ cs) (sym b) ∙ c))

carries-first : (v n i j k m a b : ℕ) → m ≡ suc k → a ≡ literal (counted v n i j) false → b ≡ literal (counted v n (i + 1) j) true → carries v n i j m ≡ Some (a ∷ b ∷ []) ∷ carries v n i (j + 1) k
carries-first v n i j k m a b e f g = ap (carries v n i j) e ∙ sym (ap₂ (λ (x : List ℕ) (p : ℕ). Some x ∷ carries v n i p k) lits (add-one j))
  where
    lits : a ∷ b ∷ [] ≡ literal (counted v n i j) false ∷ literal (counted v n (suc i) j) true ∷ []
    lits = ap₂ (λ (x y : ℕ). x ∷ y ∷ []) f (g ∙ ap (λ (p : ℕ). literal (counted v n p j) true) (add-one i))

pub carries-next : (old clauses new : List (Option (List ℕ))) (v n i j a b : ℕ) → j < n + 1 → new ≡ clauses ++ Some (a ∷ b ∷ []) ∷ [] → a ≡ literal (counted v n i j) false → b ≡ literal (counted v n (i + 1) j) true → clauses ++ carries v n i j (n + 1 - j) ≡ old → new ++ carries v n i (j + 1) (n + 1 - (j + 1)) ≡ old
carries-next old clauses new v n i j a b low e f g h = clause-next old clauses new (carries v n i j (n + 1 - j)) (a ∷ b ∷ []) (carries v n i (j + 1) (n + 1 - (j + 1))) e (carries-first v n i j (n + 1 - (j + 1)) (n + 1 - j) a b (omega (arith, low)) f g) h

adds-first : (v n i l j k m a b : ℕ) → m ≡ suc k → a ≡ literal (counted v n i j) false → b ≡ literal (counted v n (i + 1) (j + 1)) true → adds v n i l j m ≡ Some (l ∷ a ∷ b ∷ []) ∷ adds v n i l (j + 1) k
adds-first v n i l j k m a b e f g = ap (adds v n i l j) e ∙ sym (ap₂ (λ (x : List ℕ) (p : ℕ). Some x ∷ adds v n i l p k) lits (add-one j))
  where
    lits : l ∷ a ∷ b ∷ [] ≡ l ∷ literal (counted v n i j) false ∷ literal (counted v n (suc i) (suc j)) true ∷ []
    lits = ap₂ (λ (x y : ℕ). l ∷ x ∷ y ∷ []) f (g ∙ ap₂ (λ (p q : ℕ). literal (counted v n p q) true) (add-one i) (add-one j))

pub adds-next : (old clauses new : List (Option (List ℕ))) (v n i l j a b : ℕ) → j < n → new ≡ clauses ++ Some (l ∷ a ∷ b ∷ []) ∷ [] → a ≡ literal (counted v n i j) false → b ≡ literal (counted v n (i + 1) (j + 1)) true → clauses ++ adds v n i l j (n - j) ≡ old → new ++ adds v n i l (j + 1) (n - (j + 1)) ≡ old
adds-next old clauses new v n i l j a b low e f g h = clause-next old clauses new (adds v n i l j (n - j)) (l ∷ a ∷ b ∷ []) (adds v n i l (j + 1) (n - (j + 1))) e (adds-first v n i l j (n - (j + 1)) (n - j) a b (omega (arith, low)) f g) h

-- the row of a literal is the first of those that are left
pub rows-next : (old clauses new : List (Option (List ℕ))) (v n i l : ℕ) (left rest : List ℕ) → left ≡ l ∷ rest → new ≡ clauses ++ row v n i l → clauses ++ rows v n i left ≡ old → new ++ rows v n (i + 1) rest ≡ old
rows-next old clauses new v n i l left rest e f h =
    ap (λ (cs : List (Option (List ℕ))). cs ++ rows v n (i + 1) rest) f
    ∙ (append_assoc clauses (row v n i l) (rows v n (i + 1) rest)
    ∙ (ap (λ (cs : List (Option (List ℕ))). clauses ++ (row v n i l ++ cs)) (ap (λ (p : ℕ). rows v n p rest) (add-one i)) ∙ (ap (λ (ls : List ℕ). clauses ++ rows v n i ls) (sym e) ∙ h)))
