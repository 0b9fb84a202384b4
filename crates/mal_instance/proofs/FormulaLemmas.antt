-- Where the lines of a formula end.
use Rattle.std.proofs.Common.{◌≡◌, ℕ, Bool, true, false, cond, ◌&&◌, ◌||◌, not, List, [], ◌∷◌, ◌++◌, length, take, refl, sym, ap, ◌∙◌}
use Rattle.std.specs.List.{list_all, list_any}
use Rattle.std.specs.Str.{bytes_eq}
use Rattle.std.proofs.lemmas.Slice.Eq.{bytes_eq-Decides}
use Rattle.mal_instance.specs.Rows.{begins, is_formula_row, formula_rows, rows_after}

pub and-left : (a b : Bool) → (a && b) ≡ true → (a ≡ true) × (b ≡ true)
and-left true b e = (refl, e)
and-left false b e = absurd (cc)

or-right : (a b : Bool) → b ≡ true → (a || b) ≡ true
or-right true b e = refl
or-right false b e = e

-- the lines of the formula before others
pub formula-first : (words : List (List ℕ)) (first rows : List (List (List ℕ))) → list_all (is_formula_row words) first ≡ true → formula_rows words rows ≡ [] → formula_rows words (first ++ rows) ≡ first
formula-first words [] rows h e = e
formula-first words (row ∷ first) rows h e =
    let both = and-left (is_formula_row words row) (list_all (is_formula_row words) first) h in
    ap (λ (b : Bool). cond b (row ∷ formula_rows words (first ++ rows)) []) both.0 ∙ ap (λ (rs : List (List (List ℕ))). row ∷ rs) (formula-first words first rows both.1 e)

pub formula-after : (words : List (List ℕ)) (first rows : List (List (List ℕ))) → list_all (is_formula_row words) first ≡ true → rows_after words rows ≡ rows → rows_after words (first ++ rows) ≡ rows
formula-after words [] rows h e = e
formula-after words (row ∷ first) rows h e =
    let both = and-left (is_formula_row words row) (list_all (is_formula_row words) first) h in
    ap (λ (b : Bool). cond b (rows_after words (first ++ rows)) (row ∷ (first ++ rows))) both.0 ∙ formula-after words first rows both.1 e

-- a line that is none of the formula ends it
pub none-first : (words : List (List ℕ)) (row : List (List ℕ)) (rows : List (List (List ℕ))) → is_formula_row words row ≡ false → formula_rows words (row ∷ rows) ≡ []
none-first words row rows e = ap (λ (b : Bool). cond b (row ∷ formula_rows words rows) []) e

pub all-after : (words : List (List ℕ)) (row : List (List ℕ)) (rows : List (List (List ℕ))) → is_formula_row words row ≡ false → rows_after words (row ∷ rows) ≡ row ∷ rows
all-after words row rows e = ap (λ (b : Bool). cond b (rows_after words rows) (row ∷ rows)) e

-- the lines of the formula are the first lines
pub formula-taken : (words : List (List ℕ)) (rows : List (List (List ℕ))) → formula_rows words rows ≡ take (length (formula_rows words rows)) rows
formula-taken words [] = refl
formula-taken words (row ∷ rows) = by_row (is_formula_row words row) (formula-taken words rows)
  where
    by_row : (b : Bool) → formula_rows words rows ≡ take (length (formula_rows words rows)) rows → cond b (row ∷ formula_rows words rows) [] ≡ take (length (cond b (row ∷ formula_rows words rows) [])) (row ∷ rows)
    by_row true h = ap (λ (xs : List (List (List ℕ))). row ∷ xs) h
    by_row false h = refl

pub formula-all : (words : List (List ℕ)) (rows : List (List (List ℕ))) → list_all (is_formula_row words) (formula_rows words rows) ≡ true
formula-all words [] = refl
formula-all words (row ∷ rows) = by_row (is_formula_row words row) refl (formula-all words rows)
  where
    by_row : (b : Bool) → is_formula_row words row ≡ b → list_all (is_formula_row words) (formula_rows words rows) ≡ true → list_all (is_formula_row words) (cond b (row ∷ formula_rows words rows) []) ≡ true
    by_row true q h = ap (λ (b : Bool). b && list_all (is_formula_row words) (formula_rows words rows)) q ∙ h
    by_row false q h = refl

pub formula-parts : (words : List (List ℕ)) (rows : List (List (List ℕ))) → rows ≡ formula_rows words rows ++ rows_after words rows
formula-parts words [] = refl
formula-parts words (row ∷ rows) = by_row (is_formula_row words row) (formula-parts words rows)
  where
    by_row : (b : Bool) → rows ≡ formula_rows words rows ++ rows_after words rows → row ∷ rows ≡ cond b (row ∷ formula_rows words rows) [] ++ cond b (rows_after words rows) (row ∷ rows)
    by_row true h = ap (λ (xs : List (List (List ℕ))). row ∷ xs) h
    by_row false h = refl

-- what stands after the formula begins with one of the words
pub after-begins : (words : List (List ℕ)) (rows others : List (List (List ℕ))) (row : List (List ℕ)) → rows_after words rows ≡ row ∷ others → begins words row ≡ true
after-begins words [] others row e = absurd (cc)
after-begins words (r ∷ rows) others row e = by_row (begins words r) refl e (after-begins words rows others row)
  where
    by_row : (b : Bool) → begins words r ≡ b → cond (not b) (rows_after words rows) (r ∷ rows) ≡ row ∷ others → (rows_after words rows ≡ row ∷ others → begins words row ≡ true) → begins words row ≡ true
    by_row true q e ih = let same : r ≡ row = cc in ap (begins words) (sym same) ∙ q
    by_row false q e ih = ih e

-- a line that begins with this one word
pub begins-word : (word : List ℕ) (row : List (List ℕ)) → begins (word ∷ []) row ≡ true → (words : List (List ℕ)) × (row ≡ word ∷ words)
begins-word word [] e = absurd (cc)
begins-word word (first ∷ others) e = by_word (bytes_eq first word) refl e
  where
    by_word : (b : Bool) → bytes_eq first word ≡ b → (b || false) ≡ true → (words : List (List ℕ)) × (first ∷ others ≡ word ∷ words)
    by_word true q e = (others, ap (λ (w : List ℕ). w ∷ others) ((bytes_eq-Decides first word).0 q))
    by_word false q e = absurd (cc)

pub word-begins : (word : List ℕ) (words : List (List ℕ)) → begins (word ∷ []) (word ∷ words) ≡ true
word-begins word words = ap (λ (b : Bool). b || false) ((bytes_eq-Decides word word).1 refl)

-- where such a line stands among others
pub some-begins : (word : List ℕ) (rows : List (List (List ℕ))) (words : List (List ℕ)) (others : List (List (List ℕ))) → list_any (begins (word ∷ [])) (rows ++ (word ∷ words) ∷ others) ≡ true
some-begins word [] words others = ap (λ (b : Bool). b || list_any (begins (word ∷ [])) others) (word-begins word words)
some-begins word (row ∷ rows) words others = or-right (begins (word ∷ []) row) (list_any (begins (word ∷ [])) (rows ++ (word ∷ words) ∷ others)) (some-begins word rows words others)
