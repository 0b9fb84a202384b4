-- Reading line by line stops at the first line that is faulty, and nothing after that line counts.
use Rattle.std.proofs.Common.{◌≡◌, ◌⊎◌, ℕ, zero, suc, ◌+◌, ◌<◌, ◌≤◌, List, [], ◌∷◌, map, length, take, drop, get_or, Result, Ok, Err, refl, sym, ap, ◌∙◌, inl, inr, arith}
use Rattle.std.proofs.lemmas.List.{length-map}
use Rattle.spec_text.specs.Inputs.{lines_of, words_of}
use Rattle.spec_dimacs.specs.Rows.{rows_of}

-- reading of lines, each a list of words, after so many lines and from a state
abbrev pub Read : Type 0 → Type 0 → Type 0 → Type 0
Read S T F = List (List (List ℕ)) → ℕ → S → Result T (ℕ × F)

-- a line leads from one state to another, whatever follows
abbrev pub Leads : {S T F : Type 0} → Read S T F → List (List ℕ) → S → Type 0
Leads {S} read row s = (t : S) × ((rows : List (List (List ℕ))) (k : ℕ) → read (row ∷ rows) k s ≡ read rows (suc k) t)

-- a line is faulty, whatever follows
abbrev pub Stops : {S T F : Type 0} → Read S T F → List (List ℕ) → S → Type 0
Stops {S} {T} {F} read row s = (fault : F) × ((rows : List (List (List ℕ))) (k : ℕ) → read (row ∷ rows) k s ≡ Err (suc k, fault))

-- each line leads on or is faulty, and a fault at the end is not named with a line before
pub record GoesByLines {S T F : Type 0} (read : Read S T F) : Type 0 where
  pub end : (k : ℕ) (s : S) (line : ℕ) (fault : F) → read [] k s ≡ Err (line, fault) → k ≤ line
  pub step : (row : List (List ℕ)) (s : S) → Leads read row s ⊎ Stops read row s

-- the line of a fault
line_in : {T F : Type 0} → ℕ → Result T (ℕ × F) → ℕ
line_in n (Ok f) = n
line_in n (Err e) = e.0

fault_at : {T F : Type 0} → ℕ → F → Result T (ℕ × F)
fault_at line fault = Err (line, fault)

pub same-line : {T F : Type 0} (m n : ℕ) (x y : F) → ◌≡◌ {A = Result T (ℕ × F)} (Err (m, x)) (Err (n, y)) → m ≡ n
unfolding line_in
same-line m n x y e = ap (line_in m) e

-- the line of a fault is not before those that were read
at_least : {S T F : Type 0} (read : Read S T F) → GoesByLines read → (rows : List (List (List ℕ))) (k : ℕ) (s : S) (line : ℕ) (fault : F) → read rows k s ≡ Err (line, fault) → k ≤ line
at_least read r [] k s line fault e = r.end k s line fault e
at_least {S} {T} {F} read r (row ∷ rows) k s line fault e = by_step (λ t q. at_least read r rows (suc k) t line fault q) (r.step row s)
  where
    by_step : ((t : S) → read rows (suc k) t ≡ Err (line, fault) → suc k ≤ line) → Leads read row s ⊎ Stops read row s → k ≤ line
    by_step ih (inl on) = let low : suc k ≤ line = ih on.0 (sym (on.1 rows k) ∙ e) in omega arith
    by_step ih (inr off) = let same : suc k ≡ line = same-line (suc k) line off.0 fault (sym (off.1 rows k) ∙ e) in omega arith

-- where lines are left, the line of a fault is one of them or one after them
later : {S T F : Type 0} (read : Read S T F) → GoesByLines read → (rows : List (List (List ℕ))) (k : ℕ) (s : S) (line : ℕ) (fault : F) → 0 < length rows → read rows k s ≡ Err (line, fault) → k < line
later read r [] k s line fault some e = absurd (omega arith)
later {S} {T} {F} read r (row ∷ rows) k s line fault some e = by_step (r.step row s)
  where
    by_step : Leads read row s ⊎ Stops read row s → k < line
    by_step (inl on) = let low : suc k ≤ line = at_least read r rows (suc k) on.0 line fault (sym (on.1 rows k) ∙ e) in omega arith
    by_step (inr off) = let same : suc k ≡ line = same-line (suc k) line off.0 fault (sym (off.1 rows k) ∙ e) in omega arith

head_same : (x y : List (List ℕ)) (xs ys : List (List (List ℕ))) → x ∷ xs ≡ y ∷ ys → x ≡ y
head_same x y xs ys e = ap (λ (zs : List (List (List ℕ))). get_or zs 0 []) e

tail_same : (x y : List (List ℕ)) (xs ys : List (List (List ℕ))) → x ∷ xs ≡ y ∷ ys → xs ≡ ys
tail_same x y xs ys e = ap (drop 1) e

-- a fault before the last line is that of each list of lines which begins with the same lines up to it
first_rows : {S T F : Type 0} (read : Read S T F) → GoesByLines read → (rows others : List (List (List ℕ))) (k d : ℕ) (s : S) (line : ℕ) (fault : F) → read rows k s ≡ Err (line, fault) → line ≡ k + suc d → line < k + length rows → take (suc d) others ≡ take (suc d) rows → read others k s ≡ Err (line, fault)
first_rows read r [] others k d s line fault e at low same = absurd (omega arith)
first_rows read r (row ∷ rows) [] k d s line fault e at low same = absurd (cc)
first_rows {S} {T} {F} read r (row ∷ rows) (other ∷ others) k zero s line fault e at low same = by_step (r.step row s)
  where
    head : other ≡ row
    head = head_same other row _ _ same

    by_step : Leads read row s ⊎ Stops read row s → read (other ∷ others) k s ≡ Err (line, fault)
    by_step (inl on) = let above : suc k < line = later read r rows (suc k) on.0 line fault (omega arith) (sym (on.1 rows k) ∙ e) in absurd (omega arith)
    by_step (inr off) = ap (λ (w : List (List ℕ)). read (w ∷ others) k s) head ∙ off.1 others k ∙ sym (off.1 rows k) ∙ e
first_rows {S} {T} {F} read r (row ∷ rows) (other ∷ others) k (suc d) s line fault e at low same =
    by_step (λ t p. first_rows read r rows others (suc k) d t line fault p (omega arith) (omega arith) (tail_same other row _ _ same)) (r.step row s)
  where
    head : other ≡ row
    head = head_same other row _ _ same

    by_step : ((t : S) → read rows (suc k) t ≡ Err (line, fault) → read others (suc k) t ≡ Err (line, fault)) → Leads read row s ⊎ Stops read row s → read (other ∷ others) k s ≡ Err (line, fault)
    by_step ih (inl on) = ap (λ (w : List (List ℕ)). read (w ∷ others) k s) head ∙ on.1 others k ∙ ih on.0 (sym (on.1 rows k) ∙ e)
    by_step ih (inr off) = let here : suc k ≡ line = same-line (suc k) line off.0 fault (sym (off.1 rows k) ∙ e) in absurd (omega arith)

take_rows : (n : ℕ) (lines : List (List ℕ)) → take n (map words_of lines) ≡ map words_of (take n lines)
take_rows zero lines = refl
take_rows (suc n) [] = refl
take_rows (suc n) (line ∷ lines) = ap (λ (rows : List (List (List ℕ))). words_of line ∷ rows) (take_rows n lines)

-- the first fault of a text, if it is on a line before the last, is that of each text which begins with the same lines up to it
pub first-fault : {S T F : Type 0} (read : Read S T F) → GoesByLines read → (s : S) (text other : List ℕ) (line : ℕ) (fault : F) → read (rows_of text) 0 s ≡ Err (line, fault) → line < length (lines_of text) → take line (lines_of other) ≡ take line (lines_of text) → read (rows_of other) 0 s ≡ Err (line, fault)
first-fault {S} {T} {F} read r s text other line fault e low same = by_line line refl
  where
    some : 0 < line
    some = later read r (rows_of text) 0 s line fault (omega (arith, length-map (lines_of text) words_of)) e

    by_line : (n : ℕ) → line ≡ n → read (rows_of other) 0 s ≡ Err (line, fault)
    by_line zero q = absurd (omega (arith, some))
    by_line (suc d) q =
        let rows : take (suc d) (rows_of other) ≡ take (suc d) (rows_of text) = take_rows (suc d) (lines_of other) ∙ ap (map words_of) (ap (λ (n : ℕ). take n (lines_of other)) (sym q) ∙ same ∙ ap (λ (n : ℕ). take n (lines_of text)) q) ∙ sym (take_rows (suc d) (lines_of text)) in
        first_rows read r (rows_of text) (rows_of other) 0 d s line fault e (omega arith) (omega (arith, length-map (lines_of text) words_of)) rows
