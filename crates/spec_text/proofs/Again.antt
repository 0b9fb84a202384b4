-- A text gives its lines again, and a line its words.
use Rattle.std.proofs.Common.{◌≡◌, ℕ, ◌≤◌, false, ◌==◌, List, [], ◌∷◌, ◌++◌, map, arith, refl, sym, ap, ap₂, ◌∙◌, append_assoc, append-nil}
use Rattle.std.specs.List.{AllByRecursion, join_with_byte, slice_split}
use Rattle.std.proofs.lemmas.List.{append_cancel_right}
use Rattle.std.proofs.lemmas.List.Splits.{slice_split_none, slice_split_at}
use Rattle.std.proofs.lemmas.List.Elements.{All-from_recursion}
use Rattle.std.proofs.lemmas.Bool.Decides.{nat_tests}
use Rattle.spec_text.specs.Lines.{text_of, AreClean, AreRows}
use Rattle.spec_text.specs.Laws.{WordsAgain, LinesAgain, TextsDiffer, JoinedWordByWord}

-- a byte from 33 on is no space
no_space : (word : List ℕ) → AllByRecursion (λ b. 33 ≤ b) word → AllByRecursion (λ b. (b == 32) ≡ false) word
no_space [] h = tt
no_space (b ∷ bs) h = ((let p : 33 ≤ b = h.0 in grind (arith, nat_tests)), no_space bs h.1)

pub words_again : WordsAgain
words_again [] h one = absurd (omega arith)
words_again (w ∷ []) h one = slice_split_none (λ b. b == 32) w (All-from_recursion _ w (no_space w h.0.1))
words_again (w ∷ v ∷ ws) h one =
    slice_split_at (λ b. b == 32) w 32 (join_with_byte 32 (v ∷ ws)) (All-from_recursion _ w (no_space w h.0.1)) refl
    ∙ ap (λ (rest : List (List ℕ)). w ∷ rest) (words_again (v ∷ ws) h.1 (omega arith))

-- a byte from 33 on is no line end
no_end : (word : List ℕ) → AllByRecursion (λ b. 33 ≤ b) word → AllByRecursion (λ b. (b == 10) ≡ false) word
no_end [] h = tt
no_end (b ∷ bs) h = ((let p : 33 ≤ b = h.0 in grind (arith, nat_tests)), no_end bs h.1)

-- what holds of the bytes of two lists holds of those of both together
both : (P : ℕ → Type 0) (xs ys : List ℕ) → AllByRecursion P xs → AllByRecursion P ys → AllByRecursion P (xs ++ ys)
both P [] ys h k = k
both P (x ∷ xs) ys h k = (h.0, both P xs ys h.1 k)

-- a line has no line end but its last byte
pub no_end_in_line : (words : List (List ℕ)) → AreClean words → AllByRecursion (λ b. (b == 10) ≡ false) (join_with_byte 32 words)
no_end_in_line [] h = tt
no_end_in_line (w ∷ []) h = no_end w h.0.1
no_end_in_line (w ∷ v ∷ ws) h = both (λ b. (b == 10) ≡ false) w (32 ∷ join_with_byte 32 (v ∷ ws)) (no_end w h.0.1) (refl, no_end_in_line (v ∷ ws) h.1)

-- the line end of the first line stands before the other lines
pub text_of-cons : (row : List (List ℕ)) (rows : List (List (List ℕ))) → text_of (row ∷ rows) ≡ join_with_byte 32 row ++ 10 ∷ text_of rows
text_of-cons row rows = append_assoc (join_with_byte 32 row) (10 ∷ []) (text_of rows)

pub lines_again : LinesAgain
lines_again [] h = refl
lines_again (row ∷ rows) h =
    ap (slice_split (λ b. b == 10)) (text_of-cons row rows)
    ∙ slice_split_at (λ b. b == 10) (join_with_byte 32 row) 10 (text_of rows) (All-from_recursion _ (join_with_byte 32 row) (no_end_in_line row h.0.1)) refl
    ∙ ap (λ (rest : List (List ℕ)). join_with_byte 32 row ∷ rest) (lines_again rows h.1)

-- lines that are cut at their spaces give the lists of words again
rows_again : (rows : List (List (List ℕ))) → AreRows rows → map (slice_split (λ b. b == 32)) (map (join_with_byte 32) rows) ≡ rows
rows_again [] h = refl
rows_again (row ∷ rows) h = ap₂ (λ (r : List (List ℕ)) (rs : List (List (List ℕ))). r ∷ rs) (words_again row h.0.1 h.0.0) (rows_again rows h.1)

pub texts_differ : TextsDiffer
texts_differ a b h k e =
    let ends : map (join_with_byte 32) a ++ [] ∷ [] ≡ map (join_with_byte 32) b ++ [] ∷ [] = sym (lines_again a h) ∙ ap (slice_split (λ b. b == 10)) e ∙ lines_again b k in
    let lines : map (join_with_byte 32) a ≡ map (join_with_byte 32) b = append_cancel_right _ _ _ ends in
    sym (rows_again a h) ∙ ap (map (slice_split (λ b. b == 32))) lines ∙ rows_again b k

pub joined_word_by_word : JoinedWordByWord
joined_word_by_word word [] = sym (append-nil word)
joined_word_by_word word (next ∷ words) = ap (λ (rest : List ℕ). word ++ 32 ∷ rest) (joined_word_by_word next words)
