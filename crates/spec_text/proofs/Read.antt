-- What is written is read again, line by line and word by word.
use Rattle.std.proofs.Common.{◌≡◌, ◌≢◌, ℕ, zero, suc, ◌<◌, ◌≤◌, Bool, true, false, cond, ◌==◌, List, [], ◌∷◌, ◌++◌, length, take, drop, get_or, filter, arith, refl, ap, ◌∙◌}
use Rattle.std.specs.List.{AllByRecursion, join_with_byte, slice_split, onto_first}
use Rattle.std.proofs.lemmas.List.{length-take-le}
use Rattle.std.proofs.lemmas.List.Splits.{slice_split_none, slice_split_at}
use Rattle.std.proofs.lemmas.List.Elements.{All-from_recursion}
use Rattle.std.proofs.lemmas.Bool.Decides.{nat_tests}
use Rattle.spec_text.specs.Lines.{text_of, IsClean}
use Rattle.spec_text.specs.Inputs.{before_lines, lines_of, is_blank, is_word, words_of}
use Rattle.spec_text.specs.Laws.{WordsReadAgain, LinesReadAgain}
use Rattle.spec_text.proofs.Again.{no_end_in_line, text_of-cons}

-- a byte that is no line end belongs to the first line
before_lines-no : (byte : ℕ) (lines : List (List ℕ)) → (byte == 10) ≡ false → before_lines byte lines ≡ onto_first byte lines
before_lines-no byte lines e = ap (λ (b : Bool). cond b ([] ∷ lines) (onto_first byte lines)) e

-- the first line ends at the first line end
pub lines_of_at : (line rest : List ℕ) → AllByRecursion (λ b. (b == 10) ≡ false) line → lines_of (line ++ 10 ∷ rest) ≡ line ∷ lines_of rest
lines_of_at [] rest h = refl
lines_of_at (b ∷ bs) rest h = before_lines-no b (lines_of (bs ++ 10 ∷ rest)) h.0 ∙ ap (onto_first b) (lines_of_at bs rest h.1)

-- bytes without a line end are one line
pub lines_of_last : (b : ℕ) (bs : List ℕ) → AllByRecursion (λ x. (x == 10) ≡ false) (b ∷ bs) → lines_of (b ∷ bs) ≡ (b ∷ bs) ∷ []
lines_of_last b [] h = before_lines-no b [] h.0
lines_of_last b (x ∷ xs) h = before_lines-no b (lines_of (x ∷ xs)) h.0 ∙ ap (onto_first b) (lines_of_last x xs h.1)

pub lines_read_again : LinesReadAgain
lines_read_again [] h = refl
lines_read_again (row ∷ rows) h =
    ap lines_of (text_of-cons row rows)
    ∙ lines_of_at (join_with_byte 32 row) (text_of rows) (no_end_in_line row h.0.1)
    ∙ ap (λ (rest : List (List ℕ)). join_with_byte 32 row ∷ rest) (lines_read_again rows h.1)

-- a byte from 33 on is no blank
no_blank : (word : List ℕ) → AllByRecursion (λ b. 33 ≤ b) word → AllByRecursion (λ b. is_blank b ≡ false) word
no_blank [] h = tt
no_blank (b ∷ bs) h = ((let p : 33 ≤ b = h.0 in grind (arith, nat_tests)), no_blank bs h.1)

-- a clean word is a word
keeps_word : (word : List ℕ) (words : List (List ℕ)) → IsClean word → filter is_word (word ∷ words) ≡ word ∷ filter is_word words
keeps_word [] words h = let p : 0 < 0 = h.0 in absurd (omega arith)
keeps_word (b ∷ bs) words h = let p : is_word (b ∷ bs) ≡ true = grind (arith, nat_tests) in ap (λ (t : Bool). cond t ((b ∷ bs) ∷ filter is_word words) (filter is_word words)) p

pub words_read_again : WordsReadAgain
words_read_again [] h = refl
words_read_again (w ∷ []) h = ap (filter is_word) (slice_split_none is_blank w (All-from_recursion _ w (no_blank w h.0.1))) ∙ keeps_word w [] h.0
words_read_again (w ∷ v ∷ ws) h =
    ap (filter is_word) (slice_split_at is_blank w 32 (join_with_byte 32 (v ∷ ws)) (All-from_recursion _ w (no_blank w h.0.1)) refl)
    ∙ keeps_word w (slice_split is_blank (join_with_byte 32 (v ∷ ws))) h.0
    ∙ ap (λ (rest : List (List ℕ)). w ∷ rest) (words_read_again (v ∷ ws) h.1)

-- a text with a line end has its first line before the first one
pub first_line_at : (text : List ℕ) (index : ℕ) → index < length text → get_or text index 0 ≡ 10 → ((k : ℕ) → k < index → get_or text k 0 ≡ 10 → ⊥) → lines_of text ≡ take index text ∷ lines_of (drop (suc index) text)
first_line_at [] index low e none = absurd (omega arith)
first_line_at (b ∷ bs) zero low e none = ap (λ (byte : ℕ). before_lines byte (lines_of bs)) e
first_line_at (b ∷ bs) (suc index) low e none =
    let p : b ≢ 10 = none 0 (omega arith) in
    before_lines-no b (lines_of bs) (grind (arith, nat_tests)) ∙ ap (onto_first b) (first_line_at bs index (omega arith) e (λ k h. none (suc k) (omega arith)))

-- a text without a line end is one line
pub only_line : (text : List ℕ) → 0 < length text → ((k : ℕ) → k < length text → get_or text k 0 ≡ 10 → ⊥) → lines_of text ≡ text ∷ []
only_line [] some none = absurd (omega arith)
only_line (b ∷ []) some none =
    let p : b ≢ 10 = none 0 (omega arith) in
    before_lines-no b [] (grind (arith, nat_tests))
only_line (b ∷ x ∷ xs) some none =
    let p : b ≢ 10 = none 0 (omega arith) in
    before_lines-no b (lines_of (x ∷ xs)) (grind (arith, nat_tests)) ∙ ap (onto_first b) (only_line (x ∷ xs) (omega arith) (λ k h. none (suc k) (omega arith)))

-- a blank before a line changes no word
pub words_behind_blank : (b : ℕ) (bs : List ℕ) → is_blank b ≡ true → words_of (b ∷ bs) ≡ words_of bs
words_behind_blank b bs e = ap (λ (t : Bool). filter is_word (cond t ([] ∷ slice_split is_blank bs) (onto_first b (slice_split is_blank bs)))) e

-- a byte that is no blank belongs to the first part
parts-no : (b : ℕ) (bs : List ℕ) → is_blank b ≡ false → slice_split is_blank (b ∷ bs) ≡ onto_first b (slice_split is_blank bs)
parts-no b bs e = ap (λ (t : Bool). cond t ([] ∷ slice_split is_blank bs) (onto_first b (slice_split is_blank bs))) e

-- the first part ends at the first blank
parts_at : (line : List ℕ) (index : ℕ) → index < length line → is_blank (get_or line index 0) ≡ true → ((k : ℕ) → k < index → is_blank (get_or line k 0) ≡ false) → slice_split is_blank line ≡ take index line ∷ slice_split is_blank (drop (suc index) line)
parts_at [] index low e none = absurd (omega arith)
parts_at (b ∷ bs) zero low e none = ap (λ (t : Bool). cond t ([] ∷ slice_split is_blank bs) (onto_first b (slice_split is_blank bs))) e
parts_at (b ∷ bs) (suc index) low e none = parts-no b bs (none 0 (omega arith)) ∙ ap (onto_first b) (parts_at bs index (omega arith) e (λ k h. none (suc k) (omega arith)))

-- without a blank there is one part
one_part : (line : List ℕ) → ((k : ℕ) → k < length line → is_blank (get_or line k 0) ≡ false) → slice_split is_blank line ≡ line ∷ []
one_part [] none = refl
one_part (b ∷ bs) none = parts-no b bs (none 0 (omega arith)) ∙ ap (onto_first b) (one_part bs (λ k h. none (suc k) (omega arith)))

-- a part that is not empty is a word
keeps_part : (part : List ℕ) (parts : List (List ℕ)) → 0 < length part → filter is_word (part ∷ parts) ≡ part ∷ filter is_word parts
keeps_part [] parts h = absurd (omega arith)
keeps_part (b ∷ bs) parts h = let p : is_word (b ∷ bs) ≡ true = grind (arith, nat_tests) in ap (λ (t : Bool). cond t ((b ∷ bs) ∷ filter is_word parts) (filter is_word parts)) p

-- the first word of a line ends at the first blank
pub first_word_at : (line : List ℕ) (index : ℕ) → 0 < index → index < length line → is_blank (get_or line index 0) ≡ true → ((k : ℕ) → k < index → is_blank (get_or line k 0) ≡ false) → words_of line ≡ take index line ∷ words_of (drop (suc index) line)
first_word_at line index some low e none =
    ap (filter is_word) (parts_at line index low e none) ∙ keeps_part (take index line) (slice_split is_blank (drop (suc index) line)) (let n : length (take index line) ≡ index = length-take-le index line (omega arith) in omega arith)

-- a line without a blank is one word
pub only_word : (line : List ℕ) → 0 < length line → ((k : ℕ) → k < length line → is_blank (get_or line k 0) ≡ false) → words_of line ≡ line ∷ []
only_word line some none = ap (filter is_word) (one_part line none) ∙ keeps_part line [] some
