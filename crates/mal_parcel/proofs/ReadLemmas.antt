-- A text of lines is read line by line.
use Rattle.std.proofs.Common.{◌≡◌, ℕ, true, false, List, [], ◌∷◌, ◌++◌, map, Option, Some, None, refl, sym, ◌∙◌, ap, append_assoc, append-nil}
use Rattle.std.specs.Prelude.{option_map, option_and_then}
use Rattle.std.specs.List.{AllByRecursion, flat_map, join_with_byte}
use Rattle.mal_base.specs.NumberedClause.{Line}
use Rattle.spec_text.specs.Lines.{AreClean, line_of}
use Rattle.spec_text.specs.Inputs.{lines_of}
use Rattle.spec_text.proofs.Again.{no_end_in_line}
use Rattle.spec_text.proofs.Read.{lines_of_at, words_read_again}
use Rattle.spec_proof.specs.Log.{added}
use Rattle.spec_lrat.specs.Laws.{IsLine, WrittenIsRead}
use Rattle.spec_lrat.specs.Reading.{reading}
use Rattle.spec_lrat.specs.Written.{row_of}
use Rattle.mal_parcel.specs.Told.{IsPut, line_in, line_read, lines_in, lines_said}

-- a line whose text is read again
abbrev pub IsReadable : Line → Type 0
IsReadable line = IsLine 0 (added line)

-- the text of lines
abbrev pub text_of_lines : List Line → List ℕ
text_of_lines lines = flat_map (λ l. line_of (row_of (added l))) lines

-- the words of a line, and its text without the line end
abbrev row : Line → List (List ℕ)
row line = row_of (added line)

abbrev joined : Line → List ℕ
joined line = join_with_byte 32 (row line)

row-clean : WrittenIsRead → (l : Line) → IsReadable l → AreClean (row l)
row-clean written l h = (written 0 (added l) h).0.1

-- the lines of the text of lines
rows-again : WrittenIsRead → (ls : List Line) → AllByRecursion IsReadable ls → lines_of (text_of_lines ls) ≡ map joined ls
rows-again written [] h = refl
rows-again written (l ∷ ls) h =
    ap lines_of (append_assoc (joined l) (10 ∷ []) (text_of_lines ls))
    ∙ (lines_of_at (joined l) (text_of_lines ls) (no_end_in_line (row l) (row-clean written l h.0))
    ∙ ap (λ (rest : List (List ℕ)). joined l ∷ rest) (rows-again written ls h.1))

line-again : WrittenIsRead → (l : Line) → IsReadable l → line_in (joined l) ≡ Some l
line-again written l h =
    ap (λ (words : List (List ℕ)). line_read (reading 0 words)) (words_read_again (row l) (row-clean written l h))
    ∙ ap line_read (written 0 (added l) h).1

said-again : WrittenIsRead → (ls : List Line) → AllByRecursion IsReadable ls → lines_said (map joined ls) ≡ Some ls
said-again written [] h = refl
said-again written (l ∷ ls) h =
    ap (option_and_then (λ (x : Line). option_map (λ (xs : List Line). x ∷ xs) (lines_said (map joined ls)))) (line-again written l h.0)
    ∙ ap (option_map (λ (xs : List Line). l ∷ xs)) (said-again written ls h.1)

pub lines-again : WrittenIsRead → (ls : List Line) → AllByRecursion IsReadable ls → lines_in (text_of_lines ls) ≡ Some ls
lines-again written ls h = ap lines_said (rows-again written ls h) ∙ said-again written ls h

-- the lines so far, and those that the rest says
abbrev pub and_said : List Line → List ℕ → Option (List Line)
and_said done rest = option_map (λ ls. done ++ ls) (lines_in rest)

pub said-none-yet : (text : List ℕ) → and_said [] text ≡ lines_in text
said-none-yet text = by_lines (lines_in text)
  where
    by_lines : (o : Option (List Line)) → option_map (λ (ls : List Line). [] ++ ls) o ≡ o
    by_lines None = refl
    by_lines (Some ls) = refl

one-said : (done : List Line) (rest line behind : List ℕ) → lines_of rest ≡ line ∷ lines_of behind → and_said done rest ≡ option_map (λ (ls : List Line). done ++ ls) (option_and_then (λ (l : Line). option_map (λ (ls : List Line). l ∷ ls) (lines_in behind)) (line_in line))
one-said done rest line behind cut = ap (λ (texts : List (List ℕ)). option_map (λ (ls : List Line). done ++ ls) (lines_said texts)) cut

-- one line more
pub said-next : (done next : List Line) (rest line behind : List ℕ) → lines_of rest ≡ line ∷ lines_of behind → IsPut (line_in line) true done next → and_said done rest ≡ and_said next behind
said-next done next rest line behind cut put = one-said done rest line behind cut ∙ by_line (line_in line) put
  where
    by_rest : (l : Line) → next ≡ done ++ l ∷ [] → (o : Option (List Line)) → option_map (λ (ls : List Line). done ++ ls) (option_map (λ (ls : List Line). l ∷ ls) o) ≡ option_map (λ (ls : List Line). next ++ ls) o
    by_rest l is None = refl
    by_rest l is (Some ls) = ap (λ (xs : List Line). Some xs) (sym (append_assoc done (l ∷ []) ls) ∙ ap (λ (xs : List Line). xs ++ ls) (sym is))

    by_line : (o : Option Line) → IsPut o true done next → option_map (λ (ls : List Line). done ++ ls) (option_and_then (λ (l : Line). option_map (λ (ls : List Line). l ∷ ls) (lines_in behind)) o) ≡ and_said next behind
    by_line None h = absurd (cc)
    by_line (Some l) h = by_rest l h.1 (lines_in behind)

-- a line that is none
pub said-none : (done next : List Line) (rest line behind : List ℕ) → lines_of rest ≡ line ∷ lines_of behind → IsPut (line_in line) false done next → and_said done rest ≡ None
said-none done next rest line behind cut put = one-said done rest line behind cut ∙ by_line (line_in line) put
  where
    by_line : (o : Option Line) → IsPut o false done next → option_map (λ (ls : List Line). done ++ ls) (option_and_then (λ (l : Line). option_map (λ (ls : List Line). l ∷ ls) (lines_in behind)) o) ≡ None
    by_line None h = refl
    by_line (Some l) h = let never : true ≡ false = sym h.0 in absurd (cc)

-- no line is left
pub said-all : (done : List Line) (rest : List ℕ) → lines_of rest ≡ [] → and_said done rest ≡ Some done
said-all done rest none = ap (λ (texts : List (List ℕ)). option_map (λ (ls : List Line). done ++ ls) (lines_said texts)) none ∙ ap (λ (xs : List Line). Some xs) (append-nil done)
