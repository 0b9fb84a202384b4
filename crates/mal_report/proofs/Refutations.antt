-- The lines of a refutation are written word by word.
use Rattle.std.proofs.Common.{◌≡◌, ℕ, ◌+◌, ◌<◌, ◌≤◌, List, [], ◌∷◌, ◌++◌, codes, map, length, take, get_or, slice_get, Some, refl, ap, ◌∙◌, sym, append_assoc, append-nil, take_all, arith}
use Rattle.std.specs.List.{join_with_byte}
use Rattle.std.proofs.lemmas.Option.{slice_get-get_or}
use Rattle.std.proofs.lemmas.List.{take_more, map-append}
use Rattle.std.proofs.lemmas.Grind.{flat_map-append}
use Rattle.mal_base.specs.NumberedClause.{Line}
use Rattle.spec_text.specs.Lines.{line_of, text_of}
use Rattle.spec_text.proofs.Again.{joined_word_by_word}
use Rattle.spec_logic.specs.Refutation.ProofLine.{Add}
use Rattle.spec_lrat.specs.Written.{row_of}
use Rattle.spec_report.specs.Replies.{proof_row}
use Rattle.mal_lrat.specs.Spaced.{spaced}

-- a first word, words after a space each, and then a line end make a line
pub words_written : (old word first items out : List ℕ) (words : List (List ℕ)) → first ≡ old ++ word → items ≡ first ++ spaced words → out ≡ items ++ 10 ∷ [] → out ≡ old ++ line_of (word ∷ words)
words_written old word first items out words d e f =
    let joined : (old ++ word) ++ spaced words ≡ old ++ join_with_byte 32 (word ∷ words) = append_assoc old word (spaced words) ∙ ap (λ (t : List ℕ). old ++ t) (sym (joined_word_by_word word words)) in
    f ∙ (ap (λ (t : List ℕ). t ++ 10 ∷ []) (e ∙ (ap (λ (t : List ℕ). t ++ spaced words) d ∙ joined)) ∙ append_assoc old (join_with_byte 32 (word ∷ words)) (10 ∷ []))

-- what is written after the word `l` is a line of a proof
pub row_written : (old first out : List ℕ) (lines : List Line) (n id : ℕ) (lits hints : List ℕ)
    → ((l : Line) → slice_get lines n ≡ Some l → id ≡ l.id) → ((l : Line) → slice_get lines n ≡ Some l → lits ≡ l.lits) → ((l : Line) → slice_get lines n ≡ Some l → hints ≡ l.hints)
    → first ≡ old ++ codes "l " → out ≡ first ++ line_of (row_of (Add id (Some lits) hints)) → (line : Line) → slice_get lines n ≡ Some line → out ≡ old ++ line_of (proof_row line)
row_written old first out lines n id lits hints a b c d e line is =
    let written : Line = record { id = id; lits = lits; hints = hints } in
    let same : written ≡ line = rw (a line is, b line is, c line is) refl in
    e
    ∙ (ap (λ (t : List ℕ). t ++ line_of (row_of (Add id (Some lits) hints))) d
    ∙ (append_assoc old (codes "l ") (line_of (row_of (Add id (Some lits) hints))) ∙ ap (λ (l : Line). old ++ line_of (proof_row l)) same))

-- one line more
text_more : (lines : List Line) (line : Line) → text_of (map proof_row (lines ++ line ∷ [])) ≡ text_of (map proof_row lines) ++ line_of (proof_row line)
text_more lines line =
    ap text_of (map-append proof_row lines (line ∷ []))
    ∙ (flat_map-append line_of (map proof_row lines) (proof_row line ∷ []) ∙ ap (λ (t : List ℕ). text_of (map proof_row lines) ++ t) (append-nil (line_of (proof_row line))))

pub rows_next : (old items out : List ℕ) (lines : List Line) (n : ℕ) → n < length lines → items ≡ old ++ text_of (map proof_row (take n lines)) → ((line : Line) → slice_get lines n ≡ Some line → out ≡ items ++ line_of (proof_row line)) → out ≡ old ++ text_of (map proof_row (take (n + 1) lines))
rows_next old items out lines n low e f =
    let none : Line = record { id = 0; lits = []; hints = [] } in
    let line : Line = get_or lines n none in
    let more : take (n + 1) lines ≡ take n lines ++ line ∷ [] = take_more lines n none low in
    f line (slice_get-get_or lines n none low)
    ∙ (ap (λ (t : List ℕ). t ++ line_of (proof_row line)) e
    ∙ (append_assoc old (text_of (map proof_row (take n lines))) (line_of (proof_row line))
    ∙ ap (λ (t : List ℕ). old ++ t) (sym (text_more (take n lines) line) ∙ ap (λ (ls : List Line). text_of (map proof_row ls)) (sym more))))

pub rows_all : (old items : List ℕ) (lines : List Line) (n : ℕ) → length lines ≤ n → items ≡ old ++ text_of (map proof_row (take n lines)) → items ≡ old ++ text_of (map proof_row lines)
rows_all old items lines n all e = e ∙ ap (λ (ls : List Line). old ++ text_of (map proof_row ls)) (take_all n lines all)
