-- Counting the lines of a text that are a given one.
use Rattle.std.proofs.Common.{◌≡◌, ℕ, ◌+◌, cond, List, [], ◌∷◌, sym, ap, ◌∙◌, arith}
use Rattle.std.specs.Prelude.{bytes_eq, count_by}
use Rattle.std.proofs.lemmas.List.Sums.{sum_by-cons}
use Rattle.spec_text.specs.Inputs.{lines_of}
use Rattle.mal_answer.specs.Summaries.{lines_that_are}

sum-moved : (count one rest all : ℕ) → count + (one + rest) ≡ all → count + one + rest ≡ all
sum-moved count one rest all e = omega arith

pub counted-line : (line text row rest : List ℕ) (count one all : ℕ) → lines_of text ≡ row ∷ lines_of rest → one ≡ cond (bytes_eq line row) 1 0 → count + lines_that_are line text ≡ all → count + one + lines_that_are line rest ≡ all
counted-line line text row rest count one all cut is e =
    let more : lines_that_are line text ≡ cond (bytes_eq line row) 1 0 + lines_that_are line rest =
    ap (λ (rows : List (List ℕ)). count_by (bytes_eq line) rows) cut ∙ sum_by-cons (λ (x : List ℕ). cond (bytes_eq line x) 1 0) row (lines_of rest) in
    sum-moved count one (lines_that_are line rest) all (ap (λ (n : ℕ). count + (n + lines_that_are line rest)) is ∙ (ap (λ (n : ℕ). count + n) (sym more) ∙ e))

pub counted-all : (line text : List ℕ) (count all : ℕ) → lines_of text ≡ [] → count + lines_that_are line text ≡ all → count ≡ all
counted-all line text count all none e =
    let nothing : lines_that_are line text ≡ 0 = ap (λ (rows : List (List ℕ)). count_by (bytes_eq line) rows) none in
    omega arith

pub ruleset counting_lemmas = (counted-line, counted-all)
