-- A line is written word by word.
use Rattle.std.proofs.Common.{◌≡◌, ℕ, List, [], ◌∷◌, ◌++◌, map, flat_map, length, take, Bor, ap, ◌∙◌, sym, append_assoc, ◌≤◌, take_all}
use Rattle.std.proofs.lemmas.List.Folds.{flat_map-map}
use Rattle.spec_text.specs.Lines.{line_of}
use Rattle.spec_text.proofs.Again.{joined_word_by_word}

-- a line is its first word, the others after a space each, and a line end
pub line_by_word : (first : List ℕ) (others : List (List ℕ)) → (first ++ flat_map (λ w. 32 ∷ w) others) ++ 10 ∷ [] ≡ line_of (first ∷ others)
line_by_word first others = ap (λ (bytes : List ℕ). bytes ++ 10 ∷ []) (sym (joined_word_by_word first others))

-- the words so far are, at the end, all words
pub all_words : (words : List (Bor (List ℕ))) (i : ℕ) → length words ≤ i → flat_map (λ w. 32 ∷ w.now) (take i words) ≡ flat_map (λ w. 32 ∷ w) (map (λ w. w.now) words)
all_words words i all = ap (λ (ws : List (Bor (List ℕ))). flat_map (λ w. 32 ∷ w.now) ws) (take_all i words all) ∙ sym (flat_map-map (λ w. 32 ∷ w) (λ w. w.now) words)

-- the words so far, all words, and then a line end make the line
pub written_line : (old first items out : List ℕ) (others : List (Bor (List ℕ))) (i : ℕ) → length others ≤ i → items ≡ old ++ (first ++ flat_map (λ w. 32 ∷ w.now) (take i others)) → out ≡ items ++ 10 ∷ [] → out ≡ old ++ line_of (first ∷ map (λ w. w.now) others)
written_line old first items out others i all e f =
    f ∙ ap (λ (bytes : List ℕ). bytes ++ 10 ∷ []) (e ∙ ap (λ (words : List ℕ). old ++ (first ++ words)) (all_words others i all))
    ∙ append_assoc old (first ++ flat_map (λ w. 32 ∷ w) (map (λ w. w.now) others)) (10 ∷ [])
    ∙ ap (λ (bytes : List ℕ). old ++ bytes) (line_by_word first (map (λ w. w.now) others))
