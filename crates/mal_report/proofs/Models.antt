-- The line of a model is written literal by literal.
use Rattle.std.proofs.Common.{◌≡◌, ℕ, zero, suc, ◌≤◌, Bool, List, [], ◌∷◌, ◌++◌, codes, flat_map, length, drop, ap, ◌∙◌, sym, refl, append_assoc, append-nil, arith}
use Rattle.std.proofs.lemmas.Grind.{flat_map-append}
use Rattle.spec_text.specs.Lines.{line_of}
use Rattle.spec_text.proofs.Again.{joined_word_by_word}
use Rattle.spec_report.specs.Replies.{model_words}

-- the words of a model's literals, of the variables from this one on, each after a space
abbrev pub spaced_from : ℕ → List Bool → List ℕ
spaced_from var model = flat_map (λ w. 32 ∷ w) (model_words var model)

-- nothing is left after the last value
drop_past : (model : List Bool) (i : ℕ) → length model ≤ i → drop i model ≡ []
drop_past [] zero l = refl
drop_past [] (suc i) l = refl
drop_past (b ∷ bs) zero l = absurd (omega arith)
drop_past (b ∷ bs) (suc i) l = drop_past bs i (omega arith)

-- the literals, a zero and then a line end make the line
pub written_model : (old items closed out : List ℕ) (model : List Bool) (n i : ℕ) → length model ≤ i → items ++ spaced_from n (drop i model) ≡ old ++ 118 ∷ spaced_from 1 model → closed ≡ items ++ 32 ∷ 48 ∷ [] → out ≡ closed ++ 10 ∷ [] → out ≡ old ++ line_of (codes "v" ∷ (model_words 1 model ++ codes "0" ∷ []))
written_model old items closed out model n i all e f g =
    let whole : items ≡ old ++ 118 ∷ spaced_from 1 model = sym (append-nil items) ∙ ap (λ (bs : List Bool). items ++ spaced_from n bs) (sym (drop_past model i all)) ∙ e in
    g ∙ ap (λ (bytes : List ℕ). bytes ++ 10 ∷ []) (f ∙ ap (λ (bytes : List ℕ). bytes ++ 32 ∷ 48 ∷ []) whole ∙ append_assoc old (118 ∷ spaced_from 1 model) (32 ∷ 48 ∷ []))
    ∙ append_assoc old ((118 ∷ spaced_from 1 model) ++ 32 ∷ 48 ∷ []) (10 ∷ [])
    ∙ ap (λ (bytes : List ℕ). old ++ (bytes ++ 10 ∷ [])) (ap (λ (bytes : List ℕ). 118 ∷ bytes) (sym (flat_map-append (λ w. 32 ∷ w) (model_words 1 model) (codes "0" ∷ []))) ∙ sym (joined_word_by_word (codes "v") (model_words 1 model ++ codes "0" ∷ [])))
