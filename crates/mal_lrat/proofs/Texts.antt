-- What is written word by word.
use Rattle.std.proofs.Common.{◌≡◌, ℕ, ◌≤◌, List, [], ◌∷◌, ◌++◌, map, length, take, drop, flat_map, codes, Result, Ok, Err, OnErr, refl, sym, ap, ◌∙◌, append_assoc, take_all, take-append-drop}
use Rattle.std.proofs.Math.Seq.{take-append_seam}
use Rattle.std.specs.Io.{StartsWith}
use Rattle.std.specs.List.{join_with_byte}
use Rattle.std.proofs.lemmas.Grind.{flat_map-append}
use Rattle.spec_text.specs.Lines.{line_of}
use Rattle.spec_text.proofs.Again.{joined_word_by_word}
use Rattle.mal_lrat.specs.Spaced.{spaced}

spaced-map : {A : Type 0} (word : A → List ℕ) (xs : List A) → spaced (map word xs) ≡ flat_map (λ x. 32 ∷ word x) xs
spaced-map word [] = refl
spaced-map word (x ∷ xs) = ap (λ (rest : List ℕ). (32 ∷ word x) ++ rest) (spaced-map word xs)

-- words of a list, and a 0 after them
pub closed-written : {A : Type 0} (word : A → List ℕ) (old now new : List ℕ) (xs : List A) (n : ℕ) → length xs ≤ n → now ≡ old ++ flat_map (λ x. 32 ∷ word x) (take n xs) → new ≡ now ++ 32 ∷ codes "0" → new ≡ old ++ spaced (map word xs ++ codes "0" ∷ [])
closed-written word old now new xs n all so_far last =
    let whole : now ≡ old ++ spaced (map word xs) = so_far ∙ (ap (λ (ys : List _). old ++ flat_map (λ x. 32 ∷ word x) ys) (take_all n xs all) ∙ ap (λ (t : List ℕ). old ++ t) (sym (spaced-map word xs))) in
    last ∙ (ap (λ (t : List ℕ). t ++ 32 ∷ codes "0") whole ∙ (append_assoc old (spaced (map word xs)) (32 ∷ codes "0") ∙ ap (λ (t : List ℕ). old ++ t) (sym (flat_map-append (λ w. 32 ∷ w) (map word xs) (codes "0" ∷ [])))))

-- a first word and a list of words, after what a text has already
behind-word : (old word text0 text1 : List ℕ) (a : List (List ℕ)) → text0 ≡ old ++ word → text1 ≡ text0 ++ spaced a → text1 ≡ old ++ (word ++ spaced a)
behind-word old word text0 text1 a d e = e ∙ (ap (λ (t : List ℕ). t ++ spaced a) d ∙ append_assoc old word (spaced a))

-- a line of a first word and two lists of words, after what a text has already
pub line-written : (old word text0 text1 text2 text3 : List ℕ) (a b : List (List ℕ)) → text0 ≡ old ++ word → text1 ≡ text0 ++ spaced a → text2 ≡ text1 ++ spaced b → text3 ≡ text2 ++ 10 ∷ [] → text3 ≡ old ++ line_of (word ∷ (a ++ b))
line-written old word text0 text1 text2 text3 a b d e f g =
    let first : text1 ≡ old ++ (word ++ spaced a) = behind-word old word text0 text1 a d e in
    let words : (word ++ spaced a) ++ spaced b ≡ word ++ spaced (a ++ b) = append_assoc word (spaced a) (spaced b) ∙ ap (λ (t : List ℕ). word ++ t) (sym (flat_map-append (λ w. 32 ∷ w) a b)) in
    let whole : text2 ≡ old ++ join_with_byte 32 (word ∷ (a ++ b)) = f ∙ (ap (λ (t : List ℕ). t ++ spaced b) first ∙ (append_assoc old (word ++ spaced a) (spaced b) ∙ ap (λ (t : List ℕ). old ++ t) (words ∙ sym (joined_word_by_word word (a ++ b))))) in
    g ∙ (ap (λ (t : List ℕ). t ++ 10 ∷ []) whole ∙ append_assoc old (join_with_byte 32 (word ∷ (a ++ b))) (10 ∷ []))

pub deletion-written : (text0 text1 text2 : List ℕ) (b : List (List ℕ)) → text0 ≡ codes "1 d" → text1 ≡ text0 ++ spaced b → text2 ≡ text1 ++ 10 ∷ [] → text2 ≡ line_of (codes "1" ∷ codes "d" ∷ b)
deletion-written text0 text1 text2 b d e g =
    let whole : text1 ≡ codes "1" ++ spaced (codes "d" ∷ b) = e ∙ ap (λ (t : List ℕ). t ++ spaced b) d in
    g ∙ ap (λ (t : List ℕ). t ++ 10 ∷ []) (whole ∙ sym (joined_word_by_word (codes "1") (codes "d" ∷ b)))

-- what stood there stands in front of what begins with it and more
front-kept : (old more mid now : List ℕ) → mid ≡ old ++ more → StartsWith now mid → StartsWith now old
front-kept old more mid now e begins =
    let behind = drop (length mid) now in
    let whole : now ≡ old ++ (more ++ behind) = sym (take-append-drop (length mid) now) ∙ (ap (λ (t : List ℕ). t ++ behind) (begins ∙ e) ∙ append_assoc old more behind) in
    ap (take (length old)) whole ∙ take-append_seam old (more ++ behind)

pub front-kept-on-err : {T E : Type 0} (r : Result T E) (old word text0 text1 now : List ℕ) (a : List (List ℕ)) → text0 ≡ old ++ word → text1 ≡ text0 ++ spaced a → StartsWith now text1 → OnErr r (StartsWith now old)
front-kept-on-err (Ok x) old word text0 text1 now a d e begins = tt
front-kept-on-err (Err x) old word text0 text1 now a d e begins = front-kept old (word ++ spaced a) text1 now (behind-word old word text0 text1 a d e) begins
