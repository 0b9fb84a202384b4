-- The text of a formula, part by part.
use Rattle.std.proofs.Common.{◌≡◌, ℕ, ◌≤◌, List, [], ◌∷◌, ◌++◌, flat_map, length, codes, Option, None, Result, Ok, Err, OnErr, refl, ap, ap₂, ◌∙◌, sym, append_assoc, take, drop, take_all, take-append-drop}
use Rattle.std.proofs.Math.Seq.{take-append_seam}
use Rattle.std.specs.Io.{StartsWith}
use Rattle.std.proofs.lemmas.List.Folds.{flat_map-map}
use Rattle.std.specs.Fmt.{digits}
use Rattle.spec_text.specs.Lines.{line_of, text_of}
use Rattle.spec_text.specs.Numbers.{literal_word}
use Rattle.mal_base.specs.Formulas.{Formulated}
use Rattle.spec_dimacs.specs.Written.{closed_words, clause_words, header_words, formula_rows, spelling}
use Rattle.spec_dimacs.proofs.Texts.{before_line, closed_some}
use Rattle.mal_dimacs.specs.Spaced.{spaced}

-- the line of literals is each with a space after it, and then a 0
closed_line : (lits : List ℕ) → line_of (closed_words lits) ≡ flat_map spaced lits ++ codes "0\n"
closed_line [] = refl
closed_line (l ∷ ls) =
    before_line (literal_word l) (closed_words ls) (closed_some ls)
    ∙ ap (λ (rest : List ℕ). spaced l ++ rest) (closed_line ls)
    ∙ sym (append_assoc (spaced l) (flat_map spaced ls) (codes "0\n"))

-- all literals and then a 0
pub closed_written : (old items out lits : List ℕ) (i : ℕ) → length lits ≤ i → items ≡ old ++ flat_map spaced (take i lits) → out ≡ items ++ codes "0\n" → out ≡ old ++ line_of (closed_words lits)
closed_written old items out lits i all e f =
    f ∙ ap (λ (bytes : List ℕ). bytes ++ codes "0\n") e
    ∙ ap (λ (ls : List ℕ). (old ++ flat_map spaced ls) ++ codes "0\n") (take_all i lits all)
    ∙ append_assoc old (flat_map spaced lits) (codes "0\n")
    ∙ ap (λ (bytes : List ℕ). old ++ bytes) (sym (closed_line lits))

-- a tautology's line
pub tautology_written : (old out : List ℕ) (clause : Option (List ℕ)) → clause ≡ None → out ≡ old ++ line_of (codes "1" ∷ codes "-1" ∷ codes "0" ∷ []) → out ≡ old ++ line_of (clause_words clause)
unfolding digits
tautology_written old out clause h e = e ∙ ap (λ (c : Option (List ℕ)). old ++ line_of (clause_words c)) (sym h)

-- the formula of these parts
abbrev pub formula_of : ℕ → List (Option (List ℕ)) → Formulated
formula_of variables clauses = record { variables = variables; clauses = clauses }

-- the header and then the clauses
pub block_written : (old one two : List ℕ) (v n : ℕ) (cs : List (Option (List ℕ))) → n ≡ length cs → one ≡ old ++ line_of (header_words v n) → two ≡ one ++ flat_map (λ c. line_of (clause_words c)) cs → two ≡ old ++ text_of (formula_rows (formula_of v cs))
block_written old one two v n cs count e g =
    g ∙ ap (λ (bytes : List ℕ). bytes ++ flat_map (λ c. line_of (clause_words c)) cs) e
    ∙ append_assoc old (line_of (header_words v n)) (flat_map (λ c. line_of (clause_words c)) cs)
    ∙ ap (λ (m : ℕ). old ++ (line_of (header_words v m) ++ flat_map (λ c. line_of (clause_words c)) cs)) count
    ∙ ap (λ (bytes : List ℕ). old ++ (line_of (header_words v (length cs)) ++ bytes)) (sym (flat_map-map line_of clause_words cs))

pub formula_written : (old out : List ℕ) (f : Formulated) (v : ℕ) (cs : List (Option (List ℕ))) → v ≡ f.variables → cs ≡ f.clauses → old ≡ [] → out ≡ old ++ text_of (formula_rows (formula_of v cs)) → out ≡ spelling f
unfolding spelling
formula_written old out f v cs p q d e =
    e ∙ ap (λ (bytes : List ℕ). bytes ++ text_of (formula_rows (formula_of v cs))) d
    ∙ ap₂ (λ (n : ℕ) (xs : List (Option (List ℕ))). text_of (formula_rows (formula_of n xs))) p q

-- what stood there stands in front of what begins with it and more
front_kept : (old more mid now : List ℕ) → mid ≡ old ++ more → StartsWith now mid → StartsWith now old
front_kept old more mid now e begins =
    let behind = drop (length mid) now in
    let whole : now ≡ old ++ (more ++ behind) = sym (take-append-drop (length mid) now) ∙ ap (λ (bytes : List ℕ). bytes ++ behind) (begins ∙ e) ∙ append_assoc old more behind in
    ap (take (length old)) whole ∙ take-append_seam old (more ++ behind)

pub front_kept_on_err : {T E : Type 0} (r : Result T E) (old more mid now : List ℕ) → mid ≡ old ++ more → StartsWith now mid → OnErr r (StartsWith now old)
front_kept_on_err (Ok x) old more mid now e begins = tt
front_kept_on_err (Err x) old more mid now e begins = front_kept old more mid now e begins
