-- The texts of the parts of a script, one after another.
use Rattle.std.proofs.Common.{◌≡◌, ℕ, List, [], ◌∷◌, ◌++◌, flat_map, length, codes, Option, refl, ap, ◌∙◌, sym, append_assoc, append-nil, take, take_all, ap₂, ◌≤◌}
use Rattle.std.proofs.lemmas.List.Concat.{flat_map-append}
use Rattle.spec_text.specs.Lines.{line_of, text_of}
use Rattle.mal_revision.specs.Posted.{Posted}
use Rattle.mal_base.specs.Formulas.{Formulated}
use Rattle.spec_dimacs.specs.Written.{closed_words, formula_rows}
use Rattle.spec_dimacs.proofs.Texts.{before_line, closed_some}
use Rattle.spec_script.specs.Script.{ScriptedJob, Scripted, revision_rows, step_rows, tenant_words, job_words, job_rows, rows_of}
use Rattle.spec_script.specs.declared.step.Step.{Step}

-- the line of assumptions is an a, a space and the line of its literals
pub assumed_line : (lits : List ℕ) → line_of (codes "a" ∷ closed_words lits) ≡ codes "a " ++ line_of (closed_words lits)
assumed_line lits = before_line (codes "a") (closed_words lits) (closed_some lits)

-- the texts of several lists of lines make the text of them all
pub texts_of : {A : Type 0} (f : A → List (List (List ℕ))) (xs : List A) → flat_map (λ x. text_of (f x)) xs ≡ text_of (flat_map f xs)
texts_of f [] = refl
texts_of f (x ∷ xs) = ap (λ (rest : List ℕ). text_of (f x) ++ rest) (texts_of f xs) ∙ sym (flat_map-append line_of (f x) (flat_map f xs))

-- a text after another, and a last line
with_last : (rows : List (List (List ℕ))) (last : List (List ℕ)) → text_of (rows ++ last ∷ []) ≡ text_of rows ++ line_of last
with_last rows last = flat_map-append line_of rows (last ∷ []) ∙ ap (λ (rest : List ℕ). text_of rows ++ rest) (append-nil (line_of last))

-- four texts after a text
four : (old a b c d : List ℕ) → (((old ++ a) ++ b) ++ c) ++ d ≡ old ++ (a ++ (b ++ (c ++ d)))
four old a b c d = simp append_assoc

-- the lines of a job, part by part
pub job_text : {A : Type 0} (old : List ℕ) (first second : List (List ℕ)) (f : A → List (List (List ℕ))) (xs : List A) (last : List (List ℕ)) → (((old ++ line_of first) ++ line_of second) ++ flat_map (λ x. text_of (f x)) xs) ++ line_of last ≡ old ++ text_of (first ∷ second ∷ (flat_map f xs ++ last ∷ []))
job_text old first second f xs last =
    four old (line_of first) (line_of second) (flat_map (λ x. text_of (f x)) xs) (line_of last)
    ∙ ap (λ (rest : List ℕ). old ++ (line_of first ++ (line_of second ++ (rest ++ line_of last)))) (texts_of f xs)
    ∙ ap (λ (rest : List ℕ). old ++ (line_of first ++ (line_of second ++ rest))) (sym (with_last (flat_map f xs) last))

-- an a, a space and the literals
pub assumed_written : (old one two lits : List ℕ) → one ≡ old ++ codes "a " → two ≡ one ++ line_of (closed_words lits) → two ≡ old ++ line_of (codes "a" ∷ closed_words lits)
assumed_written old one two lits e f =
    f ∙ ap (λ (bytes : List ℕ). bytes ++ line_of (closed_words lits)) e
    ∙ append_assoc old (codes "a ") (line_of (closed_words lits))
    ∙ ap (λ (bytes : List ℕ). old ++ bytes) (sym (assumed_line lits))

-- the formula of these parts
abbrev formula_of : ℕ → List (Option (List ℕ)) → Formulated
formula_of variables clauses = record { variables = variables; clauses = clauses }

-- the block and then the assumptions
pub revision_written : (old one two : List ℕ) (r : Posted) (v : ℕ) (cs : List (Option (List ℕ))) (lits : List ℕ) → v ≡ r.variables → cs ≡ r.clauses → lits ≡ r.assumptions → one ≡ old ++ text_of (formula_rows (formula_of v cs)) → two ≡ one ++ line_of (codes "a" ∷ closed_words lits) → two ≡ old ++ text_of (revision_rows r)
revision_written old one two r v cs lits p q k e f =
    let rows : List (List (List ℕ)) = formula_rows (formula_of r.variables r.clauses) in
    let last : List (List ℕ) = codes "a" ∷ closed_words r.assumptions in
    f ∙ ap (λ (ls : List ℕ). one ++ line_of (codes "a" ∷ closed_words ls)) k
    ∙ ap (λ (bytes : List ℕ). bytes ++ line_of last) (e ∙ ap₂ (λ (n : ℕ) (xs : List (Option (List ℕ))). old ++ text_of (formula_rows (formula_of n xs))) p q)
    ∙ append_assoc old (text_of rows) (line_of last)
    ∙ ap (λ (bytes : List ℕ). old ++ bytes) (sym (with_last rows last))

-- the tenant, the terms, the steps and the end
pub job_written : (old one two three four : List ℕ) (j : ScriptedJob) (first second : List (List ℕ)) (steps : List Step) → first ≡ tenant_words j.tenant → second ≡ job_words j.name j.ask → steps ≡ j.steps → one ≡ old ++ line_of first → two ≡ one ++ line_of second → three ≡ two ++ flat_map (λ s. text_of (step_rows s)) steps → four ≡ three ++ line_of (codes "e" ∷ []) → four ≡ old ++ text_of (job_rows j)
job_written old one two three all j first second steps p q r e f g h =
    h ∙ ap (λ (bytes : List ℕ). bytes ++ line_of (codes "e" ∷ [])) (g ∙ ap (λ (bytes : List ℕ). bytes ++ flat_map (λ s. text_of (step_rows s)) steps) (f ∙ ap (λ (bytes : List ℕ). bytes ++ line_of second) e))
    ∙ ap₂ (λ (a b : List (List ℕ)). (((old ++ line_of a) ++ line_of b) ++ flat_map (λ s. text_of (step_rows s)) steps) ++ line_of (codes "e" ∷ [])) p q
    ∙ ap (λ (xs : List Step). (((old ++ line_of (tenant_words j.tenant)) ++ line_of (job_words j.name j.ask)) ++ flat_map (λ s. text_of (step_rows s)) xs) ++ line_of (codes "e" ∷ [])) r
    ∙ job_text old (tenant_words j.tenant) (job_words j.name j.ask) step_rows j.steps (codes "e" ∷ [])

-- the jobs
pub script_written : (out : List ℕ) (s : Scripted) (jobs : List ScriptedJob) (i : ℕ) → jobs ≡ s.jobs → length jobs ≤ i → out ≡ flat_map (λ j. text_of (job_rows j)) (take i jobs) → out ≡ text_of (rows_of s)
script_written out s jobs i k all e = e ∙ ap (flat_map (λ j. text_of (job_rows j))) (take_all i jobs all ∙ k) ∙ texts_of job_rows s.jobs
