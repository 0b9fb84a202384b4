-- What the words of a line are and are not.
use Rattle.std.proofs.Common.{◌≡◌, ℕ, Bool, true, false, cond, ◌||◌, List, [], ◌∷◌, ◌++◌, codes, Ok, Err, refl, sym, ap, ◌∙◌}
use Rattle.std.specs.Str.{bytes_eq}
use Rattle.std.specs.List.{list_any}
use Rattle.std.proofs.lemmas.Slice.Eq.{bytes_eq-Decides}
use Rattle.spec_dimacs.specs.Rows.{is_comment, is_passed}
use Rattle.mal_base.specs.declared.line_fault.LineFault.TheVariants.{BadLine}
use Rattle.spec_script.specs.Assumptions.{assumptions_in, assumptions_of}
use Rattle.spec_script.specs.Grammar.{Assumes}
use Rattle.spec_script.proofs.AssumedForms.{read-assumes}
use Rattle.mal_instance.specs.Rows.{is_formula_row}
use Rattle.mal_claim.specs.Claims.{is_proof_line, ending}

-- the line `proof` is that word
pub proof-line : (row : List (List ℕ)) → is_proof_line row ≡ true → row ≡ codes "proof" ∷ []
proof-line [] e = absurd (cc)
proof-line (first ∷ []) e = ap (λ (w : List ℕ). w ∷ []) ((bytes_eq-Decides first (codes "proof")).0 e)
proof-line (first ∷ second ∷ others) e = absurd (cc)

-- a line of assumptions begins with the word `a`
pub assumed-first : (variables : ℕ) (row : List (List ℕ)) (lits : List ℕ) → assumptions_of variables row ≡ Ok lits → (others : List (List ℕ)) × (row ≡ codes "a" ∷ others)
assumed-first variables [] lits e = absurd (cc)
assumed-first variables (first ∷ others) lits e = by_word (bytes_eq first (codes "a")) refl e
  where
    by_word : (b : Bool) → bytes_eq first (codes "a") ≡ b → cond b (assumptions_in variables others) (Err BadLine) ≡ Ok lits → (rest : List (List ℕ)) × (first ∷ others ≡ codes "a" ∷ rest)
    by_word true q e = (others, ap (λ (w : List ℕ). w ∷ others) ((bytes_eq-Decides first (codes "a")).0 q))
    by_word false q e = absurd (cc)

-- what is read of a line of assumptions, the words after its first say
pub assumed-says : (variables : ℕ) (row : List (List ℕ)) (lits : List ℕ) → assumptions_of variables row ≡ Ok lits → (words : List (List ℕ)) × (row ≡ codes "a" ∷ words) × Assumes variables words lits
assumed-says variables row lits e =
    let first = assumed-first variables row lits e in
    (first.0, first.1, read-assumes variables first.0 lits (sym (ap (assumptions_of variables) first.1) ∙ e))

a-no-proof : (others : List (List ℕ)) → is_proof_line (codes "a" ∷ others) ≡ false
a-no-proof [] = refl
a-no-proof (word ∷ words) = refl

pub assumed-no-proof : (variables : ℕ) (row : List (List ℕ)) (lits : List ℕ) → assumptions_of variables row ≡ Ok lits → is_proof_line row ≡ false
assumed-no-proof variables row lits e =
    let first = assumed-first variables row lits e in
    ap is_proof_line first.1 ∙ a-no-proof first.0

pub assumed-ends : (variables : ℕ) (row : List (List ℕ)) (lits : List ℕ) → assumptions_of variables row ≡ Ok lits → is_formula_row ending row ≡ false
assumed-ends variables row lits e = ap (is_formula_row ending) (assumed-first variables row lits e).1

-- a line that is passed over is not the line `proof`
pub passed-no-proof : (row : List (List ℕ)) → is_passed row ≡ true → is_proof_line row ≡ false
passed-no-proof [] e = refl
passed-no-proof (first ∷ second ∷ others) e = refl
passed-no-proof (first ∷ []) e = by_word (bytes_eq first (codes "proof")) refl
  where
    by_word : (b : Bool) → bytes_eq first (codes "proof") ≡ b → b ≡ false
    by_word false q = refl
    by_word true q = let same : is_comment first ≡ false = ap is_comment ((bytes_eq-Decides first (codes "proof")).0 q) in absurd (cc)

or-right : (a b : Bool) → b ≡ true → (a || b) ≡ true
or-right true b e = refl
or-right false b e = e

-- where the line `proof` stands among others
pub some-proof : (rows last : List (List (List ℕ))) → list_any is_proof_line (rows ++ (codes "proof" ∷ []) ∷ last) ≡ true
some-proof [] last = refl
some-proof (row ∷ rows) last = or-right (is_proof_line row) (list_any is_proof_line (rows ++ (codes "proof" ∷ []) ∷ last)) (some-proof rows last)
