-- What a text spells is what is read of it.
use Rattle.std.proofs.Common.{◌≡◌, ℕ, suc, Bool, true, cond, ◌&&◌, List, [], ◌∷◌, ◌++◌, append_assoc, length, codes, None, Result, Ok, Err, inl, inr, refl, sym, ap, ap₂, subst, ◌∙◌}
use Rattle.std.specs.List.{list_any, list_all}
use Rattle.mal_base.specs.Formulas.{Formulated}
use Rattle.mal_base.specs.declared.block_fault.BlockFault.{BlockFault}
use Rattle.spec_dimacs.specs.Rows.{is_passed, rows_of}
use Rattle.spec_dimacs.specs.Reading.{◌>>=◌, read_rows}
use Rattle.spec_dimacs.proofs.Spelled.{read_is_spelled, spelled_is_read}
use Rattle.mal_base.specs.declared.line_fault.LineFault.{LineFault}
use Rattle.mal_base.specs.declared.line_fault.LineFault.TheVariants.{BadLine}
use Rattle.spec_script.specs.Assumptions.{assumptions_of}
use Rattle.spec_script.specs.Grammar.{Assumes}
use Rattle.spec_script.proofs.Assumed.{assumes-read}
use Rattle.spec_script.proofs.Inversions.{bind_ok, chosen, passed}
use Rattle.mal_instance.specs.Rows.{is_formula_row, formula_of, formula_rows, rows_after}
use Rattle.mal_claim.proofs.LineLemmas.{lines_are_read}
use Rattle.spec_lrat.specs.Reading as proof
use Rattle.mal_claim.specs.Proofs.{Numbered, lines_from}
use Rattle.mal_claim.specs.Claims.{Claim, Assumed, Fault, is_proof_line, ending, in_formula, in_line, in_proof, to_proof, assumed, claim_of, read_lines, read_text}
use Rattle.mal_claim.specs.Claims.Fault.{NoProof, InFormula}
use Rattle.mal_claim.specs.Grammar.{AreAssumed, Spells}
use Rattle.mal_claim.specs.Laws.{SpelledIsRead}
use Rattle.mal_instance.proofs.FirstLines.{first-rows}
use Rattle.mal_instance.proofs.FormulaLemmas.{and-left, formula-first, formula-after, none-first, all-after, formula-taken, formula-all, formula-parts}
use Rattle.mal_claim.proofs.RowLemmas.{proof-line, assumed-no-proof, assumed-ends, passed-no-proof, some-proof, assumed-says}

-- such lines as are passed over lead to the line `proof`
passed-to-proof : (lits : List ℕ) (line : ℕ) (others last : List (List (List ℕ))) → list_all is_passed others ≡ true → to_proof lits line (others ++ (codes "proof" ∷ []) ∷ last) ≡ Ok (record { assumptions = lits; rows = last })
passed-to-proof lits line [] last h = refl
passed-to-proof lits line (row ∷ others) last h =
    let both = and-left (is_passed row) (list_all is_passed others) h in
    let left : List (List (List ℕ)) = others ++ (codes "proof" ∷ []) ∷ last in
    ap (λ (b : Bool). cond b (Ok (record { assumptions = lits; rows = left })) (cond (is_passed row) (to_proof lits (suc line) left) (Err (InFormula (suc line) BadLine)))) (passed-no-proof row both.0)
    ∙ ap (λ (b : Bool). cond b (to_proof lits (suc line) left) (Err (InFormula (suc line) BadLine))) both.0
    ∙ passed-to-proof lits (suc line) others last both.1

-- what is known of the lines between the formula and the proof
record Between (variables line : ℕ) (between last : List (List (List ℕ))) (lits : List ℕ) : Type 0 where
  pub none : formula_rows ending (between ++ (codes "proof" ∷ []) ∷ last) ≡ []
  pub all : rows_after ending (between ++ (codes "proof" ∷ []) ∷ last) ≡ between ++ (codes "proof" ∷ []) ∷ last
  pub read : assumed variables line (between ++ (codes "proof" ∷ []) ∷ last) ≡ Ok (record { assumptions = lits; rows = last })

between-read : (variables line : ℕ) (between last : List (List (List ℕ))) (lits : List ℕ) → AreAssumed variables between lits → Between variables line between last lits
between-read variables line between last lits (inl h) = rw (h.0, h.1) (record { none = refl; all = refl; read = refl })
between-read variables line between last lits (inr h) =
    let row : List (List ℕ) = codes "a" ∷ h.0 in
    let others : List (List (List ℕ)) = h.1 in
    let left : List (List (List ℕ)) = others ++ (codes "proof" ∷ []) ∷ last in
    let same : between ≡ row ∷ others = h.2 in
    let lits_of : assumptions_of variables row ≡ Ok lits = assumes-read variables h.0 lits h.3 in
    rw same (record {
      none = none-first ending row left (assumed-ends variables row lits lits_of);
      all = all-after ending row left (assumed-ends variables row lits lits_of);
      read =
          ap (λ (b : Bool). cond b (Ok (record { assumptions = []; rows = left })) (in_line (suc line) (assumptions_of variables row) >>= λ found. to_proof found (suc line) left)) (assumed-no-proof variables row lits lits_of)
          ∙ ap (λ (r : Result (List ℕ) LineFault). in_line (suc line) r >>= λ found. to_proof found (suc line) left) lits_of
          ∙ passed-to-proof lits (suc line) others last h.4;
    })

spelled-read : (text : List ℕ) (c : Claim) → Spells text c → read_text text ≡ Ok c
spelled-read text c s =
    let first : List (List (List ℕ)) = rows_of s.first in
    let rest : List (List (List ℕ)) = s.between ++ (codes "proof" ∷ []) ∷ s.last in
    let b = between-read c.formula.variables (length first) s.between s.last c.assumptions s.assumed in
    ap (λ (rows : List (List (List ℕ))). cond (list_any is_proof_line rows) (read_lines rows) (Err NoProof)) s.rows
    ∙ ap (λ (t : Bool). cond t (read_lines (first ++ rest)) (Err NoProof)) (found first s.between s.last)
    ∙ ap₂ (λ (fs bs : List (List (List ℕ))). in_formula (read_rows fs 0 None) >>= λ f. assumed f.variables (length fs) bs >>= claim_of f) (formula-first ending first rest s.inside b.none) (formula-after ending first rest s.inside b.all)
    ∙ ap (λ (r : Result Formulated (ℕ × BlockFault)). in_formula r >>= λ f. assumed f.variables (length first) rest >>= claim_of f) (spelled_is_read s.first c.formula s.formula)
    ∙ ap (λ (r : Result Assumed Fault). r >>= claim_of c.formula) b.read
    ∙ ap (λ (r : Result (List Numbered) (ℕ × proof.Fault)). in_proof r >>= λ lines. Ok (record { formula = c.formula; assumptions = c.assumptions; lines = lines })) ((lines_are_read 1 (length c.formula.clauses) s.last c.lines).0 s.lines)
  where
    found : (first between last : List (List (List ℕ))) → list_any is_proof_line (first ++ (between ++ (codes "proof" ∷ []) ∷ last)) ≡ true
    found first between last =
        ap (list_any is_proof_line) (sym (append_assoc first between ((codes "proof" ∷ []) ∷ last))) ∙ some-proof (first ++ between) last

in_formula_ok : {A : Type 0} (r : Result A (ℕ × BlockFault)) (x : A) → in_formula r ≡ Ok x → r ≡ Ok x
in_formula_ok (Ok y) x e = let h : y ≡ x = cc in rw h refl
in_formula_ok (Err d) x e = absurd (cc)

in_line_ok : {A : Type 0} (line : ℕ) (r : Result A LineFault) (x : A) → in_line line r ≡ Ok x → r ≡ Ok x
in_line_ok line (Ok y) x e = let h : y ≡ x = cc in rw h refl
in_line_ok line (Err d) x e = absurd (cc)

in_proof_ok : {A : Type 0} (r : Result A (ℕ × proof.Fault)) (x : A) → in_proof r ≡ Ok x → r ≡ Ok x
in_proof_ok (Ok y) x e = let h : y ≡ x = cc in rw h refl
in_proof_ok (Err d) x e = absurd (cc)

-- what leads to the line `proof` after a line of assumptions
to-proof-read : (lits : List ℕ) (line : ℕ) (rows : List (List (List ℕ))) (a : Assumed) → to_proof lits line rows ≡ Ok a
    → (others : List (List (List ℕ))) × (rows ≡ others ++ (codes "proof" ∷ []) ∷ a.rows) × (list_all is_passed others ≡ true) × (a.assumptions ≡ lits)
to-proof-read lits line [] a e = absurd (cc)
to-proof-read lits line (row ∷ rows) a e =
    elim (chosen (is_proof_line row) (Ok (record { assumptions = lits; rows = rows })) (cond (is_passed row) (to_proof lits (suc line) rows) (Err (InFormula (suc line) BadLine))) (Ok a) e) [
      | inl h ↦ here (proof-line row h.0) h.1
      | inr h ↦ later (passed (is_passed row) (to_proof lits (suc line) rows) (InFormula (suc line) BadLine) a h.1) (to-proof-read lits (suc line) rows a)
    ]
  where
    here : row ≡ codes "proof" ∷ [] → ◌≡◌ {A = Result Assumed Fault} (Ok (record { assumptions = lits; rows = rows })) (Ok a) → (others : List (List (List ℕ))) × (row ∷ rows ≡ others ++ (codes "proof" ∷ []) ∷ a.rows) × (list_all is_passed others ≡ true) × (a.assumptions ≡ lits)
    here first q =
        let same : record { assumptions = lits; rows = rows } ≡ a = cc in
        ([], ap₂ (λ (x : List (List ℕ)) (xs : List (List (List ℕ))). x ∷ xs) first (ap (λ (x : Assumed). x.rows) same), refl, sym (ap (λ (x : Assumed). x.assumptions) same))

    later : (is_passed row ≡ true) × (to_proof lits (suc line) rows ≡ Ok a)
        → (to_proof lits (suc line) rows ≡ Ok a → (others : List (List (List ℕ))) × (rows ≡ others ++ (codes "proof" ∷ []) ∷ a.rows) × (list_all is_passed others ≡ true) × (a.assumptions ≡ lits))
        → (others : List (List (List ℕ))) × (row ∷ rows ≡ others ++ (codes "proof" ∷ []) ∷ a.rows) × (list_all is_passed others ≡ true) × (a.assumptions ≡ lits)
    later p ih =
        let k = ih p.1 in
        (row ∷ k.0, ap (λ (xs : List (List (List ℕ))). row ∷ xs) k.1, ap (λ (b : Bool). b && list_all is_passed k.0) p.0 ∙ k.2, k.3)

assumed-read : (variables line : ℕ) (rows : List (List (List ℕ))) (a : Assumed) → assumed variables line rows ≡ Ok a
    → (between : List (List (List ℕ))) × (rows ≡ between ++ (codes "proof" ∷ []) ∷ a.rows) × AreAssumed variables between a.assumptions
assumed-read variables line [] a e = absurd (cc)
assumed-read variables line (row ∷ rows) a e =
    elim (chosen (is_proof_line row) (Ok (record { assumptions = []; rows = rows })) (in_line (suc line) (assumptions_of variables row) >>= λ lits. to_proof lits (suc line) rows) (Ok a) e) [
      | inl h ↦ here (proof-line row h.0) h.1
      | inr h ↦ later (bind_ok (in_line (suc line) (assumptions_of variables row)) (λ lits. to_proof lits (suc line) rows) a h.1)
    ]
  where
    here : row ≡ codes "proof" ∷ [] → ◌≡◌ {A = Result Assumed Fault} (Ok (record { assumptions = []; rows = rows })) (Ok a) → (between : List (List (List ℕ))) × (row ∷ rows ≡ between ++ (codes "proof" ∷ []) ∷ a.rows) × AreAssumed variables between a.assumptions
    here first q =
        let same : record { assumptions = []; rows = rows } ≡ a = cc in
        ([], ap₂ (λ (x : List (List ℕ)) (xs : List (List (List ℕ))). x ∷ xs) first (ap (λ (x : Assumed). x.rows) same), inl (refl, sym (ap (λ (x : Assumed). x.assumptions) same)))

    later : (lits : List ℕ) × (in_line (suc line) (assumptions_of variables row) ≡ Ok lits) × (to_proof lits (suc line) rows ≡ Ok a) → (between : List (List (List ℕ))) × (row ∷ rows ≡ between ++ (codes "proof" ∷ []) ∷ a.rows) × AreAssumed variables between a.assumptions
    later k =
        let lits_of : assumptions_of variables row ≡ Ok k.0 = in_line_ok (suc line) (assumptions_of variables row) k.0 k.1 in
        let p = to-proof-read k.0 (suc line) rows a k.2 in
        let w = assumed-says variables row k.0 lits_of in
        (row ∷ p.0, ap (λ (xs : List (List (List ℕ))). row ∷ xs) p.1, inr (w.0, p.0, ap (λ (x : List (List ℕ)). x ∷ p.0) w.1, subst (λ (lits : List ℕ). Assumes variables w.0 lits) (sym p.3) w.2, p.2))

read-spelled : (text : List ℕ) (c : Claim) → read_text text ≡ Ok c → Spells text c
read-spelled text c e =
    let rows : List (List (List ℕ)) = rows_of text in
    let lines = (passed (list_any is_proof_line rows) (read_lines rows) NoProof c e).1 in
    let f = bind_ok (in_formula (formula_of ending rows)) (λ f. assumed f.variables (length (formula_rows ending rows)) (rows_after ending rows) >>= claim_of f) c lines in
    let a = bind_ok (assumed f.0.variables (length (formula_rows ending rows)) (rows_after ending rows)) (claim_of f.0) c f.2 in
    let l = bind_ok (in_proof (lines_from 1 (length f.0.clauses) a.0.rows)) (λ lines. Ok (record { formula = f.0; assumptions = a.0.assumptions; lines = lines })) c a.2 in
    spells f.0 a.0 l.0 (in_formula_ok _ f.0 f.1) a.1 (in_proof_ok _ l.0 l.1) l.2
  where
    spells : (f : Formulated) (a : Assumed) (ls : List Numbered) → formula_of ending (rows_of text) ≡ Ok f → assumed f.variables (length (formula_rows ending (rows_of text))) (rows_after ending (rows_of text)) ≡ Ok a → lines_from 1 (length f.clauses) a.rows ≡ Ok ls → ◌≡◌ {A = Result Claim Fault} (Ok (record { formula = f; assumptions = a.assumptions; lines = ls })) (Ok c) → Spells text c
    spells f a ls p q r same =
        let rows : List (List (List ℕ)) = rows_of text in
        let first = first-rows (length (formula_rows ending rows)) text in
        let firsts : rows_of first.0 ≡ formula_rows ending rows = first.1 ∙ sym (formula-taken ending rows) in
        let back = assumed-read f.variables (length (formula_rows ending rows)) (rows_after ending rows) a q in
        let is : record { formula = f; assumptions = a.assumptions; lines = ls } ≡ c = cc in
        subst (λ (x : Claim). Spells text x) is (record {
          first = first.0;
          between = back.0;
          last = a.rows;
          rows = formula-parts ending rows ∙ ap₂ (λ (xs ys : List (List (List ℕ))). xs ++ ys) (sym firsts) back.1;
          inside = ap (list_all (is_formula_row ending)) firsts ∙ formula-all ending rows;
          formula = read_is_spelled first.0 f (ap (λ (xs : List (List (List ℕ))). read_rows xs 0 None) firsts ∙ p);
          assumed = back.2;
          lines = (lines_are_read 1 (length f.clauses) a.rows ls).1 r;
        })

pub spelled-is-read : SpelledIsRead
spelled-is-read text c = (spelled-read text c, read-spelled text c)
