-- What a text spells is what is read of it.
use Rattle.std.proofs.Common.{◌≡◌, ℕ, suc, Bool, true, false, cond, ◌&&◌, not, List, [], ◌∷◌, ◌++◌, drop, length, None, Result, Ok, Err, refl, sym, ap, ap₂, subst, ◌∙◌}
use Rattle.std.specs.List.{list_any, list_all}
use Rattle.mal_base.specs.Formulas.{Formulated}
use Rattle.mal_base.specs.declared.block_fault.BlockFault.{BlockFault}
use Rattle.mal_base.specs.declared.line_fault.LineFault.TheVariants.{BadLine}
use Rattle.spec_dimacs.specs.Rows.{is_passed, rows_of}
use Rattle.spec_dimacs.specs.Reading.{◌>>=◌, read_rows}
use Rattle.spec_dimacs.proofs.Spelled.{read_is_spelled, spelled_is_read}
use Rattle.spec_script.proofs.Inversions.{bind_ok, ok_is, passed}
use Rattle.mal_instance.specs.Rows.{begins, is_formula_row, formula_rows, rows_after, formula_of}
use Rattle.mal_instance.specs.Reading.{Instance, Fault, LitsFault, LitsReading, Opened, in_formula, on_line, opened_at, opened, ended, literals_of, instance_of, read_text}
use Rattle.mal_instance.specs.Reading.Fault.{NoLine, InFormula}
use Rattle.mal_instance.specs.Grammar.{LitsGrammar, Spells}
use Rattle.mal_instance.specs.Laws.{LitsAreRead, SpelledIsRead}
use Rattle.mal_instance.proofs.FirstLines.{first-rows}
use Rattle.mal_instance.proofs.FormulaLemmas.{and-left, formula-first, formula-after, none-first, all-after, formula-taken, formula-all, formula-parts, after-begins, begins-word, word-begins, some-begins}

pub in_formula_ok : {A : Type 0} (r : Result A (ℕ × BlockFault)) (x : A) → in_formula r ≡ Ok x → r ≡ Ok x
in_formula_ok (Ok y) x e = let h : y ≡ x = cc in rw h refl
in_formula_ok (Err d) x e = absurd (cc)

pub on_line_ok : {A : Type 0} (line : ℕ) (r : Result A LitsFault) (x : A) → on_line line r ≡ Ok x → r ≡ Ok x
on_line_ok line (Ok y) x e = let h : y ≡ x = cc in rw h refl
on_line_ok line (Err d) x e = absurd (cc)

abbrev formula_read : Formulated → Result Formulated (ℕ × BlockFault)
formula_read f = Ok f

-- literals after which only such lines stand as are passed over
pub passed-end : (lits : List ℕ) (line : ℕ) (rows : List (List (List ℕ))) → list_all is_passed rows ≡ true → ended lits line rows ≡ Ok lits
passed-end lits line [] h = refl
passed-end lits line (row ∷ rows) h =
    let both = and-left (is_passed row) (list_all is_passed rows) h in
    ap (λ (b : Bool). cond b (ended lits (suc line) rows) (Err (InFormula (suc line) BadLine))) both.0 ∙ passed-end lits (suc line) rows both.1

pub end-passed : (lits : List ℕ) (line : ℕ) (rows : List (List (List ℕ))) (found : List ℕ) → ended lits line rows ≡ Ok found → (list_all is_passed rows ≡ true) × (lits ≡ found)
end-passed lits line [] found e = (refl, ok_is lits found e)
end-passed lits line (row ∷ rows) found e =
    let p = passed (is_passed row) (ended lits (suc line) rows) (InFormula (suc line) BadLine) found e in
    let ih = end-passed lits (suc line) rows found p.1 in
    (ap (λ (b : Bool). b && list_all is_passed rows) p.0 ∙ ih.0, ih.1)

-- the line of the literals is the first after the formula
opened-is : (line : ℕ) (rows : List (List (List ℕ))) (f : Formulated) (o : Opened) → opened_at line rows f ≡ Ok o → (row : List (List ℕ)) × (rows ≡ row ∷ o.rows) × (o.words ≡ drop 1 row) × (o.formula ≡ f)
opened-is line [] f o e = absurd (cc)
opened-is line (row ∷ rows) f o e =
    let same : record { formula = f; line = suc line; words = drop 1 row; rows = rows } ≡ o = ok_is (record { formula = f; line = suc line; words = drop 1 row; rows = rows }) o e in
    (row, ap (λ (x : Opened). row ∷ x.rows) same, ap (λ (x : Opened). x.words) (sym same), ap (λ (x : Opened). x.formula) (sym same))

-- ---- what is spelled is read

spelled-read : (Say : LitsGrammar) (read : LitsReading) → LitsAreRead Say read → (word text : List ℕ) (w : Instance) → Spells word Say text w → read_text word read text ≡ Ok w
spelled-read Say read says word text w s =
    let words : List (List ℕ) = word ∷ [] in
    let first : List (List (List ℕ)) = rows_of s.first in
    let row : List (List ℕ) = word ∷ s.words in
    let rest : List (List (List ℕ)) = row ∷ s.others in
    let ends : is_formula_row words row ≡ false = ap not (word-begins word s.words) in
    ap (λ (rows : List (List (List ℕ))). opened word rows >>= instance_of read) s.rows
    ∙ ap (λ (t : Bool). cond t (in_formula (formula_of words (first ++ rest)) >>= opened_at (length (formula_rows words (first ++ rest))) (rows_after words (first ++ rest))) (Err NoLine) >>= instance_of read) (some-begins word first s.words s.others)
    ∙ ap₂ (λ (fs bs : List (List (List ℕ))). in_formula (read_rows fs 0 None) >>= opened_at (length fs) bs >>= instance_of read) (formula-first words first rest s.inside (none-first words row s.others ends)) (formula-after words first rest s.inside (all-after words row s.others ends))
    ∙ ap (λ (r : Result Formulated (ℕ × BlockFault)). in_formula r >>= opened_at (length first) rest >>= instance_of read) (spelled_is_read s.first w.formula s.formula)
    ∙ ap (λ (r : Result (List ℕ) LitsFault). on_line (suc (length first)) r >>= (λ lits. ended lits (suc (length first)) s.others) >>= λ lits. Ok (record { formula = w.formula; literals = lits })) ((says w.formula s.words w.literals).0 s.literals)
    ∙ ap (λ (r : Result (List ℕ) Fault). r >>= λ lits. Ok (record { formula = w.formula; literals = lits })) (passed-end w.literals (suc (length first)) s.others s.passed)

-- ---- what is read is spelled

read-spelled : (Say : LitsGrammar) (read : LitsReading) → LitsAreRead Say read → (word text : List ℕ) (w : Instance) → read_text word read text ≡ Ok w → Spells word Say text w
read-spelled Say read says word text w e =
    let words : List (List ℕ) = word ∷ [] in
    let rows : List (List (List ℕ)) = rows_of text in
    let o = bind_ok (opened word rows) (instance_of read) w e in
    let found = (passed (list_any (begins words) rows) (in_formula (formula_of words rows) >>= opened_at (length (formula_rows words rows)) (rows_after words rows)) NoLine o.0 o.1).1 in
    let f = bind_ok (in_formula (formula_of words rows)) (opened_at (length (formula_rows words rows)) (rows_after words rows)) o.0 found in
    let l = bind_ok (literals_of read o.0) (λ lits. Ok (record { formula = o.0.formula; literals = lits })) w o.2 in
    let p = bind_ok (on_line o.0.line (read o.0.formula o.0.words)) (λ lits. ended lits o.0.line o.0.rows) l.0 l.1 in
    spells o.0 f.0 (in_formula_ok (formula_of words rows) f.0 f.1) (opened-is (length (formula_rows words rows)) (rows_after words rows) f.0 o.0 f.2) p.0 (on_line_ok o.0.line (read o.0.formula o.0.words) p.0 p.1) l.0 (end-passed p.0 o.0.line o.0.rows l.0 p.2) (ok_is (record { formula = o.0.formula; literals = l.0 }) w l.2)
  where
    spells : (o : Opened) (f : Formulated) → formula_of (word ∷ []) (rows_of text) ≡ Ok f → (row : List (List ℕ)) × (rows_after (word ∷ []) (rows_of text) ≡ row ∷ o.rows) × (o.words ≡ drop 1 row) × (o.formula ≡ f)
        → (lits : List ℕ) → read o.formula o.words ≡ Ok lits → (found : List ℕ) → (list_all is_passed o.rows ≡ true) × (lits ≡ found) → record { formula = o.formula; literals = found } ≡ w → Spells word Say text w
    spells o f is at lits said found rest same =
        let words : List (List ℕ) = word ∷ [] in
        let rows : List (List (List ℕ)) = rows_of text in
        let first = first-rows (length (formula_rows words rows)) text in
        let firsts : rows_of first.0 ≡ formula_rows words rows = first.1 ∙ sym (formula-taken words rows) in
        let line = begins-word word at.0 (after-begins words rows o.rows at.0 at.1) in
        let here : o.words ≡ line.0 = at.2 ∙ ap (drop 1) line.1 in
        let spelled : Spells word Say text (record { formula = o.formula; literals = found }) = record {
          first = first.0;
          words = o.words;
          others = o.rows;
          rows = formula-parts words rows ∙ ap₂ (λ (xs ys : List (List (List ℕ))). xs ++ ys) (sym firsts) (at.1 ∙ ap (λ (r : List (List ℕ)). r ∷ o.rows) (line.1 ∙ ap (λ (ws : List (List ℕ)). word ∷ ws) (sym here)));
          inside = ap (list_all (is_formula_row words)) firsts ∙ formula-all words rows;
          formula = read_is_spelled first.0 o.formula (ap (λ (xs : List (List (List ℕ))). read_rows xs 0 None) firsts ∙ is ∙ ap formula_read (sym at.3));
          literals = subst (λ (ls : List ℕ). Say o.formula o.words ls) rest.1 ((says o.formula o.words lits).1 said);
          passed = rest.0;
        } in
        subst (λ (x : Instance). Spells word Say text x) same spelled

pub spelled-is-read : SpelledIsRead
spelled-is-read Say read says word text w = (spelled-read Say read says word text w, read-spelled Say read says word text w)
