-- The lines that rows spell are those that are read of them, and nothing after a faulty row counts.
use Rattle.std.proofs.Common.{◌≡◌, ℕ, zero, suc, ◌+◌, ◌≤◌, Bool, true, false, cond, List, [], ◌∷◌, ◌++◌, take, drop, get_or, Result, Ok, Err, inl, inr, refl, sym, ap, subst, ◌∙◌, arith}
use Rattle.spec_logic.specs.Refutation.{ProofLine}
use Rattle.spec_dimacs.specs.Rows.{is_passed}
use Rattle.spec_dimacs.specs.Reading.{◌>>=◌}
use Rattle.spec_lrat.specs.Reading.{Fault, reading}
use Rattle.spec_lrat.proofs.SpelledLemmas.{spells-read}
use Rattle.mal_claim.specs.ProofGrammar.{SpellLines}
use Rattle.mal_claim.specs.VerdictLaws.{LinesAreRead, RowFaultIsFirst}
use Rattle.mal_claim.specs.Proofs.{Numbered, Read, last_after, with_number, row_at, lines_from}

abbrev none_read : ℕ → Read
none_read last = record { last = last; lines = [] }

abbrev at : ℕ → ProofLine → Numbered
at number line = record { number = number; line = line }

abbrev one_read : ℕ → ℕ → ProofLine → Read
one_read number last line = record { last = last_after last line; lines = at number line ∷ [] }

abbrev lines_read : List Numbered → Result (List Numbered) (ℕ × Fault)
lines_read lines = Ok lines

lines-read : (number last : ℕ) (rows : List (List (List ℕ))) (lines : List Numbered) → SpellLines number last rows lines → lines_from number last rows ≡ Ok lines
lines-read number last [] lines e = ap lines_read (sym e)
lines-read number last (row ∷ rows) lines (inl (passed, rest)) =
    ap (λ (b : Bool). cond b (Ok (none_read last)) (with_number number last (reading last row)) >>= λ read. lines_from (suc number) read.last rows >>= λ others. Ok (read.lines ++ others)) passed
    ∙ ap (λ (r : Result (List Numbered) (ℕ × Fault)). r >>= λ others. Ok ([] ++ others)) (lines-read (suc number) last rows lines rest)
lines-read number last (row ∷ rows) lines (inr (line, others, counts, spells, same, rest)) =
    ap (λ (b : Bool). cond b (Ok (none_read last)) (with_number number last (reading last row)) >>= λ read. lines_from (suc number) read.last rows >>= λ others. Ok (read.lines ++ others)) counts
    ∙ ap (λ (r : Result ProofLine Fault). with_number number last r >>= λ read. lines_from (suc number) read.last rows >>= λ others. Ok (read.lines ++ others)) ((spells-read last row line).0 spells)
    ∙ ap (λ (r : Result (List Numbered) (ℕ × Fault)). r >>= λ others. Ok (at number line ∷ [] ++ others)) (lines-read (suc number) (last_after last line) rows others rest)
    ∙ ap lines_read (sym same)

bind_ok : {A B E : Type 0} (r : Result A E) (f : A → Result B E) (y : B) → (r >>= f) ≡ Ok y → (x : A) × (r ≡ Ok x) × (f x ≡ Ok y)
bind_ok (Ok x) f y e = (x, refl, e)
bind_ok (Err d) f y e = absurd (cc)

ok_is : {A E : Type 0} (x y : A) → ◌≡◌ {A = Result A E} (Ok x) (Ok y) → x ≡ y
ok_is x y e = cc

read-lines : (number last : ℕ) (rows : List (List (List ℕ))) (lines : List Numbered) → lines_from number last rows ≡ Ok lines → SpellLines number last rows lines
read-lines number last [] lines e = sym (ok_is [] lines e)
read-lines number last (row ∷ rows) lines e =
    let a = bind_ok (row_at number last row) (λ read. lines_from (suc number) read.last rows >>= λ others. Ok (read.lines ++ others)) lines e in
    let b = bind_ok (lines_from (suc number) a.0.last rows) (λ others. Ok (a.0.lines ++ others)) lines a.2 in
    by_test (λ k ls f. read-lines (suc number) k rows ls f) (is_passed row) refl a.0 a.1 b.0 b.1 (ok_is (a.0.lines ++ b.0) lines b.2)
  where
    by_line : ((k : ℕ) (ls : List Numbered) → lines_from (suc number) k rows ≡ Ok ls → SpellLines (suc number) k rows ls) → (r : Result ProofLine Fault) → reading last row ≡ r → is_passed row ≡ false → (read : Read) → with_number number last r ≡ Ok read → (others : List Numbered) → lines_from (suc number) read.last rows ≡ Ok others → read.lines ++ others ≡ lines → SpellLines number last (row ∷ rows) lines
    by_line ih (Err fault) q counts read e others f same = absurd (cc)
    by_line ih (Ok line) q counts read e others f same =
        let is : one_read number last line ≡ read = ok_is (one_read number last line) read e in
        let rest : lines_from (suc number) (last_after last line) rows ≡ Ok others = subst (λ (x : Read). lines_from (suc number) x.last rows ≡ Ok others) (sym is) f in
        let all : at number line ∷ others ≡ lines = subst (λ (x : Read). x.lines ++ others ≡ lines) (sym is) same in
        inr (line, others, counts, (spells-read last row line).1 q, sym all, ih (last_after last line) others rest)

    by_test : ((k : ℕ) (ls : List Numbered) → lines_from (suc number) k rows ≡ Ok ls → SpellLines (suc number) k rows ls) → (t : Bool) → is_passed row ≡ t → (read : Read) → cond t (Ok (none_read last)) (with_number number last (reading last row)) ≡ Ok read → (others : List Numbered) → lines_from (suc number) read.last rows ≡ Ok others → read.lines ++ others ≡ lines → SpellLines number last (row ∷ rows) lines
    by_test ih true q read e others f same =
        let is : none_read last ≡ read = ok_is (none_read last) read e in
        let rest : lines_from (suc number) last rows ≡ Ok others = subst (λ (x : Read). lines_from (suc number) x.last rows ≡ Ok others) (sym is) f in
        let all : others ≡ lines = subst (λ (x : Read). x.lines ++ others ≡ lines) (sym is) same in
        inl (q, ih last lines (subst (λ (ls : List Numbered). lines_from (suc number) last rows ≡ Ok ls) all rest))
    by_test ih false q read e others f same = by_line ih (reading last row) refl q read e others f same

pub lines_are_read : LinesAreRead
lines_are_read number last rows lines = (lines-read number last rows lines, read-lines number last rows lines)

-- ---- the first fault

fault_at : ℕ → Fault → Result (List Numbered) (ℕ × Fault)
fault_at line fault = Err (line, fault)

line_in : ℕ → Result (List Numbered) (ℕ × Fault) → ℕ
line_in n (Ok ls) = n
line_in n (Err e) = e.0

same_line : (m n : ℕ) (x y : Fault) → fault_at m x ≡ fault_at n y → m ≡ n
unfolding line_in fault_at
same_line m n x y e = ap (line_in m) e

-- a fault after a row is told as it is
others-err : (r : Result (List Numbered) (ℕ × Fault)) (before : List Numbered) (line : ℕ) (fault : Fault) → (r >>= λ others. Ok (before ++ others)) ≡ Err (line, fault) → r ≡ Err (line, fault)
others-err (Ok ls) before line fault e = absurd (cc)
others-err (Err d) before line fault e = let same : d ≡ (line, fault) = cc in ap (λ (x : ℕ × Fault). Err x) same

err-others : (r : Result (List Numbered) (ℕ × Fault)) (before : List Numbered) (line : ℕ) (fault : Fault) → r ≡ Err (line, fault) → (r >>= λ others. Ok (before ++ others)) ≡ Err (line, fault)
err-others r before line fault e = ap (λ (x : Result (List Numbered) (ℕ × Fault)). x >>= λ others. Ok (before ++ others)) e

-- a row's fault has its number
row-line : (number last line : ℕ) (row : List (List ℕ)) (d : ℕ × Fault) → row_at number last row ≡ Err d → d.0 ≡ number
row-line number last line row d e = by_test (is_passed row) (reading last row) e
  where
    by_test : (t : Bool) (r : Result ProofLine Fault) → cond t (Ok (none_read last)) (with_number number last r) ≡ Err d → d.0 ≡ number
    by_test true r e = absurd (cc)
    by_test false (Ok line) e = absurd (cc)
    by_test false (Err fault) e = let same : (number, fault) ≡ d = cc in ap (λ (x : ℕ × Fault). x.0) (sym same)

-- the line of a fault is that of a row
pub not-before : (number last : ℕ) (rows : List (List (List ℕ))) (line : ℕ) (fault : Fault) → lines_from number last rows ≡ Err (line, fault) → number ≤ line
not-before number last [] line fault e = absurd (cc)
not-before number last (row ∷ rows) line fault e = by_row (λ k f. not-before (suc number) k rows line fault f) (row_at number last row) refl e
  where
    by_row : ((k : ℕ) → lines_from (suc number) k rows ≡ Err (line, fault) → suc number ≤ line) → (r : Result Read (ℕ × Fault)) → row_at number last row ≡ r → (r >>= λ read. lines_from (suc number) read.last rows >>= λ others. Ok (read.lines ++ others)) ≡ Err (line, fault) → number ≤ line
    by_row ih (Err d) q e =
        let same : d ≡ (line, fault) = cc in
        let here : line ≡ number = ap (λ (x : ℕ × Fault). x.0) (sym same) ∙ row-line number last line row d q in
        omega arith
    by_row ih (Ok read) q e = let low : suc number ≤ line = ih read.last (others-err (lines_from (suc number) read.last rows) read.lines line fault e) in omega arith

head_same : (x y : List (List ℕ)) (xs ys : List (List (List ℕ))) → x ∷ xs ≡ y ∷ ys → x ≡ y
head_same x y xs ys e = ap (λ (zs : List (List (List ℕ))). get_or zs 0 []) e

tail_same : (x y : List (List ℕ)) (xs ys : List (List (List ℕ))) → x ∷ xs ≡ y ∷ ys → xs ≡ ys
tail_same x y xs ys e = ap (drop 1) e

first-row : (number last d : ℕ) (rows others : List (List (List ℕ))) (line : ℕ) (fault : Fault) → lines_from number last rows ≡ Err (line, fault) → line ≡ number + d → take (suc d) others ≡ take (suc d) rows → lines_from number last others ≡ Err (line, fault)
first-row number last d [] others line fault e place same = absurd (cc)
first-row number last d (row ∷ rows) [] line fault e place same = absurd (cc)
first-row number last d (row ∷ rows) (other ∷ others) line fault e place same = by_row (λ k n f at_next tails. first-row (suc number) k n rows others line fault f at_next tails) (row_at number last row) refl e
  where
    head : other ≡ row
    head = head_same other row _ _ same

    told : (x : ℕ × Fault) → ◌≡◌ {A = Result (List Numbered) (ℕ × Fault)} (Err x) (Err (line, fault)) → ◌≡◌ {A = Result (List Numbered) (ℕ × Fault)} (Err x) (Err (line, fault))
    told x e = e

    by_depth : ((k n : ℕ) → lines_from (suc number) k rows ≡ Err (line, fault) → line ≡ suc number + n → take (suc n) others ≡ take (suc n) rows → lines_from (suc number) k others ≡ Err (line, fault))
        → (n : ℕ) → d ≡ n → (read : Read) → lines_from (suc number) read.last rows ≡ Err (line, fault) → lines_from (suc number) read.last others ≡ Err (line, fault)
    by_depth ih zero q read e = let low : suc number ≤ line = not-before (suc number) read.last rows line fault e in absurd (omega arith)
    by_depth ih (suc n) q read e =
        let tails : take d others ≡ take d rows = tail_same other row _ _ same in
        ih read.last n e (omega arith) (subst (λ (k : ℕ). take k others ≡ take k rows) q tails)

    by_row : ((k n : ℕ) → lines_from (suc number) k rows ≡ Err (line, fault) → line ≡ suc number + n → take (suc n) others ≡ take (suc n) rows → lines_from (suc number) k others ≡ Err (line, fault))
        → (r : Result Read (ℕ × Fault)) → row_at number last row ≡ r → (r >>= λ read. lines_from (suc number) read.last rows >>= λ more. Ok (read.lines ++ more)) ≡ Err (line, fault)
        → (row_at number last other >>= λ read. lines_from (suc number) read.last others >>= λ more. Ok (read.lines ++ more)) ≡ Err (line, fault)
    by_row ih (Err x) q e =
        ap (λ (r : Result Read (ℕ × Fault)). r >>= λ read. lines_from (suc number) read.last others >>= λ more. Ok (read.lines ++ more)) (ap (row_at number last) head ∙ q) ∙ told x e
    by_row ih (Ok read) q e =
        ap (λ (r : Result Read (ℕ × Fault)). r >>= λ read. lines_from (suc number) read.last others >>= λ more. Ok (read.lines ++ more)) (ap (row_at number last) head ∙ q)
        ∙ err-others (lines_from (suc number) read.last others) read.lines line fault (by_depth ih d refl read (others-err (lines_from (suc number) read.last rows) read.lines line fault e))

pub row_fault_is_first : RowFaultIsFirst
row_fault_is_first last rows others line fault e same =
    by_line line refl
  where
    low : 1 ≤ line
    low = not-before 1 last rows line fault e

    by_line : (n : ℕ) → line ≡ n → lines_from 1 last others ≡ Err (line, fault)
    by_line zero q = absurd (omega (arith, low))
    by_line (suc d) q = first-row 1 last d rows others line fault e (omega arith) (subst (λ (k : ℕ). take k others ≡ take k rows) q same)
