-- What is generated is in form.
use Rattle.std.proofs.Common.{◌≡◌, ℕ, zero, suc, ◌+◌, ◌*◌, ◌/◌, ◌%◌, ◌<◌, ◌≤◌, Bool, true, false, cond, ◌&&◌, ◌||◌, ◌==◌, nat_lt, nat_le, List, [], ◌∷◌, length, take, drop, decimal, Option, Some, None, Result, Ok, Err, IfOk, OnOk, MatchOption, refl, ap, ◌∙◌, arith}
use Rattle.std.specs.List.{list_all, remove, slice_index}
use Rattle.std.proofs.lemmas.Bool.{lt-ltb, le-leb}
use Rattle.std.proofs.lemmas.Fmt.{length-decimal-le}
use Rattle.std.proofs.lemmas.List.Edits.{length-remove}
use Rattle.std.proofs.lemmas.List.Folds.{list_all-append}
use Rattle.std.proofs.lemmas.List.Sums.{sum_by-cons}
use Rattle.mal_base.specs.Limits.{limits}
use Rattle.mal_base.specs.Clauses.{rises, IsTautology, HaveSame}
use Rattle.mal_base.specs.Formulas.{is_within, is_clause_of, size_of, literals_of}
use Rattle.mal_base.specs.Literals.{literal}
use Rattle.mal_base.specs.Names.{is_name, is_name_byte}
use Rattle.mal_base.proofs.Sorting.{and-left, and-right, and-both}
use Rattle.mal_revision.specs.Posted.{is_posted}
use Rattle.spec_dimacs.specs.Merged.{with_literal, sorted, clause_of, IsClauseOf}
use Rattle.spec_dimacs.proofs.Merging.{clause_of-made, clause_of-unique, clause_within}
use Rattle.spec_seq.specs.Draws.{next, drawn}
use Rattle.spec_text.specs.Numbers.{is_digit}
use Rattle.spec_text.proofs.Numerals.{is_numeral-decimal}
use Rattle.spec_script.specs.Generated.{most_generated, pick, variables, signed, literals_from, after_literals, clause_from, after_clause, clauses_from, revision_from}
use Rattle.spec_script.proofs.GeneratedSteps.{clauses-none, clauses-suc}

-- a letter with a number after it is a name
or-middle : (p q r : Bool) → q ≡ true → (p || q || r) ≡ true
or-middle true q r e = refl
or-middle false true r e = refl
or-middle false false r e = cc

digit-name : (b : ℕ) → is_digit b ≡ true → is_name_byte b ≡ true
digit-name b e = or-middle (nat_le 97 b && nat_le b 122) (nat_le 48 b && nat_le b 57) (b == 95) e

digit-names : (bs : List ℕ) → list_all is_digit bs ≡ true → list_all is_name_byte bs ≡ true
digit-names [] e = refl
digit-names (b ∷ bs) e = and-both (is_name_byte b) (list_all is_name_byte bs) (digit-name b (and-left (is_digit b) (list_all is_digit bs) e)) (digit-names bs (and-right (is_digit b) (list_all is_digit bs) e))

pub numbered-name : (letter n : ℕ) → is_name_byte letter ≡ true → n < 1000 → is_name (letter ∷ decimal n) ≡ true
numbered-name letter n named small =
    let short : length (decimal n) ≤ 3 = length-decimal-le 3 n (omega arith) (omega arith) (omega arith) in
    let digits : list_all is_digit (decimal n) ≡ true = and-right (nat_lt 0 (length (decimal n))) (list_all is_digit (decimal n)) (is_numeral-decimal n (omega arith)) in
    and-both _ _ (and-both _ _ (lt-ltb 0 (length (letter ∷ decimal n)) (omega arith)) (le-leb (length (letter ∷ decimal n)) 32 (omega arith)))
    (and-both (is_name_byte letter) (list_all is_name_byte (decimal n)) named (digit-names (decimal n) digits))

pub tenant-formed : (n : ℕ) → is_name (116 ∷ decimal (n % 4 + 1)) ≡ true
tenant-formed n = numbered-name 116 (n % 4 + 1) refl (omega arith)

pub name-formed : (n : ℕ) → n ≤ most_generated → is_name (106 ∷ decimal n) ≡ true
name-formed n h = numbered-name 106 n refl (omega arith)

-- a clause is made of literals of the variables
half-literal : (v : ℕ) (positive : Bool) → literal v positive / 2 ≡ v
half-literal v true = omega arith
half-literal v false = omega arith

abbrev within : ℕ → ℕ → Bool
within n v = nat_le 1 v && nat_le v n

within-at : (n : ℕ) (vs : List ℕ) (k : ℕ) → k < length vs → list_all (within n) vs ≡ true → within n (slice_index vs k) ≡ true
within-at n [] k l h = absurd (omega arith)
within-at n (v ∷ vs) zero l h = and-left (within n v) (list_all (within n) vs) h
within-at n (v ∷ vs) (suc k) l h = within-at n vs k (omega arith) (and-right (within n v) (list_all (within n) vs) h)

within-take : (n : ℕ) (vs : List ℕ) (k : ℕ) → list_all (within n) vs ≡ true → list_all (within n) (take k vs) ≡ true
within-take n vs zero h = refl
within-take n [] (suc k) h = refl
within-take n (v ∷ vs) (suc k) h = and-both (within n v) (list_all (within n) (take k vs)) (and-left (within n v) (list_all (within n) vs) h) (within-take n vs k (and-right (within n v) (list_all (within n) vs) h))

within-drop : (n : ℕ) (vs : List ℕ) (k : ℕ) → list_all (within n) vs ≡ true → list_all (within n) (drop k vs) ≡ true
within-drop n vs zero h = h
within-drop n [] (suc k) h = refl
within-drop n (v ∷ vs) (suc k) h = within-drop n vs k (and-right (within n v) (list_all (within n) vs) h)

within-remove : (n : ℕ) (vs : List ℕ) (k : ℕ) → list_all (within n) vs ≡ true → list_all (within n) (remove vs k) ≡ true
within-remove n vs k h = list_all-append (within n) (take k vs) (drop (suc k) vs) ∙ and-both _ _ (within-take n vs k h) (within-drop n vs (suc k) h)

pub pick-below : (n x : ℕ) → 1 ≤ n → pick n x < n
pick-below n x h = below (drawn (next x)) n h
  where
    below : (d n : ℕ) → 1 ≤ n → d % n < n
    below d n h = grind arith

literal-within : (n v x : ℕ) → within n v ≡ true → within n (signed v x / 2) ≡ true
literal-within n v x h = ap (within n) (half-literal v (pick 2 x == 0)) ∙ h

literals-within : (n k : ℕ) (left : List ℕ) (x : ℕ) → k ≤ length left → list_all (within n) left ≡ true → is_within n (literals_from k left x) ≡ true
literals-within n zero left x few h = refl
literals-within n (suc k) left x few h =
    let place : pick (length left) x < length left = pick-below (length left) x (omega arith) in
    let rest : length (remove left (pick (length left) x)) + 1 ≡ length left = length-remove left (pick (length left) x) place in
    and-both (within n (signed (slice_index left (pick (length left) x)) (next x) / 2)) (is_within n (literals_from k (remove left (pick (length left) x)) (next (next x))))
    (literal-within n (slice_index left (pick (length left) x)) (next x) (within-at n left (pick (length left) x) place h))
    (literals-within n k (remove left (pick (length left) x)) (next (next x)) (omega arith) (within-remove n left (pick (length left) x) h))

all-variables : list_all (within 50) variables ≡ true
unfolding variables
all-variables = refl

pub fifty : length variables ≡ 50
unfolding variables
fifty = refl

three-within : (x : ℕ) → is_within 50 (literals_from 3 variables x) ≡ true
three-within x = literals-within 50 3 variables x (omega (arith, fifty)) all-variables

clause-formed : (x : ℕ) → is_clause_of 50 (clause_from x) ≡ true
unfolding clause_from
clause-formed x = clause_within 50 (literals_from 3 variables x) (clause_from x) (three-within x) (clause_of-made (literals_from 3 variables x))

-- a clause of three literals has at most three
put-more : (l : ℕ) (ls : List ℕ) → length (with_literal l ls) ≤ length ls + 1
put-more l [] = omega arith
put-more l (m ∷ ms) = by_tests (l == m) (nat_lt l m) (put-more l ms)
  where
    by_tests : (a b : Bool) → length (with_literal l ms) ≤ length ms + 1 → length (cond a (m ∷ ms) (cond b (l ∷ m ∷ ms) (m ∷ with_literal l ms))) ≤ length (m ∷ ms) + 1
    by_tests true b ih = omega arith
    by_tests false true ih = omega arith
    by_tests false false ih = omega arith

sorted-most : (ls : List ℕ) → length (sorted ls) ≤ length ls
sorted-most [] = omega arith
sorted-most (l ∷ ls) =
    let more : length (with_literal l (sorted ls)) ≤ length (sorted ls) + 1 = put-more l (sorted ls) in
    let rest : length (sorted ls) ≤ length ls = sorted-most ls in
    omega arith

length-literals : (k : ℕ) (left : List ℕ) (x : ℕ) → length (literals_from k left x) ≡ k
length-literals zero left x = refl
length-literals (suc k) left x = let rest : length (literals_from k (remove left (pick (length left) x)) (next (next x))) ≡ k = length-literals k (remove left (pick (length left) x)) (next (next x)) in omega arith

size-most : (ls : List ℕ) → size_of (clause_of ls) ≤ length ls
size-most ls = by_test (rises (sorted ls))
  where
    by_test : (b : Bool) → size_of (cond b (Some (sorted ls)) None) ≤ length ls
    by_test true = sorted-most ls
    by_test false = omega arith

clause-size : (x : ℕ) → size_of (clause_from x) ≤ 3
unfolding clause_from
clause-size x = let most = size-most (literals_from 3 variables x) in let three = length-literals 3 variables x in omega arith

clauses-literals : (k x : ℕ) → literals_of (clauses_from k x) ≤ 3 * k
clauses-literals zero x = rw (clauses-none x) (omega arith)
clauses-literals (suc k) x =
    let cons : literals_of (clause_from x ∷ clauses_from k (after_clause x)) ≡ size_of (clause_from x) + literals_of (clauses_from k (after_clause x)) = sum_by-cons size_of (clause_from x) (clauses_from k (after_clause x)) in
    let first : size_of (clause_from x) ≤ 3 = clause-size x in
    let rest : literals_of (clauses_from k (after_clause x)) ≤ 3 * k = clauses-literals k (after_clause x) in
    rw (clauses-suc k x) (omega arith)

length-clauses : (k x : ℕ) → length (clauses_from k x) ≡ k
length-clauses zero x = rw (clauses-none x) refl
length-clauses (suc k) x = let rest : length (clauses_from k (after_clause x)) ≡ k = length-clauses k (after_clause x) in rw (clauses-suc k x) (omega arith)

clauses-formed : (k x : ℕ) → list_all (is_clause_of 50) (clauses_from k x) ≡ true
clauses-formed zero x = rw (clauses-none x) refl
clauses-formed (suc k) x = rw (clauses-suc k x) (and-both (is_clause_of 50 (clause_from x)) (list_all (is_clause_of 50) (clauses_from k (after_clause x))) (clause-formed x) (clauses-formed k (after_clause x)))

pub revision-length : (x : ℕ) → length (clauses_from 213 x) ≡ 213
revision-length x = length-clauses 213 x

pub revision-literals : (x : ℕ) → literals_of (clauses_from 213 x) ≤ 639
revision-literals x = clauses-literals 213 x

pub revision-formed : (x : ℕ) → is_posted (revision_from x) ≡ true
revision-formed x =
    let many = revision-length x in
    let most = revision-literals x in
    and-both _ _ (and-both _ _ (and-both _ _ (and-both _ _ refl (le-leb (length (clauses_from 213 x)) limits.clauses (omega arith))) (le-leb (literals_of (clauses_from 213 x)) limits.literals (omega arith))) (clauses-formed 213 x)) refl

-- the clause that is made of the literals
made : (o : Option (List ℕ)) (lits : List ℕ) → MatchOption o (IsTautology lits) (λ c. rises c ≡ true) → MatchOption o (IsTautology lits) (λ c. HaveSame lits c) → IsClauseOf lits o
made None lits rising same = rising
made (Some c) lits rising same = (rising, same)

pub clause-value : {E : Type 0} (x : ℕ) (r : Result (Option (List ℕ)) E) (lits : List ℕ) → lits ≡ literals_from 3 variables x → IfOk r (λ o. MatchOption o (IsTautology lits) (λ c. rises c ≡ true)) → IfOk r (λ o. MatchOption o (IsTautology lits) (λ c. HaveSame lits c)) → IfOk r (λ o. o ≡ clause_from x)
unfolding clause_from
clause-value x (Err e) lits is rising same = tt
clause-value x (Ok o) lits is rising same = clause_of-unique lits o (made o lits rising same) ∙ ap clause_of is

pub after-three : {A E : Type 0} (x : ℕ) (r : Result A E) (y : ℕ) → y ≡ after_literals 3 x → OnOk r (y ≡ after_clause x)
unfolding after_clause
after-three x (Ok a) y e = e
after-three x (Err e) y is = tt

-- one variable less is left
pub left-step : (left rest : List ℕ) (k x : ℕ) → 1 ≤ length left → rest ≡ remove left (pick (length left) x) → length left + k ≡ 50 → length rest + (k + 1) ≡ 50
left-step left rest k x some e sum =
    let less : length (remove left (pick (length left) x)) + 1 ≡ length left = length-remove left (pick (length left) x) (pick-below (length left) x some) in
    rw e (omega arith)

pub left-begin : (left : List ℕ) → left ≡ variables → length left + 0 ≡ 50
left-begin left e = let all : length left ≡ 50 = ap (λ (vs : List ℕ). length vs) e ∙ fifty in omega arith
