-- Lines of a log: the one at a place, and the first empty one.
use Rattle.std.proofs.Common.{true, false, cond, ◌==◌, Bool, ◌≡◌, ℕ, zero, suc, ◌+◌, ◌<◌, List, [], ◌∷◌, ◌++◌, length, drop, find, get_or, slice_get, Some, refl, sym, ◌∙◌, ap, arith, add-one}
use Rattle.std.specs.Option.{option_map, option_or}
use Rattle.std.proofs.lemmas.Option.{slice_get-get_or}
use Rattle.std.proofs.lemmas.Bool.{ne_eqb, eq-eqb}
use Rattle.mal_base.specs.NumberedClause.{Line}
use Rattle.spec_job.specs.Proofs.{lits_at}
use Rattle.spec_job.specs.SoloMachine.{first_empty}

-- a list from a place on
pub from-place : (xs : List Line) (n : ℕ) (d : Line) → n < length xs → drop n xs ≡ get_or xs n d ∷ drop (suc n) xs
from-place [] n d low = absurd (omega arith)
from-place (x ∷ xs) zero d low = refl
from-place (x ∷ xs) (suc n) d low = from-place xs n d (omega arith)

none : Line
none = record { id = 0; lits = []; hints = [] }

-- the lines from a place on begin with the one that stands there, which is empty or not
pub empty-here : (log : List Line) (n id : ℕ) (lits : List ℕ) → n < length log → ((l : Line) → slice_get log n ≡ Some l → id ≡ l.id) → ((l : Line) → slice_get log n ≡ Some l → lits ≡ l.lits) → length lits ≡ 0 → first_empty (drop n log) ≡ first_empty log → Some id ≡ first_empty log
empty-here log n id lits low a b short from =
    let l : Line = get_or log n none in
    let is : slice_get log n ≡ Some l = slice_get-get_or log n none low in
    let own : length l.lits ≡ 0 = ap (λ (ls : List ℕ). length ls) (sym (b l is)) ∙ short in
    ap (λ (m : ℕ). Some m) (a l is) ∙ (sym (first l (drop (suc n) log) own) ∙ (ap first_empty (sym (from-place log n none low)) ∙ from))
  where
    first : (l : Line) (rest : List Line) → length l.lits ≡ 0 → first_empty (l ∷ rest) ≡ Some l.id
    first l rest e = let found : (length l.lits == 0) ≡ true = eq-eqb (length l.lits) 0 e in rw found refl

pub empty-later : (log : List Line) (n : ℕ) (lits : List ℕ) → n < length log → ((l : Line) → slice_get log n ≡ Some l → lits ≡ l.lits) → (length lits ≡ 0 → ⊥) → first_empty (drop n log) ≡ first_empty log → first_empty (drop (n + 1) log) ≡ first_empty log
empty-later log n lits low b long from =
    let l : Line = get_or log n none in
    let is : slice_get log n ≡ Some l = slice_get-get_or log n none low in
    let differs : (length l.lits ≡ 0 → ⊥) = λ e. long (ap (λ (ls : List ℕ). length ls) (b l is) ∙ e) in
    ap (λ (m : ℕ). first_empty (drop m log)) (add-one n) ∙ (sym (past l (drop (suc n) log) differs) ∙ (ap first_empty (sym (from-place log n none low)) ∙ from))
  where
    past : (l : Line) (rest : List Line) → (length l.lits ≡ 0 → ⊥) → first_empty (l ∷ rest) ≡ first_empty rest
    past l rest differs = let no-match : (length l.lits == 0) ≡ false = ne_eqb (length l.lits) 0 differs in rw no-match refl

-- the literals of the line with a number, which stands at a place or later
pub lits-here : (log : List Line) (n goal id : ℕ) (lits : List ℕ) → n < length log → ((l : Line) → slice_get log n ≡ Some l → id ≡ l.id) → ((l : Line) → slice_get log n ≡ Some l → lits ≡ l.lits) → id ≡ goal → lits_at goal (drop n log) ≡ lits_at goal log → lits ≡ lits_at goal log
lits-here log n goal id lits low a b e from =
    let l : Line = get_or log n none in
    let is : slice_get log n ≡ Some l = slice_get-get_or log n none low in
    b l is ∙ (sym (first l (drop (suc n) log) (sym (a l is) ∙ e)) ∙ (ap (lits_at goal) (sym (from-place log n none low)) ∙ from))
  where
    first : (l : Line) (rest : List Line) → l.id ≡ goal → lits_at goal (l ∷ rest) ≡ l.lits
    first l rest e = let found : (l.id == goal) ≡ true = eq-eqb l.id goal e in rw found refl

pub lits-later : (log : List Line) (n goal id : ℕ) → n < length log → ((l : Line) → slice_get log n ≡ Some l → id ≡ l.id) → (id ≡ goal → ⊥) → lits_at goal (drop n log) ≡ lits_at goal log → lits_at goal (drop (n + 1) log) ≡ lits_at goal log
lits-later log n goal id low a differs from =
    let l : Line = get_or log n none in
    let is : slice_get log n ≡ Some l = slice_get-get_or log n none low in
    ap (λ (m : ℕ). lits_at goal (drop m log)) (add-one n) ∙ (sym (past l (drop (suc n) log) (λ e. differs (a l is ∙ e))) ∙ (ap (lits_at goal) (sym (from-place log n none low)) ∙ from))
  where
    past : (l : Line) (rest : List Line) → (l.id ≡ goal → ⊥) → lits_at goal (l ∷ rest) ≡ lits_at goal rest
    past l rest differs = let no-match : (l.id == goal) ≡ false = ne_eqb l.id goal differs in rw no-match refl

-- the first empty line of two logs
pub first-append : (xs ys : List Line) → option_or (first_empty xs) (first_empty ys) ≡ first_empty (xs ++ ys)
first-append [] ys = refl
first-append (x ∷ xs) ys = by_test (length x.lits == 0) (first-append xs ys)
  where
    by_test : (b : Bool) → option_or (first_empty xs) (first_empty ys) ≡ first_empty (xs ++ ys) → option_or (option_map (λ (l : Line). l.id) (cond b (Some x) (find (λ (l : Line). length l.lits == 0) xs))) (first_empty ys) ≡ option_map (λ (l : Line). l.id) (cond b (Some x) (find (λ (l : Line). length l.lits == 0) (xs ++ ys)))
    by_test true rest = refl
    by_test false rest = rest
