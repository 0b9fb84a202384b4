-- The literals of words, in their order, are those that the words say.
use Rattle.std.proofs.Common.{◌≡◌, ℕ, zero, suc, ◌*◌, ◌+◌, ◌/◌, ◌≤◌, Bool, true, false, ◌&&◌, nat_le, List, [], ◌∷◌, ◌++◌, map, ℤ, pos, negsuc, Result, Ok, refl, sym, ap, ap₂, ◌∙◌, subst, arith, append_assoc, append-nil}
use Rattle.std.proofs.lemmas.Bool.{le-leb, leb-true}
use Rattle.mal_base.specs.Formulas.{is_within}
use Rattle.mal_base.specs.declared.line_fault.LineFault.{LineFault}
use Rattle.mal_base.proofs.Sorting.{and-both, and-left, and-right}
use Rattle.spec_text.specs.Numbers.{NumberWord, number_in, number_of}
use Rattle.spec_text.specs.Numbers.NumberWord.{NotANumber, TooLarge, Number}
use Rattle.spec_dimacs.specs.Grammar.{closed_numbers}
use Rattle.spec_dimacs.specs.Reading.{code_of}
use Rattle.spec_dimacs.proofs.Numbers.{number_bound, number_of-positive, number_of-negative, code_of-number_of}
use Rattle.spec_script.specs.Assumptions.{closed, literals_from}
use Rattle.spec_script.proofs.Inversions.{ok_is}

-- words say these literals of variables up to this one, and then a 0
pub record Say (v : ℕ) (words : List (List ℕ)) (lits : List ℕ) : Type 0 where
  pub says : map (λ w. number_in w v) words ≡ map (λ z. Number z) (closed_numbers lits)
  pub within : is_within v lits ≡ true

abbrev lits_read : List ℕ → Result (List ℕ) LineFault
lits_read lits = Ok lits

-- ---- what is read is said

-- what is known of literals that are read, of words after other literals
record Reads (v : ℕ) (words : List (List ℕ)) (lits : List ℕ) (above : Bool) (all : List ℕ) : Type 0 where
  more : List ℕ
  whole : lits ++ more ≡ all
  say : Say v words more
  none_above : above ≡ false

reads-zero : (v : ℕ) (w : List ℕ) (ws : List (List ℕ)) (lits : List ℕ) (above : Bool) (all : List ℕ) → number_in w v ≡ Number (pos zero) → (numbers : List NumberWord) → map (λ x. number_in x v) ws ≡ numbers → closed lits above numbers ≡ Ok all → Reads v (w ∷ ws) lits above all
reads-zero v w ws lits above all q (n ∷ ns) same e = absurd (cc)
reads-zero v w ws lits true all q [] same e = absurd (cc)
reads-zero v w ws lits false all q [] same e = record {
  more = [];
  whole = append-nil lits ∙ ok_is lits all e;
  say = record { says = ap₂ (λ (x : NumberWord) (xs : List NumberWord). x ∷ xs) q same; within = refl };
  none_above = refl;
}

-- one literal before those of the other words
reads-one : (v l : ℕ) (z : ℤ) (w : List ℕ) (ws : List (List ℕ)) (lits : List ℕ) (above : Bool) (all : List ℕ) → number_in w v ≡ Number z → number_of l ≡ z → 1 ≤ l / 2 → l / 2 ≤ v → Reads v ws (lits ++ l ∷ []) above all → Reads v (w ∷ ws) lits above all
reads-one v l z w ws lits above all said is some low r = record {
  more = l ∷ r.more;
  whole = sym (append_assoc lits (l ∷ []) r.more) ∙ r.whole;
  say = record {
    says = ap₂ (λ (x : NumberWord) (xs : List NumberWord). x ∷ xs) (said ∙ ap (λ (y : ℤ). Number y) (sym is)) r.say.says;
    within = and-both _ _ (and-both _ _ (le-leb 1 (l / 2) some) (le-leb (l / 2) v low)) r.say.within;
  };
  none_above = r.none_above;
}

reads : (v : ℕ) (words : List (List ℕ)) (lits : List ℕ) (above : Bool) (all : List ℕ) → literals_from lits above (map (λ w. number_in w v) words) ≡ Ok all → Reads v words lits above all
reads v [] lits above all e = absurd (cc)
reads v (w ∷ ws) lits above all e = by_word (λ ls a f. reads v ws ls a all f) (number_in w v) refl e
  where
    by_word : ((ls : List ℕ) (a : Bool) → literals_from ls a (map (λ w. number_in w v) ws) ≡ Ok all → Reads v ws ls a all) → (x : NumberWord) → number_in w v ≡ x → literals_from lits above (x ∷ map (λ w. number_in w v) ws) ≡ Ok all → Reads v (w ∷ ws) lits above all
    by_word ih NotANumber q f = absurd (cc)
    by_word ih TooLarge q f = let r = ih lits true f in let no : true ≡ false = r.none_above in absurd (cc)
    by_word ih (Number (pos zero)) q f = reads-zero v w ws lits above all q (map (λ w. number_in w v) ws) refl f
    by_word ih (Number (pos (suc n))) q f =
        let high : suc n ≤ v = number_bound w v (pos (suc n)) q in
        reads-one v (2 * suc n) (pos (suc n)) w ws lits above all q (number_of-positive (suc n)) (omega arith) (omega arith) (ih (lits ++ (2 * suc n) ∷ []) above f)
    by_word ih (Number (negsuc n)) q f =
        let high : suc n ≤ v = number_bound w v (negsuc n) q in
        reads-one v (2 * suc n + 1) (negsuc n) w ws lits above all q (number_of-negative n) (omega arith) (omega arith) (ih (lits ++ (2 * suc n + 1) ∷ []) above f)

pub read-say : (v : ℕ) (words : List (List ℕ)) (lits : List ℕ) → literals_from [] false (map (λ w. number_in w v) words) ≡ Ok lits → Say v words lits
read-say v words lits e = let r = reads v words [] false lits e in subst (Say v words) r.whole r.say

-- ---- what is said is read

one-read : (lits : List ℕ) (l : ℕ) (z : ℤ) (words : List NumberWord) → 2 ≤ l → code_of z ≡ l → literals_from lits false (Number z ∷ words) ≡ literals_from (lits ++ l ∷ []) false words
one-read lits l (pos zero) words low e = let none : 0 ≡ l = e in absurd (omega arith)
one-read lits l (pos (suc n)) words low e = ap (λ (m : ℕ). literals_from (lits ++ m ∷ []) false words) e
one-read lits l (negsuc n) words low e = ap (λ (m : ℕ). literals_from (lits ++ m ∷ []) false words) e

numbers-read : (lits before : List ℕ) (v : ℕ) → is_within v lits ≡ true → literals_from before false (map (λ z. Number z) (closed_numbers lits)) ≡ Ok (before ++ lits)
numbers-read [] before v h = ap lits_read (sym (append-nil before))
numbers-read (l ∷ ls) before v h =
    let some : 1 ≤ l / 2 = leb-true 1 (l / 2) (and-left _ _ (and-left _ _ h)) in
    let low : 2 ≤ l = omega arith in
    one-read before l (number_of l) (map (λ z. Number z) (closed_numbers ls)) low (code_of-number_of l low)
    ∙ numbers-read ls (before ++ l ∷ []) v (and-right (nat_le 1 (l / 2) && nat_le (l / 2) v) _ h)
    ∙ ap lits_read (append_assoc before (l ∷ []) ls)

pub say-read : (v : ℕ) (words : List (List ℕ)) (lits : List ℕ) → Say v words lits → literals_from [] false (map (λ w. number_in w v) words) ≡ Ok lits
say-read v words lits s = ap (literals_from [] false) s.says ∙ numbers-read lits [] v s.within
