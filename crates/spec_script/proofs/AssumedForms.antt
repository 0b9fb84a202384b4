-- What is read of the words of a line of assumptions, they say.
use Rattle.std.proofs.Common.{◌≡◌, ℕ, zero, suc, ◌*◌, ◌+◌, ◌/◌, ◌≤◌, Bool, true, false, ◌&&◌, nat_le, List, [], ◌∷◌, ◌++◌, map, ℤ, pos, negsuc, Option, Some, None, Ok, refl, sym, ap, ap₂, ◌∙◌, subst, arith, append_assoc, append-nil}
use Rattle.std.proofs.lemmas.Bool.{le-leb}
use Rattle.mal_base.specs.Clauses.{rises, clash}
use Rattle.mal_base.specs.Formulas.{is_within}
use Rattle.mal_base.proofs.Sorting.{and-both}
use Rattle.mal_base.proofs.Tautologies.{rises-from_sorted}
use Rattle.spec_text.specs.Numbers.{NumberWord, number_in, number_of}
use Rattle.spec_text.specs.Numbers.NumberWord.{NotANumber, TooLarge, Number}
use Rattle.spec_dimacs.specs.Grammar.{closed_numbers}
use Rattle.spec_dimacs.specs.Merged.{IsClauseOf, sorted}
use Rattle.spec_dimacs.proofs.Numbers.{number_bound, number_of-positive, number_of-negative}
use Rattle.spec_dimacs.proofs.Merging.{sorted_climbs, sorted_same, within-same}
use Rattle.spec_script.specs.Assumptions.{closed, literals_from, consistent, assumptions_in}
use Rattle.spec_script.specs.Grammar.{Assumes}
use Rattle.spec_script.proofs.Inversions.{bind_ok, ok_is}

-- what stands after the 0 of assumptions that are read
record Closes (lits : List ℕ) (above : Bool) (words : List NumberWord) (raw : List ℕ) : Type 0 where
  nothing : words ≡ []
  kept : lits ≡ raw
  none_above : above ≡ false

closes : (lits : List ℕ) (above : Bool) (words : List NumberWord) (raw : List ℕ) → closed lits above words ≡ Ok raw → Closes lits above words raw
closes lits true [] raw e = absurd (cc)
closes lits false [] raw e = record { nothing = refl; kept = ok_is lits raw e; none_above = refl }
closes lits above (w ∷ ws) raw e = absurd (cc)

-- the literals that words say after those before
record Behind (v : ℕ) (words : List (List ℕ)) (lits : List ℕ) (above : Bool) (raw : List ℕ) : Type 0 where
  more : List ℕ
  all : lits ++ more ≡ raw
  says : map (λ w. number_in w v) words ≡ map (λ z. Number z) (closed_numbers more)
  within : is_within v more ≡ true
  none_above : above ≡ false

literal-in : (v l : ℕ) → 1 ≤ l / 2 → l / 2 ≤ v → (nat_le 1 (l / 2) && nat_le (l / 2) v) ≡ true
literal-in v l some low = and-both _ _ (le-leb 1 (l / 2) some) (le-leb (l / 2) v low)

-- one literal more in front
one-behind : (v l : ℕ) (z : ℤ) (w : List ℕ) (ws : List (List ℕ)) (lits : List ℕ) (above : Bool) (raw : List ℕ) → number_in w v ≡ Number z → number_of l ≡ z → 1 ≤ l / 2 → l / 2 ≤ v → Behind v ws (lits ++ l ∷ []) above raw → Behind v (w ∷ ws) lits above raw
one-behind v l z w ws lits above raw said is some low r = record {
  more = l ∷ r.more;
  all = sym (append_assoc lits (l ∷ []) r.more) ∙ r.all;
  says = ap₂ (λ (x : NumberWord) (xs : List NumberWord). x ∷ xs) (said ∙ ap (λ (y : ℤ). Number y) (sym is)) r.says;
  within = and-both _ _ (literal-in v l some low) r.within;
  none_above = r.none_above;
}

behind : (v : ℕ) (words : List (List ℕ)) (lits : List ℕ) (above : Bool) (raw : List ℕ) → literals_from lits above (map (λ w. number_in w v) words) ≡ Ok raw → Behind v words lits above raw
behind v [] lits above raw e = absurd (cc)
behind v (w ∷ ws) lits above raw e = by_word (λ ls a f. behind v ws ls a raw f) (number_in w v) refl e
  where
    by_word : ((ls : List ℕ) (a : Bool) → literals_from ls a (map (λ w. number_in w v) ws) ≡ Ok raw → Behind v ws ls a raw) → (x : NumberWord) → number_in w v ≡ x → literals_from lits above (x ∷ map (λ w. number_in w v) ws) ≡ Ok raw → Behind v (w ∷ ws) lits above raw
    by_word ih NotANumber q f = absurd (cc)
    by_word ih TooLarge q f = let r = ih lits true f in let no : true ≡ false = r.none_above in absurd (cc)
    by_word ih (Number (pos zero)) q f =
        let c = closes lits above (map (λ w. number_in w v) ws) raw f in
        record { more = []; all = append-nil lits ∙ c.kept; says = ap₂ (λ (x : NumberWord) (xs : List NumberWord). x ∷ xs) q c.nothing; within = refl; none_above = c.none_above }
    by_word ih (Number (pos (suc n))) q f =
        let high : suc n ≤ v = number_bound w v (pos (suc n)) q in
        one-behind v (2 * suc n) (pos (suc n)) w ws lits above raw q (number_of-positive (suc n)) (omega arith) (omega arith) (ih (lits ++ (2 * suc n) ∷ []) above f)
    by_word ih (Number (negsuc n)) q f =
        let high : suc n ≤ v = number_bound w v (negsuc n) q in
        one-behind v (2 * suc n + 1) (negsuc n) w ws lits above raw q (number_of-negative n) (omega arith) (omega arith) (ih (lits ++ (2 * suc n + 1) ∷ []) above f)

consistent-ok : (lits : List ℕ) (o : Option ℕ) (kept : List ℕ) → consistent lits o ≡ Ok kept → (o ≡ None) × (lits ≡ kept)
consistent-ok lits None kept e = (refl, ok_is lits kept e)
consistent-ok lits (Some var) kept e = absurd (cc)

pub read-assumes : (v : ℕ) (words : List (List ℕ)) (lits : List ℕ) → assumptions_in v words ≡ Ok lits → Assumes v words lits
read-assumes v words lits e =
    let a = bind_ok (literals_from [] false (map (λ w. number_in w v) words)) (λ ls. consistent (sorted ls) (clash (sorted ls))) lits e in
    let r = behind v words [] false a.0 a.1 in
    let c = consistent-ok (sorted a.0) (clash (sorted a.0)) lits a.2 in
    let up : rises (sorted a.0) ≡ true = rises-from_sorted (sorted a.0) (sorted_climbs a.0) c.0 in
    let made : IsClauseOf a.0 (Some (sorted a.0)) = (up, sorted_same a.0) in
    let same : IsClauseOf r.more (Some (sorted a.0)) = subst (λ (raw : List ℕ). IsClauseOf raw (Some (sorted a.0))) (sym r.all) made in
    record { lits = r.more; closed = r.says; within = r.within; once = subst (λ (kept : List ℕ). IsClauseOf r.more (Some kept)) c.1 same }

-- assumptions rise by variable and are of the variables
pub assumed-formed : (v : ℕ) (words : List (List ℕ)) (lits : List ℕ) → Assumes v words lits → (rises lits && is_within v lits) ≡ true
assumed-formed v words lits is = and-both _ _ is.once.0 (within-same v is.lits lits is.once.1 is.within)
