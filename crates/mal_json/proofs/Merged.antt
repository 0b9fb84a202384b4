-- Clauses of literals, and lists of them piece by piece.
use Rattle.std.proofs.Common.{◌≡◌, ℕ, ◌≤◌, true, false, ◌&&◌, nat_lt, ℤ, nat_abs, List, [], ◌∷◌, map, Some, None, refl, arith}
use Rattle.std.specs.List.{list_all, list_any}
use Rattle.mal_base.specs.Limits.{greatest_variable, limits}
use Rattle.mal_base.specs.Clauses.{IsTautology, HaveSame, clash, rises}
use Rattle.mal_base.specs.Formulas.{is_clause_of, is_within}
use Rattle.spec_dimacs.specs.Merged.{clause_of, sorted}
use Rattle.spec_dimacs.proofs.Merging.{clause_of-unique}
use Rattle.spec_json.specs.Numbers.{is_above, is_none}
use Rattle.spec_json.specs.Reading.{literals}
use Rattle.spec_json.proofs.Numbering.{low-test, none-of, not-above, or-none}
use Rattle.spec_json.proofs.Saying.{all-said, assumed, say-all, say-assumed}

-- the clause of literals that rise after merging, or the tautology
pub merged_rising : (lits after : List ℕ) → rises after ≡ true → HaveSame lits after → Some after ≡ clause_of lits
merged_rising lits after up same = clause_of-unique lits (Some after) (up, same)

pub merged_tautology : (lits : List ℕ) → IsTautology lits → None ≡ clause_of lits
merged_tautology lits both = clause_of-unique lits None both

-- ---- numbers that are not above a variable that is served are not above the greatest one

not_above : (v n : ℕ) → v ≤ limits.variables → nat_lt v n ≡ false → nat_lt greatest_variable n ≡ false
not_above v n few h = let low : n ≤ v = not-above v n h in low-test greatest_variable n (omega arith)

pub low_one : (v : ℕ) (zs : List ℤ) → v ≤ limits.variables → list_any (is_above v) zs ≡ false → list_any (is_above greatest_variable) zs ≡ false
low_one v [] few h = refl
low_one v (z ∷ zs) few h =
    let a = or-none (is_above v z) (list_any (is_above v) zs) h in
    none-of _ _ (not_above v (nat_abs z) few a.0) (low_one v zs few a.1)

pub low_lists : (v : ℕ) (lists : List (List ℤ)) → v ≤ limits.variables → list_any (list_any (is_above v)) lists ≡ false → list_any (list_any (is_above greatest_variable)) lists ≡ false
low_lists v [] few h = refl
low_lists v (zs ∷ lists) few h =
    let a = or-none (list_any (is_above v) zs) (list_any (list_any (is_above v)) lists) h in
    none-of _ _ (low_one v zs few a.0) (low_lists v lists few a.1)

-- the clauses of numbers are clauses of the variables
pub clauses_form : (v : ℕ) (lists : List (List ℤ)) → list_any (list_any is_none) lists ≡ false → list_any (list_any (is_above v)) lists ≡ false → list_all (is_clause_of v) (map (λ numbers. clause_of (literals numbers)) lists) ≡ true
clauses_form v lists some low = (all-said v lists (map (λ numbers. clause_of (literals numbers)) lists) (say-all v lists some low)).form

pub assumed_form : (v : ℕ) (zs : List ℤ) → list_any is_none zs ≡ false → list_any (is_above v) zs ≡ false → clash (sorted (literals zs)) ≡ None → (rises (sorted (literals zs)) && is_within v (sorted (literals zs))) ≡ true
assumed_form v zs some low none = (assumed v zs (sorted (literals zs)) (say-assumed v zs some low none)).form
