-- Clauses and assumptions: what numbers say.
use Rattle.std.proofs.Common.{◌≡◌, ℕ, true, false, ◌&&◌, List, [], ◌∷◌, map, ℤ, Option, Some, None, refl, sym, ap, ap₂, ◌∙◌}
use Rattle.std.specs.List.{list_all, list_any}
use Rattle.mal_base.specs.Clauses.{rises, clash}
use Rattle.mal_base.specs.Formulas.{is_clause_of, is_within}
use Rattle.mal_base.proofs.Sorting.{and-both, climbs-from_rises, rises-apart}
use Rattle.mal_base.proofs.Tautologies.{opposite-from_sorted, rises-from_sorted}
use Rattle.spec_dimacs.specs.Merged.{clause_of, sorted}
use Rattle.spec_dimacs.proofs.Merging.{clause_of-made, clause_of-unique, clause_within, sorted_climbs, sorted_same, within-same}
use Rattle.spec_script.proofs.Sorted.{sorted-unique}
use Rattle.spec_json.specs.Numbers.{is_above, is_none}
use Rattle.spec_json.specs.Reading.{literals}
use Rattle.spec_json.specs.Grammar.{SayClause, SayClauses}
use Rattle.spec_json.proofs.Numbering.{Stands, none-of, or-none, stand, stands}

-- literals that rise by variable have no clash
no-clash : (lits : List ℕ) → rises lits ≡ true → clash lits ≡ None
no-clash lits up = by_found (clash lits) refl
  where
    by_found : (o : Option ℕ) → clash lits ≡ o → o ≡ None
    by_found None e = refl
    by_found (Some v) e =
        let is = opposite-from_sorted lits lits v (record { there = λ x h. h; back = λ x h. h }) (climbs-from_rises lits up) e in
        absurd (rises-apart lits v up is.plus is.minus)

-- ---- from numbers to clauses

abbrev pub made : List ℤ → Option (List ℕ)
made numbers = clause_of (literals numbers)

say-made : (v : ℕ) (numbers : List ℤ) → list_any is_none numbers ≡ false → list_any (is_above v) numbers ≡ false → SayClause v numbers (made numbers)
say-made v numbers some low =
    let is = stand v numbers some low in
    record { lits = literals numbers; numbered = is.0; within = is.1; once = clause_of-made (literals numbers) }

pub say-all : (v : ℕ) (lists : List (List ℤ)) → list_any (list_any is_none) lists ≡ false → list_any (list_any (is_above v)) lists ≡ false → SayClauses v lists (map made lists)
say-all v [] some low = tt
say-all v (numbers ∷ lists) some low =
    let a = or-none (list_any is_none numbers) (list_any (list_any is_none) lists) some in
    let b = or-none (list_any (is_above v) numbers) (list_any (list_any (is_above v)) lists) low in
    (say-made v numbers a.0 b.0, say-all v lists a.1 b.1)

-- assumptions of which no variable has both signs
pub say-assumed : (v : ℕ) (numbers : List ℤ) → list_any is_none numbers ≡ false → list_any (is_above v) numbers ≡ false → clash (sorted (literals numbers)) ≡ None → SayClause v numbers (Some (sorted (literals numbers)))
say-assumed v numbers some low none =
    let is = stand v numbers some low in
    let up : rises (sorted (literals numbers)) ≡ true = rises-from_sorted (sorted (literals numbers)) (sorted_climbs (literals numbers)) none in
    record { lits = literals numbers; numbered = is.0; within = is.1; once = (up, sorted_same (literals numbers)) }

-- ---- from clauses to numbers

pub record Said (v : ℕ) (numbers : List ℤ) (clause : Option (List ℕ)) : Type 0 where
  pub some : list_any is_none numbers ≡ false
  pub low : list_any (is_above v) numbers ≡ false
  pub own : made numbers ≡ clause
  pub form : is_clause_of v clause ≡ true

said : (v : ℕ) (numbers : List ℤ) (clause : Option (List ℕ)) → SayClause v numbers clause → Said v numbers clause
said v numbers clause is =
    let has : Stands v is.lits = stands v is.lits is.within in
    record {
      some = ap (list_any is_none) is.numbered ∙ has.some;
      low = ap (list_any (is_above v)) is.numbered ∙ has.low;
      own = ap made is.numbered ∙ ap clause_of has.again ∙ sym (clause_of-unique is.lits clause is.once);
      form = clause_within v is.lits clause is.within is.once;
    }

pub record AllSaid (v : ℕ) (lists : List (List ℤ)) (clauses : List (Option (List ℕ))) : Type 0 where
  pub some : list_any (list_any is_none) lists ≡ false
  pub low : list_any (list_any (is_above v)) lists ≡ false
  pub own : map made lists ≡ clauses
  pub form : list_all (is_clause_of v) clauses ≡ true

pub all-said : (v : ℕ) (lists : List (List ℤ)) (clauses : List (Option (List ℕ))) → SayClauses v lists clauses → AllSaid v lists clauses
all-said v [] [] is = record { some = refl; low = refl; own = refl; form = refl }
all-said v [] (clause ∷ clauses) is = absurd is
all-said v (numbers ∷ lists) [] is = absurd is
all-said v (numbers ∷ lists) (clause ∷ clauses) is =
    let one = said v numbers clause is.0 in
    let rest = all-said v lists clauses is.1 in
    record {
      some = none-of _ _ one.some rest.some;
      low = none-of _ _ one.low rest.low;
      own = ap₂ (λ (x : Option (List ℕ)) (xs : List (Option (List ℕ))). x ∷ xs) one.own rest.own;
      form = and-both _ _ one.form rest.form;
    }

pub record Assumed (v : ℕ) (numbers : List ℤ) (lits : List ℕ) : Type 0 where
  pub some : list_any is_none numbers ≡ false
  pub low : list_any (is_above v) numbers ≡ false
  pub own : sorted (literals numbers) ≡ lits
  pub none : clash (sorted (literals numbers)) ≡ None
  pub form : (rises lits && is_within v lits) ≡ true

pub assumed : (v : ℕ) (numbers : List ℤ) (lits : List ℕ) → SayClause v numbers (Some lits) → Assumed v numbers lits
assumed v numbers lits is =
    let has : Stands v is.lits = stands v is.lits is.within in
    let own : sorted (literals numbers) ≡ lits =
    ap (λ (zs : List ℤ). sorted (literals zs)) is.numbered ∙ ap sorted has.again ∙ sym (sorted-unique is.lits lits (climbs-from_rises lits is.once.0) is.once.1) in
    record {
      some = ap (list_any is_none) is.numbered ∙ has.some;
      low = ap (list_any (is_above v)) is.numbered ∙ has.low;
      own = own;
      none = ap clash own ∙ no-clash lits is.once.0;
      form = and-both _ _ is.once.0 (within-same v is.lits lits is.once.1 is.within);
    }
