use Rattle.std.proofs.Common.{◌≡◌, ℕ, zero, suc, ◌-◌, ◌/◌, ◌%◌, ◌≤◌, ◌<◌, Bool, true, false, cond, not, ◌&&◌, ◌||◌, ◌==◌, nat_le, List, [], ◌∷◌, ◌++◌, length, Option, Some, None, refl, sym, ap, ap₂, subst, ◌∙◌, arith}
use Rattle.std.specs.Prelude.{get_or}
use Rattle.std.specs.List.{list_all, list_any}
use Rattle.std.proofs.lemmas.Bool.{and_parts, and_from, leb-true, leb-false}
use Rattle.std.proofs.lemmas.List.Folds.{list_all-append}
use Rattle.mal_base.specs.Clauses.{rises}
use Rattle.mal_base.specs.Formulas.{Formulated, is_formula, is_within, is_clause_of, is_within_limits}
use Rattle.spec_logic.specs.Logic.{is_true_in, satisfies, satisfies_clause}
use Rattle.spec_logic.proofs.RefutationLemmas.{refuted-unsatisfiable}
use Rattle.spec_max.specs.Counter.{counter}
use Rattle.spec_max.specs.Cost.{cost, cost_below}
use Rattle.spec_max.specs.Laws.{NothingIsCheaper, NothingSatisfies}
use Rattle.spec_max.proofs.Totals.{Same, same-cost}
use Rattle.spec_max.proofs.Extending.{cost_extends, same-kept}

-- an assignment of so many variables: those past its end are false, and those that are not asked are left out
abbrev pub fit : ℕ → List Bool → List Bool
fit zero a = []
fit (suc v) [] = false ∷ fit v []
fit (suc v) (b ∷ bs) = b ∷ fit v bs

pub fit-length : (v : ℕ) (a : List Bool) → length (fit v a) ≡ v
fit-length zero a = refl
fit-length (suc v) [] = ap (λ (n : ℕ). suc n) (fit-length v [])
fit-length (suc v) (b ∷ bs) = ap (λ (n : ℕ). suc n) (fit-length v bs)

fit-at : (v : ℕ) (a : List Bool) (i : ℕ) → i < v → get_or (fit v a) i false ≡ get_or a i false
fit-at zero a i low = absurd (omega arith)
fit-at (suc v) [] zero low = refl
fit-at (suc v) (b ∷ bs) zero low = refl
fit-at (suc v) [] (suc i) low = fit-at v [] i (omega arith)
fit-at (suc v) (b ∷ bs) (suc i) low = fit-at v bs i (omega arith)

fit-literal : (v : ℕ) (a : List Bool) (l : ℕ) → 1 ≤ l / 2 → l / 2 ≤ v → is_true_in (fit v a) l ≡ is_true_in a l
fit-literal v a l low high = ap (λ (b : Bool). cond (l % 2 == 0) b (not b)) (fit-at v a (l / 2 - 1) (omega arith))

pub fit-same : (v : ℕ) (a : List Bool) (ls : List ℕ) → is_within v ls ≡ true → Same (fit v a) a ls
fit-same v a [] h = tt
fit-same v a (l ∷ ls) h =
    let both = and_parts (nat_le 1 (l / 2) && nat_le (l / 2) v) (is_within v ls) h in
    let here = and_parts (nat_le 1 (l / 2)) (nat_le (l / 2) v) both.0 in
    (fit-literal v a l (leb-true 1 (l / 2) here.0) (leb-true (l / 2) v here.1), fit-same v a ls both.1)

-- assignments that agree on the literals of clauses satisfy the same
same-any : (e a : List Bool) (ls : List ℕ) → Same e a ls → list_any (is_true_in e) ls ≡ list_any (is_true_in a) ls
same-any e a [] h = refl
same-any e a (l ∷ ls) h = ap₂ (λ (x y : Bool). x || y) h.0 (same-any e a ls h.1)

clause-within : (v : ℕ) (lits : List ℕ) → is_clause_of v (Some lits) ≡ true → is_within v lits ≡ true
clause-within v lits h = (and_parts (rises lits) (is_within v lits) h).1

fit-satisfies : (v : ℕ) (a : List Bool) (cs : List (Option (List ℕ))) → list_all (is_clause_of v) cs ≡ true → satisfies (fit v a) cs ≡ satisfies a cs
fit-satisfies v a [] h = refl
fit-satisfies v a (c ∷ cs) h =
    let both = and_parts (is_clause_of v c) (list_all (is_clause_of v) cs) h in
    ap₂ (λ (x y : Bool). x && y) (by_clause c both.0) (fit-satisfies v a cs both.1)
  where
    by_clause : (c : Option (List ℕ)) → is_clause_of v c ≡ true → satisfies_clause (fit v a) c ≡ satisfies_clause a c
    by_clause None k = refl
    by_clause (Some lits) k = same-any (fit v a) a lits (fit-same v a lits (clause-within v lits k))

-- what is put after an assignment of the variables leaves clauses of them
pub more-satisfies : (a more : List Bool) (cs : List (Option (List ℕ))) → list_all (is_clause_of (length a)) cs ≡ true → satisfies (a ++ more) cs ≡ satisfies a cs
more-satisfies a more [] h = refl
more-satisfies a more (c ∷ cs) h =
    let both = and_parts (is_clause_of (length a) c) (list_all (is_clause_of (length a)) cs) h in
    ap₂ (λ (x y : Bool). x && y) (by_clause c both.0) (more-satisfies a more cs both.1)
  where
    by_clause : (c : Option (List ℕ)) → is_clause_of (length a) c ≡ true → satisfies_clause (a ++ more) c ≡ satisfies_clause a c
    by_clause None k = refl
    by_clause (Some lits) k = same-any (a ++ more) a lits (same-kept a more lits (clause-within (length a) lits k))

pub formula-clauses : (f : Formulated) → is_formula f ≡ true → list_all (is_clause_of f.variables) f.clauses ≡ true
formula-clauses f h = (and_parts (is_within_limits f.variables f.clauses) (list_all (is_clause_of f.variables) f.clauses) h).1

-- an assignment that satisfies the formula, with values for the counter after
pub record Extended (f : Formulated) (softs : List ℕ) (assignment : List Bool) : Type 0 where
  pub whole : List Bool
  pub satisfied : satisfies whole (f.clauses ++ counter f.variables softs) ≡ true
  pub below : (c : ℕ) → 1 ≤ c → c ≤ length softs → cost softs assignment < c → is_true_in whole (cost_below f.variables softs c) ≡ true

pub extended : (f : Formulated) (softs : List ℕ) → is_formula f ≡ true → is_within f.variables softs ≡ true → (a : List Bool) → satisfies a f.clauses ≡ true → Extended f softs a
extended f softs formed within a s =
    let v : ℕ = f.variables in
    let b : List Bool = fit v a in
    let long : length b ≡ v = fit-length v a in
    let got = cost_extends v softs b within long in
    let clauses = formula-clauses f formed in
    let front : satisfies (b ++ got.0) f.clauses ≡ true = more-satisfies b got.0 f.clauses (subst (λ (k : ℕ). list_all (is_clause_of k) f.clauses ≡ true) (sym long) clauses) ∙ fit-satisfies v a f.clauses clauses ∙ s in
    let price : cost softs b ≡ cost softs a = same-cost b a softs (fit-same v a softs within) in
    record {
      whole = b ++ got.0;
      satisfied = list_all-append (satisfies_clause (b ++ got.0)) f.clauses (counter v softs) ∙ and_from (satisfies (b ++ got.0) f.clauses) (satisfies (b ++ got.0) (counter v softs)) front got.1.satisfied;
      below = λ c some few less. got.1.below c some few (subst (λ (k : ℕ). k < c) (sym price) less);
    }

pub nothing_is_cheaper : NothingIsCheaper
nothing_is_cheaper f softs c lines formed within some few refuted a s = by_order (nat_le c (cost softs a)) refl
  where
    by_order : (b : Bool) → nat_le c (cost softs a) ≡ b → c ≤ cost softs a
    by_order true q = leb-true c (cost softs a) q
    by_order false q =
        let e = extended f softs formed within a s in
        let off = e.below c some few (leb-false c (cost softs a) q) in
        absurd (refuted-unsatisfiable (f.clauses ++ counter f.variables softs) (cost_below f.variables softs c ∷ []) lines refuted e.whole
        (and_from (satisfies e.whole (f.clauses ++ counter f.variables softs)) (list_all (is_true_in e.whole) (cost_below f.variables softs c ∷ [])) e.satisfied (and_from (is_true_in e.whole (cost_below f.variables softs c)) true off refl)))

pub nothing_satisfies : NothingSatisfies
nothing_satisfies f softs lines formed within refuted a s =
    let e = extended f softs formed within a (and_parts (satisfies a f.clauses) true s).0 in
    refuted-unsatisfiable (f.clauses ++ counter f.variables softs) [] lines refuted e.whole (and_from (satisfies e.whole (f.clauses ++ counter f.variables softs)) true e.satisfied refl)
