use Rattle.std.proofs.Common.{◌≡◌, ℕ, ◌/◌, ◌≤◌, Bool, true, false, ◌&&◌, if◌then◌else◌, nat_lt, nat_le, List, [], ◌∷◌, length, Option, Some, None, Result, Ok, Err, IfOk, IfErr, MatchResult, Contains, refl, sym, ◌∙◌, ap, ◌⊎◌, inl, inr, arith}
use Rattle.std.specs.List.{list_all}
use Rattle.std.proofs.lemmas.Bool.{leb-true}
use Rattle.std.proofs.lemmas.Bool.Decides.{nat_tests}
use Rattle.mal_base.specs.Limits.{limits}
use Rattle.mal_base.specs.Clauses.{rises, climbs, HaveSame, IsTautology, clash}
use Rattle.mal_base.proofs.Sorting.{Contains-head, Contains-later, Contains-cases, and-left, and-right, and-both, rises-apart}
use Rattle.mal_base.proofs.Tautologies.{rises-from_sorted, rising-unique, consistent-from_sorted}
use Rattle.mal_base.specs.declared.limit_kind.LimitKind.TheVariants.{Variables, Clauses, Literals}
use Rattle.mal_base.specs.Formulas.{literals_of, is_within, is_clause_of, is_within_limits}
use Rattle.mal_revision.specs.Posted.{Posted, is_posted}
use Rattle.mal_revision.specs.Refused.{or_else, above, first_above, limit_passed, IsMadeOf, IsRefused}
use Rattle.mal_revision.specs.declared.fault.RevisionFault.{RevisionFault}
use Rattle.mal_revision.specs.declared.fault.RevisionFault.TheVariants.{Opposite, VarTooLarge, Limit, OutOfMemory}

-- no literal of these variables is above them
pub above-from_within : (v : ℕ) (lits : List ℕ) → is_within v lits ≡ true → above v lits ≡ None
above-from_within v [] h = refl
above-from_within v (l ∷ ls) h =
    let low : l / 2 ≤ v = leb-true (l / 2) v (and-right (nat_le 1 (l / 2)) _ (and-left _ _ h)) in
    let test : nat_lt v (l / 2) ≡ false = grind (arith, nat_tests) in
    let rest : above v ls ≡ None = above-from_within v ls (and-right _ _ h) in
    rw test rest

-- being within the variables is of the members alone
within-more : (v l : ℕ) (ls : List ℕ) (x : ℕ) → (nat_le 1 (l / 2) && nat_le (l / 2) v) ≡ true → (Contains ls x → (nat_le 1 (x / 2) && nat_le (x / 2) v) ≡ true) → (l ≡ x) ⊎ Contains ls x → (nat_le 1 (x / 2) && nat_le (x / 2) v) ≡ true
within-more v l ls x own rest (inl e) = rw (← e) own
within-more v l ls x own rest (inr h) = rest h

within-member : (v : ℕ) (lits : List ℕ) (x : ℕ) → is_within v lits ≡ true → Contains lits x → (nat_le 1 (x / 2) && nat_le (x / 2) v) ≡ true
within-member v [] x h (k, low, e) = absurd (omega arith)
within-member v (l ∷ ls) x h has =
    within-more v l ls x (and-left _ _ h) (λ later. within-member v ls x (and-right _ _ h) later) (Contains-cases l ls x has)

within-from_members : (v : ℕ) (lits : List ℕ) → ((x : ℕ) → Contains lits x → (nat_le 1 (x / 2) && nat_le (x / 2) v) ≡ true) → is_within v lits ≡ true
within-from_members v [] all = refl
within-from_members v (l ∷ ls) all =
    and-both _ _ (all l (Contains-head l ls)) (within-from_members v ls (λ x h. all x (Contains-later l ls x h)))

pub within-same : (v : ℕ) (lits sorted : List ℕ) → HaveSame lits sorted → is_within v lits ≡ true → is_within v sorted ≡ true
within-same v lits sorted same h = within-from_members v sorted (λ x has. within-member v lits x h (same.back x has))

-- no literal of clauses of these variables is above them
pub first-from_clauses : (v : ℕ) (cs : List (Option (List ℕ))) → list_all (is_clause_of v) cs ≡ true → first_above v cs ≡ None
first-from_clauses v [] h = refl
first-from_clauses v (None ∷ cs) h =
    let some : 1 ≤ v = leb-true 1 v (and-left _ _ h) in
    let test : nat_lt v 1 ≡ false = grind (arith, nat_tests) in
    rw test (first-from_clauses v cs (and-right _ _ h))
first-from_clauses v (Some lits ∷ cs) h =
    let own : is_clause_of v (Some lits) ≡ true = and-left _ _ h in
    let none : above v lits ≡ None = above-from_within v lits (and-right (rises lits) _ own) in
    rw none (first-from_clauses v cs (and-right _ _ h))

-- where no limit is passed the parts are within them
pub limits-from_none : (v : ℕ) (cs : List (Option (List ℕ))) → limit_passed v cs ≡ None → is_within_limits v cs ≡ true
limits-from_none v cs none = by_tests v (length cs) (literals_of cs) (nat_lt limits.variables v) (nat_lt limits.clauses (length cs)) (nat_lt limits.literals (literals_of cs)) refl refl refl none
  where
    by_tests : (v n m : ℕ) (a b c : Bool) → nat_lt limits.variables v ≡ a → nat_lt limits.clauses n ≡ b → nat_lt limits.literals m ≡ c → (if a then Some Variables else if b then Some Clauses else if c then Some Literals else None) ≡ None → ((nat_le v limits.variables && nat_le n limits.clauses) && nat_le m limits.literals) ≡ true
    by_tests v n m true b c p q r none = absurd (cc)
    by_tests v n m false true c p q r none = absurd (cc)
    by_tests v n m false false true p q r none = absurd (cc)
    by_tests v n m false false false p q r none = grind (arith, nat_tests)

pub none-from_limits : (v : ℕ) (cs : List (Option (List ℕ))) → is_within_limits v cs ≡ true → limit_passed v cs ≡ None
none-from_limits v cs h =
    let first : v ≤ limits.variables = leb-true v limits.variables (and-left _ _ (and-left _ _ h)) in
    let second : length cs ≤ limits.clauses = leb-true (length cs) limits.clauses (and-right (nat_le v limits.variables) _ (and-left _ _ h)) in
    let third : literals_of cs ≤ limits.literals = leb-true (literals_of cs) limits.literals (and-right (nat_le v limits.variables && nat_le (length cs) limits.clauses) _ h) in
    let a : nat_lt limits.variables v ≡ false = grind (arith, nat_tests) in
    let b : nat_lt limits.clauses (length cs) ≡ false = grind (arith, nat_tests) in
    let d : nat_lt limits.literals (literals_of cs) ≡ false = grind (arith, nat_tests) in
    rw (a, b, d) refl

-- parts of which none is refused make a revision
pub posted-from_tests : (v : ℕ) (cs : List (Option (List ℕ))) (lits sorted : List ℕ) → HaveSame lits sorted → climbs sorted ≡ true → clash sorted ≡ None → is_within v lits ≡ true → list_all (is_clause_of v) cs ≡ true → limit_passed v cs ≡ None → is_posted (record { variables = v; clauses = cs; assumptions = sorted }) ≡ true
posted-from_tests v cs lits sorted same up none assumed forms limited =
    let own : is_within v sorted ≡ true = within-same v lits sorted same assumed in
    and-both _ _ (and-both _ _ (limits-from_none v cs limited) forms) (and-both _ _ (rises-from_sorted sorted up none) own)

pub made-from_tests : (v : ℕ) (cs : List (Option (List ℕ))) (lits sorted : List ℕ) → HaveSame lits sorted → climbs sorted ≡ true → clash sorted ≡ None → or_else (first_above v cs) (above v lits) ≡ None → limit_passed v cs ≡ None → IsMadeOf v cs lits (record { variables = v; clauses = cs; assumptions = sorted })
made-from_tests v cs lits sorted same up none within limited =
    let rising : rises sorted ≡ true = rises-from_sorted sorted up none in
    record {
      consistent = consistent-from_sorted lits sorted same rising;
      within = within;
      limited = limited;
      same_variables = refl;
      same_clauses = refl;
      rising = rising;
      same_assumptions = same;
    }

-- what is shared is made, or memory ran out
pub made-shared : (r : Result Posted RevisionFault) (p : Posted) (v : ℕ) (cs : List (Option (List ℕ))) (lits : List ℕ) → MatchResult r (λ x. x ≡ p) (λ e. e ≡ OutOfMemory) → IsMadeOf v cs lits p → IfOk r (λ x. IsMadeOf v cs lits x)
made-shared (Ok x) p v cs lits is made = rw is made
made-shared (Err e) p v cs lits is made = search

-- sorted literals without a clash are of no tautology
pub consistent-from_tests : (lits sorted : List ℕ) → HaveSame lits sorted → climbs sorted ≡ true → clash sorted ≡ None → IsTautology lits → ⊥
consistent-from_tests lits sorted same up none = consistent-from_sorted lits sorted same (rises-from_sorted sorted up none)

-- parts that are those of a revision are refused by out of memory alone, and make that revision
posted-first : (v : ℕ) (cs : List (Option (List ℕ))) (lits : List ℕ) → is_posted (record { variables = v; clauses = cs; assumptions = lits }) ≡ true → or_else (first_above v cs) (above v lits) ≡ None
posted-first v cs lits form =
    let one : first_above v cs ≡ None = first-from_clauses v cs (and-right (is_within_limits v cs) _ (and-left _ _ form)) in
    let two : above v lits ≡ None = above-from_within v lits (and-right (rises lits) _ (and-right (is_within_limits v cs && list_all (is_clause_of v) cs) _ form)) in
    rw one two

posted-limits : (v : ℕ) (cs : List (Option (List ℕ))) (lits : List ℕ) → is_posted (record { variables = v; clauses = cs; assumptions = lits }) ≡ true → limit_passed v cs ≡ None
posted-limits v cs lits form = none-from_limits v cs (and-left (is_within_limits v cs) _ (and-left _ _ form))

posted-rises : (v : ℕ) (cs : List (Option (List ℕ))) (lits : List ℕ) → is_posted (record { variables = v; clauses = cs; assumptions = lits }) ≡ true → rises lits ≡ true
posted-rises v cs lits form = and-left (rises lits) _ (and-right (is_within_limits v cs && list_all (is_clause_of v) cs) _ form)

refused-posted : (v : ℕ) (cs : List (Option (List ℕ))) (lits : List ℕ) (e : RevisionFault) → is_posted (record { variables = v; clauses = cs; assumptions = lits }) ≡ true → IsRefused v cs lits e → e ≡ OutOfMemory
refused-posted v cs lits OutOfMemory form is = refl
refused-posted v cs lits (Opposite var) form is = absurd (rises-apart lits var (posted-rises v cs lits form) is.plus is.minus)
refused-posted v cs lits (VarTooLarge var) form is = let none = posted-first v cs lits form in absurd (cc (is.first, none))
refused-posted v cs lits (Limit which) form is = let none = posted-limits v cs lits form in absurd (cc (is.first, none))

made-posted : (v : ℕ) (cs : List (Option (List ℕ))) (lits : List ℕ) (r : Posted) → is_posted (record { variables = v; clauses = cs; assumptions = lits }) ≡ true → IsMadeOf v cs lits r → r ≡ record { variables = v; clauses = cs; assumptions = lits }
made-posted v cs lits r form is =
    let e : lits ≡ r.assumptions = rising-unique lits r.assumptions (posted-rises v cs lits form) is.rising is.same_assumptions in
    ap (λ (n : ℕ). record { variables = n; clauses = r.clauses; assumptions = r.assumptions }) is.same_variables
    ∙ ap (λ (ds : List (Option (List ℕ))). record { variables = v; clauses = ds; assumptions = r.assumptions }) is.same_clauses
    ∙ ap (λ (ls : List ℕ). record { variables = v; clauses = cs; assumptions = ls }) (sym e)

pub fits-from_answer : (r : Result Posted RevisionFault) (v : ℕ) (cs : List (Option (List ℕ))) (lits : List ℕ) → IfOk r (λ x. IsMadeOf v cs lits x) → IfErr r (λ e. IsRefused v cs lits e) → is_posted (record { variables = v; clauses = cs; assumptions = lits }) ≡ true → MatchResult r (λ x. x ≡ record { variables = v; clauses = cs; assumptions = lits }) (λ e. e ≡ OutOfMemory)
fits-from_answer (Ok x) v cs lits made refused form = made-posted v cs lits x form made
fits-from_answer (Err e) v cs lits made refused form = refused-posted v cs lits e form refused
