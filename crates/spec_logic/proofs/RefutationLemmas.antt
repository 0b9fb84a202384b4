use Rattle.std.proofs.Common.{◌≡◌, ℕ, zero, suc, ◌-◌, Bool, true, false, cond, List, [], ◌∷◌, ◌==◌, slice_get, Option, Some, None, refl, ◌∙◌, subst, inl, inr, ◌⊎◌}
use Rattle.std.specs.Prelude.{All}
use Rattle.std.specs.List.{list_any, list_all}
use Rattle.std.proofs.lemmas.List.Elements.{All-nil, All-cons, All-head, All-tail}
use Rattle.std.proofs.lemmas.Bool.{eqb-true, or_cases, and_parts, both_ways, not_from_true}
use Rattle.mal_base.specs.Literals.{negated}
use Rattle.spec_logic.specs.Logic.{satisfies, satisfies_clause, satisfies_with, is_true_in, Entails}
use Rattle.spec_logic.specs.Derivation.{Holding, Derivation, derivation}
use Rattle.spec_logic.specs.Derivation.Derivation.{Derived, Unknown, NotUnit, Unfinished}
use Rattle.spec_logic.specs.Refutation.{ProofLine, numbered, with_clause, without, after_line, after_lines, refusal_unless_held, refusal, IsProof, added_in, added_by, contradicts}
use Rattle.spec_logic.specs.Refutation.ProofLine.{Add, Delete}
use Rattle.spec_logic.specs.Laws.{IsEntailed, ProofIsEntailed, RefutedIsUnsatisfiable}
use Rattle.spec_logic.proofs.DerivationLemmas.{negated-value, derived-entailed}

-- each of the clauses that an assignment satisfies is satisfied
pub satisfied-at : (a : List Bool) (cs : List (Option (List ℕ))) (i : ℕ) (c : Option (List ℕ)) → satisfies a cs ≡ true → slice_get cs i ≡ Some c → satisfies_clause a c ≡ true
satisfied-at a [] i c s e = absurd (cc)
satisfied-at a (d ∷ ds) zero c s e = let same : d ≡ c = cc in rw (← same) (and_parts (satisfies_clause a d) (satisfies a ds) s).0
satisfied-at a (d ∷ ds) (suc i) c s e = satisfied-at a ds i c (and_parts (satisfies_clause a d) (satisfies a ds) s).1 e

pub numbered-entailed : (cs : List (Option (List ℕ))) → IsEntailed cs (numbered cs)
numbered-entailed cs id c e a s = by_zero (id == 0) e
  where
    by_zero : (b : Bool) → cond b None (slice_get cs (id - 1)) ≡ Some c → satisfies_clause a c ≡ true
    by_zero true q = absurd (cc)
    by_zero false q = satisfied-at a cs (id - 1) c s q

-- an added line is accepted where its id is not held and it is derived
pub record IsAccepted (held : Holding) (id : ℕ) (clause : Option (List ℕ)) (hints : List ℕ) : Type 0 where
  pub fresh : held id ≡ None
  pub derived : derivation held clause hints ≡ Derived

pub accepted-parts : (held : Holding) (id : ℕ) (clause : Option (List ℕ)) (hints : List ℕ) → refusal held (Add id clause hints) ≡ None → IsAccepted held id clause hints
accepted-parts held id clause hints e = record { fresh = (parts (held id) (derivation held clause hints) e).0; derived = (parts (held id) (derivation held clause hints) e).1 }
  where
    parts : (o : Option (Option (List ℕ))) (d : Derivation) → refusal_unless_held o id d ≡ None → (o ≡ None) × (d ≡ Derived)
    parts (Some c) d q = absurd (cc)
    parts None Derived q = (refl, refl)
    parts None (Unknown i) q = absurd (cc)
    parts None (NotUnit i) q = absurd (cc)
    parts None Unfinished q = absurd (cc)

pub with-entailed : (cs : List (Option (List ℕ))) (held : Holding) (new : ℕ) (clause : Option (List ℕ)) → IsEntailed cs held → Entails cs clause → IsEntailed cs (with_clause held new clause)
with-entailed cs held new clause h k id c e = by_new (id == new) e
  where
    by_new : (b : Bool) → cond b (Some clause) (held id) ≡ Some c → Entails cs c
    by_new true q = let same : clause ≡ c = cc in subst (Entails cs) same k
    by_new false q = h id c q

pub without-entailed : (cs : List (Option (List ℕ))) (held : Holding) (ids : List ℕ) → IsEntailed cs held → IsEntailed cs (without held ids)
without-entailed cs held ids h id c e = by_deleted (list_any (λ i. i == id) ids) e
  where
    by_deleted : (b : Bool) → cond b None (held id) ≡ Some c → Entails cs c
    by_deleted true q = absurd (cc)
    by_deleted false q = h id c q

-- an accepted line's clause is entailed, and so is what is held after it
pub line-entailed : (cs : List (Option (List ℕ))) (held : Holding) (line : ProofLine) → IsEntailed cs held → refusal held line ≡ None → All (Entails cs) (added_in line) × IsEntailed cs (after_line held line)
line-entailed cs held (Add id clause hints) h e =
    let k : Entails cs clause = derived-entailed cs held clause hints h (accepted-parts held id clause hints e).derived in
    (All-cons (Entails cs) clause [] k (All-nil (Entails cs)), with-entailed cs held id clause h k)
line-entailed cs held (Delete ids) h e = (All-nil (Entails cs), without-entailed cs held ids h)

added-more : (cs : List (Option (List ℕ))) (line : ProofLine) (lines : List ProofLine) → All (Entails cs) (added_in line) → All (Entails cs) (added_by lines) → All (Entails cs) (added_by (line ∷ lines))
added-more cs (Add id clause hints) lines h k = All-cons (Entails cs) clause (added_by lines) (All-head (Entails cs) clause [] h) k
added-more cs (Delete ids) lines h k = k

pub lines-entailed : (cs : List (Option (List ℕ))) (held : Holding) (lines : List ProofLine) → IsEntailed cs held → IsProof held lines → All (Entails cs) (added_by lines) × IsEntailed cs (after_lines held lines)
lines-entailed cs held [] h p = (All-nil (Entails cs), h)
lines-entailed cs held (line ∷ lines) h p =
    let k : All (Entails cs) (added_in line) × IsEntailed cs (after_line held line) = line-entailed cs held line h p.0 in
    let rest : All (Entails cs) (added_by lines) × IsEntailed cs (after_lines (after_line held line) lines) = lines-entailed cs (after_line held line) lines k.1 p.1 in
    (added-more cs line lines k.0 rest.0, rest.1)

pub proof-entailed : ProofIsEntailed
proof-entailed cs lines p = lines-entailed cs (numbered cs) lines (numbered-entailed cs) p

-- an assumption that holds makes its literal true
assumed-true : (a : List Bool) (assumptions : List ℕ) (l : ℕ) → list_all (is_true_in a) assumptions ≡ true → list_any (λ x. x == l) assumptions ≡ true → is_true_in a l ≡ true
assumed-true a [] l h e = absurd (cc)
assumed-true a (x ∷ xs) l h e = by_first (λ q. assumed-true a xs l (and_parts (is_true_in a x) (list_all (is_true_in a) xs) h).1 q) (or_cases (x == l) (list_any (λ y. y == l) xs) e)
  where
    by_first : (list_any (λ y. y == l) xs ≡ true → is_true_in a l ≡ true) → ((x == l) ≡ true) ⊎ (list_any (λ y. y == l) xs ≡ true) → is_true_in a l ≡ true
    by_first rest (inl q) = let same : x ≡ l = eqb-true x l q in rw (← same) (and_parts (is_true_in a x) (list_all (is_true_in a) xs) h).0
    by_first rest (inr q) = rest q

-- no assignment satisfies a clause that contradicts assumptions that it makes true
pub contradicted : (a : List Bool) (assumptions : List ℕ) (c : Option (List ℕ)) → contradicts assumptions c ≡ true → list_all (is_true_in a) assumptions ≡ true → satisfies_clause a c ≡ true → ⊥
contradicted a assumptions None k h s = absurd (cc)
contradicted a assumptions (Some []) k h s = absurd (cc)
contradicted a assumptions (Some (l ∷ ls)) k h s = by_first (λ t. contradicted a assumptions (Some ls) (and_parts (list_any (λ x. x == negated l) assumptions) (contradicts assumptions (Some ls)) k).1 h t) (or_cases (is_true_in a l) (list_any (is_true_in a) ls) s)
  where
    parts : (list_any (λ x. x == negated l) assumptions ≡ true) × (contradicts assumptions (Some ls) ≡ true)
    parts = and_parts (list_any (λ x. x == negated l) assumptions) (contradicts assumptions (Some ls)) k

    by_first : (list_any (is_true_in a) ls ≡ true → ⊥) → (is_true_in a l ≡ true) ⊎ (list_any (is_true_in a) ls ≡ true) → ⊥
    by_first rest (inl t) = both_ways (is_true_in a (negated l)) (negated-value a l ∙ not_from_true (is_true_in a l) t) (assumed-true a assumptions (negated l) h parts.0)
    by_first rest (inr t) = rest t

-- where one of clauses that are entailed contradicts the assumptions, no assignment satisfies both
pub goal-unsatisfiable : (cs : List (Option (List ℕ))) (assumptions : List ℕ) (added : List (Option (List ℕ))) → All (Entails cs) added → list_any (contradicts assumptions) added ≡ true → (a : List Bool) → satisfies_with a cs assumptions ≡ true → ⊥
goal-unsatisfiable cs assumptions [] h g a s = absurd (cc)
goal-unsatisfiable cs assumptions (c ∷ added) h g a s = by_first (λ k. goal-unsatisfiable cs assumptions added (All-tail (Entails cs) c added h) k a s) (or_cases (contradicts assumptions c) (list_any (contradicts assumptions) added) g)
  where
    by_first : (list_any (contradicts assumptions) added ≡ true → ⊥) → (contradicts assumptions c ≡ true) ⊎ (list_any (contradicts assumptions) added ≡ true) → ⊥
    by_first rest (inl k) =
        let parts : (satisfies a cs ≡ true) × (list_all (is_true_in a) assumptions ≡ true) = and_parts (satisfies a cs) (list_all (is_true_in a) assumptions) s in
        contradicted a assumptions c k parts.1 (All-head (Entails cs) c added h a parts.0)
    by_first rest (inr k) = rest k

pub refuted-unsatisfiable : RefutedIsUnsatisfiable
refuted-unsatisfiable cs assumptions lines r = goal-unsatisfiable cs assumptions (added_by lines) (proof-entailed cs lines r.proof).0 r.goal
