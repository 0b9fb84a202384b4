use Rattle.std.proofs.Common.{◌≡◌, ℕ, zero, suc, ◌+◌, ◌<◌, Bool, true, false, ◌==◌, List, [], ◌∷◌, ◌++◌, length, take, drop, take-append-drop, drop-cons, length-append, refl, sym, ap, subst, ◌∙◌, inl, inr, ◌⊎◌, arith}
use Rattle.std.specs.Prelude.{Contains, get_or, remove}
use Rattle.std.specs.List.{list_all}
use Rattle.std.proofs.lemmas.Bool.{and_parts, and_from, false_from_ne_true, true_from_ne_false, eqb-true}
use Rattle.std.proofs.lemmas.List.{length-take-le, get_or_append_left}
use Rattle.std.proofs.lemmas.List.Elements.{All-contains, All-weaker}
use Rattle.std.proofs.Math.Seq.{get_or-append_seam}
use Rattle.mal_base.specs.NumberedClause.{Line}
use Rattle.spec_logic.specs.Logic.{is_true_in, satisfies, satisfies_with}
use Rattle.spec_logic.specs.Refutation.{IsRefutation}
use Rattle.spec_logic.proofs.RefutationLemmas.{refuted-unsatisfiable}
use Rattle.spec_proof.specs.Log.{proof_of}
use Rattle.spec_course.specs.Supported.{IsModel, IsProof}
use Rattle.spec_course.proofs.RefutedLemmas.{member-there, member-found}
use Rattle.spec_core.specs.Core.{Instance, Narrowed}
use Rattle.spec_core.specs.Right.{IsWitness, IsNarrowed, IsPart, IsMinimal}
use Rattle.spec_core.proofs.RisingLemmas.{has, Inside, begins-with, BeginsWith, inside-from, contains-from, inside-shorter}
use Rattle.spec_core.proofs.RemovedLemmas.{place-of, removed-inside, others-stay, left-out, removed-rises, all-inside, true-with, first-inside}

-- the literals of a model's assumptions are true, and it satisfies the clauses
solved-parts : (w : Instance) (others : List ℕ) (model : List Bool) → IsModel w.formula.variables w.formula.clauses others model → (satisfies model w.formula.clauses ≡ true) × (list_all (is_true_in model) others ≡ true)
solved-parts w others model m = and_parts (satisfies model w.formula.clauses) (list_all (is_true_in model) others) m.satisfied

-- a model satisfies what is inside its assumptions
solves-inside : (w : Instance) (some others : List ℕ) (model : List Bool) → IsModel w.formula.variables w.formula.clauses others model → Inside some others → satisfies_with model w.formula.clauses some ≡ true
solves-inside w some others model m s =
    let parts = solved-parts w others model m in
    and_from (satisfies model w.formula.clauses) (list_all (is_true_in model) some) parts.0 (all-inside (is_true_in model) some others s parts.1)

-- a model without a literal of a refuted core makes it false
pub witness-of : (w : Instance) (c : Narrowed) (i : ℕ) (model : List Bool) → IsNarrowed w c → IsModel w.formula.variables w.formula.clauses (remove c.core i) model → IsWitness w (remove c.core i) (get_or c.core i 0) model
witness-of w c i model n m =
    let parts = solved-parts w (remove c.core i) model m in
    record {
      solves = m;
      fails = false_from_ne_true (is_true_in model (get_or c.core i 0)) (λ t.
          refuted-unsatisfiable w.formula.clauses c.core (proof_of c.lines) n.refuted model
          (and_from (satisfies model w.formula.clauses) (list_all (is_true_in model) c.core) parts.0 (true-with model c.core i parts.1 t)));
    }

-- the core so far stays one with one model more
pub one-model-more : (w : Instance) (c : Narrowed) (model : List Bool) → IsNarrowed w c → length c.models < length c.core → IsModel w.formula.variables w.formula.clauses (remove c.core (length c.models)) model → IsNarrowed w (record { core = c.core; lines = c.lines; models = c.models ++ model ∷ [] })
one-model-more w c model n next m =
    let longer : length (c.models ++ model ∷ []) ≡ length c.models + 1 = length-append c.models (model ∷ []) in
    record {
      rising = n.rising;
      given = n.given;
      refuted = n.refuted;
      few = omega arith;
      witnessed = λ i low. by_place i (cases_lt i (length c.models) (omega arith));
    }
  where
    cases_lt : (i k : ℕ) → i < k + 1 → (i < k) ⊎ (i ≡ k)
    cases_lt zero zero low = inr refl
    cases_lt zero (suc k) low = inl (omega arith)
    cases_lt (suc i) zero low = absurd (omega arith)
    cases_lt (suc i) (suc k) low = up (cases_lt i k (omega arith))
      where
        up : (i < k) ⊎ (i ≡ k) → (suc i < suc k) ⊎ (suc i ≡ suc k)
        up (inl h) = inl (omega arith)
        up (inr h) = inr (ap (λ (x : ℕ). suc x) h)

    by_place : (i : ℕ) → (i < length c.models) ⊎ (i ≡ length c.models) → IsWitness w (remove c.core i) (get_or c.core i 0) (get_or (c.models ++ model ∷ []) i [])
    by_place i (inl low) = subst (IsWitness w (remove c.core i) (get_or c.core i 0)) (sym (get_or_append_left c.models (model ∷ []) [] i low)) (n.witnessed i low)
    by_place i (inr same) = subst (λ (k : ℕ). IsWitness w (remove c.core k) (get_or c.core k 0) (get_or (c.models ++ model ∷ []) k [])) (sym same)
        (subst (IsWitness w (remove c.core (length c.models)) (get_or c.core (length c.models) 0)) (sym (get_or-append_seam c.models model [] [])) (witness-of w c (length c.models) model n m))

-- failed assumptions among a core's literals but one
pub failed-inside : (w : Instance) (others failed : List ℕ) (lines : List Line) → IsProof w.formula.clauses others failed lines → Inside failed others
failed-inside w others failed lines p = inside-from failed others (λ l h. All-contains (Contains others) failed l p.assumed h)

-- they have each literal that has a witness
kept-failed : (w : Instance) (c : Narrowed) (failed : List ℕ) (lines : List Line) → IsNarrowed w c → Inside failed c.core → IsRefutation w.formula.clauses failed (proof_of lines) → (i : ℕ) → i < length c.models → has failed (get_or c.core i 0) ≡ true
kept-failed w c failed lines n inside refuted i low = true_from_ne_false (has failed (get_or c.core i 0)) (λ out.
    let witness = n.witnessed i low in
    refuted-unsatisfiable w.formula.clauses failed (proof_of lines) refuted (get_or c.models i [])
    (solves-inside w failed (remove c.core i) (get_or c.models i []) witness.solves
    (λ x h. others-stay c.core i x (inside x h) (false_from_ne_true (get_or c.core i 0 == x) (λ same. differ x h out (eqb-true (get_or c.core i 0) x same))))))
  where
    differ : (x : ℕ) → has failed x ≡ true → has failed (get_or c.core i 0) ≡ false → get_or c.core i 0 ≡ x → ⊥
    differ x h out same = let now : has failed (get_or c.core i 0) ≡ true = subst (λ (k : ℕ). has failed k ≡ true) (sym same) h in absurd (cc)

-- a list is its first elements, the next, and those after it
pub split-at : (xs : List ℕ) (k : ℕ) → k < length xs → take k xs ++ (get_or xs k 0 ∷ drop (suc k) xs) ≡ xs
split-at xs k low = ap (λ (ys : List ℕ). take k xs ++ ys) (sym (drop-cons xs k 0 low)) ∙ take-append-drop k xs

-- a proof narrows the core: what has witnesses stays in front, and the next literal is out
pub record IsSmaller (w : Instance) (c : Narrowed) (failed : List ℕ) (lines : List Line) : Type 0 where
  pub narrowed : IsNarrowed w (record { core = failed; lines = lines; models = c.models })
  pub less : length failed < length c.core

pub proof-narrows : (w : Instance) (c : Narrowed) (failed : List ℕ) (lines : List Line) → IsNarrowed w c → length c.models < length c.core → IsProof w.formula.clauses (remove c.core (length c.models)) failed lines → IsSmaller w c failed lines
proof-narrows w c failed lines n next p =
    let k : ℕ = length c.models in
    let core : List ℕ = c.core in
    let kept : List ℕ = take k core in
    let more : List ℕ = drop (suc k) core in
    let out : Inside failed (remove core k) = failed-inside w (remove core k) failed lines p in
    let inside : Inside failed core = λ x h. removed-inside core k x (out x h) in
    let stay : (i : ℕ) → i < k → has failed (get_or core i 0) ≡ true = kept-failed w c failed lines n inside p.refuted in
    let begin = begins-with kept more failed (removed-rises core k n.rising) p.rising out (first-inside k core failed (λ i low few. stay i low)) in
    let long : length kept ≡ k = length-take-le k core (omega arith) in
    let shorter = inside-shorter failed (remove core k) p.rising (removed-rises core k n.rising) out in
    let removed : length (remove core k) ≡ length kept + length more = length-append kept more in
    let whole : length kept + suc (length more) ≡ length core = sym (length-append kept (get_or core k 0 ∷ more)) ∙ ap (λ (ys : List ℕ). length ys) (split-at core k next) in
    let enough : length failed ≡ length kept + length begin.rest = ap (λ (ys : List ℕ). length ys) begin.is ∙ length-append kept begin.rest in
    record {
      narrowed = record {
        rising = p.rising;
        given = All-weaker (Contains (remove core k)) (Contains w.assumptions) (λ x h. All-contains (Contains w.assumptions) core x n.given (contains-from (remove core k) core (removed-inside core k) x h)) failed p.assumed;
        refuted = p.refuted;
        few = omega arith;
        witnessed = λ i low. by_place i low (omega arith) inside (same-at i low begin long next);
      };
      less = omega arith;
    }
  where
    same-at : (i : ℕ) → i < length c.models → (b : BeginsWith (take (length c.models) c.core) (drop (suc (length c.models)) c.core) failed) → length (take (length c.models) c.core) ≡ length c.models → length c.models < length c.core → get_or failed i 0 ≡ get_or c.core i 0
    same-at i low b long next =
        ap (λ (ys : List ℕ). get_or ys i 0) b.is
        ∙ get_or_append_left (take (length c.models) c.core) b.rest 0 i (omega arith)
        ∙ sym (get_or_append_left (take (length c.models) c.core) (get_or c.core (length c.models) 0 ∷ drop (suc (length c.models)) c.core) 0 i (omega arith))
        ∙ ap (λ (ys : List ℕ). get_or ys i 0) (split-at c.core (length c.models) next)

    by_place : (i : ℕ) → i < length c.models → i < length failed → Inside failed c.core → get_or failed i 0 ≡ get_or c.core i 0 → IsWitness w (remove failed i) (get_or failed i 0) (get_or c.models i [])
    by_place i low fits inside same =
        let witness = n.witnessed i low in
        let others : Inside (remove failed i) (remove c.core i) = λ x h.
        others-stay c.core i x (inside x (removed-inside failed i x h)) (subst (λ (l : ℕ). (l == x) ≡ false) same (left-out failed i x p.rising fits h)) in
        record {
          solves = record { whole = witness.solves.whole; satisfied = solves-inside w (remove failed i) (remove c.core i) (get_or c.models i []) witness.solves others };
          fails = subst (λ (l : ℕ). is_true_in (get_or c.models i []) l ≡ false) (sym same) witness.fails;
        }

-- failed assumptions are a core so far without models
pub opening-narrows : (w : Instance) (failed : List ℕ) (lines : List Line) → IsProof w.formula.clauses w.assumptions failed lines → IsNarrowed w (record { core = failed; lines = lines; models = [] })
opening-narrows w failed lines p = record {
  rising = p.rising;
  given = p.assumed;
  refuted = p.refuted;
  few = omega arith;
  witnessed = λ i low. absurd (omega arith);
}

-- with a witness for each literal a core is minimal
pub all-minimal : (w : Instance) (c : Narrowed) → IsNarrowed w c → length c.models ≡ length c.core → IsMinimal w c
all-minimal w c n each = record {
  narrowed = n;
  each = each;
  unsatisfiable = refuted-unsatisfiable w.formula.clauses c.core (proof_of c.lines) n.refuted;
  minimal = λ some part. by_place some part (place-of c.core part.left_out.0 (member-there c.core part.left_out.0 part.left_out.1));
}
  where
    by_place : (some : List ℕ) (part : IsPart some c.core) → (i : ℕ) × (i < length c.core) × (get_or c.core i 0 ≡ part.left_out.0) → (model : List Bool) × (satisfies_with model w.formula.clauses some ≡ true)
    by_place some part (i, low, at) =
        let witness = n.witnessed i (omega arith) in (
          get_or c.models i [],
          solves-inside w some (remove c.core i) (get_or c.models i []) witness.solves
              (λ x h. others-stay c.core i x (inside-from some c.core part.there x h) (false_from_ne_true (get_or c.core i 0 == x) (λ same. part.left_out.2 (subst (λ (l : ℕ). Contains some l) (sym (eqb-true (get_or c.core i 0) x same) ∙ at) (member-found some x h))))),
        )
