use Rattle.std.proofs.Common.{◌≡◌, ℕ, ◌+◌, ◌^◌, ◌<◌, Bool, true, false, cond, List, [], ◌∷◌, ◌++◌, length, take, suc, Some, None, Option, refl, sym, ap, ◌∙◌, subst, arith, length-append}
use Rattle.std.specs.Prelude.{All, filter, nat_lt}
use Rattle.std.specs.List.{list_all, list_any}
use Rattle.std.proofs.lemmas.List.Elements.{All-nil, All-cons, All-head, All-tail, All-weaker}
use Rattle.std.proofs.lemmas.Bool.{and_parts, and_from, lt-ltb}
use Rattle.mal_base.specs.declared.trail_entry.TrailEntry.{TrailEntry}
use Rattle.mal_base.specs.NumberedClause.{NumberedClause}
use Rattle.spec_node.specs.Value.{is_true}
use Rattle.spec_node.specs.Batch.{batch}
use Rattle.spec_node.specs.Load.{numbered}
use Rattle.spec_node.specs.Sound.{left_is_true}
use Rattle.spec_node.specs.Laws.{LoadsHoldAll, HandledAreTrue, originals}
use Rattle.spec_node.proofs.LoadLemmas.{numbered-below, load-holds}
use Rattle.spec_node.proofs.SettledLemmas.{true-from_left}

numbered-append : (first : ℕ) (xs ys : List (Option (List ℕ))) → numbered first (xs ++ ys) ≡ numbered first xs ++ numbered (first + length xs) ys
numbered-append first [] ys = ap (λ (k : ℕ). numbered k ys) (let same : first ≡ first + 0 = omega arith in same)
numbered-append first (None ∷ xs) ys = numbered-append (first + 1) xs ys ∙ ap (λ (k : ℕ). numbered (first + 1) xs ++ numbered k ys) (let same : first + 1 + length xs ≡ first + suc (length xs) = omega arith in same)
numbered-append first (Some lits ∷ xs) ys = ap (λ (cs : List NumberedClause). record { id = first; lits = lits } ∷ cs) (numbered-append (first + 1) xs ys ∙ ap (λ (k : ℕ). numbered (first + 1) xs ++ numbered k ys) (let same : first + 1 + length xs ≡ first + suc (length xs) = omega arith in same))

-- what holds of the clauses that pass a test holds of all that pass
unfiltered : (P : NumberedClause → Type 0) (test : NumberedClause → Bool) (xs : List NumberedClause) → All P (filter test xs) → All (λ x. test x ≡ true → P x) xs
unfiltered P test [] h = All-nil (λ x. test x ≡ true → P x)
unfiltered P test (x ∷ xs) h = by_test (unfiltered P test xs) (test x) refl h
  where
    by_test : (All P (filter test xs) → All (λ y. test y ≡ true → P y) xs) → (b : Bool) → test x ≡ b → All P (cond b (x ∷ filter test xs) (filter test xs)) → All (λ y. test y ≡ true → P y) (x ∷ xs)
    by_test f true q k = All-cons (λ y. test y ≡ true → P y) x xs (λ t. All-head P x (filter test xs) k) (f (All-tail P x (filter test xs) k))
    by_test f false q k = All-cons (λ y. test y ≡ true → P y) x xs (λ t. absurd (cc)) (f k)

pub loads-hold_all : LoadsHoldAll
loads-hold_all r clauses n h b =
    let sum : length (clauses ++ r.clauses) ≡ length clauses + length r.clauses = length-append clauses r.clauses in
    let below : All (λ c. c.id < 1 + length clauses) (originals n.clauses) = subst (λ (cs : List NumberedClause). All (λ (c : NumberedClause). c.id < 1 + length clauses) cs) (sym h) (numbered-below (1 + length clauses) 1 clauses (omega arith)) in
    record {
      new = record {
        some = omega arith;
        above = All-weaker (λ c. nat_lt c.id (2 ^ 32) ≡ true → c.id < 1 + length clauses) (λ c. c.id < 2 ^ 32 → c.id < 1 + length clauses) (λ c k l. k (lt-ltb c.id (2 ^ 32) l)) n.clauses (unfiltered (λ c. c.id < 1 + length clauses) (λ c. nat_lt c.id (2 ^ 32)) n.clauses below);
        below = omega arith;
      };
      held = load-holds.originals r (1 + length clauses) n (omega arith) ∙ (ap (λ (cs : List NumberedClause). cs ++ numbered (1 + length clauses) r.clauses) h ∙ sym (numbered-append 1 clauses r.clauses));
    }

all-true : (prefix trail : List TrailEntry) (cs : List NumberedClause) → list_all (left_is_true prefix trail) cs ≡ true → list_all (λ c. list_any (is_true trail) c.lits) cs ≡ true
all-true prefix trail [] h = refl
all-true prefix trail (c ∷ cs) h = let parts = and_parts (left_is_true prefix trail c) (list_all (left_is_true prefix trail) cs) h in and_from _ _ (true-from_left prefix trail c parts.0) (all-true prefix trail cs parts.1)

pub handled-are_true : HandledAreTrue
handled-are_true n h e q k = all-true (take q n.trail) n.trail (batch (take q n.trail) n.clauses) (h.consistent.settled e q k)
