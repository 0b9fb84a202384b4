use Rattle.std.proofs.Common.{◌≡◌, ℕ, ◌+◌, ◌-◌, ◌*◌, ◌%◌, ◌<◌, ◌≤◌, Bool, true, false, cond, not, List, [], ◌∷◌, length, take, map, get_or, zero, suc, Some, None, refl, sym, ap, ◌∙◌, subst, arith, inl, inr, ◌⊎◌}
use Rattle.std.specs.Prelude.{All, filter, nat_lt, ◌^◌}
use Rattle.std.specs.List.{list_all, list_any}
use Rattle.std.proofs.lemmas.List.{get_or-map, take_all}
use Rattle.std.proofs.lemmas.List.Elements.{All-head, All-tail, All-weaker}
use Rattle.std.proofs.lemmas.List.Sorted.{All-permutation, IsPermutation-sym}
use Rattle.std.proofs.lemmas.Bool.{and_parts, le-ltb, and_from, or_left, or_right, or_cases, eqb-true, eqb-false, not-false, not_from_false, false_from_ne_true}
use Rattle.mal_base.specs.Literals.{var_of, literal, has_plus}
use Rattle.spec_logic.specs.Logic.{satisfies, satisfies_clause, is_true_in, value_of}
use Rattle.mal_base.specs.NumberedClause.{NumberedClause}
use Rattle.spec_node.specs.State.{Node}
use Rattle.spec_node.specs.Value.{is_true, is_false, has_value, open_count, next_assumption, first_free}
use Rattle.spec_node.specs.Batch.{is_in_batch}
use Rattle.spec_node.specs.Load.{counted}
use Rattle.spec_node.specs.Load.{numbered}
use Rattle.spec_node.specs.Adding.{with_clause}
use Rattle.spec_learn.specs.Learning.{derived_id, analysis}
use Rattle.spec_learn.specs.Refuting.{core_analysis}
use Rattle.spec_search.specs.Step.{Case, Learns, Refutes, Propagates, Drops, Restarts, Contradicts, Assumes, Decides, Ends, case_of, after_case, step}
use Rattle.spec_search.specs.Slice.{steps_from, is_over, slice}
use Rattle.spec_node.specs.Model.{model_of}
use Rattle.spec_node.specs.Sound.{EachAfter, IsPlaced, IsLiteralOf, AreLiteralsOf, left_is_true, IsConsistent, IsSound}
use Rattle.spec_node.specs.Laws.{formula_of, originals, IsModel, HasModel}
use Rattle.spec_search.specs.Laws.{Leaves, SliceKeepsModel, SliceSolves}
use Rattle.spec_node.proofs.LoadLemmas.{numbers-mean_same}
use Rattle.spec_node.proofs.TrailLemmas.{true-same, placed-range, true_or_false}
use Rattle.spec_node.proofs.FindLemmas.{find-none, counted-at}
use Rattle.spec_node.proofs.SettledLemmas.{All-unfiltered, settled-true, valued-cases}
use Rattle.spec_search.proofs.StepLemmas.{IsIdle, by_cases}
use Rattle.spec_search.proofs.SliceLemmas.{steps-keep}
use Rattle.spec_search.proofs.SoundLemmas.{step-sound}
use Rattle.spec_search.proofs.DropLemmas.{drops-hold}

length-counted : (first n : ℕ) → length (counted first n) ≡ n
length-counted first zero = refl
length-counted first (suc n) = ap suc (length-counted (first + 1) n)

get_or-counted : (first n i : ℕ) → i < n → get_or (counted first n) i 0 ≡ first + i
get_or-counted first zero i h = absurd (omega arith)
get_or-counted first (suc n) zero h = omega arith
get_or-counted first (suc n) (suc i) h = let u = get_or-counted (first + 1) n i (omega arith) in omega arith

-- a model has a variable's value at its place
value_of-counted : (f : ℕ → Bool) (n v : ℕ) → 1 ≤ v → v ≤ n → value_of (map f (counted 1 n)) v ≡ f v
value_of-counted f n v low high = get_or-map f (counted 1 n) (v - 1) 0 false (let u = length-counted 1 n in omega arith) ∙ ap f (let u = get_or-counted 1 n (v - 1) (omega arith) in omega arith)

-- what is true on the trail is true in the model
pub true_in-model : (n : Node) (l : ℕ) → EachAfter (IsPlaced n.variables) [] n.trail → is_true n.trail l ≡ true → is_true_in (model_of n) l ≡ true
true_in-model n l h t = by_sign (has_plus l) refl
  where
    range : IsLiteralOf n.variables l
    range = placed-range n.variables n.trail [] l h t

    value : value_of (model_of n) (var_of l) ≡ is_true n.trail (2 * var_of l)
    value = value_of-counted (λ v. is_true n.trail (literal v true)) n.variables (var_of l) range.low range.high

    by_sign : (b : Bool) → has_plus l ≡ b → cond b (value_of (model_of n) (var_of l)) (not (value_of (model_of n) (var_of l))) ≡ true
    by_sign true e = let u = eqb-true (l % 2) 0 e in let same : 2 * var_of l ≡ l = omega arith in value ∙ (ap (is_true n.trail) same ∙ t)
    by_sign false e =
        let u = eqb-false (l % 2) 0 e in
        let vars : var_of (2 * var_of l) ≡ var_of l = omega arith in
        not_from_false _ (value ∙ false_from_ne_true _ (λ k. let same : 2 * var_of l ≡ l = true-same n.variables n.trail [] (2 * var_of l) l h vars k t in absurd (omega arith)))

any_in-model : (n : Node) (lits : List ℕ) → EachAfter (IsPlaced n.variables) [] n.trail → list_any (is_true n.trail) lits ≡ true → list_any (is_true_in (model_of n)) lits ≡ true
any_in-model n [] h t = t
any_in-model n (l ∷ ls) h t = by_first (any_in-model n ls h) (or_cases (is_true n.trail l) (list_any (is_true n.trail) ls) t)
  where
    by_first : (list_any (is_true n.trail) ls ≡ true → list_any (is_true_in (model_of n)) ls ≡ true) → (is_true n.trail l ≡ true) ⊎ (list_any (is_true n.trail) ls ≡ true) → list_any (is_true_in (model_of n)) (l ∷ ls) ≡ true
    by_first f (inl k) = or_left _ _ (true_in-model n l h k)
    by_first f (inr k) = or_right _ _ (f k)

-- where the search ends every variable has a value
all-valued : (n : Node) → IsConsistent n → first_free n.trail n.order ≡ None → (l : ℕ) → IsLiteralOf n.variables l → (is_true n.trail l ≡ true) ⊎ (is_false n.trail l ≡ true)
all-valued n h e l k =
    let valued = λ (v : ℕ). has_value n.trail v ≡ true in
    let free : All (λ v. not (has_value n.trail v) ≡ false) n.order = find-none (λ v. not (has_value n.trail v)) n.order e in
    let order : All (λ v. has_value n.trail v ≡ true) n.order = All-weaker (λ v. not (has_value n.trail v) ≡ false) (λ v. has_value n.trail v ≡ true) (λ v q. not-false (has_value n.trail v) q) n.order free in
    let all : All (λ v. has_value n.trail v ≡ true) (counted 1 n.variables) = All-permutation (λ v. has_value n.trail v ≡ true) n.order (counted 1 n.variables) (IsPermutation-sym (counted 1 n.variables) n.order h.order) order in
    true_or_false n.trail l (var_of l) refl (counted-at (λ v. has_value n.trail v ≡ true) 1 n.variables (var_of l) all k.low (let high : var_of l ≤ n.variables = k.high in omega arith))

-- where the search ends each clause has a true literal
clause-true : (n : Node) → IsConsistent n → IsIdle n → first_free n.trail n.order ≡ None → (c : NumberedClause) → AreLiteralsOf n.variables c.lits → ((q : ℕ) → q < n.processed → is_in_batch (take q n.trail) c ≡ true → left_is_true (take q n.trail) n.trail c ≡ true) → list_any (is_true n.trail) c.lits ≡ true
clause-true n h idle e c k s = by_case (valued-cases n.trail c.lits (All-weaker (IsLiteralOf n.variables) (λ l. (is_true n.trail l ≡ true) ⊎ (is_false n.trail l ≡ true)) (all-valued n h e) c.lits k.within))
  where
    by_case : (list_any (is_true n.trail) c.lits ≡ true) ⊎ (open_count n.trail c.lits ≡ 0) → list_any (is_true n.trail) c.lits ≡ true
    by_case (inl t) = t
    by_case (inr z) = settled-true n.trail c k.rising n.processed h.handled s (length n.trail) idle.handled (rw (take_all (length n.trail) n.trail (omega arith)) (omega arith))

clauses-true : (n : Node) → IsConsistent n → IsIdle n → first_free n.trail n.order ≡ None → All (λ c. list_any (is_true n.trail) c.lits ≡ true) n.clauses
clauses-true n h idle e k d l = clause-true n h idle e (get_or n.clauses k d) (h.clauses k d l) (λ q m. All-unfiltered (is_in_batch (take q n.trail)) (left_is_true (take q n.trail) n.trail) n.clauses (h.settled idle.calm q m) k d l)

pub satisfied-from_all : (a : List Bool) (cs : List NumberedClause) → All (λ c. list_any (is_true_in a) c.lits ≡ true) cs → satisfies a (formula_of cs) ≡ true
satisfied-from_all a [] h = refl
satisfied-from_all a (c ∷ cs) h = and_from _ _ (All-head (λ x. list_any (is_true_in a) x.lits ≡ true) c cs h) (satisfied-from_all a cs (All-tail (λ x. list_any (is_true_in a) x.lits ≡ true) c cs h))

assumed-from_none : (n : Node) (xs : List ℕ) → EachAfter (IsPlaced n.variables) [] n.trail → All (λ l. not (is_true n.trail l) ≡ false) xs → list_all (is_true_in (model_of n)) xs ≡ true
assumed-from_none n [] h k = refl
assumed-from_none n (x ∷ xs) h k = and_from _ _ (true_in-model n x h (not-false (is_true n.trail x) (All-head (λ l. not (is_true n.trail l) ≡ false) x xs k))) (assumed-from_none n xs h (All-tail (λ l. not (is_true n.trail l) ≡ false) x xs k))

-- where the search ends the trail is a model
pub ended-model : (n : Node) → IsConsistent n → IsIdle n → next_assumption n.trail n.assumptions ≡ None → first_free n.trail n.order ≡ None → IsModel (model_of n) n.clauses n.assumptions
ended-model n h idle o f = record {
  satisfied = satisfied-from_all (model_of n) n.clauses (All-weaker (λ c. list_any (is_true n.trail) c.lits ≡ true) (λ c. list_any (is_true_in (model_of n)) c.lits ≡ true) (λ c k. any_in-model n c.lits h.placed k) n.clauses (clauses-true n h idle f));
  assumed = assumed-from_none n n.assumptions h.placed (find-none (λ l. not (is_true n.trail l)) n.assumptions o);
}

-- where a step ends satisfiable, the trail is a model
pub step-model : (n : Node) → n.verdict ≡ None → IsSound n → HasModel (step n)
step-model n e h = by_cases (λ c. HasModel (after_case c n)) n (record {
  learns = λ id q some v. absurd (cc);
  refutes = λ id q zero v. absurd (cc);
  propagates = λ calm low v. absurd (cc);
  drops = λ idle v. absurd (cc);
  restarts = λ idle v. absurd (cc);
  contradicts = λ idle a o f v. absurd (cc);
  assumes = λ idle a o f v. absurd (cc);
  decides = λ idle a o f v. absurd (cc);
  ends = λ idle o f v. ended-model n h.consistent idle o f;
})

-- a sound node whose trail is a model where it is satisfiable
record IsModelled (n : Node) : Type 0 where
  pub sound : IsSound n
  pub model : HasModel n

pub slice-keeps_model : SliceKeepsModel
unfolding slice
slice-keeps_model n h m = (steps-keep IsModelled (λ x e g. record { sound = step-sound x g.sound; model = step-model x e g.sound }) 1000 (is_over 0 n) 0 n refl (record { sound = h; model = m })).model

-- a derived clause is none of the originals
pub originals-with : (c : NumberedClause) (cs : List NumberedClause) → 2 ^ 32 ≤ c.id → originals (with_clause c cs) ≡ originals cs
originals-with c [] h =
    let no : nat_lt c.id (2 ^ 32) ≡ false = le-ltb c.id (2 ^ 32) h in
    rw no refl
originals-with c (d ∷ ds) h = by_place (originals-with c ds h) (nat_lt c.id d.id)
  where
    no : nat_lt c.id (2 ^ 32) ≡ false
    no = le-ltb c.id (2 ^ 32) h

    by_place : originals (with_clause c ds) ≡ originals ds → (b : Bool) → originals (cond b (c ∷ (d ∷ ds)) (d ∷ with_clause c ds)) ≡ originals (d ∷ ds)
    by_place k true = rw no refl
    by_place k false = by_test (nat_lt d.id (2 ^ 32))
      where
        by_test : (b : Bool) → cond b (d ∷ originals (with_clause c ds)) (originals (with_clause c ds)) ≡ cond b (d ∷ originals ds) (originals ds)
        by_test true = ap (λ (xs : List NumberedClause). d ∷ xs) k
        by_test false = k

pub case-leaves : (c : Case) (n : Node) → Leaves n (after_case c n)
case-leaves (Learns id) n = record { index = refl; profile = refl; variables = refl; assumptions = refl; originals = originals-with (record { id = derived_id n; lits = (analysis id n).lits }) n.clauses (omega arith) }
case-leaves (Refutes id) n = record { index = refl; profile = refl; variables = refl; assumptions = refl; originals = originals-with (record { id = derived_id n; lits = (analysis id n).lits }) n.clauses (omega arith) }
case-leaves Propagates n = record { index = refl; profile = refl; variables = refl; assumptions = refl; originals = refl }
case-leaves Drops n = record { index = refl; profile = refl; variables = refl; assumptions = refl; originals = (drops-hold n).originals }
case-leaves Restarts n = record { index = refl; profile = refl; variables = refl; assumptions = refl; originals = refl }
case-leaves (Contradicts a) n = record { index = refl; profile = refl; variables = refl; assumptions = refl; originals = originals-with (record { id = derived_id n; lits = (core_analysis a n).lits }) n.clauses (omega arith) }
case-leaves (Assumes a) n = record { index = refl; profile = refl; variables = refl; assumptions = refl; originals = refl }
case-leaves (Decides v) n = record { index = refl; profile = refl; variables = refl; assumptions = refl; originals = refl }
case-leaves Ends n = record { index = refl; profile = refl; variables = refl; assumptions = refl; originals = refl }

pub step-leaves : (n : Node) → Leaves n (step n)
step-leaves n = case-leaves (case_of n) n

leaves-step : (n m : Node) → m.verdict ≡ None → Leaves n m → Leaves n (step m)
leaves-step n m none h = let s = step-leaves m in record { index = s.index ∙ h.index; profile = s.profile ∙ h.profile; variables = s.variables ∙ h.variables; assumptions = s.assumptions ∙ h.assumptions; originals = s.originals ∙ h.originals }

pub steps-leave : (k used : ℕ) (n : Node) → Leaves n (steps_from k used n).node
steps-leave k used n = steps-keep (Leaves n) (leaves-step n) k (is_over used n) used n refl (record { index = refl; profile = refl; variables = refl; assumptions = refl; originals = refl })

pub slice-leaves : (n : Node) → Leaves n (slice n).node
unfolding slice
slice-leaves n = steps-leave 1000 0 n

-- what satisfies clauses satisfies those of them that pass a test
satisfies-filter : (a : List Bool) (test : NumberedClause → Bool) (cs : List NumberedClause) → satisfies a (formula_of cs) ≡ true → satisfies a (formula_of (filter test cs)) ≡ true
satisfies-filter a test [] h = refl
satisfies-filter a test (c ∷ cs) h = by_test (satisfies-filter a test cs) (test c) (and_parts (satisfies_clause a (Some c.lits)) (satisfies a (formula_of cs)) h)
  where
    by_test : (satisfies a (formula_of cs) ≡ true → satisfies a (formula_of (filter test cs)) ≡ true) → (b : Bool) → (satisfies_clause a (Some c.lits) ≡ true) × (satisfies a (formula_of cs) ≡ true) → satisfies a (formula_of (cond b (c ∷ filter test cs) (filter test cs))) ≡ true
    by_test f true k = and_from _ _ k.0 (f k.1)
    by_test f false k = f k.1

pub slice-solves : SliceSolves
slice-solves n clauses h m same v =
    let k : Leaves n (slice n).node = slice-leaves n in
    let model : IsModel (model_of (slice n).node) (slice n).node.clauses (slice n).node.assumptions = slice-keeps_model n h m v in
    let front : satisfies (model_of (slice n).node) (formula_of (originals (slice n).node.clauses)) ≡ true = satisfies-filter (model_of (slice n).node) (λ c. nat_lt c.id (2 ^ 32)) (slice n).node.clauses model.satisfied in
    let held : satisfies (model_of (slice n).node) (formula_of (numbered 1 clauses)) ≡ true = subst (λ (cs : List NumberedClause). satisfies (model_of (slice n).node) (formula_of cs) ≡ true) (k.originals ∙ same) front in
    and_from _ _ (sym (numbers-mean_same.by_number (model_of (slice n).node) 1 clauses) ∙ held) (subst (λ (xs : List ℕ). list_all (is_true_in (model_of (slice n).node)) xs ≡ true) k.assumptions model.assumed)
