-- What each step keeps and leaves, a slice keeps and leaves.
use Rattle.std.proofs.Common.{◌≡◌, ℕ, zero, suc, Bool, true, false, cond, not, List, [], ◌∷◌, find, Option, Some, None, is_some, refl, sym, ap, ◌∙◌, subst, arith}
use Rattle.std.specs.Prelude.{filter}
use Rattle.std.proofs.lemmas.Bool.{or_parts}
use Rattle.mal_base.specs.declared.verdict.Verdict.{Verdict}
use Rattle.mal_base.specs.declared.verdict.Verdict.TheVariants.{Unsatisfiable}
use Rattle.spec_logic.specs.Refutation.{contradicts}
use Rattle.spec_node.specs.Value.{has_value, first_free as base_free}
use Rattle.spec_node.specs.Load.{counted}
use Rattle.spec_node.specs.Laws.{HasModel}
use Rattle.spec_learn.specs.Learning.{line_of}
use Rattle.spec_learn.specs.Refuting.{core_line}
use Rattle.spec_learn.proofs.ProfileLemmas.{sound-empty}
use Rattle.spec_learn.proofs.CoreClauseLemmas.{core-clause}
use Rattle.spec_search.proofs.ModelLemmas.{ended-model}
use Rattle.spec_guided.specs.Deciding.{free, first_among, first_free}
use Rattle.spec_guided.specs.Laws.{SliceKeepsModel, StepRefutes}
use Rattle.spec_guided.proofs.CaseLemmas.{by_cases}
use Rattle.mal_base.specs.NumberedClause.{Line}
use Rattle.spec_node.specs.State.{Node}
use Rattle.spec_learn.specs.Learning.{derived_id, analysis}
use Rattle.spec_learn.specs.Refuting.{core_analysis}
use Rattle.spec_node.specs.Adding.{with_clause}
use Rattle.spec_node.specs.Laws.{originals}
use Rattle.spec_search.specs.Laws.{Leaves}
use Rattle.spec_search.proofs.ModelLemmas.{originals-with}
use Rattle.spec_guided.specs.State.{Guided}
use Rattle.spec_guided.specs.Step.{Case, Learns, Refutes, Propagates, Unites, Reduces, Restarts, Contradicts, Assumes, Decides, Ends, case_of, line_by, next_line, step, after_case}
use Rattle.spec_search.specs.Slice.{used_after}
use Rattle.spec_guided.specs.Slice.{Sliced, slice_steps, slice, steps_unless, is_over, after_line}
use Rattle.spec_guided.specs.Laws.{IsGuided, StepLeaves, SliceLeaves, SliceKeepsGuided}
use Rattle.spec_guided.specs.Reducing.{to_reduce}
use Rattle.spec_guided.proofs.GuidedLemmas.{step-guided, forgotten-originals, may-go-spare}

pub after_line-guided : (o : Option Line) (s : Sliced) → (after_line o s).guided ≡ s.guided
after_line-guided None s = refl
after_line-guided (Some l) s = refl

-- a slice that goes on has no verdict
going : (used : ℕ) (s : Guided) → is_over used s ≡ false → s.node.verdict ≡ None
going used s h = none-from s.node.verdict (or_parts (is_some s.node.verdict) _ h).0
  where
    none-from : (o : Option Verdict) → is_some o ≡ false → o ≡ None
    none-from None q = refl
    none-from (Some v) q = absurd (cc)

pub steps-keep : (P : Guided → Type 0) → ((s : Guided) → s.node.verdict ≡ None → P s → P (step s)) → (k : ℕ) (over : Bool) (used : ℕ) (s : Guided) → is_over used s ≡ over → P s → P (steps_unless k over used s).guided
steps-keep P f zero over used s e h = h
steps-keep P f (suc k) true used s e h = h
steps-keep P f (suc k) false used s e h =
    let u : ℕ = used_after used (next_line s) in
    let t : Guided = step s in
    subst P (sym (after_line-guided (next_line s) (steps_unless k (is_over u t) u t))) (steps-keep P f k (is_over u t) u t refl (f s (going used s e) h))

pub slice-guided : SliceKeepsGuided
unfolding slice
slice-guided s h = steps-keep IsGuided (λ t none. step-guided t) slice_steps (is_over 0 s) 0 s refl h

-- a derived clause is none of the originals
own : (s : Guided) (lits : List ℕ) → originals (with_clause (record { id = derived_id s.node; lits = lits }) s.node.clauses) ≡ originals s.node.clauses
own s lits = originals-with (record { id = derived_id s.node; lits = lits }) s.node.clauses (omega arith)

case-leaves : (c : Case) (s : Guided) → Leaves s.node (after_case c s).node
case-leaves (Learns id) s = record { index = refl; profile = refl; variables = refl; assumptions = refl; originals = own s (analysis id s.node).lits }
case-leaves (Refutes id) s = record { index = refl; profile = refl; variables = refl; assumptions = refl; originals = own s (analysis id s.node).lits }
case-leaves Propagates s = record { index = refl; profile = refl; variables = refl; assumptions = refl; originals = refl }
case-leaves (Unites e) s = record { index = refl; profile = refl; variables = refl; assumptions = refl; originals = own s (e.lit ∷ []) }
case-leaves Reduces s = record { index = refl; profile = refl; variables = refl; assumptions = refl; originals = forgotten-originals (to_reduce s) s.node (may-go-spare s) }
case-leaves (Restarts v) s = record { index = refl; profile = refl; variables = refl; assumptions = refl; originals = refl }
case-leaves (Contradicts a) s = record { index = refl; profile = refl; variables = refl; assumptions = refl; originals = own s (core_analysis a s.node).lits }
case-leaves (Assumes a) s = record { index = refl; profile = refl; variables = refl; assumptions = refl; originals = refl }
case-leaves (Decides v) s = record { index = refl; profile = refl; variables = refl; assumptions = refl; originals = refl }
case-leaves Ends s = record { index = refl; profile = refl; variables = refl; assumptions = refl; originals = refl }

pub step-leaves : StepLeaves
step-leaves s = case-leaves (case_of s) s

leaves-step : (n : Node) (s : Guided) → s.node.verdict ≡ None → Leaves n s.node → Leaves n (step s).node
leaves-step n s none h = let k : Leaves s.node (step s).node = step-leaves s in record { index = k.index ∙ h.index; profile = k.profile ∙ h.profile; variables = k.variables ∙ h.variables; assumptions = k.assumptions ∙ h.assumptions; originals = k.originals ∙ h.originals }

pub slice-leaves : SliceLeaves
unfolding slice
slice-leaves s = steps-keep (λ t. Leaves s.node t.node) (leaves-step s.node) slice_steps (is_over 0 s) 0 s refl (record { index = refl; profile = refl; variables = refl; assumptions = refl; originals = refl })

-- where no variable is free, none of the order has no value
none-free : (test : ℕ → Bool) (vs : List ℕ) → filter test vs ≡ [] → find test vs ≡ None
none-free test [] h = refl
none-free test (v ∷ vs) h = by_test (none-free test vs) (test v) h
  where
    by_test : (filter test vs ≡ [] → find test vs ≡ None) → (b : Bool) → cond b (v ∷ filter test vs) (filter test vs) ≡ [] → cond {A = Option ℕ} b (Some v) (find test vs) ≡ None
    by_test g true k = absurd (cc)
    by_test g false k = g k

first-none : (s : Guided) → IsGuided s → first_free s ≡ None → base_free s.node.trail s.node.order ≡ None
first-none s h q = subst (λ (vs : List ℕ). base_free s.node.trail vs ≡ None) (sym h.unordered.3) (none-free (λ v. not (has_value s.node.trail v)) (counted 1 s.node.variables) (none-among (free s.node) q))
  where
    none-among : (vs : List ℕ) → first_among s vs ≡ None → vs ≡ []
    none-among [] k = refl
    none-among (v ∷ vs) k = absurd (cc)

-- where a step ends satisfiable, the trail is a model
step-model : (s : Guided) → s.node.verdict ≡ None → IsGuided s → HasModel (step s).node
step-model s none h = by_cases (λ c. HasModel (after_case c s).node) s (record {
  learns = λ id q some v. absurd (cc);
  refutes = λ id q z v. absurd (cc);
  propagates = λ calm low v. absurd (cc);
  unites = λ idle e q v. absurd (cc);
  reduces = λ idle v. absurd (cc);
  restarts = λ idle w v. absurd (cc);
  contradicts = λ idle a e f v. absurd (cc);
  assumes = λ idle a e f v. absurd (cc);
  decides = λ idle w e f v. absurd (cc);
  ends = λ idle e f v. ended-model s.node h.sound.consistent idle e (first-none s h f);
})

record IsModelled (s : Guided) : Type 0 where
  guided : IsGuided s
  model : HasModel s.node

pub slice-model : SliceKeepsModel
unfolding slice
slice-model s h m = (steps-keep IsModelled (λ t none g. record { guided = step-guided t g.guided; model = step-model t none g.guided }) slice_steps (is_over 0 s) 0 s refl (record { guided = h; model = m })).model

same-goal : (x y : ℕ) → Some (Unsatisfiable x) ≡ Some (Unsatisfiable y) → x ≡ y
same-goal x y e = cc

-- what refutes the clauses is the goal
record IsEnding (s : Guided) (c : Case) (goal : ℕ) (l : Line) : Type 0 where
  line : line_by c s ≡ Some l
  number : l.id ≡ goal
  contradicted : contradicts s.node.assumptions (Some l.lits) ≡ true

case-refutes : (s : Guided) (goal : ℕ) → IsGuided s → s.node.verdict ≡ None → (after_case (case_of s) s).node.verdict ≡ Some (Unsatisfiable goal) → (l : Line) × IsEnding s (case_of s) goal l
case-refutes s goal h none = by_cases (λ c. (after_case c s).node.verdict ≡ Some (Unsatisfiable goal) → (l : Line) × IsEnding s c goal l) s (record {
  learns = λ id q some v. absurd (cc);
  refutes = λ id q z v. (line_of id s.node, record { line = refl; number = same-goal (derived_id s.node) goal v; contradicted = ap (λ (lits : List ℕ). contradicts s.node.assumptions (Some lits)) (sound-empty s.node id h.sound q z) });
  propagates = λ calm low v. absurd (cc);
  unites = λ idle e q v. absurd (cc);
  reduces = λ idle v. absurd (cc);
  restarts = λ idle w v. absurd (cc);
  contradicts = λ idle a e f v. (core_line a s.node, record { line = refl; number = same-goal (derived_id s.node) goal v; contradicted = (core-clause s.node a h.sound (record { first = e; fell = f })).assumed });
  assumes = λ idle a e f v. absurd (cc);
  decides = λ idle w e f v. absurd (cc);
  ends = λ idle e f v. absurd (cc);
})

pub step-refutes : StepRefutes
step-refutes s goal h none v = let found = case-refutes s goal h none v in (found.0, record { next = found.1.line; number = found.1.number; contradicted = found.1.contradicted })
