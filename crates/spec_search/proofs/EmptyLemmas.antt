use Rattle.std.proofs.Common.{◌≡◌, ℕ, zero, suc, ◌≤◌, Bool, true, false, List, [], ◌∷◌, length, count_by, Option, Some, None, refl, sym, ap, ◌∙◌, subst, arith}
use Rattle.std.specs.Prelude.{All, ◌==◌}
use Rattle.std.proofs.lemmas.List.Elements.{All-nil, All-cons}
use Rattle.mal_base.specs.NumberedClause.{Line}
use Rattle.mal_base.specs.Literals.{var_of}
use Rattle.mal_base.specs.declared.verdict.Verdict.TheVariants.{Unsatisfiable}
use Rattle.spec_node.specs.State.{Node}
use Rattle.spec_node.specs.Value.{level_of}
use Rattle.spec_node.specs.Sound.{level_in, IsSound}
use Rattle.spec_learn.specs.Learning.{derived_id, analysis, line_of}
use Rattle.spec_learn.proofs.ProfileLemmas.{sound-asserts}
use Rattle.spec_search.specs.Step.{Case, case_of, line_by, next_line, after_case, step}
use Rattle.spec_search.specs.Slice.{Sliced, slice, steps_unless, is_over, after_line, used_after}
use Rattle.spec_search.specs.Laws.{EmptyRefutes}
use Rattle.spec_search.proofs.StepLemmas.{by_cases}
use Rattle.spec_search.proofs.SliceLemmas.{after_line-node}
use Rattle.spec_search.proofs.SoundLemmas.{step-sound}
use Rattle.spec_search.proofs.LineLemmas.{over-node, over-some}

-- a node refutes nothing
abbrev RefutesNothing : Node → Type 0
RefutesNothing n = (goal : ℕ) → n.verdict ≡ Some (Unsatisfiable goal) → ⊥

-- the line of a step has a literal
abbrev IsFull : Option Line → Type 0
IsFull o = (l : Line) → o ≡ Some l → 1 ≤ length l.lits

none-full : IsFull None
none-full l e = absurd (cc)

some-full : (m : Line) → 1 ≤ length m.lits → IsFull (Some m)
some-full m h l e = subst (λ (x : Line). 1 ≤ length x.lits) (let same : m ≡ l = cc in same) h

one-counted : (p : ℕ → Bool) (xs : List ℕ) → count_by p xs ≡ 1 → 1 ≤ length xs
one-counted p [] h = absurd (omega arith)
one-counted p (x ∷ xs) h = omega arith

-- a learned clause has a literal of the current level
learned-full : (n : Node) (id : ℕ) → IsSound n → n.conflict ≡ Some id → 1 ≤ level_of n.trail → IsFull (Some (line_of id n))
learned-full n id h q some = some-full (line_of id n) (one-counted (λ l. level_in n.trail (var_of l) == level_of n.trail) (analysis id n).lits (sound-asserts n id h q some).one)

abbrev StepIsFull : Node → Case → Type 0
StepIsFull n c = RefutesNothing (after_case c n) → IsFull (line_by c n)

step-full : (n : Node) → IsSound n → StepIsFull n (case_of n)
step-full n h = by_cases (StepIsFull n) n (record {
  learns = λ id q some f. learned-full n id h q some;
  refutes = λ id q zero f. absurd (f (derived_id n) refl);
  propagates = λ calm low f. none-full;
  drops = λ idle f. none-full;
  restarts = λ idle f. none-full;
  contradicts = λ idle a o fell f. absurd (f (derived_id n) refl);
  assumes = λ idle a o fell f. none-full;
  decides = λ idle v o free f. none-full;
  ends = λ idle o free f. none-full;
})

after_line-full : (o : Option Line) (s : Sliced) → IsFull o → All (λ l. 1 ≤ length l.lits) s.lines → All (λ l. 1 ≤ length l.lits) (after_line o s).lines
after_line-full None s f h = h
after_line-full (Some l) s f h = All-cons (λ x. 1 ≤ length x.lits) l s.lines (f l refl) h

steps-full : (k : ℕ) (over : Bool) (used : ℕ) (n : Node) → is_over used n ≡ over → IsSound n → RefutesNothing (steps_unless k over used n).node → All (λ l. 1 ≤ length l.lits) (steps_unless k over used n).lines
steps-full zero over used n e h f = All-nil (λ l. 1 ≤ length l.lits)
steps-full (suc k) true used n e h f = All-nil (λ l. 1 ≤ length l.lits)
steps-full (suc k) false used n e h f = after_line-full (next_line n) rest (step-full n h nothing) (steps-full k (is_over u (step n)) u (step n) refl (step-sound n h) rest-nothing)
  where
    u : ℕ
    u = used_after used (next_line n)

    rest : Sliced
    rest = steps_unless k (is_over u (step n)) u (step n)

    rest-nothing : RefutesNothing rest.node
    rest-nothing goal v = f goal (ap (λ (m : Node). m.verdict) (after_line-node (next_line n) rest) ∙ v)

    nothing : RefutesNothing (step n)
    nothing goal v =
        let over : is_over u (step n) ≡ true = over-some (step n).verdict (Unsatisfiable goal) _ v in
        let node : rest.node ≡ step n = subst (λ (b : Bool). (steps_unless k b u (step n)).node ≡ step n) (sym over) (over-node k u (step n)) in
        rest-nothing goal (ap (λ (m : Node). m.verdict) node ∙ v)

pub empty-refutes : EmptyRefutes
unfolding slice
empty-refutes n h f = steps-full 1000 (is_over 0 n) 0 n refl h f
