use Rattle.std.proofs.Common.{◌≡◌, ℕ, zero, suc, ◌+◌, ◌*◌, ◌^◌, ◌<◌, Bool, true, false, List, [], ◌∷◌, ◌++◌, length, Option, Some, None, is_some, refl, sym, ap, ◌∙◌, subst, arith}
use Rattle.std.specs.Prelude.{All, Contains, ◌||◌}
use Rattle.std.proofs.lemmas.List.Elements.{All-nil, All-cons, All-weaker, All-contains, All-contains_itself, Contains-push}
use Rattle.mal_base.specs.NumberedClause.{NumberedClause, Line}
use Rattle.mal_base.specs.declared.verdict.Verdict.{Verdict}
use Rattle.mal_base.specs.declared.verdict.Verdict.TheVariants.{Unsatisfiable}
use Rattle.spec_node.specs.State.{Node}
use Rattle.spec_node.specs.Sound.{AreLiteralsOf, IsSound}
use Rattle.spec_learn.specs.Learning.{derived_id, line_of}
use Rattle.spec_learn.proofs.ProfileLemmas.{sound-derived, sound-empty}
use Rattle.spec_learn.proofs.SoundParts.{with-last, below-derived}
use Rattle.spec_search.specs.Step.{Case, Learns, Refutes, Propagates, Drops, Restarts, Contradicts, Assumes, Decides, Ends, case_of, line_by, next_line, after_case, step}
use Rattle.spec_search.specs.Slice.{Sliced, slice, steps_unless, is_over, after_line, used_after}
use Rattle.spec_search.specs.Derived.{with_line, with_lines, IsDerivedFrom, AreDerivedFrom}
use Rattle.spec_search.specs.Laws.{LinesAreDerived, HeldAreOfLines, LinesStayWithin, IsRefutedBy, SliceRefutes, AreNumbered, LinesAreCounted}
use Rattle.spec_search.proofs.StepLemmas.{by_cases}
use Rattle.spec_search.proofs.SliceLemmas.{after_line-node}
use Rattle.spec_search.proofs.SoundLemmas.{step-sound}
use Rattle.spec_search.proofs.HintLemmas.{sound-hints, core-hints}
use Rattle.spec_search.proofs.ModelLemmas.{step-leaves}
use Rattle.spec_search.proofs.DropLemmas.{drops-hold}
use Rattle.spec_search.proofs.OverLemmas.{IsOver, Stepped, derived-more, over-without_line, over-with_line, own-over}
use Rattle.spec_logic.specs.Refutation.{contradicts}
use Rattle.spec_learn.specs.Refuting.{core_line}
use Rattle.spec_learn.specs.CoreLaws.{HasFailed}
use Rattle.spec_learn.proofs.CoreLemmas.{core-derived}
use Rattle.spec_learn.proofs.CoreClauseLemmas.{core-clause}
use Rattle.std.specs.Option.{option_map_or}

-- the line of a waiting conflict of a sound node
line-derived : (n : Node) (id : ℕ) → IsSound n → n.conflict ≡ Some id → IsDerivedFrom n.clauses (line_of id n)
line-derived n id h q = record { derived = sound-derived n id h q; hints = sound-hints n id h q; above = below-derived n.serial n.index n.clauses h.ranged.serial }

-- the line of a failed assumption of a sound node
core-line : (n : Node) (a : ℕ) → IsSound n → HasFailed n a → IsDerivedFrom n.clauses (core_line a n)
core-line n a h f = record { derived = core-derived n a h f; hints = core-hints n a h f; above = below-derived n.serial n.index n.clauses h.ranged.serial }

-- what a step derives, and what it leaves of the clauses held
step-derives : (n : Node) → IsSound n → Stepped n (step n) (next_line n)
step-derives n h = by_cases (λ c. Stepped n (after_case c n) (line_by c n)) n (record {
  learns = λ id q some. (line-derived n id h q, refl, refl, omega arith);
  refutes = λ id q zero. (line-derived n id h q, refl, refl, omega arith);
  propagates = λ calm low. (All-contains_itself n.clauses, refl);
  drops = λ idle. ((drops-hold n).was, refl);
  restarts = λ idle. (All-contains_itself n.clauses, refl);
  contradicts = λ idle a o f. (core-line n a h (record { first = o; fell = f }), refl, refl, omega arith);
  assumes = λ idle a o f. (All-contains_itself n.clauses, refl);
  decides = λ idle v o f. (All-contains_itself n.clauses, refl);
  ends = λ idle o f. (All-contains_itself n.clauses, refl);
})

-- what holds at the end of a slice over all clauses held, and with each line after them, holds of the whole
module _ (P : List NumberedClause → Sliced → Type 0) (end : (held : List NumberedClause) (n : Node) → IsOver held n → P held (record { node = n; lines = [] })) (more : (held : List NumberedClause) (n : Node) (l : Line) (s : Sliced) → IsOver held n → l.id ≡ derived_id n → IsDerivedFrom n.clauses l → P (with_line held l) s → P held (after_line (Some l) s)) where
  after_line-over : (held : List NumberedClause) (n m : Node) (o : Option Line) (s : Sliced) → IsSound n → IsOver held n → Stepped n m o → ((cs : List NumberedClause) → IsOver cs m → P cs s) → P held (after_line o s)
  after_line-over held n m None s h v k f = f held (over-without_line held n m v k)
  after_line-over held n m (Some l) s h v k f = more held n l s v k.1 k.0 (f (with_line held l) (over-with_line held n m l h v k))

  steps-over : (k : ℕ) (over : Bool) (used : ℕ) (n : Node) (held : List NumberedClause) → IsSound n → IsOver held n → P held (steps_unless k over used n)
  steps-over zero over used n held h v = end held n v
  steps-over (suc k) true used n held h v = end held n v
  steps-over (suc k) false used n held h v =
      let u : ℕ = used_after used (next_line n) in
      let m : Node = step n in
      after_line-over held n m (next_line n) (steps_unless k (is_over u m) u m) h v (step-derives n h) (λ cs w. steps-over k (is_over u m) u m cs (step-sound n h) w)

pub lines-derived : LinesAreDerived
unfolding slice
lines-derived n h = steps-over (λ held s. AreDerivedFrom held s.lines) (λ held m v. tt) (λ held m l s v is d rest. (derived-more held m l v is d, rest)) 1000 (is_over 0 n) 0 n n.clauses h (own-over n h)

pub held-of_lines : HeldAreOfLines
unfolding slice
held-of_lines n h = steps-over (λ held s. All (Contains (with_lines held s.lines)) s.node.clauses) (λ held m v. v.within) (λ held m l s v is d rest. rest) 1000 (is_over 0 n) 0 n n.clauses h (own-over n h)

-- the clause of a line is held right after its step, by a sound node
line-within : (n m : Node) (l : Line) → IsSound n → IsSound m → m.variables ≡ n.variables → Stepped n m (Some l) → AreLiteralsOf n.variables l.lits
line-within n m l h k v s =
    let same : l.id ≡ derived_id n = s.1 in
    let new : NumberedClause = record { id = l.id; lits = l.lits } in
    let is : m.clauses ≡ n.clauses ++ new ∷ [] = s.2 ∙ with-last new n.clauses (All-weaker (λ c. c.id < derived_id n) (λ c. c.id < l.id) (λ c q. omega arith) n.clauses (below-derived n.serial n.index n.clauses h.ranged.serial)) in
    subst (λ (x : ℕ). AreLiteralsOf x l.lits) v (All-contains (λ c. AreLiteralsOf m.variables c.lits) m.clauses new k.consistent.clauses (subst (λ (cs : List NumberedClause). Contains cs new) (sym is) (Contains-push n.clauses new)))

after_line-within : (n m : Node) (o : Option Line) (s : Sliced) → IsSound n → IsSound m → m.variables ≡ n.variables → Stepped n m o → All (λ l. AreLiteralsOf m.variables l.lits) s.lines → All (λ l. AreLiteralsOf n.variables l.lits) (after_line o s).lines
after_line-within n m None s h k v d a = subst (λ (x : ℕ). All (λ (l : Line). AreLiteralsOf x l.lits) s.lines) v a
after_line-within n m (Some l) s h k v d a = All-cons (λ x. AreLiteralsOf n.variables x.lits) l s.lines (line-within n m l h k v d) (subst (λ (x : ℕ). All (λ (y : Line). AreLiteralsOf x y.lits) s.lines) v a)

steps-within : (k : ℕ) (over : Bool) (used : ℕ) (n : Node) → IsSound n → All (λ l. AreLiteralsOf n.variables l.lits) (steps_unless k over used n).lines
steps-within zero over used n h = All-nil (λ l. AreLiteralsOf n.variables l.lits)
steps-within (suc k) true used n h = All-nil (λ l. AreLiteralsOf n.variables l.lits)
steps-within (suc k) false used n h =
    let u : ℕ = used_after used (next_line n) in
    let m : Node = step n in
    after_line-within n m (next_line n) (steps_unless k (is_over u m) u m) h (step-sound n h) (step-leaves n).variables (step-derives n h) (steps-within k (is_over u m) u m (step-sound n h))

pub lines-stay_within : LinesStayWithin
unfolding slice
lines-stay_within n h = steps-within 1000 (is_over 0 n) 0 n h

-- a line contradicts assumptions under the number of a goal
record IsGoal (assumptions : List ℕ) (goal : ℕ) (l : Line) : Type 0 where
  pub number : l.id ≡ goal
  pub contradicted : contradicts assumptions (Some l.lits) ≡ true

-- a step that refutes the clauses derives the line of the goal
abbrev Refuting : ℕ → Node → Case → Type 0
Refuting goal n c = (after_case c n).verdict ≡ Some (Unsatisfiable goal) → (l : Line) × (line_by c n ≡ Some l) × IsGoal n.assumptions goal l

same-goal : (x y : ℕ) → Some (Unsatisfiable x) ≡ Some (Unsatisfiable y) → x ≡ y
same-goal x y e = cc

step-refutes : (n : Node) (goal : ℕ) → IsSound n → n.verdict ≡ None → Refuting goal n (case_of n)
step-refutes n goal h none = by_cases (Refuting goal n) n (record {
  learns = λ id q some v. absurd (cc);
  refutes = λ id q zero v. (line_of id n, refl, record { number = same-goal (derived_id n) goal v; contradicted = ap (λ (lits : List ℕ). contradicts n.assumptions (Some lits)) (sound-empty n id h q zero) });
  propagates = λ calm low v. absurd (cc);
  drops = λ idle v. absurd (cc);
  restarts = λ idle v. absurd (cc);
  contradicts = λ idle a o f v. (core_line a n, refl, record { number = same-goal (derived_id n) goal v; contradicted = (core-clause n a h (record { first = o; fell = f })).assumed });
  assumes = λ idle a o f v. absurd (cc);
  decides = λ idle a o f v. absurd (cc);
  ends = λ idle o f v. absurd (cc);
})

after_line-refuted : (assumptions : List ℕ) (goal : ℕ) (o : Option Line) (s : Sliced) → IsRefutedBy assumptions goal s.lines → IsRefutedBy assumptions goal (after_line o s).lines
after_line-refuted assumptions goal None s h = h
after_line-refuted assumptions goal (Some l) s h = record { before = l ∷ h.before; line = h.line; last = ap (λ (ls : List Line). l ∷ ls) h.last; number = h.number; contradicted = h.contradicted }

-- a slice that is over derives nothing more
pub over-lines : (k used : ℕ) (n : Node) → (steps_unless k true used n).lines ≡ []
over-lines zero used n = refl
over-lines (suc k) used n = refl

pub over-node : (k used : ℕ) (n : Node) → (steps_unless k true used n).node ≡ n
over-node zero used n = refl
over-node (suc k) used n = refl

last-refuted : (assumptions : List ℕ) (goal : ℕ) (l : Line) (s : Sliced) (o : Option Line) → o ≡ Some l → s.lines ≡ [] → IsGoal assumptions goal l → IsRefutedBy assumptions goal (after_line o s).lines
last-refuted assumptions goal l s None e f g = absurd (cc)
last-refuted assumptions goal l s (Some m) e f g = record { before = []; line = l; last = first m (let same : m ≡ l = cc in same) f; number = g.number; contradicted = g.contradicted }
  where
    first : (x : Line) → x ≡ l → s.lines ≡ [] → x ∷ s.lines ≡ l ∷ []
    first x e f = ap (λ (y : Line). y ∷ s.lines) e ∙ ap (λ (ls : List Line). l ∷ ls) f

pub over-some : (v : Option Verdict) (x : Verdict) (b : Bool) → v ≡ Some x → (is_some v || b) ≡ true
over-some None x b e = absurd (cc)
over-some (Some y) x b e = refl

steps-refute : (k : ℕ) (over : Bool) (used : ℕ) (n : Node) (goal : ℕ) → is_over used n ≡ over → IsSound n → n.verdict ≡ None → (steps_unless k over used n).node.verdict ≡ Some (Unsatisfiable goal) → IsRefutedBy n.assumptions goal (steps_unless k over used n).lines
steps-refute zero over used n goal e h none v = absurd (cc)
steps-refute (suc k) true used n goal e h none v = absurd (cc)
steps-refute (suc k) false used n goal e h none v = by_verdict (λ q w. steps-refute k (is_over (used_after used (next_line n)) (step n)) (used_after used (next_line n)) (step n) goal refl (step-sound n h) q w) (step n).verdict refl
  where
    u : ℕ
    u = used_after used (next_line n)

    rest : Sliced
    rest = steps_unless k (is_over u (step n)) u (step n)

    ends : rest.node.verdict ≡ Some (Unsatisfiable goal)
    ends = sym (ap (λ (m : Node). m.verdict) (after_line-node (next_line n) rest)) ∙ v

    by_verdict : ((step n).verdict ≡ None → rest.node.verdict ≡ Some (Unsatisfiable goal) → IsRefutedBy (step n).assumptions goal rest.lines) → (w : Option Verdict) → (step n).verdict ≡ w → IsRefutedBy n.assumptions goal (after_line (next_line n) rest).lines
    by_verdict f None q = after_line-refuted n.assumptions goal (next_line n) rest (subst (λ (xs : List ℕ). IsRefutedBy xs goal rest.lines) (step-leaves n).assumptions (f q ends))
    by_verdict f (Some x) q =
        let over : is_over u (step n) ≡ true = over-some (step n).verdict x _ q in
        let node : rest.node ≡ step n = subst (λ (b : Bool). (steps_unless k b u (step n)).node ≡ step n) (sym over) (over-node k u (step n)) in
        let lines : rest.lines ≡ [] = subst (λ (b : Bool). (steps_unless k b u (step n)).lines ≡ []) (sym over) (over-lines k u (step n)) in
        let found = step-refutes n goal h none (sym (ap (λ (m : Node). m.verdict) node) ∙ ends) in
        last-refuted n.assumptions goal found.0 rest (next_line n) found.1 lines found.2

pub slice-refutes : SliceRefutes
unfolding slice
slice-refutes n goal h none v = steps-refute 1000 (is_over 0 n) 0 n goal refl h none v

-- the number of the line of a step, and the serial after it
record IsNumbered (n m : Node) (o : Option Line) : Type 0 where
  pub index : m.index ≡ n.index
  pub number : (l : Line) → o ≡ Some l → l.id ≡ 2 ^ 32 + n.serial * 64 + n.index
  pub serial : m.serial ≡ n.serial + option_map_or (λ (l : Line). 1) o 0

some-number : (n : Node) (m l : Line) → m.id ≡ 2 ^ 32 + n.serial * 64 + n.index → Some m ≡ Some l → l.id ≡ 2 ^ 32 + n.serial * 64 + n.index
some-number n m l h e = let same : m ≡ l = cc in ap (λ (x : Line). x.id) (sym same) ∙ h

case-numbered : (c : Case) (n : Node) → IsNumbered n (after_case c n) (line_by c n)
case-numbered (Learns id) n = record { index = refl; number = λ l e. some-number n (line_of id n) l refl e; serial = refl }
case-numbered (Refutes id) n = record { index = refl; number = λ l e. some-number n (line_of id n) l refl e; serial = refl }
case-numbered Propagates n = record { index = refl; number = λ l e. absurd (cc); serial = omega arith }
case-numbered Drops n = record { index = refl; number = λ l e. absurd (cc); serial = omega arith }
case-numbered Restarts n = record { index = refl; number = λ l e. absurd (cc); serial = omega arith }
case-numbered (Contradicts a) n = record { index = refl; number = λ l e. some-number n (core_line a n) l refl e; serial = refl }
case-numbered (Assumes a) n = record { index = refl; number = λ l e. absurd (cc); serial = omega arith }
case-numbered (Decides v) n = record { index = refl; number = λ l e. absurd (cc); serial = omega arith }
case-numbered Ends n = record { index = refl; number = λ l e. absurd (cc); serial = omega arith }

record AreCounted (n : Node) (s : Sliced) : Type 0 where
  pub numbered : AreNumbered n.serial n.index s.lines
  pub serial : s.node.serial ≡ n.serial + length s.lines

after_line-counted : (n m : Node) (o : Option Line) (s : Sliced) → IsNumbered n m o → AreCounted m s → AreCounted n (after_line o s)
after_line-counted n m None s h k = record {
  numbered = subst (λ (i : ℕ). AreNumbered n.serial i s.lines) h.index (subst (λ (x : ℕ). AreNumbered x m.index s.lines) (let same : m.serial ≡ n.serial = omega (arith, h.serial) in same) k.numbered);
  serial = omega (arith, h.serial, k.serial);
}
after_line-counted n m (Some l) s h k = record {
  numbered = (h.number l refl, subst (λ (i : ℕ). AreNumbered (n.serial + 1) i s.lines) h.index (subst (λ (x : ℕ). AreNumbered x m.index s.lines) h.serial k.numbered));
  serial = omega (arith, h.serial, k.serial);
}

steps-counted : (k : ℕ) (over : Bool) (used : ℕ) (n : Node) → AreCounted n (steps_unless k over used n)
steps-counted zero over used n = record { numbered = tt; serial = omega arith }
steps-counted (suc k) true used n = record { numbered = tt; serial = omega arith }
steps-counted (suc k) false used n =
    let u : ℕ = used_after used (next_line n) in
    after_line-counted n (step n) (next_line n) (steps_unless k (is_over u (step n)) u (step n)) (case-numbered (case_of n) n) (steps-counted k (is_over u (step n)) u (step n))

pub lines-counted : LinesAreCounted
unfolding slice
lines-counted n = let c : AreCounted n (steps_unless 1000 (is_over 0 n) 0 n) = steps-counted 1000 (is_over 0 n) 0 n in record { numbered = c.numbered; serial = c.serial }
