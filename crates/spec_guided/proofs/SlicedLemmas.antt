-- The lines of a slice: how many there are, under which numbers, and what they are derived from.
use Rattle.std.proofs.Common.{◌≡◌, ℕ, zero, suc, ◌+◌, ◌*◌, ◌^◌, ◌<◌, ◌≤◌, Bool, true, false, List, [], ◌∷◌, ◌++◌, ◌-◌, length, filter, flat_map, reverse, cond, count_by, Option, Some, None, is_some, not, refl, sym, ap, ◌∙◌, subst, arith}
use Rattle.std.specs.Prelude.{All, Contains, ◌||◌, ◌==◌, nat_lt, sum_by, take_while}
use Rattle.std.specs.List.{list_any}
use Rattle.std.specs.Option.{option_map_or, option_to_list}
use Rattle.std.proofs.lemmas.Bool.{or_parts, ltb-false, le-ltb}
use Rattle.std.proofs.lemmas.List.{length_push, length-reverse}
use Rattle.std.proofs.lemmas.List.Sums.{sum_by-cons, take_while-cons}
use Rattle.mal_base.specs.Literals.{var_of}
use Rattle.std.proofs.lemmas.List.Elements.{All-nil, All-cons, All-weaker, All-filter, All-contains, All-contains_itself, Contains-push}
use Rattle.mal_base.specs.NumberedClause.{NumberedClause, Line}
use Rattle.mal_base.specs.declared.trail_entry.TrailEntry.{TrailEntry}
use Rattle.mal_base.specs.declared.verdict.Verdict.{Verdict}
use Rattle.mal_base.specs.declared.verdict.Verdict.TheVariants.{Unsatisfiable}
use Rattle.spec_node.specs.State.{Node}
use Rattle.spec_node.specs.Value.{level_of}
use Rattle.spec_node.specs.Sound.{EachAfter, IsPlaced, level_in, AreLiteralsOf, IsSound}
use Rattle.spec_learn.specs.Analysis.{has_var, vars_under}
use Rattle.spec_learn.specs.CoreLaws.{HasFailed}
use Rattle.spec_learn.specs.Learning.{derived_id, analysis, line_of}
use Rattle.spec_learn.specs.Refuting.{core_line}
use Rattle.spec_learn.proofs.CoreLemmas.{core-derived}
use Rattle.spec_learn.proofs.ProfileLemmas.{sound-derived, sound-small, sound-asserts}
use Rattle.spec_learn.proofs.ApartLemmas.{apart-reverse, apart-short}
use Rattle.spec_learn.proofs.CoreClauseLemmas.{core-small}
use Rattle.spec_learn.proofs.SoundParts.{with-last, below-derived}
use Rattle.spec_search.specs.Derived.{with_line, with_lines, IsDerivedFrom, AreDerivedFrom}
use Rattle.spec_search.specs.Laws.{IsRefutedBy, AreNumbered}
use Rattle.spec_search.specs.Slice.{numbers_of, most_numbers, used_after}
use Rattle.spec_search.proofs.HintLemmas.{sound-hints, core-hints}
use Rattle.spec_search.proofs.LineLemmas.{over-some}
use Rattle.spec_search.proofs.OverLemmas.{IsOver, Stepped, derived-more, over-without_line, over-with_line, own-over}
use Rattle.spec_guided.specs.State.{Guided}
use Rattle.spec_guided.specs.Unit.{others_reasons, unit_line}
use Rattle.spec_guided.specs.Reducing.{to_reduce}
use Rattle.spec_guided.specs.Slice.{Sliced, slice_steps, slice, steps_unless, is_over, after_line}
use Rattle.spec_guided.specs.Step.{Case, Learns, Refutes, Propagates, Unites, Reduces, Restarts, Contradicts, Assumes, Decides, Ends, case_of, line_by, next_line, step, after_case}
use Rattle.spec_guided.specs.Laws.{IsGuided, IsGoalOf, LinesAreCounted, LinesHaveRoom, LinesAreDerived, HeldAreOfLines, LinesStayWithin, SliceRefutes, SliceGoesOn, EmptyRefutes}
use Rattle.spec_guided.proofs.CaseLemmas.{by_cases}
use Rattle.spec_guided.proofs.GuidedLemmas.{step-guided}
use Rattle.spec_guided.proofs.LineLemmas.{next-unit-derived, unit-hints-held}
use Rattle.spec_guided.proofs.SliceLemmas.{after_line-guided, step-leaves, step-refutes}

-- the number of the line of a step, and the serial after it
record IsNumbered (n m : Node) (o : Option Line) : Type 0 where
  index : m.index ≡ n.index
  number : (l : Line) → o ≡ Some l → l.id ≡ 2 ^ 32 + n.serial * 64 + n.index
  serial : m.serial ≡ n.serial + option_map_or (λ (l : Line). 1) o 0

some-number : (n : Node) (m l : Line) → m.id ≡ derived_id n → Some m ≡ Some l → l.id ≡ derived_id n
some-number n m l h e = let same : m ≡ l = cc in ap (λ (x : Line). x.id) (sym same) ∙ h

case-numbered : (c : Case) (s : Guided) → IsNumbered s.node (after_case c s).node (line_by c s)
case-numbered (Learns id) s = record { index = refl; number = λ l e. some-number s.node (line_of id s.node) l refl e; serial = refl }
case-numbered (Refutes id) s = record { index = refl; number = λ l e. some-number s.node (line_of id s.node) l refl e; serial = refl }
case-numbered Propagates s = record { index = refl; number = λ l e. absurd (cc); serial = omega arith }
case-numbered (Unites x) s = record { index = refl; number = λ l e. some-number s.node (unit_line s.node x) l refl e; serial = refl }
case-numbered Reduces s = record { index = refl; number = λ l e. absurd (cc); serial = omega arith }
case-numbered (Restarts v) s = record { index = refl; number = λ l e. absurd (cc); serial = omega arith }
case-numbered (Contradicts a) s = record { index = refl; number = λ l e. some-number s.node (core_line a s.node) l refl e; serial = refl }
case-numbered (Assumes a) s = record { index = refl; number = λ l e. absurd (cc); serial = omega arith }
case-numbered (Decides v) s = record { index = refl; number = λ l e. absurd (cc); serial = omega arith }
case-numbered Ends s = record { index = refl; number = λ l e. absurd (cc); serial = omega arith }

record AreCounted (n : Node) (s : Sliced) : Type 0 where
  numbered : AreNumbered n.serial n.index s.lines
  serial : s.guided.node.serial ≡ n.serial + length s.lines

after_line-counted : (n m : Node) (o : Option Line) (s : Sliced) → IsNumbered n m o → AreCounted m s → AreCounted n (after_line o s)
after_line-counted n m None s h k = record {
  numbered = subst (λ (i : ℕ). AreNumbered n.serial i s.lines) h.index (subst (λ (x : ℕ). AreNumbered x m.index s.lines) (let same : m.serial ≡ n.serial = omega (arith, h.serial) in same) k.numbered);
  serial = omega (arith, h.serial, k.serial);
}
after_line-counted n m (Some l) s h k = record {
  numbered = (h.number l refl, subst (λ (i : ℕ). AreNumbered (n.serial + 1) i s.lines) h.index (subst (λ (x : ℕ). AreNumbered x m.index s.lines) h.serial k.numbered));
  serial = omega (arith, h.serial, k.serial);
}

steps-counted : (k : ℕ) (over : Bool) (used : ℕ) (s : Guided) → AreCounted s.node (steps_unless k over used s)
steps-counted zero over used s = record { numbered = tt; serial = omega arith }
steps-counted (suc k) true used s = record { numbered = tt; serial = omega arith }
steps-counted (suc k) false used s =
    let u : ℕ = used_after used (next_line s) in
    after_line-counted s.node (step s).node (next_line s) (steps_unless k (is_over u (step s)) u (step s)) (case-numbered (case_of s) s) (steps-counted k (is_over u (step s)) u (step s))

pub lines-counted : LinesAreCounted
unfolding slice
lines-counted s = let c : AreCounted s.node (steps_unless slice_steps (is_over 0 s) 0 s) = steps-counted slice_steps (is_over 0 s) 0 s in record { numbered = c.numbered; serial = c.serial }

-- a line with so many lines
after_line-few : (k : ℕ) (o : Option Line) (s : Sliced) → length s.lines ≤ k → length (after_line o s).lines ≤ suc k
after_line-few k None s h = omega arith
after_line-few k (Some l) s h = omega arith

steps-few : (k : ℕ) (over : Bool) (used : ℕ) (s : Guided) → length (steps_unless k over used s).lines ≤ k
steps-few zero over used s = omega arith
steps-few (suc k) true used s = omega arith
steps-few (suc k) false used s =
    let u : ℕ = used_after used (next_line s) in
    after_line-few k (next_line s) (steps_unless k (is_over u (step s)) u (step s)) (steps-few k (is_over u (step s)) u (step s))

after_line-numbers : (used most : ℕ) (o : Option Line) (s : Sliced) → used_after used o + sum_by numbers_of s.lines ≤ most → used + sum_by numbers_of (after_line o s).lines ≤ most
after_line-numbers used most None s h = omega arith
after_line-numbers used most (Some l) s h = omega (arith, sum_by-cons numbers_of l s.lines)

used-fits : (used most : ℕ) (o : Option Line) → used ≤ most → option_map_or (λ l. nat_lt most (used + numbers_of l)) o false ≡ false → used_after used o ≤ most
used-fits used most None b f = omega arith
used-fits used most (Some l) b f = ltb-false most (used + numbers_of l) f

steps-numbers : (k : ℕ) (over : Bool) (used : ℕ) (s : Guided) → is_over used s ≡ over → used ≤ most_numbers s.node.variables → used + sum_by numbers_of (steps_unless k over used s).lines ≤ most_numbers s.node.variables
steps-numbers zero over used s e b = omega arith
steps-numbers (suc k) true used s e b = omega arith
steps-numbers (suc k) false used s e b =
    let u : ℕ = used_after used (next_line s) in
    let same : (step s).node.variables ≡ s.node.variables = (step-leaves s).variables in
    let low : u ≤ most_numbers s.node.variables = used-fits used (most_numbers s.node.variables) (next_line s) b (or_parts (is_some s.node.verdict) _ e).1 in
    after_line-numbers used (most_numbers s.node.variables) (next_line s) (steps_unless k (is_over u (step s)) u (step s))
    (subst (λ (v : ℕ). u + sum_by numbers_of (steps_unless k (is_over u (step s)) u (step s)).lines ≤ most_numbers v) same (steps-numbers k (is_over u (step s)) u (step s) refl (subst (λ (v : ℕ). u ≤ most_numbers v) (sym same) low)))

pub lines-fit : LinesHaveRoom
unfolding slice
lines-fit s = record { few = steps-few slice_steps (is_over 0 s) 0 s; numbers = let r : 0 + sum_by numbers_of (steps_unless slice_steps (is_over 0 s) 0 s).lines ≤ most_numbers s.node.variables = steps-numbers slice_steps (is_over 0 s) 0 s refl (omega arith) in omega arith }

-- the line of a waiting conflict, of a failed assumption and of a literal of level 0
conflict-line : (n : Node) (id : ℕ) → IsSound n → n.conflict ≡ Some id → IsDerivedFrom n.clauses (line_of id n)
conflict-line n id h q = record { derived = sound-derived n id h q; hints = sound-hints n id h q; above = below-derived n.serial n.index n.clauses h.ranged.serial }

core-line : (n : Node) (a : ℕ) → IsSound n → HasFailed n a → IsDerivedFrom n.clauses (core_line a n)
core-line n a h f = record { derived = core-derived n a h f; hints = core-hints n a h f; above = below-derived n.serial n.index n.clauses h.ranged.serial }

-- what a step derives, and what it leaves of the clauses held
step-derives : (s : Guided) → IsGuided s → Stepped s.node (step s).node (next_line s)
step-derives s h = by_cases (λ c. Stepped s.node (after_case c s).node (line_by c s)) s (record {
  learns = λ id q some. (conflict-line s.node id h.sound q, refl, refl, omega arith);
  refutes = λ id q z. (conflict-line s.node id h.sound q, refl, refl, omega arith);
  propagates = λ calm low. (All-contains_itself s.node.clauses, refl);
  unites = λ idle e q. (record { derived = next-unit-derived s.node e h.sound q; hints = unit-hints-held s.node e h.sound q; above = below-derived s.node.serial s.node.index s.node.clauses h.sound.ranged.serial }, refl, refl, omega arith);
  reduces = λ idle. (All-filter (λ c. not (list_any (λ i. i == c.id) (to_reduce s))) (Contains s.node.clauses) s.node.clauses (All-contains_itself s.node.clauses), refl);
  restarts = λ idle v. (All-contains_itself s.node.clauses, refl);
  contradicts = λ idle a o f. (core-line s.node a h.sound (record { first = o; fell = f }), refl, refl, omega arith);
  assumes = λ idle a o f. (All-contains_itself s.node.clauses, refl);
  decides = λ idle v o f. (All-contains_itself s.node.clauses, refl);
  ends = λ idle o f. (All-contains_itself s.node.clauses, refl);
})

-- what holds at the end of a slice over all clauses held, and with each line after them, holds of the whole
module _ (P : List NumberedClause → Sliced → Type 0) (end : (held : List NumberedClause) (s : Guided) → IsOver held s.node → P held (record { guided = s; lines = [] })) (more : (held : List NumberedClause) (n : Node) (l : Line) (s : Sliced) → IsOver held n → l.id ≡ derived_id n → IsDerivedFrom n.clauses l → P (with_line held l) s → P held (after_line (Some l) s)) where
  after_line-over : (held : List NumberedClause) (n m : Node) (o : Option Line) (s : Sliced) → IsSound n → IsOver held n → Stepped n m o → ((cs : List NumberedClause) → IsOver cs m → P cs s) → P held (after_line o s)
  after_line-over held n m None s h v k f = f held (over-without_line held n m v k)
  after_line-over held n m (Some l) s h v k f = more held n l s v k.1 k.0 (f (with_line held l) (over-with_line held n m l h v k))

  steps-over : (k : ℕ) (over : Bool) (used : ℕ) (s : Guided) (held : List NumberedClause) → IsGuided s → IsOver held s.node → P held (steps_unless k over used s)
  steps-over zero over used s held h v = end held s v
  steps-over (suc k) true used s held h v = end held s v
  steps-over (suc k) false used s held h v =
      let u : ℕ = used_after used (next_line s) in
      let t : Guided = step s in
      after_line-over held s.node t.node (next_line s) (steps_unless k (is_over u t) u t) h.sound v (step-derives s h) (λ cs w. steps-over k (is_over u t) u t cs (step-guided s h) w)

pub lines-derived : LinesAreDerived
unfolding slice
lines-derived s h = steps-over (λ held r. AreDerivedFrom held r.lines) (λ held t v. tt) (λ held m l r v is d rest. (derived-more held m l v is d, rest)) slice_steps (is_over 0 s) 0 s s.node.clauses h (own-over s.node h.sound)

pub held-of_lines : HeldAreOfLines
unfolding slice
held-of_lines s h = steps-over (λ held r. All (Contains (with_lines held r.lines)) r.guided.node.clauses) (λ held t v. v.within) (λ held m l r v is d rest. rest) slice_steps (is_over 0 s) 0 s s.node.clauses h (own-over s.node h.sound)

-- the clause of a line is held right after its step, by a sound node
line-within : (n m : Node) (l : Line) → IsSound n → IsSound m → m.variables ≡ n.variables → Stepped n m (Some l) → AreLiteralsOf n.variables l.lits
line-within n m l h k v s =
    let same : l.id ≡ derived_id n = s.1 in
    let new : NumberedClause = record { id = l.id; lits = l.lits } in
    let is : m.clauses ≡ n.clauses ++ new ∷ [] = s.2 ∙ with-last new n.clauses (All-weaker (λ c. c.id < derived_id n) (λ c. c.id < l.id) (λ c q. omega arith) n.clauses (below-derived n.serial n.index n.clauses h.ranged.serial)) in
    subst (λ (x : ℕ). AreLiteralsOf x l.lits) v (All-contains (λ c. AreLiteralsOf m.variables c.lits) m.clauses new k.consistent.clauses (subst (λ (cs : List NumberedClause). Contains cs new) (sym is) (Contains-push n.clauses new)))

after_line-within : (n m : Node) (o : Option Line) (s : Sliced) → IsSound n → IsSound m → m.variables ≡ n.variables → Stepped n m o → All (λ l. AreLiteralsOf m.variables l.lits) s.lines → All (λ l. AreLiteralsOf n.variables l.lits) (after_line o s).lines
after_line-within n m None s h k v d a = subst (λ (x : ℕ). All (λ (l : Line). AreLiteralsOf x l.lits) s.lines) v a
after_line-within n m (Some l) s h k v d a = All-cons (λ x. AreLiteralsOf n.variables x.lits) l s.lines (line-within n m l h k v d) (subst (λ (x : ℕ). All (λ (y : Line). AreLiteralsOf x y.lits) s.lines) v a)

steps-within : (k : ℕ) (over : Bool) (used : ℕ) (s : Guided) → IsGuided s → All (λ l. AreLiteralsOf s.node.variables l.lits) (steps_unless k over used s).lines
steps-within zero over used s h = All-nil (λ l. AreLiteralsOf s.node.variables l.lits)
steps-within (suc k) true used s h = All-nil (λ l. AreLiteralsOf s.node.variables l.lits)
steps-within (suc k) false used s h =
    let u : ℕ = used_after used (next_line s) in
    let t : Guided = step s in
    after_line-within s.node t.node (next_line s) (steps_unless k (is_over u t) u t) h.sound (step-guided s h).sound (step-leaves s).variables (step-derives s h) (steps-within k (is_over u t) u t (step-guided s h))

pub lines-stay_within : LinesStayWithin
unfolding slice
lines-stay_within s h = steps-within slice_steps (is_over 0 s) 0 s h

after_line-refuted : (assumptions : List ℕ) (goal : ℕ) (o : Option Line) (s : Sliced) → IsRefutedBy assumptions goal s.lines → IsRefutedBy assumptions goal (after_line o s).lines
after_line-refuted assumptions goal None s h = h
after_line-refuted assumptions goal (Some l) s h = record { before = l ∷ h.before; line = h.line; last = ap (λ (ls : List Line). l ∷ ls) h.last; number = h.number; contradicted = h.contradicted }

-- a slice that is over derives nothing more
over-lines : (k used : ℕ) (s : Guided) → (steps_unless k true used s).lines ≡ []
over-lines zero used s = refl
over-lines (suc k) used s = refl

over-guided : (k used : ℕ) (s : Guided) → (steps_unless k true used s).guided ≡ s
over-guided zero used s = refl
over-guided (suc k) used s = refl

last-refuted : (s : Guided) (goal : ℕ) (l : Line) (r : Sliced) (o : Option Line) → o ≡ Some l → r.lines ≡ [] → IsGoalOf s goal l → IsRefutedBy s.node.assumptions goal (after_line o r).lines
last-refuted s goal l r None e f g = absurd (cc)
last-refuted s goal l r (Some m) e f g = record { before = []; line = l; last = first m (let same : m ≡ l = cc in same) f; number = g.number; contradicted = g.contradicted }
  where
    first : (x : Line) → x ≡ l → r.lines ≡ [] → x ∷ r.lines ≡ l ∷ []
    first x e f = ap (λ (y : Line). y ∷ r.lines) e ∙ ap (λ (ls : List Line). l ∷ ls) f

steps-refute : (k : ℕ) (over : Bool) (used : ℕ) (s : Guided) (goal : ℕ) → is_over used s ≡ over → IsGuided s → s.node.verdict ≡ None → (steps_unless k over used s).guided.node.verdict ≡ Some (Unsatisfiable goal) → IsRefutedBy s.node.assumptions goal (steps_unless k over used s).lines
steps-refute zero over used s goal e h none v = absurd (cc)
steps-refute (suc k) true used s goal e h none v = absurd (cc)
steps-refute (suc k) false used s goal e h none v = by_verdict (λ q w. steps-refute k (is_over (used_after used (next_line s)) (step s)) (used_after used (next_line s)) (step s) goal refl (step-guided s h) q w) (step s).node.verdict refl
  where
    u : ℕ
    u = used_after used (next_line s)

    rest : Sliced
    rest = steps_unless k (is_over u (step s)) u (step s)

    ends : rest.guided.node.verdict ≡ Some (Unsatisfiable goal)
    ends = sym (ap (λ (t : Guided). t.node.verdict) (after_line-guided (next_line s) rest)) ∙ v

    by_verdict : ((step s).node.verdict ≡ None → rest.guided.node.verdict ≡ Some (Unsatisfiable goal) → IsRefutedBy (step s).node.assumptions goal rest.lines) → (w : Option Verdict) → (step s).node.verdict ≡ w → IsRefutedBy s.node.assumptions goal (after_line (next_line s) rest).lines
    by_verdict f None q = after_line-refuted s.node.assumptions goal (next_line s) rest (subst (λ (xs : List ℕ). IsRefutedBy xs goal rest.lines) (step-leaves s).assumptions (f q ends))
    by_verdict f (Some x) q =
        let over : is_over u (step s) ≡ true = over-some (step s).node.verdict x _ q in
        let guided : rest.guided ≡ step s = subst (λ (b : Bool). (steps_unless k b u (step s)).guided ≡ step s) (sym over) (over-guided k u (step s)) in
        let lines : rest.lines ≡ [] = subst (λ (b : Bool). (steps_unless k b u (step s)).lines ≡ []) (sym over) (over-lines k u (step s)) in
        let goal_of = step-refutes s goal h none (sym (ap (λ (t : Guided). t.node.verdict) guided) ∙ ends) in
        last-refuted s goal goal_of.0 rest (next_line s) goal_of.1.next lines goal_of.1

pub slice-refutes : SliceRefutes
unfolding slice
slice-refutes s goal h none v = steps-refute slice_steps (is_over 0 s) 0 s goal refl h none v

over-none : (v : Option Verdict) (b : Bool) → v ≡ None → b ≡ false → (is_some v || b) ≡ false
over-none None b q k = k
over-none (Some x) b q k = absurd (cc)

-- an entry gives one hint at most
few-reasons : (p : TrailEntry → Bool) (es : List TrailEntry) → length (flat_map (λ (o : TrailEntry). option_to_list o.reason) (filter p es)) ≤ length es
few-reasons p [] = omega arith
few-reasons p (e ∷ es) = by_test (p e) (few-reasons p es)
  where
    by_reason : (o : Option ℕ) (xs : List ℕ) → length xs ≤ length es → length (option_to_list o ++ xs) ≤ suc (length es)
    by_reason None xs k = omega arith
    by_reason (Some r) xs k = omega arith

    by_test : (b : Bool) → length (flat_map (λ (o : TrailEntry). option_to_list o.reason) (filter p es)) ≤ length es → length (flat_map (λ (o : TrailEntry). option_to_list o.reason) (cond b (e ∷ filter p es) (filter p es))) ≤ suc (length es)
    by_test true k = by_reason e.reason (flat_map (λ (o : TrailEntry). option_to_list o.reason) (filter p es)) k
    by_test false k = omega arith

few-taken : (p : TrailEntry → Bool) (es : List TrailEntry) → length (take_while p es) ≤ length es
few-taken p [] = omega arith
few-taken p (e ∷ es) = subst (λ (xs : List TrailEntry). length xs ≤ suc (length es)) (sym (take_while-cons p e es)) (by_test (p e) (few-taken p es))
  where
    by_test : (b : Bool) → length (take_while p es) ≤ length es → length (cond b (e ∷ take_while p es) []) ≤ suc (length es)
    by_test true k = omega arith
    by_test false k = omega arith

-- no variable stands twice on a trail
few-entries : (n : Node) → IsSound n → length n.trail ≤ n.variables
few-entries n h =
    let less : n.variables + 1 - 1 ≡ n.variables = omega arith in
    let placed : EachAfter (IsPlaced (n.variables + 1 - 1)) [] n.trail = subst (λ (k : ℕ). EachAfter (IsPlaced k) [] n.trail) (sym less) h.consistent.placed in
    let short : length (reverse n.trail) + 1 ≤ n.variables + 1 = apart-short (n.variables + 1) (reverse n.trail) (omega arith) (apart-reverse (n.variables + 1) n.trail (omega arith) placed) in
    omega (arith, short, length-reverse n.trail)

unit-small : (n : Node) (e : TrailEntry) → IsSound n → numbers_of (unit_line n e) ≤ n.variables + 2
unit-small n e h = by_reason e.reason
  where
    by_reason : (o : Option ℕ) → 1 + length (option_map_or (λ r. others_reasons n e r ++ r ∷ []) o []) ≤ n.variables + 2
    by_reason None = omega arith
    by_reason (Some r) = omega (arith, length_push (others_reasons n e r) r, few-reasons (λ o. has_var (vars_under n.clauses r) (var_of o.lit)) (take_while (λ o. not (o.lit == e.lit)) n.trail), few-taken (λ o. not (o.lit == e.lit)) n.trail, few-entries n h)

-- one line always fits
pub slice-goes_on : SliceGoesOn
slice-goes_on s h none = over-none s.node.verdict (option_map_or (λ l. nat_lt (most_numbers s.node.variables) (0 + numbers_of l)) (next_line s) false) none (by_case (case_of s))
  where
    small : (l : Line) → numbers_of l ≤ s.node.variables + 2 → nat_lt (most_numbers s.node.variables) (0 + numbers_of l) ≡ false
    small l k = le-ltb (most_numbers s.node.variables) (0 + numbers_of l) (omega (arith, k))

    conflict : (id : ℕ) → nat_lt (most_numbers s.node.variables) (0 + numbers_of (line_of id s.node)) ≡ false
    conflict id = small (line_of id s.node) (omega (arith, sound-small s.node id h.sound))

    by_case : (c : Case) → option_map_or (λ l. nat_lt (most_numbers s.node.variables) (0 + numbers_of l)) (line_by c s) false ≡ false
    by_case (Learns id) = conflict id
    by_case (Refutes id) = conflict id
    by_case Propagates = refl
    by_case (Unites e) = small (unit_line s.node e) (unit-small s.node e h.sound)
    by_case Reduces = refl
    by_case (Restarts v) = refl
    by_case (Contradicts a) = small (core_line a s.node) (omega (arith, core-small s.node a h.sound))
    by_case (Assumes a) = refl
    by_case (Decides v) = refl
    by_case Ends = refl

-- a node refutes nothing
abbrev RefutesNothing : Guided → Type 0
RefutesNothing s = (goal : ℕ) → s.node.verdict ≡ Some (Unsatisfiable goal) → ⊥

-- the line of a step has a literal
abbrev IsFull : Option Line → Type 0
IsFull o = (l : Line) → o ≡ Some l → 1 ≤ length l.lits

none-full : IsFull None
none-full l e = absurd (cc)

some-full : (m : Line) → 1 ≤ length m.lits → IsFull (Some m)
some-full m h l e = subst (λ (x : Line). 1 ≤ length x.lits) (let same : m ≡ l = cc in same) h

one-counted : (p : ℕ → Bool) (xs : List ℕ) → count_by p xs ≡ 1 → 1 ≤ length xs
one-counted p [] h = absurd (omega arith)
one-counted p (x ∷ xs) h = omega arith

step-full : (s : Guided) → IsGuided s → RefutesNothing (step s) → IsFull (next_line s)
step-full s h = by_cases (λ c. RefutesNothing (after_case c s) → IsFull (line_by c s)) s (record {
  learns = λ id q some f. some-full (line_of id s.node) (one-counted (λ l. level_in s.node.trail (var_of l) == level_of s.node.trail) (analysis id s.node).lits (sound-asserts s.node id h.sound q some).one);
  refutes = λ id q z f. absurd (f (derived_id s.node) refl);
  propagates = λ calm low f. none-full;
  unites = λ idle e q f. some-full (unit_line s.node e) (omega arith);
  reduces = λ idle f. none-full;
  restarts = λ idle v f. none-full;
  contradicts = λ idle a o fell f. absurd (f (derived_id s.node) refl);
  assumes = λ idle a o fell f. none-full;
  decides = λ idle v o free f. none-full;
  ends = λ idle o free f. none-full;
})

after_line-full : (o : Option Line) (s : Sliced) → IsFull o → All (λ l. 1 ≤ length l.lits) s.lines → All (λ l. 1 ≤ length l.lits) (after_line o s).lines
after_line-full None s f h = h
after_line-full (Some l) s f h = All-cons (λ x. 1 ≤ length x.lits) l s.lines (f l refl) h

steps-full : (k : ℕ) (over : Bool) (used : ℕ) (s : Guided) → is_over used s ≡ over → IsGuided s → RefutesNothing (steps_unless k over used s).guided → All (λ l. 1 ≤ length l.lits) (steps_unless k over used s).lines
steps-full zero over used s e h f = All-nil (λ l. 1 ≤ length l.lits)
steps-full (suc k) true used s e h f = All-nil (λ l. 1 ≤ length l.lits)
steps-full (suc k) false used s e h f = after_line-full (next_line s) rest (step-full s h nothing) (steps-full k (is_over u (step s)) u (step s) refl (step-guided s h) rest-nothing)
  where
    u : ℕ
    u = used_after used (next_line s)

    rest : Sliced
    rest = steps_unless k (is_over u (step s)) u (step s)

    rest-nothing : RefutesNothing rest.guided
    rest-nothing goal v = f goal (ap (λ (t : Guided). t.node.verdict) (after_line-guided (next_line s) rest) ∙ v)

    nothing : RefutesNothing (step s)
    nothing goal v =
        let over : is_over u (step s) ≡ true = over-some (step s).node.verdict (Unsatisfiable goal) _ v in
        let guided : rest.guided ≡ step s = subst (λ (b : Bool). (steps_unless k b u (step s)).guided ≡ step s) (sym over) (over-guided k u (step s)) in
        rest-nothing goal (ap (λ (t : Guided). t.node.verdict) guided ∙ v)

pub empty-refutes : EmptyRefutes
unfolding slice
empty-refutes s h f = steps-full slice_steps (is_over 0 s) 0 s refl h f
