use Rattle.std.proofs.Common.{◌≡◌, ℕ, ◌+◌, ◌<◌, ◌≤◌, Bool, true, false, cond, [], ◌∷◌, ◌++◌, Option, Some, None, is_some, refl, sym, ap, ◌∙◌, subst, arith}
use Rattle.std.specs.Prelude.{◌==◌, ◌||◌, nat_lt}
use Rattle.std.specs.Option.{option_map_or}
use Rattle.std.proofs.lemmas.Bool.{le-ltb, lt-ltb, ne_eqb}
use Rattle.mal_base.specs.NumberedClause.{Line}
use Rattle.mal_base.specs.declared.verdict.Verdict.{Verdict}
use Rattle.mal_base.specs.Formulas.{is_within}
use Rattle.spec_node.specs.State.{Node}
use Rattle.spec_node.specs.Value.{level_of}
use Rattle.spec_learn.specs.Learning.{line_of, learned}
use Rattle.spec_learn.specs.Refuting.{core_line, cored}
use Rattle.spec_learn.specs.CoreLaws.{HasFailed}
use Rattle.spec_search.specs.Step.{Case, Learns, Refutes, Contradicts, case_by, case_of, after_case, line_by, next_line, step}
use Rattle.spec_search.specs.Slice.{numbers_of, most_numbers, is_over}
use Rattle.spec_search.proofs.StepLemmas.{by_cases}
use Rattle.spec_search.proofs.ModelLemmas.{step-leaves}
use Rattle.mal_cdcl.specs.Within.{NodeWithRoom}
use Rattle.mal_cdcl.specs.Sliced.{HasStepRoom, HasLineRoom, IsLineLess, IsStepped}
use Rattle.mal_cdcl.proofs.FillLemmas.{lits_more}

-- above level 0 a conflict is learned
pub step-learns : (n : Node) (id : ℕ) → n.conflict ≡ Some id → 0 < level_of n.trail → step n ≡ learned id n
step-learns n id q some =
    let other : (level_of n.trail == 0) ≡ false = ne_eqb (level_of n.trail) 0 (λ e. absurd (omega arith)) in
    rw (q, other) refl

-- a waiting conflict gives the next line
pub next-derives : (n : Node) (id : ℕ) → n.conflict ≡ Some id → next_line n ≡ Some (line_of id n)
next-derives n id q = subst (λ (o : Option ℕ). line_by (case_by o n) n ≡ Some (line_of id n)) (sym q) (by_level (level_of n.trail == 0))
  where
    by_level : (b : Bool) → line_by (cond {A = Case} b (Refutes id) (Learns id)) n ≡ Some (line_of id n)
    by_level true = refl
    by_level false = refl

-- where the case is that an assumption is contradicted, it has failed
pub failed-case : (n : Node) (a : ℕ) → case_of n ≡ Contradicts a → HasFailed n a
failed-case n a = by_cases (λ c. c ≡ Contradicts a → HasFailed n a) n (record {
  learns = λ id q some e. absurd (cc);
  refutes = λ id q zeroth e. absurd (cc);
  propagates = λ q l e. absurd (cc);
  drops = λ idle e. absurd (cc);
  restarts = λ idle e. absurd (cc);
  contradicts = λ idle b e f q. let same : b ≡ a = cc in subst (λ (x : ℕ). HasFailed n x) same (record { first = e; fell = f });
  assumes = λ idle b e f q. absurd (cc);
  decides = λ idle v e f q. absurd (cc);
  ends = λ idle e f q. absurd (cc);
})

-- a failed assumption gives the next line
pub next-core : (n : Node) (a : ℕ) → case_of n ≡ Contradicts a → next_line n ≡ Some (core_line a n)
next-core n a q = ap (λ (c : Case). line_by c n) q

pub step-core : (n : Node) (a : ℕ) → case_of n ≡ Contradicts a → step n ≡ cored a n
step-core n a q = ap (λ (c : Case). after_case c n) q

-- a line that is short enough has room
pub line-room : (used : ℕ) (l : Line) (n : NodeWithRoom) → HasStepRoom 1 used n → used + numbers_of l ≤ most_numbers n.state.variables → is_within n.state.variables l.lits ≡ true → HasLineRoom l n
line-room used l n h low w =
    record {
      clause = record {
        within = lits_more n.state.variables n.spare.engine.variables l.lits h.variables w;
        clauses = h.clauses;
        literals = omega (arith, h.literals);
      };
      lines = h.lines;
      line_literals = omega (arith, h.line_literals);
      hints = omega (arith, h.hints);
    }

not-over : (v : Option Verdict) (o p : Option Line) (f : Line → Bool) → is_some v ≡ false → o ≡ p → option_map_or f p false ≡ false → (is_some v || option_map_or f o false) ≡ false
not-over v o p f a e h = rw (a, e) h

is-over : (v : Option Verdict) (o p : Option Line) (f : Line → Bool) → o ≡ p → option_map_or f p false ≡ true → (is_some v || option_map_or f o false) ≡ true
is-over v o p f e h = rw (e, h) (or-true (is_some v))
  where
    or-true : (b : Bool) → (b || true) ≡ true
    or-true true = refl
    or-true false = refl

-- a slice is over where the next line would be too long
pub over-line : (used : ℕ) (line : Line) (n : Node) → next_line n ≡ Some line → most_numbers n.variables < used + numbers_of line → is_over used n ≡ true
over-line used line n next long = is-over n.verdict (next_line n) (Some line) (λ l. nat_lt (most_numbers n.variables) (used + numbers_of l)) next (lt-ltb (most_numbers n.variables) (used + numbers_of line) long)

-- a step with a line
pub derived-step : (used now : ℕ) (line : Line) (before after : NodeWithRoom) → before.state.verdict ≡ None → next_line before.state ≡ Some line → now ≡ used + numbers_of line → now ≤ most_numbers before.state.variables → after.state ≡ step before.state → after.lines ≡ before.lines ++ line ∷ [] → IsLineLess line before after → IsStepped used before now after
derived-step used now line before after v next e low s l r =
    let short : nat_lt (most_numbers before.state.variables) (used + numbers_of line) ≡ false = le-ltb (most_numbers before.state.variables) (used + numbers_of line) (omega arith) in
    let variables : after.state.variables ≡ before.state.variables = ap (λ (n : Node). n.variables) s ∙ (step-leaves before.state).variables in
    record {
      on = not-over before.state.verdict (next_line before.state) (Some line) (λ l. nat_lt (most_numbers before.state.variables) (used + numbers_of l)) (ap is_some v) next short;
      state = s;
      lines = rw next l;
      numbers = rw next e;
      room = λ k h. record {
        few = omega (arith, variables);
        variables = omega (arith, variables, h.variables, r.engine.variables);
        clauses = omega (arith, h.clauses, r.engine.clauses);
        literals = omega (arith, variables, h.literals, r.engine.literals);
        lines = omega (arith, h.lines, r.lines);
        line_literals = omega (arith, variables, h.line_literals, r.line_literals);
        hints = omega (arith, variables, h.hints, r.hints);
      };
    }
