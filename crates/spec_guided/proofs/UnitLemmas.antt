-- Deriving a literal of level 0 as a clause keeps a node sound.
use Rattle.std.proofs.Common.{◌≡◌, ℕ, ◌+◌, ◌<◌, ◌≤◌, Bool, true, false, cond, not, List, [], ◌∷◌, ◌++◌, length, map, take, drop, find, Option, Some, None, refl, sym, ap, ◌∙◌, subst, append_assoc, arith}
use Rattle.std.specs.Prelude.{Contains, ◌==◌, ◌||◌, nat_lt, filter}
use Rattle.std.specs.List.{list_all}
use Rattle.std.specs.Option.{option_map_or}
use Rattle.std.proofs.lemmas.List.{length-map, take_all, take-append-drop}
use Rattle.std.proofs.lemmas.List.Elements.{All-nil, All-cons, Contains-push, Contains-append_left, Contains-append_right}
use Rattle.std.proofs.lemmas.Bool.{and_parts, and_from, or_left, or_right, eqb-true, eq-eqb, false_from_ne_true}
use Rattle.mal_base.specs.Literals.{var_of, negated}
use Rattle.mal_base.specs.NumberedClause.{NumberedClause}
use Rattle.mal_base.specs.declared.trail_entry.TrailEntry.{TrailEntry}
use Rattle.mal_base.specs.declared.verdict.Verdict.{Verdict}
use Rattle.spec_node.specs.State.{Node}
use Rattle.spec_node.specs.Value.{is_true, is_false, has_value, level_of}
use Rattle.spec_node.specs.Batch.{is_in_batch}
use Rattle.spec_node.specs.Sound.{EachAfter, IsPlaced, IsLevelled, IsClosed, IsForced, IsChosen, IsPassed, IsReason, AreSettled, IsLiteralOf, left_is_true, own_level, level_in, IsRanged, IsConsistent, IsSound}
use Rattle.spec_node.specs.Adding.{with_clause}
use Rattle.spec_node.proofs.TrailLemmas.{each-weaker, is_true-more, placed-range}
use Rattle.spec_node.proofs.CutLemmas.{level_of-push}
use Rattle.spec_node.proofs.LevelLemmas.{levels-rise}
use Rattle.spec_learn.specs.Learning.{derived_id}
use Rattle.spec_learn.specs.Refuting.{refuted}
use Rattle.spec_learn.proofs.BehindLemmas.{sound-consistent}
use Rattle.spec_learn.proofs.KeepLemmas.{level-none}
use Rattle.spec_learn.proofs.RefuteLemmas.{refuted-sound}
use Rattle.spec_search.proofs.StepLemmas.{IsIdle}
use Rattle.spec_guided.specs.Unit.{is_forced_by_long, reasoned, next_unit, united_node}
use Rattle.spec_guided.proofs.TrailLemmas.{IsKeeping, value-kept, level_in-kept, greatest-kept, level-kept, false-kept, settled-kept, each-kept}

-- a clause that is added is held
contains-with_clause : (c : NumberedClause) (ds : List NumberedClause) → Contains (with_clause c ds) c
contains-with_clause c [] = Contains-push [] c
contains-with_clause c (d ∷ ds) = by_less (contains-with_clause c ds) (nat_lt c.id d.id)
  where
    by_less : Contains (with_clause c ds) c → (b : Bool) → Contains (cond b (c ∷ (d ∷ ds)) (d ∷ with_clause c ds)) c
    by_less g true = Contains-append_left (c ∷ []) (d ∷ ds) c (Contains-push [] c)
    by_less g false = Contains-append_right (d ∷ []) (with_clause c ds) c g

-- an entry of level 0 that has a reason
abbrev pub IsForcedAtZero : List TrailEntry → TrailEntry → Type 0
IsForcedAtZero before e = (e.reason ≡ None → ⊥) × (e.level ≡ 0)

-- at level 0 each entry is one
pub forced-zero : (es before : List TrailEntry) → EachAfter IsLevelled before es → level_of (before ++ es) ≡ 0 → EachAfter IsForcedAtZero before es
forced-zero [] before h z = tt
forced-zero (e ∷ es) before h z =
    let whole : level_of ((before ++ e ∷ []) ++ es) ≡ 0 = subst (λ (t : List TrailEntry). level_of t ≡ 0) (sym (append_assoc before (e ∷ []) es)) z in
    let here : level_of (before ++ e ∷ []) ≡ e.level = level_of-push before e in
    let rise : level_of (before ++ e ∷ []) ≤ level_of ((before ++ e ∷ []) ++ es) = levels-rise es (before ++ e ∷ []) h.1 in
    (((λ q. let own : e.level ≡ level_of before + 1 = h.0 ∙ ap (own_level before) q in absurd (omega arith)), omega arith), forced-zero es (before ++ e ∷ []) h.1 whole)

pub each-both : (P Q : List TrailEntry → TrailEntry → Type 0) (es before : List TrailEntry) → EachAfter P before es → EachAfter Q before es → EachAfter (λ b e. P b e × Q b e) before es
each-both P Q [] before h k = tt
each-both P Q (e ∷ es) before h k = ((h.0, k.0), each-both P Q es (before ++ e ∷ []) h.1 k.1)

-- a clause of one literal, which is true, is settled
unit-left : (n : Node) → IsSound n → (q l : ℕ) → is_true n.trail l ≡ true → (id : ℕ) → left_is_true (take q n.trail) n.trail (record { id = id; lits = l ∷ [] }) ≡ true
unit-left n h q l t id =
    let none : is_false (take q n.trail) l ≡ false = false_from_ne_true (is_false (take q n.trail) l) (λ k. sound-consistent n h l t (subst (λ (u : List TrailEntry). is_true u (negated l) ≡ true) (take-append-drop q n.trail) (is_true-more (take q n.trail) (drop q n.trail) (negated l) k))) in
    ap (λ (b : Bool). option_map_or (is_true n.trail) (cond {A = Option ℕ} (not b) (Some l) None) false) none ∙ t

unit-settled : (n : Node) → IsSound n → n.conflict ≡ None → (l id : ℕ) → is_true n.trail l ≡ true → AreSettled n.processed n.trail (n.clauses ++ record { id = id; lits = l ∷ [] } ∷ [])
unit-settled n h calm l id t q k = filter-push (is_in_batch (take q n.trail)) (left_is_true (take q n.trail) n.trail) n.clauses (record { id = id; lits = l ∷ [] }) (h.consistent.settled calm q k) (unit-left n h q l t id)
  where
    filter-push : (p f : NumberedClause → Bool) (cs : List NumberedClause) (c : NumberedClause) → list_all f (filter p cs) ≡ true → f c ≡ true → list_all f (filter p (cs ++ c ∷ [])) ≡ true
    filter-push p f [] c a b = by_own (p c)
      where
        by_own : (x : Bool) → list_all f (cond x (c ∷ []) []) ≡ true
        by_own true = and_from _ _ b refl
        by_own false = refl
    filter-push p f (d ∷ ds) c a b = by_test (λ g. filter-push p f ds c g b) (p d) a
      where
        by_test : (list_all f (filter p ds) ≡ true → list_all f (filter p (ds ++ c ∷ [])) ≡ true) → (x : Bool) → list_all f (cond x (d ∷ filter p ds) (filter p ds)) ≡ true → list_all f (cond x (d ∷ filter p (ds ++ c ∷ [])) (filter p (ds ++ c ∷ []))) ≡ true
        by_test g true m = let parts = and_parts (f d) (list_all f (filter p ds)) m in and_from _ _ parts.0 (g parts.1)
        by_test g false m = g m

-- an entry under its new reason, or as it was
abbrev under : ℕ → ℕ → TrailEntry → TrailEntry
under l id e = cond {A = TrailEntry} (e.lit == l) (reasoned id e) e

under-keeping : (l id : ℕ) → IsKeeping (under l id)
under-keeping l id = record { lit = λ e. by_lit e (e.lit == l); level = λ e. by_level e (e.lit == l) }
  where
    by_lit : (e : TrailEntry) (b : Bool) → (cond {A = TrailEntry} b (reasoned id e) e).lit ≡ e.lit
    by_lit e true = refl
    by_lit e false = refl

    by_level : (e : TrailEntry) (b : Bool) → (cond {A = TrailEntry} b (reasoned id e) e).level ≡ e.level
    by_level e true = refl
    by_level e false = refl

-- it has a reason still
under-reason : (l id : ℕ) (e : TrailEntry) → (e.reason ≡ None → ⊥) → (under l id e).reason ≡ None → ⊥
under-reason l id e h = by_test (e.lit == l)
  where
    by_test : (b : Bool) → (cond {A = TrailEntry} b (reasoned id e) e).reason ≡ None → ⊥
    by_test true q = absurd (cc)
    by_test false q = h q

own-reached : (before : List TrailEntry) (o : Option ℕ) → (o ≡ None → ⊥) → own_level before o ≡ level_of before
own-reached before None h = absurd (h refl)
own-reached before (Some r) h = refl

-- what is known of an entry of level 0
record IsBase (variables : ℕ) (clauses : List NumberedClause) (b : List TrailEntry) (e : TrailEntry) : Type 0 where
  forced : IsForced clauses b e
  placed : IsPlaced variables b e
  zero_level : e.level ≡ 0

under-forced : (variables : ℕ) (clauses : List NumberedClause) (l id : ℕ) → Contains clauses (record { id = id; lits = l ∷ [] }) → (b : List TrailEntry) (e : TrailEntry) → IsBase variables clauses b e → IsForced clauses (map (under l id) b) (under l id e)
under-forced variables clauses l id held b e h = by_test (e.lit == l) refl
  where
    k : IsKeeping (under l id)
    k = under-keeping l id

    own-reason : (e.lit == l) ≡ true → (other : ℕ) → Some id ≡ Some other → (c : NumberedClause) × Contains clauses c × (c.id ≡ other) × IsReason (map (under l id) b) (reasoned id e) c
    own-reason q other m =
        let same : e.lit ≡ l = eqb-true e.lit l q in
        let is : (l == e.lit) ≡ true = eq-eqb l e.lit (sym same) in
        let free : level_in b (var_of l) ≡ 0 = level-none b (var_of l) (subst (λ (x : ℕ). has_value b (var_of x) ≡ false) same h.placed.free) in
        let number : id ≡ other = ap (λ (o : Option ℕ). option_map_or (λ x. x) o 0) m in (
          record { id = id; lits = l ∷ [] },
          held,
          number,
          record {
            own = or_left _ _ is;
            others = and_from _ _ (or_left _ _ is) refl;
            level = let zero_now : level_in (map (under l id) b) (var_of l) ≡ 0 = level_in-kept (under l id) k b (var_of l) ∙ free in let own : e.level ≡ 0 = h.zero_level in omega arith;
          },
        )

    old-reason : (other : ℕ) → e.reason ≡ Some other → (c : NumberedClause) × Contains clauses c × (c.id ≡ other) × IsReason (map (under l id) b) e c
    old-reason other q = let y = h.forced other q in (
      y.0,
      y.1,
      y.2,
      record {
        own = y.3.own;
        others = ap (λ (o : ℕ → Bool). list_all (λ m. (m == e.lit) || o m) y.0.lits) (false-kept (under l id) k b) ∙ y.3.others;
        level = greatest-kept (under l id) k b y.0.lits ∙ y.3.level;
      },
    )

    by_test : (x : Bool) → (e.lit == l) ≡ x → IsForced clauses (map (under l id) b) (cond {A = TrailEntry} x (reasoned id e) e)
    by_test true q = own-reason q
    by_test false q = old-reason

-- a sound node at level 0, where nothing is left to propagate, stays sound when a literal gets the clause of it alone as
-- its reason
reasoned-sound : (n : Node) (l id : ℕ) (verdict : Option Verdict) → IsSound n → n.conflict ≡ None → level_of n.trail ≡ 0 → length n.trail < n.processed → Contains n.clauses (record { id = id; lits = l ∷ [] }) → IsSound (record n { trail = map (under l id) n.trail; verdict = verdict })
reasoned-sound n l id verdict h calm zero_level past held =
    let f : TrailEntry → TrailEntry = under l id in
    let k : IsKeeping f = under-keeping l id in
    let r : IsRanged n = h.ranged in
    let c : IsConsistent n = h.consistent in
    let at_zero : EachAfter IsForcedAtZero [] n.trail = forced-zero n.trail [] c.levels zero_level in
    let parts = each-both (λ b e. IsForced n.clauses b e × IsPlaced n.variables b e) IsForcedAtZero n.trail [] (each-both (IsForced n.clauses) (IsPlaced n.variables) n.trail [] h.reasons c.placed) at_zero in
    let base : EachAfter (IsBase n.variables n.clauses) [] n.trail = each-weaker (λ b e. (IsForced n.clauses b e × IsPlaced n.variables b e) × IsForcedAtZero b e) (IsBase n.variables n.clauses) (λ b e x. record { forced = x.0.0; placed = x.0.1; zero_level = x.1.1 }) n.trail [] parts in
    let none : EachAfter (λ b e. e.reason ≡ None → ⊥) [] (map f n.trail) = each-kept f IsForcedAtZero (λ b e. e.reason ≡ None → ⊥) (λ b e x. under-reason l id e x.0) n.trail [] at_zero in
    let long : length (map f n.trail) ≡ length n.trail = length-map n.trail f in
    record {
      ranged = record { index = r.index; variables = r.variables; restart_number = r.restart_number; phases = r.phases; numbers = r.numbers; serial = r.serial };
      consistent = record {
        order = c.order;
        clauses = c.clauses;
        assumptions = c.assumptions;
        placed = each-kept f (IsPlaced n.variables) (IsPlaced n.variables) (λ b e p. record {
          low = subst (λ (x : ℕ). 1 ≤ var_of x) (sym (k.lit e)) p.low;
          high = subst (λ (x : ℕ). var_of x ≤ n.variables) (sym (k.lit e)) p.high;
          free = subst (λ (x : ℕ). has_value (map f b) (var_of x) ≡ false) (sym (k.lit e)) (value-kept f k b (var_of e.lit) ∙ p.free);
        }) n.trail [] c.placed;
        levels = each-kept f (λ b e. IsLevelled b e × IsForcedAtZero b e) IsLevelled (λ b e x. k.level e ∙ (x.0 ∙ (own-reached b e.reason x.1.0 ∙ (sym (level-kept f k b) ∙ sym (own-reached (map f b) (f e).reason (under-reason l id e x.1.0)))))) n.trail [] (each-both IsLevelled IsForcedAtZero n.trail [] c.levels at_zero);
        closed = each-weaker (λ b e. e.reason ≡ None → ⊥) (IsClosed n.clauses) (λ b e no q. absurd (no q)) (map f n.trail) [] none;
        handled = let a : n.processed ≤ length n.trail + 1 = c.handled in omega arith;
        settled = λ q. settled-kept f k n.processed n.trail n.clauses (c.settled q);
      };
      reasons = each-kept f (IsBase n.variables n.clauses) (IsForced n.clauses) (under-forced n.variables n.clauses l id held) n.trail [] base;
      chosen = each-weaker (λ b e. e.reason ≡ None → ⊥) (IsChosen n.assumptions) (λ b e no q. absurd (no q)) (map f n.trail) [] none;
      passed = each-weaker (λ b e. e.reason ≡ None → ⊥) (IsPassed n.processed) (λ b e no q. absurd (no q)) (map f n.trail) [] none;
      reached = ap level_of (take_all n.processed (map f n.trail) (omega arith));
      waiting = λ id q. absurd (cc);
    }

-- the entry that is found is true, and has a reason
pub found-true : (test : TrailEntry → Bool) (es : List TrailEntry) (e : TrailEntry) → find test es ≡ Some e → is_true es e.lit ≡ true
found-true test [] e q = absurd (cc)
found-true test (x ∷ es) e q = by_test (found-true test es e) (test x) q
  where
    by_test : (find test es ≡ Some e → is_true es e.lit ≡ true) → (b : Bool) → cond {A = Option TrailEntry} b (Some x) (find test es) ≡ Some e → is_true (x ∷ es) e.lit ≡ true
    by_test g true k = let same : x ≡ e = ap (λ (o : Option TrailEntry). option_map_or (λ (y : TrailEntry). y) o x) k in or_left _ _ (eq-eqb x.lit e.lit (ap (λ (y : TrailEntry). y.lit) same))
    by_test g false k = or_right _ _ (g k)

-- a literal of level 0 that is true may be derived as a clause
pub united-sound : (n : Node) (e : TrailEntry) → IsSound n → IsIdle n → next_unit n ≡ Some e → IsSound (united_node e n)
united-sound n e h idle q = by_level (level_of n.trail == 0) refl q
  where
    id : ℕ
    id = derived_id n

    unit : NumberedClause
    unit = record { id = id; lits = e.lit ∷ [] }

    by_zero : level_of n.trail ≡ 0 → find (is_forced_by_long n.clauses) n.trail ≡ Some e → IsSound (united_node e n)
    by_zero z k =
        let t : is_true n.trail e.lit ≡ true = found-true (is_forced_by_long n.clauses) n.trail e k in
        let range : IsLiteralOf n.variables e.lit = placed-range n.variables n.trail [] e.lit h.consistent.placed t in
        let at_zero : EachAfter IsForcedAtZero [] n.trail = forced-zero n.trail [] h.consistent.levels z in
        let with_unit : IsSound (refuted (e.lit ∷ []) n) = refuted-sound n (e.lit ∷ []) h (record { rising = refl; within = All-cons (IsLiteralOf n.variables) e.lit [] range (All-nil (IsLiteralOf n.variables)) }) (each-weaker IsForcedAtZero (IsClosed (n.clauses ++ unit ∷ [])) (λ b x f r. absurd (f.0 r)) n.trail [] at_zero) (λ calm. unit-settled n h calm e.lit id t) in
        reasoned-sound (refuted (e.lit ∷ []) n) e.lit id n.verdict with_unit idle.calm z idle.handled (contains-with_clause unit n.clauses)

    by_level : (b : Bool) → (level_of n.trail == 0) ≡ b → cond {A = Option TrailEntry} b (find (is_forced_by_long n.clauses) n.trail) None ≡ Some e → IsSound (united_node e n)
    by_level true z k = by_zero (eqb-true (level_of n.trail) 0 z) k
    by_level false z k = absurd (cc)
