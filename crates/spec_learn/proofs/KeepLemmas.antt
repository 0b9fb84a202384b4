use Rattle.std.proofs.Common.{◌≡◌, ℕ, ◌+◌, ◌-◌, ◌*◌, ◌/◌, ◌^◌, ◌<◌, ◌≤◌, max, Bool, true, false, cond, not, List, [], ◌∷◌, ◌++◌, length, take, reverse, count_by, Option, Some, None, refl, sym, ap, ◌∙◌, subst, inl, inr, ◌⊎◌, arith}
use Rattle.std.specs.Prelude.{All, ◌==◌, ◌||◌, nat_lt, nat_le}
use Rattle.std.specs.List.{list_any, list_all}
use Rattle.std.specs.List.Sorted.{IsPermutation}
use Rattle.std.specs.Option.{option_map_or}
use Rattle.std.proofs.lemmas.List.{take-append-le, take_all, length_push, length-set}
use Rattle.std.proofs.lemmas.List.Elements.{All-cons, All-head, All-tail, All-weaker, Contains-append_left, Contains-push}
use Rattle.std.proofs.lemmas.List.Folds.{list_any-append}
use Rattle.std.proofs.lemmas.List.Sorted.{IsPermutation-trans, list_any-IsPermutation}
use Rattle.std.proofs.lemmas.Bool.{and_from, or_left, or_right, or_parts, eq-eqb, ne_eqb, both_ways, leb-true, le-leb, lt-leb, false_from_ne_true}
use Rattle.mal_base.specs.Literals.{var_of, negated}
use Rattle.mal_base.specs.NumberedClause.{NumberedClause}
use Rattle.mal_base.specs.declared.trail_entry.TrailEntry.{TrailEntry}
use Rattle.spec_node.specs.State.{Node}
use Rattle.spec_node.specs.Value.{is_true, is_false, has_value, level_of, left_literal}
use Rattle.spec_node.specs.Batch.{is_in_batch}
use Rattle.spec_node.specs.Cut.{kept, removed, saved, cut}
use Rattle.spec_node.specs.Load.{counted, is_derived}
use Rattle.spec_node.specs.Adding.{with_clause}
use Rattle.spec_node.specs.Sound.{EachAfter, IsPlaced, IsLevelled, IsClosed, IsForced, IsChosen, IsPassed, AreSettled, left_is_true, level_in, greatest_level, IsReason, IsLiteralOf, AreLiteralsOf, serial_of, IsRanged, IsConsistent, IsSound}
use Rattle.spec_node.proofs.TrailLemmas.{each-push, each-front, each-weaker, is_true-more, value-from_true, settled-more, true_or_false}
use Rattle.spec_node.proofs.SoundLemmas.{kept-level}
use Rattle.spec_node.proofs.LevelLemmas.{greatest-le}
use Rattle.spec_node.proofs.CutLemmas.{kept-cons, kept-front, kept-settled}
use Rattle.spec_node.proofs.SettledLemmas.{var_of-negated}
use Rattle.spec_learn.specs.Analysis.{Analysed, put, clause_of, jump, vars_in, top}
use Rattle.spec_learn.specs.Order.{moved_all}
use Rattle.spec_learn.specs.Learning.{derived_id, forced_by, counted_in, taught}
use Rattle.spec_learn.proofs.LogicLemmas.{negated-negated}
use Rattle.spec_learn.proofs.HeartLemmas.{IsConsistentTrail}
use Rattle.spec_learn.proofs.BehindLemmas.{sound-consistent}
use Rattle.spec_learn.proofs.UipLemmas.{HasPoint, AreBetween, jump-below}
use Rattle.spec_learn.proofs.PointLemmas.{AllOf, allof-append, allof-front, allof-back, IsOn, level-front, jump-reaches, unit-after}
use Rattle.spec_learn.proofs.ApartLemmas.{IsApart, apart-reverse}
use Rattle.spec_learn.proofs.LawLemmas.{top-trail}
use Rattle.spec_learn.proofs.SoundParts.{moves-permute, counted-has, with-last, numbers-last, below-derived, derived-serial, AreDifferent, AreApartFrom, clause-rises, clause-All, find-alone}
use Rattle.spec_learn.proofs.SettleLemmas.{IsLearnedOn, closed-more, batch-more, batch-open, not-in-take, open-test, clause-own, clause-list_all}

all-last : (P : NumberedClause → Type 0) (xs : List NumberedClause) (y : NumberedClause) → All P xs → P y → All P (xs ++ y ∷ [])
all-last P [] y h p = All-cons P y [] p h
all-last P (x ∷ xs) y h p = All-cons P x (xs ++ y ∷ []) (All-head P x xs h) (all-last P xs y (All-tail P x xs h) p)

-- entries of a cut
kept-levels : (j : ℕ) (es : List TrailEntry) → AllOf (λ e. e.level ≤ j) (kept j es)
kept-levels j [] = tt
kept-levels j (e ∷ es) = subst (AllOf (λ x. x.level ≤ j)) (sym (kept-cons j e es)) (by_level (kept-levels j es) (nat_le e.level j) refl)
  where
    by_level : AllOf (λ x. x.level ≤ j) (kept j es) → (b : Bool) → nat_le e.level j ≡ b → AllOf (λ x. x.level ≤ j) (cond b (e ∷ kept j es) [])
    by_level f true q = (leb-true e.level j q, f)
    by_level f false q = tt

passed-all : (n : ℕ) (es before : List TrailEntry) → length before + length es ≤ n → EachAfter (IsPassed n) before es
passed-all n [] before l = tt
passed-all n (e ∷ es) before l = ((λ q. omega arith), passed-all n es (before ++ e ∷ []) (omega (arith, length_push before e)))

pub level-none : (t : List TrailEntry) (v : ℕ) → has_value t v ≡ false → level_in t v ≡ 0
level-none [] v h = refl
level-none (e ∷ es) v h = let parts = or_parts (v == var_of e.lit) (has_value es v) h in rw parts.0 (level-none es v parts.1)

saved-long : (phases : List Bool) (es : List TrailEntry) → length (saved phases es) ≡ length phases
saved-long phases [] = refl
saved-long phases (e ∷ es) = length-set (saved phases es) _ _ ∙ saved-long phases es

greatest-put : (t : List TrailEntry) (x : ℕ) (ls : List ℕ) → greatest_level t (put x ls) ≡ max (level_in t (var_of x)) (greatest_level t ls)
greatest-put t x [] = refl
greatest-put t x (m ∷ ms) = by_less (greatest-put t x ms) (nat_lt x m)
  where
    by_less : greatest_level t (put x ms) ≡ max (level_in t (var_of x)) (greatest_level t ms) → (b : Bool) → greatest_level t (cond b (x ∷ (m ∷ ms)) (m ∷ put x ms)) ≡ max (level_in t (var_of x)) (max (level_in t (var_of m)) (greatest_level t ms))
    by_less f true = refl
    by_less f false = omega arith

greatest-clause : (t : List TrailEntry) (level : ℕ) (es : List TrailEntry) (point : TrailEntry) → AreBetween level es → point.level ≡ level → AllOf (λ e. level_in t (var_of e.lit) ≡ e.level) es → level_in t (var_of point.lit) ≡ 0 → greatest_level t (clause_of (es ++ point ∷ [])) ≡ jump level (es ++ point ∷ [])
greatest-clause t level [] point b own h z =
    let test : (point.level == level) ≡ true = eq-eqb point.level level own in
    let none : level_in t (var_of (negated point.lit)) ≡ 0 = ap (level_in t) (var_of-negated point.lit) ∙ z in
    ap (λ (k : ℕ). max k 0) none ∙ sym (ap (λ (c : Bool). max (cond {A = ℕ} c 0 point.level) 0) test)
greatest-clause t level (e ∷ es) point b own h z =
    let ih : greatest_level t (clause_of (es ++ point ∷ [])) ≡ jump level (es ++ point ∷ []) = greatest-clause t level es point b.2 own h.1 z in
    let under : e.level < level = b.1 in
    let test : (e.level == level) ≡ false = ne_eqb e.level level (λ q. absurd (omega arith)) in
    let here : level_in t (var_of (negated e.lit)) ≡ e.level = ap (level_in t) (var_of-negated e.lit) ∙ h.0 in
    greatest-put t (negated e.lit) (clause_of (es ++ point ∷ [])) ∙ (ap (λ (k : ℕ). max k (greatest_level t (clause_of (es ++ point ∷ [])))) here ∙ (ap (λ (k : ℕ). max e.level k) ih ∙ sym (ap (λ (c : Bool). max (cond {A = ℕ} c 0 e.level) (jump level (es ++ point ∷ []))) test)))

cut-front : (j : ℕ) (trail : List TrailEntry) (P : List TrailEntry → TrailEntry → Type 0) → EachAfter P [] trail → EachAfter P [] (kept j trail)
cut-front j trail P h = each-front P (kept j trail) (removed j trail) [] (subst (λ (t : List TrailEntry). EachAfter P [] t) (sym (kept-front j trail)) h)

-- the point is not on the cut trail, nor is its negation
point-out : (variables : ℕ) (trail : List TrailEntry) (level : ℕ) (es : List TrailEntry) (point : TrailEntry) → IsLearnedOn variables trail level es point → is_true (kept (jump level (es ++ point ∷ [])) trail) point.lit ≡ false
point-out variables trail level es point k = let a : jump level (es ++ point ∷ []) < level = k.below in let b : point.level ≡ level = k.own in k.on.cut (jump level (es ++ point ∷ [])) ∙ lt-leb point.level (jump level (es ++ point ∷ [])) (omega arith)

cut-true : (j : ℕ) (trail : List TrailEntry) (l : ℕ) → is_true (kept j trail) l ≡ true → is_true trail l ≡ true
cut-true j trail l q = subst (λ (t : List TrailEntry). is_true t l ≡ true) (kept-front j trail) (is_true-more (kept j trail) (removed j trail) l q)

point-free : (variables : ℕ) (trail : List TrailEntry) (level : ℕ) (es : List TrailEntry) (point : TrailEntry) → IsConsistentTrail trail → is_true trail point.lit ≡ true → IsLearnedOn variables trail level es point → has_value (kept (jump level (es ++ point ∷ [])) trail) (var_of point.lit) ≡ false
point-free variables trail level es point c own k = false_from_ne_true (has_value t (var_of point.lit)) (λ q. by_value (true_or_false t point.lit (var_of point.lit) refl q))
  where
    t : List TrailEntry
    t = kept (jump level (es ++ point ∷ [])) trail

    by_value : (is_true t point.lit ≡ true) ⊎ (is_false t point.lit ≡ true) → ⊥
    by_value (inl m) = both_ways (is_true t point.lit) (point-out variables trail level es point k) m
    by_value (inr m) = c point.lit own (cut-true (jump level (es ++ point ∷ [])) trail (negated point.lit) m)

-- the entries of lower levels stay, with their levels
low-levels : (variables j : ℕ) (trail : List TrailEntry) (es : List TrailEntry) → AllOf (IsOn variables trail) es → AllOf (λ e. e.level ≤ j) es → AllOf (λ e. level_in (kept j trail) (var_of e.lit) ≡ e.level) es
low-levels variables j trail [] on low = tt
low-levels variables j trail (e ∷ es) on low =
    let here : is_true (kept j trail) e.lit ≡ true = on.0.cut j ∙ le-leb e.level j low.0 in
    let valued : has_value (kept j trail) (var_of e.lit) ≡ true = value-from_true (kept j trail) e.lit (var_of e.lit) refl here in
    (sym (level-front (kept j trail) (removed j trail) (var_of e.lit) valued) ∙ (ap (λ (t : List TrailEntry). level_in t (var_of e.lit)) (kept-front j trail) ∙ on.0.level), low-levels variables j trail es on.1 low.1)

low-false : (variables j : ℕ) (trail : List TrailEntry) (x : ℕ) (es : List TrailEntry) → AllOf (IsOn variables trail) es → AllOf (λ e. e.level ≤ j) es → AllOf (λ e. ((negated e.lit == x) || is_false (kept j trail) (negated e.lit)) ≡ true) es
low-false variables j trail x [] on low = tt
low-false variables j trail x (e ∷ es) on low = (or_right _ _ (ap (is_true (kept j trail)) (negated-negated e.lit) ∙ (on.0.cut j ∙ le-leb e.level j low.0)), low-false variables j trail x es on.1 low.1)

-- the entry that is pushed, and the clause
abbrev pushed : ℕ → List TrailEntry → TrailEntry → TrailEntry
pushed id t point = record { lit = negated point.lit; reason = Some id; level = level_of t }

learned-reason : (variables : ℕ) (trail : List TrailEntry) (level : ℕ) (es : List TrailEntry) (point : TrailEntry) (id : ℕ) → IsConsistentTrail trail → is_true trail point.lit ≡ true → IsLearnedOn variables trail level es point → IsReason (kept (jump level (es ++ point ∷ [])) trail) (pushed id (kept (jump level (es ++ point ∷ [])) trail) point) (record { id = id; lits = clause_of (es ++ point ∷ []) })
learned-reason variables trail level es point id c own k =
    let j : ℕ = jump level (es ++ point ∷ []) in
    let t : List TrailEntry = kept j trail in
    let reaches : AllOf (λ e. e.level ≤ j) es = jump-reaches level es point k.between in
    let free : has_value t (var_of point.lit) ≡ false = point-free variables trail level es point c own k in
    let greatest : greatest_level t (clause_of (es ++ point ∷ [])) ≡ j = greatest-clause t level es point k.between k.own (low-levels variables j trail es k.lows reaches) (level-none t (var_of point.lit) free) in
    let high : greatest_level t (clause_of (es ++ point ∷ [])) ≤ level_of t = greatest-le t (clause_of (es ++ point ∷ [])) (cut-front j trail IsLevelled k.levels) in
    let low : level_of t ≤ j = kept-level j trail [] (omega arith) in
    record {
      own = clause-own es point;
      others = clause-list_all (λ m. (m == negated point.lit) || is_false t m) (es ++ point ∷ []) (allof-append (λ e. ((negated e.lit == negated point.lit) || is_false t (negated e.lit)) ≡ true) es (point ∷ []) (low-false variables j trail (negated point.lit) es k.lows reaches) (or_left _ _ (eq-eqb (negated point.lit) (negated point.lit) refl), tt));
      level = omega arith;
    }

-- all batches of the cut trail are settled with the new clause
learned-settled : (variables : ℕ) (trail : List TrailEntry) (level : ℕ) (es : List TrailEntry) (point : TrailEntry) (clauses : List NumberedClause) (id : ℕ) → EachAfter (IsClosed clauses) [] trail → IsLearnedOn variables trail level es point → AreSettled (length (kept (jump level (es ++ point ∷ [])) trail) + 1) (kept (jump level (es ++ point ∷ [])) trail ++ pushed id (kept (jump level (es ++ point ∷ [])) trail) point ∷ []) (clauses ++ record { id = id; lits = clause_of (es ++ point ∷ []) } ∷ [])
learned-settled variables trail level es point clauses id closed k q l = batch-more (left_is_true (take q t') t') (take q t') clauses new (old (kept-settled j clauses trail [] (omega arith) k.levels closed) q l) fresh
  where
    j : ℕ
    j = jump level (es ++ point ∷ [])

    t : List TrailEntry
    t = kept j trail

    x : TrailEntry
    x = pushed id t point

    t' : List TrailEntry
    t' = t ++ x ∷ []

    new : NumberedClause
    new = record { id = id; lits = clause_of (es ++ point ∷ []) }

    old : (kept j trail ≡ trail) ⊎ AreSettled (length t + 1) t clauses → AreSettled (length t + 1) t' clauses
    old (inl m) =
        let a : jump level (es ++ point ∷ []) < level = k.below in
        let b : level ≡ level_of trail = k.reached in
        let d : level_of (kept j trail) ≤ j = kept-level j trail [] (omega arith) in
        let e : level_of (kept j trail) ≡ level_of trail = ap level_of m in
        absurd (omega arith)
    old (inr m) = settled-more (length t + 1) t (x ∷ []) clauses (omega arith) m

    fresh : is_in_batch (take q t') new ≡ true → left_is_true (take q t') t' new ≡ true
    fresh m =
        let front : take q t' ≡ take q t = take-append-le q t (x ∷ []) (omega arith) in
        let few : count_by (λ y. not (is_false (take q t') y)) (clause_of (es ++ point ∷ [])) ≤ 1 = batch-open (take q t') new m in
        let alive : not (is_false (take q t') (negated point.lit)) ≡ true = subst (λ (p : List TrailEntry). not (is_false p (negated point.lit)) ≡ true) (sym front) (open-test (take q t) point (not-in-take q t point.lit (point-out variables trail level es point k))) in
        let left : left_literal (take q t') (clause_of (es ++ point ∷ [])) ≡ Some (negated point.lit) = find-alone (λ y. not (is_false (take q t') y)) (negated point.lit) (clause_of (es ++ point ∷ [])) alive (clause-own es point) few in
        ap (λ (o : Option ℕ). option_map_or (is_true t') o false) left ∙ (list_any-append (λ e. e.lit == negated point.lit) t (x ∷ []) ∙ or_right _ _ (or_left _ _ (eq-eqb (negated point.lit) (negated point.lit) refl)))

-- a node after learning from kept entries, with its trail and clauses
abbrev shaped : Node → ℕ → List TrailEntry → List TrailEntry → List NumberedClause → Node
shaped n level es trail clauses =
    let c = cut (jump level es) n in
    record c {
      clauses = clauses;
      trail = trail;
      processed = length c.trail + 1;
      order = moved_all (vars_in (clause_of es)) n.order;
      serial = n.serial + 1;
      conflicts_since_restart = n.conflicts_since_restart + 1;
      conflicts_since_dropping = counted_in n.profile n.conflicts_since_dropping;
      conflict = None;
    }

pub order-has : (variables : ℕ) (order lits : List ℕ) → IsPermutation (counted 1 variables) order → All (IsLiteralOf variables) lits → list_all (λ v. list_any (λ w. w == v) order) (vars_in lits) ≡ true
order-has variables order [] p h = refl
order-has variables order (l ∷ ls) p h =
    let own : IsLiteralOf variables l = All-head (IsLiteralOf variables) l ls h in
    let high : var_of l ≤ variables = own.high in
    and_from _ _ (sym (list_any-IsPermutation (λ w. w == var_of l) (counted 1 variables) order p) ∙ counted-has 1 variables (var_of l) own.low (omega arith)) (order-has variables order ls p (All-tail (IsLiteralOf variables) l ls h))

pub literals-of : (variables : ℕ) (trail es : List TrailEntry) → AllOf (IsOn variables trail) es → AllOf (λ e. IsLiteralOf variables (negated e.lit)) es
literals-of variables trail [] h = tt
literals-of variables trail (e ∷ es) h = (record { low = subst (λ (v : ℕ). 1 ≤ v) (sym (var_of-negated e.lit)) h.0.low; high = subst (λ (v : ℕ). v ≤ variables) (sym (var_of-negated e.lit)) h.0.high }, literals-of variables trail es h.1)

shaped-sound : (n : Node) (level : ℕ) (es : List TrailEntry) (point : TrailEntry) → IsSound n → is_true n.trail point.lit ≡ true → AreDifferent (es ++ point ∷ []) → IsLearnedOn n.variables n.trail level es point → IsSound (shaped n level (es ++ point ∷ []) (kept (jump level (es ++ point ∷ [])) n.trail ++ pushed (derived_id n) (kept (jump level (es ++ point ∷ [])) n.trail) point ∷ []) (n.clauses ++ record { id = derived_id n; lits = clause_of (es ++ point ∷ []) } ∷ []))
shaped-sound n level es point h own d k =
    record {
      ranged = record {
        index = r.index;
        variables = r.variables;
        restart_number = r.restart_number;
        phases = saved-long n.phases (removed j n.trail) ∙ r.phases;
        numbers = numbers-last 1 new n.clauses (omega arith) r.numbers below;
        serial = all-last (λ c. is_derived c ≡ true → serial_of c < n.serial + 1) n.clauses new (All-weaker (λ c. is_derived c ≡ true → serial_of c < n.serial) (λ c. is_derived c ≡ true → serial_of c < n.serial + 1) (λ c f q. let u : serial_of c < n.serial = f q in omega arith) n.clauses r.serial) (λ q. let s : (2 ^ 32 + n.serial * 64 + n.index - 2 ^ 32) / 64 ≡ n.serial = derived-serial n.serial n.index r.index in omega arith);
      };
      consistent = record {
        order = IsPermutation-trans (counted 1 n.variables) n.order (moved_all (vars_in lits) n.order) c.order (moves-permute (vars_in lits) n.order (order-has n.variables n.order lits c.order within));
        clauses = all-last (λ x. AreLiteralsOf n.variables x.lits) n.clauses new c.clauses (record { rising = clause-rises (es ++ point ∷ []) d; within = within });
        assumptions = c.assumptions;
        placed = each-push (IsPlaced n.variables) t [] x (cut-front j n.trail (IsPlaced n.variables) c.placed) (record { low = subst (λ (v : ℕ). 1 ≤ v) (sym (var_of-negated point.lit)) k.on.low; high = subst (λ (v : ℕ). v ≤ n.variables) (sym (var_of-negated point.lit)) k.on.high; free = subst (λ (v : ℕ). has_value t v ≡ false) (sym (var_of-negated point.lit)) (point-free n.variables n.trail level es point consistent own k) });
        levels = each-push IsLevelled t [] x (cut-front j n.trail IsLevelled c.levels) refl;
        closed = each-push (IsClosed clauses') t [] x closed (λ q. absurd (cc));
        handled = omega (arith, length_push t x);
        settled = λ q. learned-settled n.variables n.trail level es point n.clauses (derived_id n) c.closed k;
      };
      reasons = each-push (IsForced clauses') t [] x (each-weaker (IsForced n.clauses) (IsForced clauses') (λ b e f id q. let y = f id q in (y.0, Contains-append_left n.clauses (new ∷ []) y.0 y.1, y.2, y.3)) t [] (cut-front j n.trail (IsForced n.clauses) h.reasons)) (λ id q. (new, Contains-push n.clauses new, the-number id q, learned-reason n.variables n.trail level es point (derived_id n) consistent own k));
      chosen = each-push (IsChosen n.assumptions) t [] x (cut-front j n.trail (IsChosen n.assumptions) h.chosen) (λ q. absurd (cc));
      passed = each-push (IsPassed (length t + 1)) t [] x (passed-all (length t + 1) t [] (omega arith)) (λ q. absurd (cc));
      reached = ap level_of (take_all (length t + 1) (t ++ x ∷ []) (omega (arith, length_push t x)));
      waiting = λ id q. absurd (cc);
    }
  where
    r : IsRanged n
    r = h.ranged

    c : IsConsistent n
    c = h.consistent

    j : ℕ
    j = jump level (es ++ point ∷ [])

    t : List TrailEntry
    t = kept j n.trail

    x : TrailEntry
    x = pushed (derived_id n) t point

    lits : List ℕ
    lits = clause_of (es ++ point ∷ [])

    new : NumberedClause
    new = record { id = derived_id n; lits = lits }

    clauses' : List NumberedClause
    clauses' = n.clauses ++ new ∷ []

    consistent : IsConsistentTrail n.trail
    consistent = sound-consistent n h

    below : All (λ (y : NumberedClause). y.id < derived_id n) n.clauses
    below = below-derived n.serial n.index n.clauses r.serial

    within : All (IsLiteralOf n.variables) lits
    within = clause-All (IsLiteralOf n.variables) (es ++ point ∷ []) (literals-of n.variables n.trail (es ++ point ∷ []) (allof-append (IsOn n.variables n.trail) es (point ∷ []) k.lows (k.on, tt)))

    closed : EachAfter (IsClosed clauses') [] t
    closed = closed-more n.variables n.trail level es point n.clauses (derived_id n) k t [] (removed j n.trail) (kept-front j n.trail) tt (cut-front j n.trail IsLevelled c.levels) (kept-levels j n.trail) (cut-front j n.trail (IsClosed n.clauses) c.closed)

    the-number : (id : ℕ) → Some (derived_id n) ≡ Some id → derived_id n ≡ id
    the-number id q = cc

-- the trail's entries, latest first, are different, and kept ones are on it
pub different-reverse : (n : ℕ) (past : List TrailEntry) → IsApart n past → AreDifferent past
different-reverse n [] a = tt
different-reverse n (e ∷ past) a = (a.0, different-reverse n past a.3)

pub apart-none : (past : List TrailEntry) → AreApartFrom [] past
apart-none [] = tt
apart-none (e ∷ past) = (refl, apart-none past)

-- a clause of the negations of different entries of a node's trail, one of the current level and others of levels from
-- 1 on below, and the greatest level of those others
pub record IsOfEntries (n : Node) (a : Analysed) : Type 0 where
  pub entries : List TrailEntry
  pub lits : a.lits ≡ clause_of entries
  pub level : a.level ≡ jump (top (reverse n.trail)) entries
  pub point : HasPoint (top (reverse n.trail)) entries
  pub on : AllOf (IsOn n.variables n.trail) entries
  pub different : AreDifferent entries

-- the entries of a sound node's trail, latest first, are different
pub sound-different : (n : Node) → IsSound n → AreDifferent (reverse n.trail)
sound-different n h =
    let less : n.variables + 1 - 1 ≡ n.variables = omega arith in
    let placed : EachAfter (IsPlaced (n.variables + 1 - 1)) [] n.trail = subst (λ (m : ℕ). EachAfter (IsPlaced m) [] n.trail) (sym less) h.consistent.placed in
    different-reverse (n.variables + 1) (reverse n.trail) (apart-reverse (n.variables + 1) n.trail (omega arith) placed)

-- learning a clause of such entries keeps a node sound
pub entries-sound : (n : Node) (a : Analysed) → IsSound n → 0 < level_of n.trail → IsOfEntries n a → IsSound (taught a n)
entries-sound n a h some k =
    subst (λ (ls : List ℕ). IsSound (taught (record { lits = ls; hints = a.hints; level = a.level }) n)) (sym k.lits)
    (subst (λ (j : ℕ). IsSound (taught (record { lits = clause_of k.entries; hints = a.hints; level = j }) n)) (sym k.level)
    (subst (λ (es : List TrailEntry). IsSound (shaped n level es (forced_by (derived_id n) (kept (jump level es) n.trail) (left_literal (kept (jump level es) n.trail) (clause_of es))) (with_clause (record { id = derived_id n; lits = clause_of es }) n.clauses))) (sym p.is)
    (subst (λ (cs : List NumberedClause). IsSound (shaped n level es (forced_by (derived_id n) t (left_literal t (clause_of es))) cs)) (sym (with-last new n.clauses (below-derived n.serial n.index n.clauses h.ranged.serial)))
    (subst (λ (o : Option ℕ). IsSound (shaped n level es (forced_by (derived_id n) t o) (n.clauses ++ new ∷ []))) (sym left)
    (shaped-sound n level p.low p.point h own different l)))))
  where
    level : ℕ
    level = top (reverse n.trail)

    p : HasPoint (top (reverse n.trail)) k.entries
    p = k.point

    es : List TrailEntry
    es = p.low ++ p.point ∷ []

    t : List TrailEntry
    t = kept (jump level es) n.trail

    new : NumberedClause
    new = record { id = derived_id n; lits = clause_of es }

    same : top (reverse n.trail) ≡ level_of n.trail
    same = top-trail n.trail

    on : AllOf (IsOn n.variables n.trail) es
    on = subst (AllOf (IsOn n.variables n.trail)) p.is k.on

    lower : jump level es < level
    lower = subst (λ (xs : List TrailEntry). jump level xs < level) p.is (jump-below level k.entries (let s : top (reverse n.trail) ≡ level_of n.trail = same in omega arith) p)

    l : IsLearnedOn n.variables n.trail level p.low p.point
    l = record {
      between = p.between;
      own = p.own;
      below = lower;
      reached = same;
      lows = allof-front (IsOn n.variables n.trail) p.low (p.point ∷ []) on;
      on = (allof-back (IsOn n.variables n.trail) p.low (p.point ∷ []) on).0;
      placed = h.consistent.placed;
      levels = h.consistent.levels;
    }

    own : is_true n.trail p.point.lit ≡ true
    own = cut-true p.point.level n.trail p.point.lit (l.on.cut p.point.level ∙ le-leb p.point.level p.point.level (omega arith))

    different : AreDifferent es
    different = subst AreDifferent p.is k.different

    left : left_literal t (clause_of es) ≡ Some (negated p.point.lit)
    left =
        let one : count_by (λ y. not (is_false t y)) (clause_of es) ≡ 1 = unit-after n.variables n.trail p.low p.point level p.between p.own lower l.lows l.on in
        find-alone (λ y. not (is_false t y)) (negated p.point.lit) (clause_of es) (open-test t p.point (point-out n.variables n.trail level p.low p.point l)) (clause-own p.low p.point) (omega arith)
