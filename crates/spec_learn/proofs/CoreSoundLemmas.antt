use Rattle.std.proofs.Common.{◌≡◌, ℕ, ◌+◌, ◌<◌, ◌≤◌, Bool, true, false, cond, not, List, [], ◌∷◌, ◌++◌, take, reverse, count_by, Option, Some, None, refl, sym, ap, ◌∙◌, subst, append_assoc, append-nil, inl, inr, ◌⊎◌, arith}
use Rattle.std.specs.Prelude.{Contains, ◌==◌, ◌&&◌, nat_le}
use Rattle.std.specs.List.{list_any}
use Rattle.std.specs.Option.{option_map_or}
use Rattle.std.proofs.lemmas.List.Folds.{list_any-append}
use Rattle.std.proofs.lemmas.List.Sorted.{list_any-IsPermutation, IsPermutation-reverse}
use Rattle.std.proofs.lemmas.Bool.{and_parts, and_from, or_cases, or_left, or_right, eq-eqb, eqb-true, eqb-false, both_ways, cases_lt, le-leb, lt-leb, false_from_ne_true}
use Rattle.mal_base.specs.Literals.{var_of, negated}
use Rattle.mal_base.specs.NumberedClause.{NumberedClause, lits_under}
use Rattle.mal_base.specs.declared.trail_entry.TrailEntry.{TrailEntry}
use Rattle.spec_node.specs.State.{Node}
use Rattle.spec_node.specs.Value.{is_true, is_false, level_of, open_count, left_literal}
use Rattle.spec_node.specs.Batch.{is_in_batch}
use Rattle.spec_node.specs.Cut.{kept}
use Rattle.spec_node.specs.Sound.{EachAfter, IsLevelled, IsClosed, IsForced, IsReason, NumbersRise, left_is_true, own_level, level_in, greatest_level, IsSound}
use Rattle.spec_node.proofs.TrailLemmas.{each-push, is_true-more}
use Rattle.spec_node.proofs.CutLemmas.{kept-cons}
use Rattle.spec_node.proofs.LevelLemmas.{levels-high}
use Rattle.spec_learn.specs.Analysis.{Walk, Analysed, has_var, vars_in, vars_under, begun, keeping, resolving, is_left, is_resolved, after_seen, after_entry, walked, clause_of}
use Rattle.spec_learn.specs.Analysis.Aim.{Final}
use Rattle.spec_learn.specs.Learning.{derived_id}
use Rattle.spec_learn.specs.Refuting.{core_analysis, cored}
use Rattle.spec_learn.specs.CoreLaws.{HasFailed}
use Rattle.spec_learn.proofs.HeartLemmas.{under-is}
use Rattle.spec_learn.proofs.BehindLemmas.{EachBehind, each-reverse, held-under}
use Rattle.spec_learn.proofs.UipLemmas.{left-more}
use Rattle.spec_learn.proofs.PointLemmas.{AllOf, IsOn, count-put, kept-through, left-one}
use Rattle.spec_learn.proofs.SoundParts.{find-alone}
use Rattle.spec_learn.proofs.SettleLemmas.{clause-own, point-counts, not-in-front, not-in-take, open-test, no-batch, batch-open, batch-more}
use Rattle.spec_learn.proofs.RefuteLemmas.{refuted-sound}
use Rattle.spec_learn.proofs.CoreLemmas.{behind-back, IsFallenAt, failed-open, sound-fallen, assumed, core_walk, core-is}
use Rattle.spec_learn.proofs.CoreClauseLemmas.{fallen-on, core-on, core-clause}

-- a literal of the greatest level
greatest-left : (trail : List TrailEntry) (seen lits : List ℕ) (level : ℕ) → 0 < level → ((v : ℕ) → has_var (vars_in lits) v ≡ true → has_var seen v ≡ true) → greatest_level trail lits ≡ level → is_left level seen trail ≡ true
greatest-left trail seen [] level some f q = absurd (omega arith)
greatest-left trail seen (l ∷ ls) level some f q = by_here (greatest-left trail seen ls level some (λ v k. f v (or_right _ _ k))) (level_in trail (var_of l) == level) refl
  where
    other : (level_in trail (var_of l) == level) ≡ false → greatest_level trail ls ≡ level
    other k = let u = eqb-false (level_in trail (var_of l)) level k in omega arith

    by_here : (greatest_level trail ls ≡ level → is_left level seen trail ≡ true) → (b : Bool) → (level_in trail (var_of l) == level) ≡ b → is_left level seen trail ≡ true
    by_here g true k = left-one trail level seen (var_of l) some (eqb-true (level_in trail (var_of l)) level k) (f (var_of l) (or_left _ _ (eq-eqb (var_of l) (var_of l) refl)))
    by_here g false k = g (other k)

left-front : (k : ℕ) (new seen : List ℕ) (past : List TrailEntry) → is_left k new past ≡ true → is_left k (new ++ seen) past ≡ true
left-front k new seen [] h = absurd (cc)
left-front k new seen (e ∷ past) h = by_place (left-front k new seen past) (or_cases ((e.level == k) && has_var new (var_of e.lit)) (is_left k new past) h)
  where
    by_place : (is_left k new past ≡ true → is_left k (new ++ seen) past ≡ true) → (((e.level == k) && has_var new (var_of e.lit)) ≡ true) ⊎ (is_left k new past ≡ true) → is_left k (new ++ seen) (e ∷ past) ≡ true
    by_place f (inl q) = let parts = and_parts (e.level == k) (has_var new (var_of e.lit)) q in or_left _ _ (and_from _ _ parts.0 (list_any-append (λ w. var_of e.lit == w) new seen ∙ or_left _ _ parts.1))
    by_place f (inr q) = or_right _ _ (f q)

-- a reason above level 0 has another literal of the level of its entry
abbrev AreReaching : List NumberedClause → List TrailEntry → Type 0
AreReaching clauses [] = Unit {0}
AreReaching clauses (e ∷ past) = ((r : ℕ) → e.reason ≡ Some r → 0 < e.level → is_left e.level (vars_under clauses r) past ≡ true) × AreReaching clauses past

reaching-behind : (clauses : List NumberedClause) (past : List TrailEntry) → NumbersRise 1 clauses → EachBehind (IsForced clauses) past → AreReaching clauses past
reaching-behind clauses [] n h = tt
reaching-behind clauses (e ∷ past) n h = ((λ r q. made r (h.0 r q)), reaching-behind clauses past n h.1)
  where
    made : (r : ℕ) → (c : NumberedClause) × Contains clauses c × (c.id ≡ r) × IsReason (reverse past) e c → 0 < e.level → is_left e.level (vars_under clauses r) past ≡ true
    made r k some =
        let held : lits_under r clauses ≡ Some k.0.lits = subst (λ (x : ℕ). lits_under x clauses ≡ Some k.0.lits) k.2 (held-under 1 clauses k.0 n k.1) in
        list_any-IsPermutation (λ x. (x.level == e.level) && has_var (vars_under clauses r) (var_of x.lit)) past (reverse past) (IsPermutation-reverse past) ∙ greatest-left (reverse past) (vars_under clauses r) k.0.lits e.level some (λ v m. ap (λ (vs : List ℕ). has_var vs v) (under-is clauses r k.0.lits held) ∙ m) k.3.level

-- so the decision of a level is kept where a literal of the level is left
kept-grows : (p : TrailEntry → Bool) (clauses : List NumberedClause) (past : List TrailEntry) (w : Walk) → list_any p w.kept ≡ true → list_any p (walked Final clauses past w).kept ≡ true
kept-grows p clauses [] w h = h
kept-grows p clauses (e ∷ past) w h = kept-grows p clauses past (after_entry Final clauses e past w) (by_seen (has_var w.seen (var_of e.lit)))
  where
    by_reason : (o : Option ℕ) → list_any p (option_map_or (λ r. cond (is_resolved Final e w.seen past) (resolving clauses r w) (keeping e w)) o (keeping e w)).kept ≡ true
    by_reason None = or_right _ _ h
    by_reason (Some r) = h

    by_seen : (b : Bool) → list_any p (cond b (after_seen Final clauses e past w) w).kept ≡ true
    by_seen true = by_reason e.reason
    by_seen false = h

level-kept : (level : ℕ) (clauses : List NumberedClause) (past : List TrailEntry) (w : Walk) → 0 < level → AreReaching clauses past → is_left level w.seen past ≡ true → list_any (λ e. e.level == level) (walked Final clauses past w).kept ≡ true
level-kept level clauses [] w some g h = absurd (cc)
level-kept level clauses (e ∷ past) w some g h = by_seen (λ v k. level-kept level clauses past v some g.1 k) (has_var w.seen (var_of e.lit)) refl (or_cases ((e.level == level) && has_var w.seen (var_of e.lit)) (is_left level w.seen past) h)
  where
    resolved : (r : ℕ) → e.reason ≡ Some r → ((e.level == level) ≡ true) ⊎ (is_left level w.seen past ≡ true) → is_left level (resolving clauses r w).seen past ≡ true
    resolved r q (inl k) = let same : e.level ≡ level = eqb-true e.level level k in left-front level (vars_under clauses r) w.seen past (subst (λ (m : ℕ). is_left m (vars_under clauses r) past ≡ true) same (g.0 r q (omega arith)))
    resolved r q (inr k) = left-more level (vars_under clauses r) w.seen past k

    by_reason : ((v : Walk) → is_left level v.seen past ≡ true → list_any (λ x. x.level == level) (walked Final clauses past v).kept ≡ true) → (o : Option ℕ) → e.reason ≡ o → ((e.level == level) ≡ true) ⊎ (is_left level w.seen past ≡ true) → list_any (λ x. x.level == level) (walked Final clauses past (option_map_or (λ r. cond (is_resolved Final e w.seen past) (resolving clauses r w) (keeping e w)) o (keeping e w))).kept ≡ true
    by_reason f None q (inl k) = kept-grows (λ x. x.level == level) clauses past (keeping e w) (or_left _ _ k)
    by_reason f None q (inr k) = f (keeping e w) k
    by_reason f (Some r) q k = f (resolving clauses r w) (resolved r q k)

    own : (b : Bool) → ((e.level == level) && b) ≡ true → (e.level == level) ≡ true
    own b k = (and_parts (e.level == level) b k).0

    by_seen : ((v : Walk) → is_left level v.seen past ≡ true → list_any (λ x. x.level == level) (walked Final clauses past v).kept ≡ true) → (b : Bool) → has_var w.seen (var_of e.lit) ≡ b → (((e.level == level) && has_var w.seen (var_of e.lit)) ≡ true) ⊎ (is_left level w.seen past ≡ true) → list_any (λ x. x.level == level) (walked Final clauses past (cond b (after_seen Final clauses e past w) w)).kept ≡ true
    by_seen f true q (inl k) = by_reason f e.reason refl (inl (own (has_var w.seen (var_of e.lit)) k))
    by_seen f true q (inr k) = by_reason f e.reason refl (inr k)
    by_seen f false q (inl k) = absurd (both_ways (has_var w.seen (var_of e.lit)) q (and_parts (e.level == level) (has_var w.seen (var_of e.lit)) k).1)
    by_seen f false q (inr k) = f w k

-- a clause with two open literals
two-open : (p : ℕ → Bool) (es : List TrailEntry) (point : TrailEntry) → p (negated point.lit) ≡ true → list_any (λ e. p (negated e.lit)) es ≡ true → 2 ≤ count_by p (clause_of (es ++ point ∷ []))
two-open p [] point q h = absurd (cc)
two-open p (e ∷ es) point q h = by_place (two-open p es point q) (p (negated e.lit)) refl (or_cases (p (negated e.lit)) (list_any (λ x. p (negated x.lit)) es) h) (count-put p (negated e.lit) (clause_of (es ++ point ∷ [])))
  where
    by_place : (list_any (λ (x : TrailEntry). p (negated x.lit)) es ≡ true → 2 ≤ count_by p (clause_of (es ++ point ∷ []))) → (b : Bool) → p (negated e.lit) ≡ b → (p (negated e.lit) ≡ true) ⊎ (list_any (λ (x : TrailEntry). p (negated x.lit)) es ≡ true) → count_by p (clause_of ((e ∷ es) ++ point ∷ [])) ≡ cond {A = ℕ} (p (negated e.lit)) 1 0 + count_by p (clause_of (es ++ point ∷ [])) → 2 ≤ count_by p (clause_of ((e ∷ es) ++ point ∷ []))
    by_place f true r k c = let one : 1 ≤ count_by p (clause_of (es ++ point ∷ [])) = point-counts p es point q in let d : count_by p (clause_of ((e ∷ es) ++ point ∷ [])) ≡ 1 + count_by p (clause_of (es ++ point ∷ [])) = c ∙ ap (λ (b : Bool). cond {A = ℕ} b 1 0 + count_by p (clause_of (es ++ point ∷ []))) r in omega arith
    by_place f false r (inl k) c = absurd (both_ways (p (negated e.lit)) r k)
    by_place f false r (inr k) c = let u : 2 ≤ count_by p (clause_of (es ++ point ∷ [])) = f k in let d : count_by p (clause_of ((e ∷ es) ++ point ∷ [])) ≡ 0 + count_by p (clause_of (es ++ point ∷ [])) = c ∙ ap (λ (b : Bool). cond {A = ℕ} b 1 0 + count_by p (clause_of (es ++ point ∷ []))) r in omega arith

-- entries of a level that a front has not reached are open under it
level-open : (variables : ℕ) (trail before rest : List TrailEntry) (q level : ℕ) (es : List TrailEntry) → before ++ rest ≡ trail → EachAfter IsLevelled [] before → AllOf (IsOn variables trail) es → level_of before < level → list_any (λ e. e.level == level) es ≡ true → list_any (λ e. not (is_false (take q before) (negated e.lit))) es ≡ true
level-open variables trail before rest q level [] w h on l k = absurd (cc)
level-open variables trail before rest q level (e ∷ es) w h on l k = by_place (level-open variables trail before rest q level es w h on.1 l) (or_cases (e.level == level) (list_any (λ x. x.level == level) es) k)
  where
    by_place : (list_any (λ (x : TrailEntry). x.level == level) es ≡ true → list_any (λ (x : TrailEntry). not (is_false (take q before) (negated x.lit))) es ≡ true) → ((e.level == level) ≡ true) ⊎ (list_any (λ (x : TrailEntry). x.level == level) es ≡ true) → list_any (λ (x : TrailEntry). not (is_false (take q before) (negated x.lit))) (e ∷ es) ≡ true
    by_place f (inl m) = let same : e.level ≡ level = eqb-true e.level level m in or_left _ _ (open-test (take q before) e (not-in-take q before e.lit (not-in-front variables trail before rest e w h on.0 (omega arith))))
    by_place f (inr m) = or_right _ _ (f m)

-- a front that ends before a decision is the cut to its level
front-kept : (before : List TrailEntry) (e : TrailEntry) (rest : List TrailEntry) → EachAfter IsLevelled [] before → e.level ≡ level_of before + 1 → kept (level_of before) (before ++ e ∷ rest) ≡ before
front-kept before e rest h q =
    let high : nat_le e.level (level_of before) ≡ false = lt-leb e.level (level_of before) (omega arith) in
    kept-through (level_of before) before (e ∷ rest) (levels-high before [] h) ∙ (ap (λ (t : List TrailEntry). before ++ t) (kept-cons (level_of before) e rest ∙ ap (λ (b : Bool). cond b (e ∷ kept (level_of before) rest) []) high) ∙ append-nil before)

-- what is known of a core clause on a trail: the kept entries are on it, one has the level of the negation where that
-- is above 0, and the assumption is not true
record IsCoreOn (variables : ℕ) (trail : List TrailEntry) (a : ℕ) (x : TrailEntry) (es : List TrailEntry) : Type 0 where
  pub on : AllOf (IsOn variables trail) es
  pub own : IsOn variables trail x
  pub same : x.lit ≡ negated a
  pub level : 0 < x.level → list_any (λ e. e.level == x.level) es ≡ true
  pub dead : is_true trail a ≡ false

-- where the negation is true, the clause is settled
there : (a : ℕ) (t : List TrailEntry) (q : ℕ) (es : List TrailEntry) (new : NumberedClause) → new.lits ≡ clause_of (es ++ assumed a ∷ []) → is_true t (negated a) ≡ true → is_true t a ≡ false → is_in_batch (take q t) new ≡ true → left_is_true (take q t) t new ≡ true
there a t q es new is own dead m =
    let few : count_by (λ y. not (is_false (take q t) y)) (clause_of (es ++ assumed a ∷ [])) ≤ 1 = subst (λ (ls : List ℕ). count_by (λ y. not (is_false (take q t) y)) ls ≤ 1) is (batch-open (take q t) new m) in
    let alive : not (is_false (take q t) (negated a)) ≡ true = open-test (take q t) (assumed a) (not-in-take q t a dead) in
    let left : left_literal (take q t) (clause_of (es ++ assumed a ∷ [])) ≡ Some (negated a) = find-alone (λ y. not (is_false (take q t) y)) (negated a) (clause_of (es ++ assumed a ∷ [])) alive (clause-own es (assumed a)) few in
    ap (λ (o : Option ℕ). option_map_or (is_true t) o false) (ap (left_literal (take q t)) is ∙ left) ∙ own

core-closed : (variables : ℕ) (trail : List TrailEntry) (a : ℕ) (x : TrailEntry) (es : List TrailEntry) (clauses : List NumberedClause) (new : NumberedClause) → new.lits ≡ clause_of (es ++ assumed a ∷ []) → IsCoreOn variables trail a x es → (xs before : List TrailEntry) → before ++ xs ≡ trail → EachAfter IsLevelled [] before → EachAfter IsLevelled before xs → EachAfter (IsClosed clauses) before xs → EachAfter (IsClosed (clauses ++ new ∷ [])) before xs
core-closed variables trail a x es clauses new is k [] before whole hb h c = tt
core-closed variables trail a x es clauses new is k (e ∷ xs) before whole hb h c =
    (here, core-closed variables trail a x es clauses new is k xs (before ++ e ∷ []) (append_assoc before (e ∷ []) xs ∙ whole) (each-push IsLevelled before [] e hb h.0) h.1 c.1)
  where
    dead : is_true before a ≡ false
    dead = false_from_ne_true (is_true before a) (λ q. both_ways (is_true trail a) k.dead (subst (λ (t : List TrailEntry). is_true t a ≡ true) whole (is_true-more before (e ∷ xs) a q)))

    by_level : e.reason ≡ None → (q : ℕ) → (level_of before < x.level) ⊎ (x.level ≤ level_of before) → is_in_batch (take q before) new ≡ true → left_is_true (take q before) before new ≡ true
    by_level none q (inl l) m =
        let alive : not (is_false (take q before) (negated a)) ≡ true = open-test (take q before) (assumed a) (not-in-take q before a dead) in
        let some : list_any (λ y. not (is_false (take q before) (negated y.lit))) es ≡ true = level-open variables trail before (e ∷ xs) q x.level es whole hb k.on l (k.level (omega arith)) in
        let two : 2 ≤ open_count (take q before) (clause_of (es ++ assumed a ∷ [])) = two-open (λ y. not (is_false (take q before) y)) es (assumed a) alive some in
        absurd (both_ways (is_in_batch (take q before) new) (no-batch (take q before) new (subst (λ (ls : List ℕ). 2 ≤ open_count (take q before) ls) (sym is) two)) m)
    by_level none q (inr l) m =
        let own : e.level ≡ level_of before + 1 = h.0 ∙ ap (own_level before) none in
        let cut : is_true (kept (level_of before) trail) x.lit ≡ true = k.own.cut (level_of before) ∙ le-leb x.level (level_of before) l in
        let front : kept (level_of before) trail ≡ before = ap (kept (level_of before)) (sym whole) ∙ front-kept before e xs hb own in
        there a before q es new is (subst (λ (l : ℕ). is_true before l ≡ true) k.same (subst (λ (t : List TrailEntry). is_true t x.lit ≡ true) front cut)) dead m

    here : IsClosed (clauses ++ new ∷ []) before e
    here none q l = batch-more (left_is_true (take q before) before) (take q before) clauses new (c.0 none q l) (by_level none q (cases_lt (level_of before) x.level))

-- deriving the core clause keeps a node sound
pub cored-sound : (n : Node) (a : ℕ) → IsSound n → HasFailed n a → IsSound (cored a n)
cored-sound n a h f = refuted-sound n (core_analysis a n).lits h (core-clause n a h f).literals (core-closed n.variables n.trail a k.entry kept n.clauses new is on n.trail [] refl tt h.consistent.levels h.consistent.closed) (λ m q l. batch-more (left_is_true (take q n.trail) n.trail) (take q n.trail) n.clauses new (h.consistent.settled m q l) (there a n.trail q kept new is f.fell on.dead))
  where
    k : IsFallenAt n a
    k = sound-fallen n a h f

    kept : List TrailEntry
    kept = (core_walk n.clauses a k.past k.id).kept

    new : NumberedClause
    new = record { id = derived_id n; lits = (core_analysis a n).lits }

    is : new.lits ≡ clause_of (kept ++ assumed a ∷ [])
    is = ap (λ (x : Analysed). x.lits) (core-is n a k)

    reaching : AreReaching n.clauses (k.entry ∷ k.past)
    reaching = reaching-behind n.clauses (k.entry ∷ k.past) h.ranged.numbers (behind-back (IsForced n.clauses) k.front (k.entry ∷ k.past) (subst (EachBehind (IsForced n.clauses)) k.whole (each-reverse (IsForced n.clauses) n.trail h.reasons)))

    on : IsCoreOn n.variables n.trail a k.entry kept
    on = record {
      on = core-on n a k h;
      own = (fallen-on n a k h).0;
      same = k.own;
      level = λ some. level-kept k.entry.level n.clauses k.past (begun (vars_under n.clauses k.id)) some reaching.1 (reaching.0 k.id k.because some);
      dead = false_from_ne_true (is_true n.trail a) (failed-open n a f);
    }
