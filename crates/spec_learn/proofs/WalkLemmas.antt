-- What holds of the walk from a conflict of a sound node, whatever it resolves away.
use Rattle.std.proofs.Common.{◌≡◌, ℕ, ◌+◌, ◌-◌, ◌<◌, ◌≤◌, ◌⊎◌, inl, inr, Bool, true, List, [], ◌∷◌, ◌++◌, length, map, reverse, count_by, Some, refl, sym, ap, ◌∙◌, subst, arith}
use Rattle.std.specs.Prelude.{◌==◌, ◌&&◌, None, false}
use Rattle.std.specs.List.{list_all}
use Rattle.std.proofs.lemmas.List.{length_push}
use Rattle.std.proofs.lemmas.Bool.{both_ways, eq-eqb}
use Rattle.std.proofs.lemmas.List.Sorted.{list_any-IsPermutation, IsPermutation-reverse}
use Rattle.mal_base.specs.Literals.{var_of, negated}
use Rattle.mal_base.specs.NumberedClause.{NumberedClause, lits_under}
use Rattle.mal_base.specs.declared.trail_entry.TrailEntry.{TrailEntry}
use Rattle.spec_logic.specs.Derivation.{derivation}
use Rattle.spec_logic.specs.Derivation.Derivation.{Derived}
use Rattle.spec_node.specs.State.{Node}
use Rattle.spec_node.specs.Value.{is_false, level_of}
use Rattle.spec_node.specs.Sound.{EachAfter, IsPlaced, level_in, current_count, IsWaiting, IsSound}
use Rattle.spec_learn.specs.Analysis.{Aim, Walk, has_var, begun, vars_under, resolving, is_left, is_resolved, walked, walk_of, clause_of, top}
use Rattle.spec_learn.specs.Shorter.{shorter_walk}
use Rattle.spec_learn.specs.Analysis.Aim.{Learned, Shortened}
use Rattle.spec_learn.specs.Learning.{holding}
use Rattle.spec_learn.proofs.HeartLemmas.{AreGood, IsConsistentTrail, under-is, ready-walk, ready-begun, clause-within, kept-true, clause-has}
use Rattle.spec_learn.proofs.BehindLemmas.{held-under, true-turned, sound-good, sound-consistent}
use Rattle.spec_learn.proofs.UipLemmas.{AreLevelled, falls, HasPoint, walk-small, length-clause}
use Rattle.spec_learn.proofs.ApartLemmas.{apart-reverse, apart-short}
use Rattle.spec_learn.proofs.PointLemmas.{left-counted}
use Rattle.spec_learn.proofs.LawLemmas.{top-trail, sound-levelled}
use Rattle.spec_learn.proofs.CaseLemmas.{after-by, IsMild, mild-learned, mild-shortened}
use Rattle.spec_learn.proofs.TurnLemmas.{Turn, turns, rest-point}
use Rattle.spec_learn.proofs.LevelLemmas.{AreReached}
use Rattle.spec_learn.proofs.KeepLemmas.{sound-different}
use Rattle.spec_learn.proofs.CoreClauseLemmas.{levelled-back}
use mathlib.Core.Path.{fun_ext}

-- the clause of a waiting conflict
pub record IsOfConflict (n : Node) (id : ℕ) : Type 0 where
  pub lits : List ℕ
  pub held : lits_under id n.clauses ≡ Some lits
  pub false_lits : list_all (is_false (reverse n.trail)) lits ≡ true
  pub left : 0 < level_of n.trail → is_left (top (reverse n.trail)) (vars_under n.clauses id) (reverse n.trail) ≡ true

pub sound-conflict : (n : Node) (id : ℕ) → IsSound n → n.conflict ≡ Some id → IsOfConflict n id
sound-conflict n id h q = by_clause (h.waiting id q)
  where
    by_clause : IsWaiting n.clauses n.trail id → IsOfConflict n id
    by_clause k =
        let held : lits_under id n.clauses ≡ Some k.0.lits = subst (λ (x : ℕ). lits_under x n.clauses ≡ Some k.0.lits) k.2 (held-under 1 n.clauses k.0 h.ranged.numbers k.1) in
        record {
          lits = k.0.lits;
          held = held;
          false_lits = subst (λ (f : ℕ → Bool). list_all f k.0.lits ≡ true) (fun_ext (λ l. sym (true-turned n.trail (negated l)))) k.3.false_lits;
          left = λ some.
              let level : top (reverse n.trail) ≡ level_of n.trail = top-trail n.trail in
              let two : 2 ≤ current_count n.trail k.0.lits = k.3.current some in
              let counted : 1 ≤ count_by (λ l. level_in n.trail (var_of l) == top (reverse n.trail)) k.0.lits = subst (λ (m : ℕ). 1 ≤ count_by (λ l. level_in n.trail (var_of l) == m) k.0.lits) (sym level) (omega arith) in
              let some_top : 0 < top (reverse n.trail) = omega arith in
              let front : is_left (top (reverse n.trail)) (vars_under n.clauses id) n.trail ≡ true = left-counted n.trail (top (reverse n.trail)) (vars_under n.clauses id) k.0.lits some_top (λ v m. ap (λ (vs : List ℕ). has_var vs v) (under-is n.clauses id k.0.lits held) ∙ m) counted in
              sym (list_any-IsPermutation (λ e. (e.level == top (reverse n.trail)) && has_var (vars_under n.clauses id) (var_of e.lit)) n.trail (reverse n.trail) (IsPermutation-reverse n.trail)) ∙ front;
        }

-- the line of any aim is derived
walk-derived : (aim : Aim) (clauses : List NumberedClause) (trail past : List TrailEntry) (id : ℕ) (lits : List ℕ) → IsConsistentTrail trail → AreGood clauses trail past → lits_under id clauses ≡ Some lits → list_all (is_false past) lits ≡ true → derivation (holding clauses) (Some (clause_of (walked aim clauses past (begun (vars_under clauses id))).kept)) ((walked aim clauses past (begun (vars_under clauses id))).hints ++ id ∷ []) ≡ Derived
walk-derived aim clauses trail past id lits c g q f =
    let w : Walk = walked aim clauses past (begun (vars_under clauses id)) in
    ready-walk aim clauses trail id past (begun (vars_under clauses id)) c g (ready-begun clauses trail past id lits c q f) (map negated (clause_of w.kept))
    (record { within = clause-within trail w.kept (kept-true aim clauses trail past (begun (vars_under clauses id)) g tt); seen = tt; kept = clause-has w.kept })

pub conflict-derived : (aim : Aim) (n : Node) (id : ℕ) → IsSound n → n.conflict ≡ Some id → derivation (holding n.clauses) (Some (clause_of (walked aim n.clauses (reverse n.trail) (begun (vars_under n.clauses id))).kept)) ((walked aim n.clauses (reverse n.trail) (begun (vars_under n.clauses id))).hints ++ id ∷ []) ≡ Derived
conflict-derived aim n id h q =
    let k : IsOfConflict n id = sound-conflict n id h q in
    walk-derived aim n.clauses n.trail (reverse n.trail) id k.lits (sound-consistent n h) (sound-good n h) k.held k.false_lits

-- where both walks of a sound node have passed the current level
pub sound-turn : (n : Node) (id : ℕ) → IsSound n → n.conflict ≡ Some id → 0 < level_of n.trail → Turn (top (reverse n.trail)) n.clauses (reverse n.trail) (begun (vars_under n.clauses id))
sound-turn n id h q some =
    let level : top (reverse n.trail) ≡ level_of n.trail = top-trail n.trail in
    turns (top (reverse n.trail)) n.clauses (reverse n.trail) (begun (vars_under n.clauses id)) (omega arith) (sound-levelled n h) (sound-different n h) (omega arith) ((sound-conflict n id h q).left some) refl

pub reached-back : (clauses : List NumberedClause) (xs ys : List TrailEntry) → AreReached clauses (xs ++ ys) → AreReached clauses ys
reached-back clauses [] ys h = h
reached-back clauses (x ∷ xs) ys h = reached-back clauses xs ys h.1

turn-point : (level : ℕ) (clauses : List NumberedClause) (past : List TrailEntry) (w : Walk) (t : Turn level clauses past w) → HasPoint level t.at.kept
turn-point level clauses past w t = record { low = []; point = t.point; is = t.is; own = t.own; between = tt }

-- past the turn both walks keep one entry of the current level, and others of levels between
turned-point : (aim : Aim) (n : Node) (id : ℕ) (t : Turn (top (reverse n.trail)) n.clauses (reverse n.trail) (begun (vars_under n.clauses id))) → IsMild (top (reverse n.trail)) n.clauses aim → IsSound n → 0 < level_of n.trail → HasPoint (top (reverse n.trail)) (walked aim n.clauses t.rest t.at).kept
turned-point aim n id t mild h some =
    let level : top (reverse n.trail) ≡ level_of n.trail = top-trail n.trail in
    rest-point aim (top (reverse n.trail)) n.clauses t.rest t.at mild (omega arith) (levelled-back t.front t.rest (subst AreLevelled t.whole (sound-levelled n h))) t.low t.none (turn-point (top (reverse n.trail)) n.clauses (reverse n.trail) (begun (vars_under n.clauses id)) t)

pub longer-point : (n : Node) (id : ℕ) → IsSound n → n.conflict ≡ Some id → 0 < level_of n.trail → HasPoint (top (reverse n.trail)) (walk_of n.clauses (reverse n.trail) id).kept
longer-point n id h q some =
    let t : Turn (top (reverse n.trail)) n.clauses (reverse n.trail) (begun (vars_under n.clauses id)) = sound-turn n id h q some in
    subst (λ (v : Walk). HasPoint (top (reverse n.trail)) v.kept) (sym t.learned) (turned-point (Learned (top (reverse n.trail))) n id t (mild-learned (top (reverse n.trail)) n.clauses) h some)

pub shorter-point : (n : Node) (id : ℕ) → IsSound n → n.conflict ≡ Some id → 0 < level_of n.trail → HasPoint (top (reverse n.trail)) (shorter_walk n.clauses (reverse n.trail) id).kept
shorter-point n id h q some =
    let t : Turn (top (reverse n.trail)) n.clauses (reverse n.trail) (begun (vars_under n.clauses id)) = sound-turn n id h q some in
    subst (λ (v : Walk). HasPoint (top (reverse n.trail)) v.kept) (sym t.shortened) (turned-point (Shortened (top (reverse n.trail)) n.clauses) n id t (mild-shortened (top (reverse n.trail)) n.clauses) h some)

-- each entry gives a literal or a hint at most
pub walk-fits : (aim : Aim) (n : Node) (id : ℕ) → IsSound n → length (clause_of (walked aim n.clauses (reverse n.trail) (begun (vars_under n.clauses id))).kept) + length ((walked aim n.clauses (reverse n.trail) (begun (vars_under n.clauses id))).hints ++ id ∷ []) ≤ n.variables + 1
walk-fits aim n id h =
    let w : Walk = walked aim n.clauses (reverse n.trail) (begun (vars_under n.clauses id)) in
    let lits : length (clause_of w.kept) ≡ length w.kept = length-clause w.kept in
    let hints : length (w.hints ++ id ∷ []) ≡ length w.hints + 1 = length_push w.hints id in
    let walk : length w.kept + length w.hints ≤ length (reverse n.trail) + (0 + 0) = walk-small aim n.clauses (reverse n.trail) (begun (vars_under n.clauses id)) in
    let less : n.variables + 1 - 1 ≡ n.variables = omega arith in
    let placed : EachAfter (IsPlaced (n.variables + 1 - 1)) [] n.trail = subst (λ (k : ℕ). EachAfter (IsPlaced k) [] n.trail) (sym less) h.consistent.placed in
    let short : length (reverse n.trail) + 1 ≤ n.variables + 1 = apart-short (n.variables + 1) (reverse n.trail) (omega arith) (apart-reverse (n.variables + 1) n.trail (omega arith) placed) in
    omega (arith, lits, hints, walk, short)

-- at level 0 nothing stays
none-kept : (aim : Aim) (clauses : List NumberedClause) → IsMild 0 clauses aim → (past : List TrailEntry) (w : Walk) → AreLevelled past → top past ≡ 0 → w.kept ≡ [] → (walked aim clauses past w).kept ≡ []
none-kept aim clauses m [] w h t k = k
none-kept aim clauses m (e ∷ past) w h t k =
    let low : top past ≤ e.level = falls e past h in
    after-by (λ v. (walked aim clauses past v).kept ≡ []) aim clauses e past w (record {
      unseen = λ s. none-kept aim clauses m past w h.2 (omega arith) k;
      stays = λ s o. absurd (stuck o);
      goes = λ s r q i. none-kept aim clauses m past (resolving clauses r w) h.2 (omega arith) k;
    })
  where
    stuck : (e.reason ≡ None) ⊎ (is_resolved aim e w.seen past ≡ false) → ⊥
    stuck (inl o) = let u : e.level ≡ top past + 1 = h.0 o in absurd (omega arith)
    stuck (inr o) = both_ways (is_resolved aim e w.seen past) o (m.base e w.seen past (eq-eqb e.level 0 t))

-- so at level 0 the clause of a conflict is empty
pub walk-empty : (aim : ℕ → Aim) (n : Node) (id : ℕ) → ((level : ℕ) → IsMild level n.clauses (aim level)) → IsSound n → level_of n.trail ≡ 0 → clause_of (walked (aim (top (reverse n.trail))) n.clauses (reverse n.trail) (begun (vars_under n.clauses id))).kept ≡ []
walk-empty aim n id mild h z =
    let none : top (reverse n.trail) ≡ 0 = top-trail n.trail ∙ z in
    let start : Walk = begun (vars_under n.clauses id) in
    ap clause_of (subst (λ (k : ℕ). (walked (aim k) n.clauses (reverse n.trail) start).kept ≡ []) (sym none) (none-kept (aim 0) n.clauses (mild 0) (reverse n.trail) start (sound-levelled n h) none refl))
