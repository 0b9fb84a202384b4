use Rattle.std.proofs.Common.{◌≡◌, ℕ, ◌+◌, ◌≤◌, Bool, true, false, cond, List, [], ◌∷◌, length, count_by, refl, sym, ap, ◌∙◌, subst, arith}
use Rattle.std.specs.Prelude.{◌==◌, nat_lt, ◌&&◌, ◌||◌}
use Rattle.std.specs.List.{list_any}
use Rattle.std.proofs.lemmas.List.Sums.{sum_by-cons, count_by-le-length}
use Rattle.std.proofs.lemmas.Bool.{or_parts, eqb-true, eq-eqb, ne_eqb, eqb-false, lt-ltb}
use Rattle.mal_base.specs.Literals.{var_of}
use Rattle.mal_base.specs.declared.trail_entry.TrailEntry.{TrailEntry}
use Rattle.spec_node.specs.Value.{has_value}
use Rattle.spec_learn.proofs.ApartLemmas.{IsApart}

-- an entry of this level with this variable is to come
abbrev pub is_here : ℕ → List TrailEntry → ℕ → Bool
is_here level past v = list_any (λ e. (e.level == level) && (v == var_of e.lit)) past

-- how many entries to come have this level and are seen
abbrev pub left_count : ℕ → (ℕ → Bool) → List TrailEntry → ℕ
left_count level f past = count_by (λ e. (e.level == level) && f (var_of e.lit)) past

pub left-cons : (level : ℕ) (f : ℕ → Bool) (e : TrailEntry) (past : List TrailEntry) → left_count level f (e ∷ past) ≡ cond ((e.level == level) && f (var_of e.lit)) 1 0 + left_count level f past
left-cons level f e past = sum_by-cons (λ (x : TrailEntry). cond ((x.level == level) && f (var_of x.lit)) 1 0) e past

pub left-long : (level : ℕ) (f : ℕ → Bool) (past : List TrailEntry) → left_count level f past ≤ length past
left-long level f past = count_by-le-length (λ (e : TrailEntry). (e.level == level) && f (var_of e.lit)) past

-- some are left where the count is above 0
pub left-some : (level : ℕ) (f : ℕ → Bool) (past : List TrailEntry) → nat_lt 0 (left_count level f past) ≡ list_any (λ e. (e.level == level) && f (var_of e.lit)) past
left-some level f [] = refl
left-some level f (e ∷ past) = ap (nat_lt 0) (left-cons level f e past) ∙ by_here (left-some level f past) ((e.level == level) && f (var_of e.lit))
  where
    by_here : nat_lt 0 (left_count level f past) ≡ list_any (λ (x : TrailEntry). (x.level == level) && f (var_of x.lit)) past → (b : Bool) → nat_lt 0 (cond b 1 0 + left_count level f past) ≡ (b || list_any (λ (x : TrailEntry). (x.level == level) && f (var_of x.lit)) past)
    by_here h true = lt-ltb 0 (1 + left_count level f past) (omega arith)
    by_here h false = let same : 0 + left_count level f past ≡ left_count level f past = omega arith in rw same h

-- a variable without a value is of no entry to come
pub not-here : (level : ℕ) (past : List TrailEntry) (v : ℕ) → has_value past v ≡ false → is_here level past v ≡ false
not-here level [] v h = refl
not-here level (e ∷ past) v h =
    let parts = or_parts (v == var_of e.lit) (has_value past v) h in
    rw (parts.0, not-here level past v parts.1) (and-false (e.level == level))
  where
    and-false : (b : Bool) → ((b && false) || false) ≡ false
    and-false true = refl
    and-false false = refl

-- one more seen variable counts its entry to come
pub left-more : (n level v : ℕ) (f : ℕ → Bool) (past : List TrailEntry) → f v ≡ false → IsApart n past → left_count level (λ u. (u == v) || f u) past ≡ cond (is_here level past v) 1 0 + left_count level f past
left-more n level v f [] h a = refl
left-more n level v f (e ∷ past) h a =
    let more = left-cons level (λ u. (u == v) || f u) e past in
    let less = left-cons level f e past in
    more ∙ (by_same (left-more n level v f past h a.3) (var_of e.lit == v) refl ∙ ap (λ (k : ℕ). cond (is_here level (e ∷ past) v) 1 0 + k) (sym less))
  where
    by_same : left_count level (λ (u : ℕ). (u == v) || f u) past ≡ cond (is_here level past v) 1 0 + left_count level f past → (b : Bool) → (var_of e.lit == v) ≡ b → cond ((e.level == level) && ((var_of e.lit == v) || f (var_of e.lit))) 1 0 + left_count level (λ (u : ℕ). (u == v) || f u) past ≡ cond (is_here level (e ∷ past) v) 1 0 + (cond ((e.level == level) && f (var_of e.lit)) 1 0 + left_count level f past)
    by_same ih true q =
        let same : var_of e.lit ≡ v = eqb-true (var_of e.lit) v q in
        let back : (v == var_of e.lit) ≡ true = eq-eqb v (var_of e.lit) (sym same) in
        let unseen : f (var_of e.lit) ≡ false = ap f same ∙ h in
        let none : is_here level past v ≡ false = not-here level past v (subst (λ (x : ℕ). has_value past x ≡ false) same a.0) in
        rw (ih, q, back, unseen, none) (by_level (e.level == level))
      where
        by_level : (b : Bool) → cond (b && true) 1 0 + (0 + left_count level f past) ≡ cond ((b && true) || false) 1 0 + (cond (b && false) 1 0 + left_count level f past)
        by_level true = omega arith
        by_level false = omega arith
    by_same ih false q =
        let back : (v == var_of e.lit) ≡ false = ne_eqb v (var_of e.lit) (λ s. absurd (let o = eqb-false (var_of e.lit) v q in o (sym s))) in
        rw (ih, q, back) (by_level (e.level == level) (f (var_of e.lit)) (is_here level past v))
      where
        by_level : (b s t : Bool) → cond (b && s) 1 0 + (cond t 1 0 + left_count level f past) ≡ cond ((b && false) || t) 1 0 + (cond (b && s) 1 0 + left_count level f past)
        by_level true true true = omega arith
        by_level true true false = omega arith
        by_level true false true = omega arith
        by_level true false false = omega arith
        by_level false true true = omega arith
        by_level false true false = omega arith
        by_level false false true = omega arith
        by_level false false false = omega arith
