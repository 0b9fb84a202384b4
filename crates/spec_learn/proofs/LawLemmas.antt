use Rattle.std.proofs.Common.{◌≡◌, ℕ, ◌<◌, not, List, [], ◌∷◌, ◌++◌, reverse, count_by, sym, ap, ◌∙◌, subst}
use Rattle.std.specs.Prelude.{◌==◌}
use Rattle.std.proofs.lemmas.List.{reverse-reverse}
use Rattle.mal_base.specs.Literals.{var_of}
use Rattle.mal_base.specs.declared.trail_entry.TrailEntry.{TrailEntry}
use Rattle.spec_node.specs.State.{Node}
use Rattle.spec_node.specs.Value.{is_false, level_of, open_count}
use Rattle.spec_node.specs.Cut.{kept}
use Rattle.spec_node.specs.Sound.{IsLevelled, level_in, current_count, IsSound}
use Rattle.spec_learn.specs.Analysis.{clause_of, jump, top}
use Rattle.spec_learn.proofs.BehindLemmas.{each-reverse, level-turned}
use Rattle.spec_learn.proofs.UipLemmas.{AreLevelled, levelled-behind, HasPoint, jump-below}
use Rattle.spec_learn.proofs.PointLemmas.{AllOf, allof-front, allof-back, IsOn, current-one, unit-after}

pub top-trail : (trail : List TrailEntry) → top (reverse trail) ≡ level_of trail
top-trail trail = sym (level-turned (reverse trail)) ∙ ap level_of (reverse-reverse trail)

pub sound-levelled : (n : Node) → IsSound n → AreLevelled (reverse n.trail)
sound-levelled n h = levelled-behind (reverse n.trail) (each-reverse IsLevelled n.trail h.consistent.levels)

-- what kept entries on the trail, one of which has the current level, make of a clause
pub record Asserts (trail : List TrailEntry) (level : ℕ) (es : List TrailEntry) : Type 0 where
  pub one : current_count trail (clause_of es) ≡ 1
  pub below : jump level es < level_of trail
  pub unit : open_count (kept (jump level es) trail) (clause_of es) ≡ 1

pub asserts-from : (variables : ℕ) (trail : List TrailEntry) (level : ℕ) (es : List TrailEntry) → 0 < level → level ≡ level_of trail → HasPoint level es → AllOf (IsOn variables trail) es → Asserts trail level es
asserts-from variables trail level es some e p on =
    let whole : AllOf (IsOn variables trail) (p.low ++ p.point ∷ []) = subst (AllOf (IsOn variables trail)) p.is on in
    let lows : AllOf (IsOn variables trail) p.low = allof-front (IsOn variables trail) p.low (p.point ∷ []) whole in
    let own : IsOn variables trail p.point = (allof-back (IsOn variables trail) p.low (p.point ∷ []) whole).0 in
    let low : jump level es < level = jump-below level es some p in
    let low_here : jump level (p.low ++ p.point ∷ []) < level = subst (λ (xs : List TrailEntry). jump level xs < level) p.is low in
    record {
      one = subst (λ (k : ℕ). count_by (λ l. level_in trail (var_of l) == k) (clause_of es) ≡ 1) e (subst (λ (xs : List TrailEntry). count_by (λ l. level_in trail (var_of l) == level) (clause_of xs) ≡ 1) (sym p.is) (current-one variables trail p.low p.point level p.between p.own lows own));
      below = subst (λ (k : ℕ). jump level es < k) e low;
      unit = subst (λ (xs : List TrailEntry). count_by (λ l. not (is_false (kept (jump level xs) trail) l)) (clause_of xs) ≡ 1) (sym p.is) (unit-after variables trail p.low p.point level p.between p.own low_here lows own);
    }
