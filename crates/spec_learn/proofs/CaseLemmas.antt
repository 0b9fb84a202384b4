use Rattle.std.proofs.Common.{◌≡◌, ℕ, Bool, true, false, cond, List, Option, Some, None, refl, sym, ap, ◌∙◌, inl, inr, ◌⊎◌}
use Rattle.std.specs.Prelude.{◌==◌, ◌||◌, ◌&&◌}
use Rattle.std.specs.Option.{option_map_or}
use Rattle.std.proofs.lemmas.Bool.{and_parts, or_cases, or_left, both_ways}
use Rattle.mal_base.specs.Literals.{var_of}
use Rattle.mal_base.specs.NumberedClause.{NumberedClause}
use Rattle.mal_base.specs.declared.trail_entry.TrailEntry.{TrailEntry}
use Rattle.spec_learn.specs.Analysis.{Walk, Aim, has_var, keeping, resolving, is_left, is_covered, is_resolved, after_seen, after_entry}
use Rattle.spec_learn.specs.Analysis.Aim.{Learned, Shortened}

-- what holds of the walk after an entry, case by case: it is not of the clause, it stays, or it is resolved away
pub record HasAfter (Q : Walk → Type 0) (aim : Aim) (clauses : List NumberedClause) (e : TrailEntry) (past : List TrailEntry) (w : Walk) : Type 0 where
  pub unseen : has_var w.seen (var_of e.lit) ≡ false → Q w
  pub stays : has_var w.seen (var_of e.lit) ≡ true → (e.reason ≡ None) ⊎ (is_resolved aim e w.seen past ≡ false) → Q (keeping e w)
  pub goes : has_var w.seen (var_of e.lit) ≡ true → (r : ℕ) → e.reason ≡ Some r → is_resolved aim e w.seen past ≡ true → Q (resolving clauses r w)

pub after-by : (Q : Walk → Type 0) (aim : Aim) (clauses : List NumberedClause) (e : TrailEntry) (past : List TrailEntry) (w : Walk) → HasAfter Q aim clauses e past w → Q (after_entry aim clauses e past w)
after-by Q aim clauses e past w h = by_seen (has_var w.seen (var_of e.lit)) refl
  where
    by_resolved : has_var w.seen (var_of e.lit) ≡ true → (r : ℕ) → e.reason ≡ Some r → (b : Bool) → is_resolved aim e w.seen past ≡ b → Q (cond b (resolving clauses r w) (keeping e w))
    by_resolved s r q true k = h.goes s r q k
    by_resolved s r q false k = h.stays s (inr k)

    by_reason : has_var w.seen (var_of e.lit) ≡ true → (o : Option ℕ) → e.reason ≡ o → Q (option_map_or (λ r. cond (is_resolved aim e w.seen past) (resolving clauses r w) (keeping e w)) o (keeping e w))
    by_reason s None q = h.stays s (inl q)
    by_reason s (Some r) q = by_resolved s r q (is_resolved aim e w.seen past) refl

    by_seen : (b : Bool) → has_var w.seen (var_of e.lit) ≡ b → Q (cond b (after_seen aim clauses e past w) w)
    by_seen true q = by_reason q e.reason refl
    by_seen false q = h.unseen q

-- two aims that agree on an entry
pub after-same : (x y : Aim) (clauses : List NumberedClause) (e : TrailEntry) (past : List TrailEntry) (w : Walk) → is_resolved x e w.seen past ≡ is_resolved y e w.seen past → after_entry x clauses e past w ≡ after_entry y clauses e past w
after-same x y clauses e past w q = ap (λ (b : Bool). cond (has_var w.seen (var_of e.lit)) (option_map_or (λ r. cond b (resolving clauses r w) (keeping e w)) e.reason (keeping e w)) w) q

-- an aim resolves away all of level 0, and of other levels than the current one only what is covered
pub record IsMild (level : ℕ) (clauses : List NumberedClause) (aim : Aim) : Type 0 where
  pub base : (e : TrailEntry) (seen : List ℕ) (past : List TrailEntry) → (e.level == 0) ≡ true → is_resolved aim e seen past ≡ true
  pub other : (e : TrailEntry) (seen : List ℕ) (past : List TrailEntry) → (e.level == level) ≡ false → is_resolved aim e seen past ≡ true → ((e.level == 0) ≡ true) ⊎ (is_covered clauses e seen past ≡ true)

pub mild-learned : (level : ℕ) (clauses : List NumberedClause) → IsMild level clauses (Learned level)
mild-learned level clauses = record {
  base = λ e seen past q. or_left _ _ q;
  other = λ e seen past o q. by_place e seen past o (or_cases (e.level == 0) ((e.level == level) && is_left level seen past) q);
}
  where
    by_place : (e : TrailEntry) (seen : List ℕ) (past : List TrailEntry) → (e.level == level) ≡ false → ((e.level == 0) ≡ true) ⊎ (((e.level == level) && is_left level seen past) ≡ true) → ((e.level == 0) ≡ true) ⊎ (is_covered clauses e seen past ≡ true)
    by_place e seen past o (inl k) = inl k
    by_place e seen past o (inr k) = absurd (both_ways (e.level == level) o (and_parts (e.level == level) (is_left level seen past) k).0)

pub mild-shortened : (level : ℕ) (clauses : List NumberedClause) → IsMild level clauses (Shortened level clauses)
mild-shortened level clauses = record {
  base = λ e seen past q. or_left _ _ q;
  other = λ e seen past o q. by_place e seen past (or_cases (e.level == 0) (is_covered clauses e seen past) (sym (ap (λ (b : Bool). (e.level == 0) || cond b (is_left level seen past) (is_covered clauses e seen past)) o) ∙ q));
}
  where
    by_place : (e : TrailEntry) (seen : List ℕ) (past : List TrailEntry) → ((e.level == 0) ≡ true) ⊎ (is_covered clauses e seen past ≡ true) → ((e.level == 0) ≡ true) ⊎ (is_covered clauses e seen past ≡ true)
    by_place e seen past k = k
