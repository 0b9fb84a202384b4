use Rattle.std.proofs.Common.{◌≡◌, ℕ, ◌+◌, ◌<◌, ◌≤◌, min, true, false, not, List, [], ◌∷◌, ◌++◌, length, take, Some, None, refl, sym, ap, ◌∙◌, subst, arith, inl, inr, ◌⊎◌, length-append}
use Rattle.std.specs.Prelude.{All}
use Rattle.std.specs.List.{list_all}
use Rattle.std.proofs.lemmas.List.{length_push, take-append-le}
use Rattle.std.proofs.lemmas.List.Elements.{All-weaker}
use Rattle.std.proofs.lemmas.List.Sorted.{All-permutation}
use Rattle.std.proofs.lemmas.Bool.{not-true, cases_lt}
use Rattle.mal_base.specs.Literals.{var_of}
use Rattle.mal_base.specs.declared.trail_entry.TrailEntry.{TrailEntry}
use Rattle.mal_base.specs.NumberedClause.{NumberedClause}
use Rattle.spec_node.specs.State.{Node}
use Rattle.spec_node.specs.Value.{is_true, is_false, has_value, level_of, next_assumption, first_free}
use Rattle.spec_node.specs.Batch.{Progress, batch, is_in_batch, after_batch, propagated}
use Rattle.spec_node.specs.Cut.{kept, removed, cut}
use Rattle.spec_node.specs.Load.{counted}
use Rattle.spec_search.specs.Step.{decided}
use Rattle.spec_node.specs.Sound.{EachAfter, IsPlaced, IsLevelled, IsClosed, AreSettled, IsLiteralOf, AreLiteralsOf, left_is_true, IsConsistent}
use Rattle.spec_node.proofs.TrailLemmas.{each-push, each-front, settled-more, free_from_open}
use Rattle.spec_node.proofs.BatchLemmas.{PushKeeps, forced, after_all-keeps, after_all-extends, after_all-settles, Extends, All-filtered, all-of}
use Rattle.spec_node.proofs.CutLemmas.{kept-front, kept-settled}
use Rattle.spec_node.proofs.FindLemmas.{find-passes, find-All, IsBetween, counted-All, var_of-literal}
use Rattle.spec_search.proofs.StepLemmas.{IsIdle, phased}

-- the trail and the conflict after the next batch
abbrev pub next_batch : Node → Progress
next_batch n = after_batch n.processed n.trail n.clauses

-- what holds of all clauses holds of those of a batch, which are in it
pub All-batch : (P : NumberedClause → Type 0) (prefix : List TrailEntry) (clauses : List NumberedClause) → All P clauses → All (λ c. P c × (is_in_batch prefix c ≡ true)) (batch prefix clauses)
All-batch P prefix clauses h = All-filtered P (is_in_batch prefix) clauses h

pub push-placed : (variables : ℕ) (prefix : List TrailEntry) (c : NumberedClause) → AreLiteralsOf variables c.lits → PushKeeps (EachAfter (IsPlaced variables) []) prefix c
push-placed variables prefix c h trail l e t f k =
    let range : IsLiteralOf variables l = find-All (IsLiteralOf variables) (λ x. not (is_false prefix x)) c.lits l h.within e in
    each-push (IsPlaced variables) trail [] (forced l c.id trail) k (record { low = range.low; high = range.high; free = free_from_open trail l t f })

pub batch-placed : (n : Node) → IsConsistent n → EachAfter (IsPlaced n.variables) [] (next_batch n).trail
batch-placed n h =
    let prefix = take n.processed n.trail in
    after_all-keeps (EachAfter (IsPlaced n.variables) []) prefix (batch prefix n.clauses) (record { trail = n.trail; conflict = None })
    (All-weaker (λ c. AreLiteralsOf n.variables c.lits × (is_in_batch prefix c ≡ true)) (PushKeeps (EachAfter (IsPlaced n.variables) []) prefix) (λ c k. push-placed n.variables prefix c k.0) (batch prefix n.clauses) (All-batch (λ c. AreLiteralsOf n.variables c.lits) prefix n.clauses h.clauses))
    h.placed

pub batch-levels : (n : Node) → IsConsistent n → EachAfter IsLevelled [] (next_batch n).trail
batch-levels n h =
    let prefix = take n.processed n.trail in
    after_all-keeps (EachAfter IsLevelled []) prefix (batch prefix n.clauses) (record { trail = n.trail; conflict = None })
    (all-of (PushKeeps (EachAfter IsLevelled []) prefix) (λ c trail l e t f k. each-push IsLevelled trail [] (forced l c.id trail) k refl) (batch prefix n.clauses))
    h.levels

forced-closed : (clauses : List NumberedClause) (l id : ℕ) (trail : List TrailEntry) → IsClosed clauses trail (forced l id trail)
forced-closed clauses l id trail e = absurd (cc)

pub batch-closed : (n : Node) → IsConsistent n → EachAfter (IsClosed n.clauses) [] (next_batch n).trail
batch-closed n h =
    let prefix = take n.processed n.trail in
    after_all-keeps (EachAfter (IsClosed n.clauses) []) prefix (batch prefix n.clauses) (record { trail = n.trail; conflict = None })
    (all-of (PushKeeps (EachAfter (IsClosed n.clauses) []) prefix) (λ c trail l e t f k. each-push (IsClosed n.clauses) trail [] (forced l c.id trail) k (forced-closed n.clauses l c.id trail)) (batch prefix n.clauses))
    h.closed

pub batch-extends : (n : Node) → Extends n.trail (next_batch n).trail
batch-extends n = after_all-extends (take n.processed n.trail) (batch (take n.processed n.trail) n.clauses) (record { trail = n.trail; conflict = None })

-- the batches below and the next one are settled on the trail that it leaves
settled-next : (n : Node) → IsConsistent n → n.conflict ≡ None → n.processed ≤ length n.trail → (next_batch n).conflict ≡ None → AreSettled (n.processed + 1) (next_batch n).trail n.clauses
settled-next n h calm low going q k = by_place (cases_lt q n.processed)
  where
    ext : Extends n.trail (next_batch n).trail
    ext = batch-extends n

    by_place : (q < n.processed) ⊎ (n.processed ≤ q) → list_all (left_is_true (take q (next_batch n).trail) (next_batch n).trail) (batch (take q (next_batch n).trail) n.clauses) ≡ true
    by_place (inl l) = subst (λ (t : List TrailEntry). list_all (left_is_true (take q t) t) (batch (take q t) n.clauses) ≡ true) (sym ext.is) (settled-more n.processed n.trail ext.rest n.clauses (omega arith) (h.settled calm) q l)
    by_place (inr l) =
        let same : n.processed ≡ q = omega arith in
        let front : take q (next_batch n).trail ≡ take n.processed n.trail = ap (λ (t : List TrailEntry). take q t) ext.is ∙ (take-append-le q n.trail ext.rest (omega arith) ∙ ap (λ (m : ℕ). take m n.trail) (sym same)) in
        subst (λ (p : List TrailEntry). list_all (left_is_true p (next_batch n).trail) (batch p n.clauses) ≡ true) (sym front) (after_all-settles (take n.processed n.trail) (batch (take n.processed n.trail) n.clauses) (record { trail = n.trail; conflict = None }) going)

pub propagated-consistent : (n : Node) → IsConsistent n → n.conflict ≡ None → n.processed ≤ length n.trail → IsConsistent (propagated n)
propagated-consistent n h calm low =
    let ext : Extends n.trail (next_batch n).trail = batch-extends n in
    let longer : length (next_batch n).trail ≡ length n.trail + length ext.rest = ap length ext.is ∙ length-append n.trail ext.rest in
    record {
      order = h.order;
      clauses = h.clauses;
      assumptions = h.assumptions;
      placed = batch-placed n h;
      levels = batch-levels n h;
      closed = batch-closed n h;
      handled = omega arith;
      settled = λ going. settled-next n h calm low going;
    }

-- a literal that may be decided
pub record IsFree (n : Node) (l : ℕ) : Type 0 where
  pub range : IsLiteralOf n.variables l
  pub free : has_value n.trail (var_of l) ≡ false

pub decided-consistent : (n : Node) → IsConsistent n → IsIdle n → (l : ℕ) → IsFree n l → IsConsistent (decided n l)
decided-consistent n h idle l f =
    let e : TrailEntry = record { lit = l; reason = None; level = level_of n.trail + 1 } in
    record {
      order = h.order;
      clauses = h.clauses;
      assumptions = h.assumptions;
      placed = each-push (IsPlaced n.variables) n.trail [] e h.placed (record { low = f.range.low; high = f.range.high; free = f.free });
      levels = each-push IsLevelled n.trail [] e h.levels refl;
      closed = each-push (IsClosed n.clauses) n.trail [] e h.closed (λ q k m. h.settled idle.calm k (let a : length n.trail < n.processed = idle.handled in omega arith));
      handled = let a : n.processed ≤ length n.trail + 1 = h.handled in omega (arith, length_push n.trail e);
      settled = λ calm. settled-more n.processed n.trail (e ∷ []) n.clauses h.handled (h.settled idle.calm);
    }

-- the literals that a step decides may be decided
pub open-free : (n : Node) → IsConsistent n → (a : ℕ) → next_assumption n.trail n.assumptions ≡ Some a → is_false n.trail a ≡ false → IsFree n a
open-free n h a e f = record {
  range = find-All (IsLiteralOf n.variables) (λ x. not (is_true n.trail x)) n.assumptions a h.assumptions.within e;
  free = free_from_open n.trail a (not-true (is_true n.trail a) (find-passes (λ x. not (is_true n.trail x)) n.assumptions a e)) f;
}

pub phased-free : (n : Node) → IsConsistent n → (v : ℕ) → first_free n.trail n.order ≡ Some v → IsFree n (phased n v)
phased-free n h v e =
    let same : var_of (phased n v) ≡ v = var_of-literal v _ in
    let range : IsBetween 1 (1 + n.variables) v = find-All (IsBetween 1 (1 + n.variables)) (λ x. not (has_value n.trail x)) n.order v (All-permutation (IsBetween 1 (1 + n.variables)) (counted 1 n.variables) n.order h.order (counted-All 1 n.variables)) e in
    record {
      range = record { low = let a : 1 ≤ v = range.from in omega arith; high = let a : v < 1 + n.variables = range.below in omega arith };
      free = subst (λ (x : ℕ). has_value n.trail x ≡ false) (sym same) (not-true (has_value n.trail v) (find-passes (λ x. not (has_value n.trail x)) n.order v e));
    }

-- a cut keeps the search consistent where no conflict waits
pub cut-consistent : (level : ℕ) (n : Node) → n.conflict ≡ None → IsConsistent n → IsConsistent (cut level n)
cut-consistent level n calm h =
    let front : kept level n.trail ++ removed level n.trail ≡ n.trail = kept-front level n.trail in
    record {
      order = h.order;
      clauses = h.clauses;
      assumptions = h.assumptions;
      placed = each-front (IsPlaced n.variables) (kept level n.trail) (removed level n.trail) [] (rw front h.placed);
      levels = each-front IsLevelled (kept level n.trail) (removed level n.trail) [] (rw front h.levels);
      closed = each-front (IsClosed n.clauses) (kept level n.trail) (removed level n.trail) [] (rw front h.closed);
      handled = omega arith;
      settled = λ e. by_cut (kept-settled level n.clauses n.trail [] (omega arith) h.levels h.closed);
    }
  where
    by_cut : (kept level n.trail ≡ n.trail) ⊎ AreSettled (length (kept level n.trail) + 1) (kept level n.trail) n.clauses → AreSettled (min n.processed (length (kept level n.trail) + 1)) (kept level n.trail) n.clauses
    by_cut (inl q) = λ k m. subst (λ (t : List TrailEntry). list_all (left_is_true (take k t) t) (batch (take k t) n.clauses) ≡ true) (sym q) (h.settled calm k (omega arith))
    by_cut (inr s) = λ k m. s k (omega arith)
