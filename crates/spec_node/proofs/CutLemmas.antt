use Rattle.std.proofs.Common.{◌≡◌, ℕ, ◌+◌, ◌-◌, ◌<◌, ◌≤◌, Bool, true, false, cond, List, [], ◌∷◌, ◌++◌, length, drop, Some, None, Option, refl, sym, ap, subst, append_assoc, append-nil, arith, inl, inr, ◌⊎◌}
use Rattle.std.specs.Prelude.{nat_le, slice_get}
use Rattle.std.proofs.lemmas.List.{length_push}
use Rattle.std.proofs.lemmas.List.Sums.{take_while-cons}
use Rattle.std.proofs.lemmas.Bool.{leb-true, leb-false}
use Rattle.mal_base.specs.declared.trail_entry.TrailEntry.{TrailEntry}
use Rattle.mal_base.specs.NumberedClause.{NumberedClause}
use Rattle.spec_node.specs.Value.{level_of}
use Rattle.spec_node.specs.Cut.{kept, removed}
use Rattle.spec_node.specs.Sound.{EachAfter, own_level, IsLevelled, AreSettled, IsClosed}

slice_get-seam : (xs : List TrailEntry) (y : TrailEntry) (ys : List TrailEntry) → slice_get (xs ++ y ∷ ys) (length xs) ≡ Some y
slice_get-seam [] y ys = refl
slice_get-seam (x ∷ xs) y ys = slice_get-seam xs y ys

-- the level reached is that of the last entry
pub level_of-push : (trail : List TrailEntry) (e : TrailEntry) → level_of (trail ++ e ∷ []) ≡ e.level
level_of-push trail e =
    let last : length (trail ++ e ∷ []) - 1 ≡ length trail = omega (arith, length_push trail e) in
    rw last (rw (slice_get-seam trail e []) refl)

pub kept-cons : (level : ℕ) (e : TrailEntry) (es : List TrailEntry) → kept level (e ∷ es) ≡ cond (nat_le e.level level) (e ∷ kept level es) []
kept-cons level e es = take_while-cons (λ (x : TrailEntry). nat_le x.level level) e es

-- the entries kept are a front of the trail
pub kept-front : (level : ℕ) (trail : List TrailEntry) → kept level trail ++ removed level trail ≡ trail
kept-front level [] = refl
kept-front level (e ∷ es) = subst (λ (t : List TrailEntry). t ++ drop (length t) (e ∷ es) ≡ e ∷ es) (sym (kept-cons level e es)) (by_level (kept-front level es) (nat_le e.level level))
  where
    by_level : kept level es ++ removed level es ≡ es → (b : Bool) → cond b (e ∷ kept level es) [] ++ drop (length (cond b (e ∷ kept level es) [])) (e ∷ es) ≡ e ∷ es
    by_level h true = ap (λ (t : List TrailEntry). e ∷ t) h
    by_level h false = refl

-- a cut that takes something away has a decision at its end, below which the batches are settled
pub kept-settled : (level : ℕ) (clauses : List NumberedClause) (es before : List TrailEntry) → level_of before ≤ level → EachAfter IsLevelled before es → EachAfter (IsClosed clauses) before es → (kept level es ≡ es) ⊎ AreSettled (length (before ++ kept level es) + 1) (before ++ kept level es) clauses
kept-settled level clauses [] before b h k = inl refl
kept-settled level clauses (e ∷ es) before b h k = subst (λ (t : List TrailEntry). (t ≡ e ∷ es) ⊎ AreSettled (length (before ++ t) + 1) (before ++ t) clauses) (sym (kept-cons level e es)) (by_level (λ q. kept-settled level clauses es (before ++ e ∷ []) (omega (arith, level_of-push before e)) h.1 k.1) (nat_le e.level level) refl)
  where
    deeper : (kept level es ≡ es) ⊎ AreSettled (length ((before ++ e ∷ []) ++ kept level es) + 1) ((before ++ e ∷ []) ++ kept level es) clauses → (e ∷ kept level es ≡ e ∷ es) ⊎ AreSettled (length (before ++ e ∷ kept level es) + 1) (before ++ e ∷ kept level es) clauses
    deeper (inl q) = inl (ap (λ (t : List TrailEntry). e ∷ t) q)
    deeper (inr q) = inr (subst (λ (t : List TrailEntry). AreSettled (length t + 1) t clauses) (append_assoc before (e ∷ []) (kept level es)) q)

    decision : (o : Option ℕ) → e.reason ≡ o → e.level ≡ own_level before o → level < e.level → AreSettled (length before + 1) before clauses
    decision None q r l = k.0 q
    decision (Some id) q r l = absurd (omega arith)

    by_level : (e.level ≤ level → (kept level es ≡ es) ⊎ AreSettled (length ((before ++ e ∷ []) ++ kept level es) + 1) ((before ++ e ∷ []) ++ kept level es) clauses) → (c : Bool) → nat_le e.level level ≡ c → (cond c (e ∷ kept level es) [] ≡ e ∷ es) ⊎ AreSettled (length (before ++ cond c (e ∷ kept level es) []) + 1) (before ++ cond c (e ∷ kept level es) []) clauses
    by_level f true q = deeper (f (leb-true e.level level q))
    by_level f false q = inr (subst (λ (t : List TrailEntry). AreSettled (length t + 1) t clauses) (sym (append-nil before)) (decision e.reason refl h.0 (leb-false e.level level q)))
