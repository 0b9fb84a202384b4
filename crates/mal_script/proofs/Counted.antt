-- The revisions among the steps of a job, step by step.
use Rattle.std.proofs.Common.{◌≡◌, ℕ, suc, ◌+◌, ◌<◌, ◌≤◌, ◌==◌, cond, List, [], ◌∷◌, ◌++◌, length, length-append, append-nil, drop, get_or, slice_get, Option, Some, None, refl, sym, ap, ◌∙◌, arith}
use Rattle.std.specs.List.{count_by}
use Rattle.std.proofs.lemmas.List.{drop_more, drop_all}
use Rattle.std.proofs.lemmas.Grind.{flat_map-append}
use Rattle.std.proofs.lemmas.List.Sums.{sum_by-cons}
use Rattle.mal_revision.specs.Posted.{Posted}
use Rattle.mal_script.specs.Counting.{is_revision, revision_of}
use Rattle.spec_script.specs.Script.{revisions_at, revisions_in}
use Rattle.spec_script.specs.declared.step.Step.{Step}
use Rattle.spec_script.specs.declared.step.Step.TheVariants.{Revise, Reask}

-- the steps that post revisions are as many as their revisions
pub revisions-counted : (steps : List Step) → count_by is_revision steps ≡ length (revisions_in steps)
revisions-counted [] = refl
revisions-counted (Revise r ∷ steps) = sum_by-cons (λ (s : Step). cond (is_revision s) 1 0) (Revise r) steps ∙ one-more (count_by is_revision steps) (length (revisions_in steps)) (revisions-counted steps)
  where
    one-more : (m n : ℕ) → m ≡ n → 1 + m ≡ suc n
    one-more m n e = omega (arith, e)
revisions-counted (Reask w ∷ steps) = sum_by-cons (λ (s : Step). cond (is_revision s) 1 0) (Reask w) steps ∙ no-more (count_by is_revision steps) (length (revisions_in steps)) (revisions-counted steps)
  where
    no-more : (m n : ℕ) → m ≡ n → 0 + m ≡ n
    no-more m n e = omega (arith, e)

-- with a step after others there are as many revisions more as it posts
pub counted-more : (steps : List Step) (s : Step) → length (revisions_in (steps ++ s ∷ [])) ≡ length (revisions_in steps) + length (revisions_at s)
counted-more steps s =
    ap length (flat_map-append revisions_at steps (s ∷ []))
    ∙ length-append (revisions_in steps) (revisions_in (s ∷ []))
    ∙ ap (λ (rs : List Posted). length (revisions_in steps) + length rs) (append-nil (revisions_at s))

-- whether a step posts a revision, by the number of those that it posts
pub one-posted : (s : Step) → is_revision s ≡ (length (revisions_at s) == 1)
one-posted (Revise r) = refl
one-posted (Reask w) = refl

-- the revision that is looked for, with so many to go from a step on
abbrev pub IsSought : List Step → ℕ → ℕ → ℕ → Type 0
IsSought steps at i left = slice_get (revisions_in (drop i steps)) left ≡ slice_get (revisions_in steps) at

drop-one : (ss : List Step) (n : ℕ) (s : Step) → n < length ss → s ≡ get_or ss n s → drop n ss ≡ s ∷ drop (n + 1) ss
drop-one ss n s low here = drop_more ss n s low ∙ ap (λ (x : Step). x ∷ drop (n + 1) ss) (sym here)

-- the revisions from a step on that posts one
first-of : (s : Step) (r : Posted) (rest : List Step) → Some r ≡ revision_of s → revisions_in (s ∷ rest) ≡ r ∷ revisions_in rest
first-of (Revise q) r rest e = ap (λ (x : Posted). x ∷ revisions_in rest) (same q r e)
  where
    same : (x y : Posted) → ◌≡◌ {A = Option Posted} (Some y) (Some x) → x ≡ y
    same x y e = cc
first-of (Reask w) r rest e = absurd (differ r e)
  where
    differ : (x : Posted) → ◌≡◌ {A = Option Posted} (Some x) None → ⊥
    differ x e = cc

none-of : (s : Step) (rest : List Step) → None ≡ revision_of s → revisions_in (s ∷ rest) ≡ revisions_in rest
none-of (Revise q) rest e = absurd (differ q e)
  where
    differ : (x : Posted) → ◌≡◌ {A = Option Posted} None (Some x) → ⊥
    differ x e = cc
none-of (Reask w) rest e = refl

pub sought-here : (steps : List Step) (at i left : ℕ) (s : Step) (r : Posted) → IsSought steps at i left → i < length steps → s ≡ get_or steps i s → Some r ≡ revision_of s → left ≡ 0 → Some r ≡ slice_get (revisions_in steps) at
sought-here steps at i left s r is low here posts none =
    let rest : List Step = drop (i + 1) steps in
    ap (λ (n : ℕ). slice_get (r ∷ revisions_in rest) n) (sym none)
    ∙ (ap (λ (rs : List Posted). slice_get rs left) (sym (first-of s r rest posts))
    ∙ (sym (ap (λ (ss : List Step). slice_get (revisions_in ss) left) (drop-one steps i s low here)) ∙ is))

pub sought-later : (steps : List Step) (at i left less : ℕ) (s : Step) (r : Posted) → IsSought steps at i left → i < length steps → s ≡ get_or steps i s → Some r ≡ revision_of s → left ≡ less + 1 → IsSought steps at (i + 1) less
sought-later steps at i left less s r is low here posts more =
    let rest : List Step = drop (i + 1) steps in
    sym (ap (λ (n : ℕ). slice_get (r ∷ revisions_in rest) n) (more ∙ plus-one less))
    ∙ (ap (λ (rs : List Posted). slice_get rs left) (sym (first-of s r rest posts))
    ∙ (sym (ap (λ (ss : List Step). slice_get (revisions_in ss) left) (drop-one steps i s low here)) ∙ is))
  where
    plus-one : (n : ℕ) → n + 1 ≡ suc n
    plus-one n = omega arith

pub sought-past : (steps : List Step) (at i left : ℕ) (s : Step) → IsSought steps at i left → i < length steps → s ≡ get_or steps i s → None ≡ revision_of s → IsSought steps at (i + 1) left
sought-past steps at i left s is low here none =
    ap (λ (rs : List Posted). slice_get rs left) (sym (none-of s (drop (i + 1) steps) none))
    ∙ (sym (ap (λ (ss : List Step). slice_get (revisions_in ss) left) (drop-one steps i s low here)) ∙ is)

pub sought-none : (steps : List Step) (at i left : ℕ) → IsSought steps at i left → length steps ≤ i → None ≡ slice_get (revisions_in steps) at
sought-none steps at i left is all = sym (ap (λ (ss : List Step). slice_get (revisions_in ss) left) (drop_all i steps all)) ∙ is
