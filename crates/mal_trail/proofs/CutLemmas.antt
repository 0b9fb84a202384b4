use Rattle.std.proofs.Common.{◌≡◌, ℕ, zero, suc, ◌≤◌, Bool, true, false, ◌||◌, eqb, nat_le, List, [], ◌∷◌, length, take, refl, sym, ◌∙◌, ap, arith, ⊎_elim}
use Rattle.std.specs.List.{list_any, IsDistinct, prefix_len}
use Rattle.std.specs.List.Sorted.{IsPartitionPoint}
use Rattle.std.specs.List.{AllByRecursion}
use Rattle.std.proofs.lemmas.List.Sums.{prefix_len_is}
use Rattle.std.proofs.lemmas.List.Folds.{length-prefix_len}
use Rattle.std.proofs.lemmas.Map.Keys.{IsDistinct-head, IsDistinct-tail, IsDistinct-cons}
use Rattle.std.proofs.lemmas.Bool.{false≢true, or_cases}
use Rattle.mal_base.specs.Literals.{var_of}
use Rattle.mal_base.specs.declared.trail_entry.TrailEntry.{TrailEntry}
use Rattle.spec_node.specs.Value.{vars_of}
use Rattle.spec_node.specs.Cut.{kept}
use Rattle.mal_trail.specs.Trailed.{Fits}
use Rattle.mal_trail.proofs.LevelLemmas.{rise-take}

-- the number of entries of a level or below is where the others begin
pub kept_count : (level : ℕ) (es : List TrailEntry) (n : ℕ) (d : TrailEntry) → n ≤ length es → IsPartitionPoint (λ (e : TrailEntry). nat_le e.level level ≡ true) (λ (e : TrailEntry). nat_le e.level level ≡ false) es n → n ≡ length (kept level es)
kept_count level es n d l p =
    let test : TrailEntry → Bool = λ e. nat_le e.level level in
    let is : prefix_len test es ≡ n = prefix_len_is test es n d l (λ k h. p.0 k d (omega arith) h) (λ h. p.1 n d (omega arith) h) in
    sym (length-prefix_len test es ∙ is)

pub kept-take : (level : ℕ) (es : List TrailEntry) → take (length (kept level es)) es ≡ kept level es
kept-take level es = ap (λ (n : ℕ). take n es) (length-prefix_len (λ (e : TrailEntry). nat_le e.level level) es)

vars_of-take : (k : ℕ) (es : List TrailEntry) → vars_of (take k es) ≡ take k (vars_of es)
vars_of-take zero es = refl
vars_of-take (suc k) [] = refl
vars_of-take (suc k) (e ∷ es) = ap (λ (vs : List ℕ). var_of e.lit ∷ vs) (vars_of-take k es)

apart-take : (v k : ℕ) (vs : List ℕ) → AllByRecursion (λ y. eqb v y ≡ false) vs → AllByRecursion (λ y. eqb v y ≡ false) (take k vs)
apart-take v zero vs h = tt
apart-take v (suc k) [] h = tt
apart-take v (suc k) (w ∷ ws) h = (h.0, apart-take v k ws h.1)

distinct-take : (k : ℕ) (vs : List ℕ) → IsDistinct eqb vs → IsDistinct eqb (take k vs)
unfolding IsDistinct
distinct-take zero vs h = tt
distinct-take (suc k) [] h = tt
distinct-take (suc k) (v ∷ vs) h = IsDistinct-cons eqb v (take k vs) (apart-take v k vs (IsDistinct-head eqb v vs h)) (distinct-take k vs (IsDistinct-tail eqb v vs h))

any-take : (q k : ℕ) (vs : List ℕ) → list_any (eqb q) (take k vs) ≡ true → list_any (eqb q) vs ≡ true
any-take q zero vs h = absurd (false≢true h)
any-take q (suc k) [] h = absurd (false≢true h)
any-take q (suc k) (v ∷ vs) h = ⊎_elim (λ e. rw e refl) (λ e. by_rest (eqb q v) (any-take q k vs e)) (or_cases (eqb q v) (list_any (eqb q) (take k vs)) h)
  where
    by_rest : (b : Bool) → list_any (eqb q) vs ≡ true → (b || list_any (eqb q) vs) ≡ true
    by_rest true t = refl
    by_rest false t = t

-- a front of a trail fits
pub Fits-take : (n k : ℕ) (es : List TrailEntry) → Fits n es → Fits n (take k es)
Fits-take n k es f = record {
  small = f.small;
  distinct = rw (vars_of-take k es) (distinct-take k (vars_of es) f.distinct);
  within = λ v h. f.within v (any-take v k (vars_of es) (rw (vars_of-take k es) at h));
  levels = rise-take k 0 es f.levels;
}
