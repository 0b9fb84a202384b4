use Rattle.std.proofs.Common.{◌≡◌, ℕ, ◌+◌, ◌<◌, ◌≤◌, Bool, true, false, not, List, [], ◌∷◌, ◌++◌, length, take, drop, get_or, Some, None, Option, refl, sym, ap, ◌∙◌, subst}
use Rattle.std.specs.Prelude.{◌&&◌, ◌==◌}
use Rattle.std.specs.List.{list_all}
use Rattle.std.proofs.lemmas.List.{take_more, drop_more, drop_all}
use Rattle.std.proofs.lemmas.List.Folds.{list_all-append, list_any-append}
use Rattle.mal_base.specs.Literals.{var_of}
use Rattle.mal_base.specs.NumberedClause.{NumberedClause}
use Rattle.mal_base.specs.declared.trail_entry.TrailEntry.{TrailEntry}
use Rattle.spec_node.specs.Value.{is_true, has_value, next_assumption}
use Rattle.spec_node.specs.Batch.{Progress, after_batch, batch}
use Rattle.spec_node.proofs.BatchLemmas.{after_all-extends}
use Rattle.spec_node.proofs.TrailLemmas.{is_true-more}
use Rattle.mal_order.specs.Ordered.{Ordered}
use Rattle.mal_cdcl.specs.Within.{IsPast}

-- what passes a test passes one that is weaker
all-weaker : (p q : ℕ → Bool) → ((x : ℕ) → p x ≡ true → q x ≡ true) → (xs : List ℕ) → list_all p xs ≡ true → list_all q xs ≡ true
all-weaker p q f [] h = refl
all-weaker p q f (x ∷ xs) h = by_here (all-weaker p q f xs) (p x) refl h
  where
    by_here : (list_all p xs ≡ true → list_all q xs ≡ true) → (b : Bool) → p x ≡ b → (b && list_all p xs) ≡ true → (q x && list_all q xs) ≡ true
    by_here r true e k = rw (f x e) (r k)
    by_here r false e k = absurd (cc)

value-more : (trail rest : List TrailEntry) (v : ℕ) → has_value trail v ≡ true → has_value (trail ++ rest) v ≡ true
value-more trail rest v h = rw (list_any-append (λ (e : TrailEntry). v == var_of e.lit) trail rest, h) refl

-- what was passed stays passed on a longer trail
pub past-more : (trail rest : List TrailEntry) (order : Ordered) (assumptions : List ℕ) (passed : ℕ) → IsPast trail order assumptions passed → IsPast (trail ++ rest) order assumptions passed
past-more trail rest order assumptions passed h =
    record {
      valued = all-weaker (has_value trail) (has_value (trail ++ rest)) (value-more trail rest) (take order.passed order.list) h.valued;
      assumed = all-weaker (is_true trail) (is_true (trail ++ rest)) (is_true-more trail rest) (take passed assumptions) h.assumed;
    }

-- a batch makes the trail longer
pub past-batch : (q : ℕ) (trail now : List TrailEntry) (clauses : List NumberedClause) (o : Option ℕ) (order : Ordered) (assumptions : List ℕ) (passed : ℕ) → after_batch q trail clauses ≡ record { trail = now; conflict = o } → IsPast trail order assumptions passed → IsPast now order assumptions passed
past-batch q trail now clauses o order assumptions passed e h =
    let start : Progress = record { trail = trail; conflict = None } in
    let k = after_all-extends (take q trail) (batch (take q trail) clauses) start in
    let is : now ≡ trail ++ k.rest = sym (ap (λ (p : Progress). p.trail) e) ∙ k.is in
    subst (λ (t : List TrailEntry). IsPast t order assumptions passed) (sym is) (past-more trail k.rest order assumptions passed h)

-- the first assumption that is not true
pub open-here : (trail : List TrailEntry) (list : List ℕ) (p l : ℕ) → p < length list → l ≡ get_or list p 0 → not (is_true trail l) ≡ true → next_assumption trail (drop p list) ≡ Some l
open-here trail list p l low q f = rw (drop_more list p 0 low, ← q, f) refl

pub open-more : (trail : List TrailEntry) (list : List ℕ) (p l : ℕ) → p < length list → l ≡ get_or list p 0 → is_true trail l ≡ true → list_all (is_true trail) (take p list) ≡ true → list_all (is_true trail) (take (p + 1) list) ≡ true
open-more trail list p l low q t h = rw (take_more list p 0 low, ← q, list_all-append, h, t) refl

pub open-ends : (trail : List TrailEntry) (list : List ℕ) (p : ℕ) → length list ≤ p → next_assumption trail (drop p list) ≡ None
open-ends trail list p h = rw (drop_all p list h) refl
