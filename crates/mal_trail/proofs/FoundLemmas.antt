-- What the engines' proofs share: what is found in a list, and a batch that is handled clause by clause.
use Rattle.std.proofs.Common.{◌≡◌, ℕ, ◌+◌, Bool, true, false, ◌&&◌, cond, List, [], ◌∷◌, drop, zero, suc, Option, Some, None, refl, arith}
use Rattle.std.specs.List.{list_all, find, slice_get}
use Rattle.std.proofs.lemmas.Bool.{false≢true}
use Rattle.mal_base.specs.Formulas.{is_within}
use Rattle.mal_base.specs.NumberedClause.{NumberedClause}
use Rattle.mal_base.specs.declared.trail_entry.TrailEntry.{TrailEntry}
use Rattle.mal_trail.specs.Rooms.{are_within}
use Rattle.spec_node.specs.Batch.{Progress, after_all, after_clause, batch, is_in_batch}

pub and_true : (a b : Bool) → (a && b) ≡ true → (a ≡ true) × (b ≡ true)
and_true true b h = (refl, h)
and_true false b h = absurd (false≢true h)

pub some_one : {X : Type 0} (x y : X) → Some x ≡ Some y → x ≡ y
some_one x y e = cc

pub none_some : {X : Type 0} (x : X) → ◌≡◌ {A = Option X} None (Some x) → ⊥
none_some x e = cc

-- what holds of each element holds of the one found
pub found_passes : {X : Type 0} (p q : X → Bool) (xs : List X) (x : X) → list_all q xs ≡ true → find p xs ≡ Some x → q x ≡ true
found_passes {X} p q [] x h e = absurd (none_some x e)
found_passes {X} p q (y ∷ ys) x h e = by_test (p y) (λ f. found_passes p q ys x (and_true (q y) (list_all q ys) h).1 f) e
  where
    by_test : (b : Bool) → (find p ys ≡ Some x → q x ≡ true) → cond b (Some y) (find p ys) ≡ Some x → q x ≡ true
    by_test true rest f = rw (← some_one y x f) ((and_true (q y) (list_all q ys) h).0)
    by_test false rest f = rest f

-- a batch not handled yet
abbrev pub calm : List TrailEntry → Progress
calm trail = record { trail = trail; conflict = None }

-- what is left from a place on begins with what stands there
drop-get : (clauses : List NumberedClause) (i : ℕ) (c : NumberedClause) → slice_get clauses i ≡ Some c → drop i clauses ≡ c ∷ drop (i + 1) clauses
drop-get [] i c e = absurd (none_some c e)
drop-get (d ∷ ds) zero c e = rw (some_one d c e) refl
drop-get (d ∷ ds) (suc i) c e =
    let more : suc i + 1 ≡ suc (i + 1) = omega arith in
    rw more (drop-get ds i c e)

-- a clause of the batch is handled next
pub after_all-in : (prefix trail : List TrailEntry) (clauses : List NumberedClause) (i : ℕ) (c : NumberedClause) → slice_get clauses i ≡ Some c → is_in_batch prefix c ≡ true → after_all prefix (calm trail) (batch prefix (drop i clauses)) ≡ after_all prefix (after_clause prefix trail c) (batch prefix (drop (i + 1) clauses))
after_all-in prefix trail clauses i c e t = rw (drop-get clauses i c e, t) refl

-- a clause outside the batch is passed over
pub after_all-out : (prefix : List TrailEntry) (p : Progress) (clauses : List NumberedClause) (i : ℕ) (c : NumberedClause) → slice_get clauses i ≡ Some c → is_in_batch prefix c ≡ false → after_all prefix p (batch prefix (drop i clauses)) ≡ after_all prefix p (batch prefix (drop (i + 1) clauses))
after_all-out prefix p clauses i c e t = rw (drop-get clauses i c e, t) refl

-- where all clauses are of some variables, the one at a place is
pub within-at : (room : ℕ) (clauses : List NumberedClause) (i : ℕ) (c : NumberedClause) → are_within room clauses ≡ true → slice_get clauses i ≡ Some c → is_within room c.lits ≡ true
within-at room [] i c w e = absurd (none_some c e)
within-at room (d ∷ ds) zero c w e = rw (← some_one d c e) ((and_true (is_within room d.lits) (are_within room ds) w).0)
within-at room (d ∷ ds) (suc i) c w e = within-at room ds i c ((and_true (is_within room d.lits) (are_within room ds) w).1) e

-- a conflict ends the batch
pub after_all-ended : (prefix trail : List TrailEntry) (id : ℕ) (clauses : List NumberedClause) → after_all prefix (record { trail = trail; conflict = Some id }) clauses ≡ record { trail = trail; conflict = Some id }
after_all-ended prefix trail id [] = refl
after_all-ended prefix trail id (c ∷ cs) = after_all-ended prefix trail id cs
