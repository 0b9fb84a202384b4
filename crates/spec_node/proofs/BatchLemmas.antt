use Rattle.std.proofs.Common.{◌≡◌, ℕ, Bool, true, false, cond, List, [], ◌∷◌, ◌++◌, Some, None, Option, is_some, refl, sym, ap, ◌∙◌, subst, append_assoc, append-nil}
use Rattle.std.specs.Prelude.{All, filter, ◌==◌}
use Rattle.std.specs.List.{list_all}
use Rattle.std.specs.Option.{option_map_or}
use Rattle.std.proofs.lemmas.List.Elements.{All-nil, All-cons, All-head, All-tail}
use Rattle.std.proofs.lemmas.Bool.{and_from, or_left, or_right, eq-eqb}
use Rattle.std.proofs.lemmas.List.Folds.{list_any-append}
use Rattle.mal_base.specs.declared.trail_entry.TrailEntry.{TrailEntry}
use Rattle.mal_base.specs.NumberedClause.{NumberedClause}
use Rattle.spec_node.specs.Value.{is_true, is_false, level_of, left_literal}
use Rattle.spec_node.specs.Batch.{Progress, after_left, after_clause, after_all}
use Rattle.spec_node.specs.Sound.{left_is_true}
use Rattle.spec_node.proofs.TrailLemmas.{left_is_true-more}

-- what a filter keeps has passed the test
pub All-filtered : {X : Type 0} (P : X → Type 0) (test : X → Bool) (xs : List X) → All P xs → All (λ x. P x × (test x ≡ true)) (filter test xs)
All-filtered P test [] h = All-nil (λ x. P x × (test x ≡ true))
All-filtered {X} P test (x ∷ xs) h = by_test (All-filtered P test xs (All-tail P x xs h)) (test x) refl
  where
    by_test : All (λ (y : X). P y × (test y ≡ true)) (filter test xs) → (b : Bool) → test x ≡ b → All (λ (y : X). P y × (test y ≡ true)) (cond b (x ∷ filter test xs) (filter test xs))
    by_test rest true e = All-cons (λ (y : X). P y × (test y ≡ true)) x (filter test xs) (All-head P x xs h, e) rest
    by_test rest false e = rest

-- the entry that a forced literal gets
abbrev pub forced : ℕ → ℕ → List TrailEntry → TrailEntry
forced l id trail = record { lit = l; reason = Some id; level = level_of trail }

-- pushing a clause's left literal, where it has no value, keeps a property of the trail
abbrev pub PushKeeps : (List TrailEntry → Type 0) → List TrailEntry → NumberedClause → Type 0
PushKeeps P prefix c = (trail : List TrailEntry) (l : ℕ) → left_literal prefix c.lits ≡ Some l → is_true trail l ≡ false → is_false trail l ≡ false → P trail → P (trail ++ forced l c.id trail ∷ [])

pub after_clause-keeps : (P : List TrailEntry → Type 0) (prefix trail : List TrailEntry) (c : NumberedClause) → PushKeeps P prefix c → P trail → P (after_clause prefix trail c).trail
after_clause-keeps P prefix trail c h k = by_left (left_literal prefix c.lits) refl
  where
    by_value : (l : ℕ) → left_literal prefix c.lits ≡ Some l → (a b : Bool) → is_true trail l ≡ a → is_false trail l ≡ b → P (cond {A = Progress} a (record { trail = trail; conflict = None }) (cond {A = Progress} b (record { trail = trail; conflict = Some c.id }) (record { trail = trail ++ forced l c.id trail ∷ []; conflict = None }))).trail
    by_value l e true b t f = k
    by_value l e false true t f = k
    by_value l e false false t f = h trail l e t f k

    by_left : (o : Option ℕ) → left_literal prefix c.lits ≡ o → P (after_left trail c.id o).trail
    by_left None e = k
    by_left (Some l) e = by_value l e (is_true trail l) (is_false trail l) refl refl

pub after_all-keeps : (P : List TrailEntry → Type 0) (prefix : List TrailEntry) (cs : List NumberedClause) (p : Progress) → All (PushKeeps P prefix) cs → P p.trail → P (after_all prefix p cs).trail
after_all-keeps P prefix [] p h k = k
after_all-keeps P prefix (c ∷ cs) p h k = after_all-keeps P prefix cs (cond (is_some p.conflict) p (after_clause prefix p.trail c)) (All-tail (PushKeeps P prefix) c cs h) (by_conflict (is_some p.conflict))
  where
    by_conflict : (b : Bool) → P (cond b p (after_clause prefix p.trail c)).trail
    by_conflict true = k
    by_conflict false = after_clause-keeps P prefix p.trail c (All-head (PushKeeps P prefix) c cs h) k

-- a trail that begins with another
pub record Extends (base trail : List TrailEntry) : Type 0 where
  pub rest : List TrailEntry
  pub is : trail ≡ base ++ rest

pub extends-self : (base : List TrailEntry) → Extends base base
extends-self base = record { rest = []; is = sym (append-nil base) }

pub extends-push : (base trail : List TrailEntry) (e : TrailEntry) → Extends base trail → Extends base (trail ++ e ∷ [])
extends-push base trail e h = record { rest = h.rest ++ e ∷ []; is = ap (λ (t : List TrailEntry). t ++ e ∷ []) h.is ∙ append_assoc base h.rest (e ∷ []) }

pub all-of : {X : Type 0} (P : X → Type 0) → ((x : X) → P x) → (xs : List X) → All P xs
all-of P f [] = All-nil P
all-of P f (x ∷ xs) = All-cons P x xs (f x) (all-of P f xs)

pub after_all-extends : (prefix : List TrailEntry) (cs : List NumberedClause) (p : Progress) → Extends p.trail (after_all prefix p cs).trail
after_all-extends prefix cs p = after_all-keeps (Extends p.trail) prefix cs p (all-of (PushKeeps (Extends p.trail) prefix) (λ c trail l e t f k. extends-push p.trail trail (forced l c.id trail) k) cs) (extends-self p.trail)

-- a conflict stays
pub after_all-stopped : (prefix : List TrailEntry) (cs : List NumberedClause) (p : Progress) (id : ℕ) → p.conflict ≡ Some id → (after_all prefix p cs).conflict ≡ None → ⊥
after_all-stopped prefix [] p id e h = absurd (cc)
after_all-stopped prefix (c ∷ cs) p id e h = after_all-stopped prefix cs (cond (is_some p.conflict) p (after_clause prefix p.trail c)) id (by_conflict (is_some p.conflict) (ap is_some e)) h
  where
    by_conflict : (b : Bool) → b ≡ true → (cond b p (after_clause prefix p.trail c)).conflict ≡ Some id
    by_conflict true q = e
    by_conflict false q = absurd (cc)

-- a clause handled without a conflict has its left literal true
pub after_clause-settles : (prefix trail : List TrailEntry) (c : NumberedClause) → (after_clause prefix trail c).conflict ≡ None → left_is_true prefix (after_clause prefix trail c).trail c ≡ true
after_clause-settles prefix trail c h = by_left (left_literal prefix c.lits) h
  where
    by_value : (l : ℕ) (a b : Bool) → is_true trail l ≡ a → (cond {A = Progress} a (record { trail = trail; conflict = None }) (cond {A = Progress} b (record { trail = trail; conflict = Some c.id }) (record { trail = trail ++ forced l c.id trail ∷ []; conflict = None }))).conflict ≡ None → is_true (cond {A = Progress} a (record { trail = trail; conflict = None }) (cond {A = Progress} b (record { trail = trail; conflict = Some c.id }) (record { trail = trail ++ forced l c.id trail ∷ []; conflict = None }))).trail l ≡ true
    by_value l true b t k = t
    by_value l false true t k = absurd (cc)
    by_value l false false t k = list_any-append (λ e. e.lit == l) trail (forced l c.id trail ∷ []) ∙ or_right _ _ (or_left _ _ (eq-eqb l l refl))

    by_left : (o : Option ℕ) → (after_left trail c.id o).conflict ≡ None → option_map_or (is_true (after_left trail c.id o).trail) o false ≡ true
    by_left None k = absurd (cc)
    by_left (Some l) k = by_value l (is_true trail l) (is_false trail l) refl k

pub after_all-settles : (prefix : List TrailEntry) (cs : List NumberedClause) (p : Progress) → (after_all prefix p cs).conflict ≡ None → list_all (left_is_true prefix (after_all prefix p cs).trail) cs ≡ true
after_all-settles prefix [] p h = refl
after_all-settles prefix (c ∷ cs) p h =
    let q : Progress = cond (is_some p.conflict) p (after_clause prefix p.trail c) in
    let calm : q.conflict ≡ None = none-from _ (λ id e. after_all-stopped prefix cs q id e h) in
    let ext : Extends q.trail (after_all prefix q cs).trail = after_all-extends prefix cs q in
    let here : left_is_true prefix q.trail c ≡ true = by_conflict p.conflict refl calm in
    and_from _ _ (subst (λ (t : List TrailEntry). left_is_true prefix t c ≡ true) (sym ext.is) (left_is_true-more prefix q.trail ext.rest c here)) (after_all-settles prefix cs q h)
  where
    none-from : (o : Option ℕ) → ((id : ℕ) → o ≡ Some id → ⊥) → o ≡ None
    none-from None f = refl
    none-from (Some id) f = absurd (f id refl)

    by_conflict : (o : Option ℕ) → p.conflict ≡ o → (cond (is_some o) p (after_clause prefix p.trail c)).conflict ≡ None → left_is_true prefix (cond (is_some o) p (after_clause prefix p.trail c)).trail c ≡ true
    by_conflict None e k = after_clause-settles prefix p.trail c k
    by_conflict (Some id) e k = absurd (cc)
