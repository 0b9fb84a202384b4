use Rattle.std.proofs.Common.{◌≡◌, ℕ, zero, suc, ◌+◌, ◌-◌, ◌<◌, ◌≤◌, Bool, true, false, cond, List, [], ◌∷◌, ◌++◌, length, take, drop, get_or, set, reverse, Option, Some, None, refl, ap, ◌∙◌, subst, arith}
use Rattle.std.specs.Prelude.{slice_get, find, ◌==◌, option_map, nat_lt, ◌&&◌, ◌||◌}
use Rattle.std.proofs.lemmas.List.{take_more, length_push, reverse-append}
use Rattle.std.proofs.lemmas.Bool.{eq-eqb, ne_eqb}
use Rattle.mal_base.specs.NumberedClause.{NumberedClause, lits_under}
use Rattle.mal_base.specs.Literals.{var_of, negated}
use Rattle.mal_base.specs.declared.trail_entry.TrailEntry.{TrailEntry}
use Rattle.spec_node.proofs.FindLemmas.{find-All}
use Rattle.mal_learn.specs.Working.{State, counted_more, see, see_all, lits_of, kept, resolved, by_reason, visited, visited_all, uncounted, passed, here_all}
use Rattle.mal_learn.specs.Shown.{AreWithin, ClausesWithin}

pub lits-within : (room id : ℕ) (clauses : List NumberedClause) (lits : List ℕ) → ClausesWithin room clauses → lits_under id clauses ≡ Some lits → AreWithin room lits
lits-within room id clauses lits h e = by_found (find (λ c. c.id == id) clauses) refl e
  where
    by_found : (o : Option NumberedClause) → find (λ (c : NumberedClause). c.id == id) clauses ≡ o → option_map (λ (c : NumberedClause). c.lits) o ≡ Some lits → AreWithin room lits
    by_found None q k = absurd (cc)
    by_found (Some c) q k = let same : c.lits ≡ lits = cc in subst (AreWithin room) same (find-All (λ (c : NumberedClause). AreWithin room c.lits) (λ c. c.id == id) clauses c h q)

-- an entry read and the entries from there on
pub drop-got : {X : Type 0} (xs : List X) (p : ℕ) (x : X) → slice_get xs p ≡ Some x → drop p xs ≡ x ∷ drop (p + 1) xs
drop-got [] p x e = absurd (cc)
drop-got (y ∷ ys) zero x e = let same : y ≡ x = cc in rw same refl
drop-got (y ∷ ys) (suc p) x e = let next : suc p + 1 ≡ suc (p + 1) = omega arith in rw next (drop-got ys p x e)

pub get-got : {X : Type 0} (xs : List X) (p : ℕ) (x d : X) → slice_get xs p ≡ Some x → get_or xs p d ≡ x
get-got [] p x d e = absurd (cc)
get-got (y ∷ ys) zero x d e = cc
get-got (y ∷ ys) (suc p) x d e = get-got ys p x d e

pub reverse-got : {X : Type 0} (xs : List X) (p : ℕ) (x : X) → p < length xs → slice_get xs p ≡ Some x → reverse (take (p + 1) xs) ≡ x ∷ reverse (take p xs)
reverse-got xs p x l e = ap reverse (take_more xs p x l) ∙ (reverse-append (take p xs) (get_or xs p x ∷ []) ∙ ap (λ y. y ∷ reverse (take p xs)) (get-got xs p x x e))

pub mark-then : (level p : ℕ) (es : List TrailEntry) (e : TrailEntry) (flags : List Bool) → slice_get es p ≡ Some e → e.level ≡ level → here_all level (drop p es) flags ≡ here_all level (drop (p + 1) es) (set flags (var_of e.lit) true)
mark-then level p es e flags q h =
    let test : (e.level == level) ≡ true = eq-eqb e.level level h in
    ap (λ (xs : List TrailEntry). here_all level xs flags) (drop-got es p e q) ∙ ap (λ (b : Bool). here_all level (drop (p + 1) es) (cond b (set flags (var_of e.lit) true) flags)) test

pub mark-else : (level p : ℕ) (es : List TrailEntry) (e : TrailEntry) (flags : List Bool) → slice_get es p ≡ Some e → (e.level ≡ level → ⊥) → here_all level (drop p es) flags ≡ here_all level (drop (p + 1) es) flags
mark-else level p es e flags q h =
    let test : (e.level == level) ≡ false = ne_eqb e.level level h in
    ap (λ (xs : List TrailEntry). here_all level xs flags) (drop-got es p e q) ∙ ap (λ (b : Bool). here_all level (drop (p + 1) es) (cond b (set flags (var_of e.lit) true) flags)) test

-- seeing leaves literals, hints and level
pub record Leaves (s t : State) : Type 0 where
  pub lits : t.lits ≡ s.lits
  pub hints : t.hints ≡ s.hints
  pub level : t.level ≡ s.level

see-leaves : (v : ℕ) (s : State) → Leaves s (see v s)
see-leaves v s = by_seen (get_or s.seen v false)
  where
    by_seen : (b : Bool) → Leaves s (cond b s (record s { seen = set s.seen v true; left = counted_more (get_or s.here v false) s.left }))
    by_seen true = record { lits = refl; hints = refl; level = refl }
    by_seen false = record { lits = refl; hints = refl; level = refl }

pub see_all-leaves : (ls : List ℕ) (s : State) → Leaves s (see_all ls s)
see_all-leaves [] s = record { lits = refl; hints = refl; level = refl }
see_all-leaves (l ∷ ls) s =
    let a = see-leaves (var_of l) s in
    let b = see_all-leaves ls (see (var_of l) s) in
    record { lits = b.lits ∙ a.lits; hints = b.hints ∙ a.hints; level = b.level ∙ a.level }

-- each entry adds a literal or a hint at most
pub record AddsOne (s t : State) : Type 0 where
  pub lits : length t.lits ≤ length s.lits + 1
  pub hints : length t.hints ≤ length s.hints + 1

pub kept-adds : (level : ℕ) (e : TrailEntry) (s : State) → AddsOne s (kept level e s)
kept-adds level e s = record { lits = omega (arith, length_push s.lits (negated e.lit)); hints = omega arith }

pub resolved-adds : (clauses : List NumberedClause) (r : ℕ) (s : State) → AddsOne s (resolved clauses r s)
resolved-adds clauses r s =
    let l : Leaves (record s { hints = s.hints ++ r ∷ [] }) (resolved clauses r s) = see_all-leaves (lits_of clauses r) (record s { hints = s.hints ++ r ∷ [] }) in
    record { lits = rw l.lits (omega arith); hints = rw l.hints (omega (arith, length_push s.hints r)) }

by_reason-adds : (clauses : List NumberedClause) (level : ℕ) (e : TrailEntry) (s : State) (o : Option ℕ) → AddsOne s (by_reason clauses level e s o)
by_reason-adds clauses level e s None = kept-adds level e s
by_reason-adds clauses level e s (Some r) = by_test ((e.level == 0) || ((e.level == level) && nat_lt 0 s.left))
  where
    by_test : (b : Bool) → AddsOne s (cond b (resolved clauses r s) (kept level e s))
    by_test true = resolved-adds clauses r s
    by_test false = kept-adds level e s

pub visited-adds : (clauses : List NumberedClause) (level : ℕ) (e : TrailEntry) (s : State) → AddsOne s (visited clauses level e s)
visited-adds clauses level e s = by_seen (get_or s.seen (var_of e.lit) false)
  where
    by_seen : (b : Bool) → AddsOne s (cond b (by_reason clauses level e (uncounted level e (passed e s)) e.reason) (passed e s))
    by_seen true = let a = by_reason-adds clauses level e (uncounted level e (passed e s)) e.reason in record { lits = a.lits; hints = a.hints }
    by_seen false = record { lits = omega arith; hints = omega arith }

-- the entries that are left to pass, the latest first
pub left-entries : (made n : ℕ) (es : List TrailEntry) (e : TrailEntry) → n ≡ length es → made < n → slice_get es (n - 1 - made) ≡ Some e → reverse (take (length es - made) es) ≡ e ∷ reverse (take (length es - (made + 1)) es)
left-entries made n es e m l q =
    let one : length es - made ≡ n - 1 - made + 1 = omega arith in
    let two : length es - (made + 1) ≡ n - 1 - made = omega arith in
    rw (one, two) (reverse-got es (n - 1 - made) e (omega arith) q)

-- how far a walk has come
pub walk-step : (clauses : List NumberedClause) (level made n : ℕ) (es : List TrailEntry) (e : TrailEntry) (s : State) → n ≡ length es → made < n → slice_get es (n - 1 - made) ≡ Some e → visited_all clauses level (reverse (take (length es - made) es)) s ≡ visited_all clauses level (reverse (take (length es - (made + 1)) es)) (visited clauses level e s)
walk-step clauses level made n es e s m l q = ap (λ (xs : List TrailEntry). visited_all clauses level xs s) (left-entries made n es e m l q)
