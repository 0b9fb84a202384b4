use Rattle.std.proofs.Common.{◌≡◌, ℕ, ◌+◌, ◌/◌, ◌^◌, ◌<◌, ◌≤◌, Bool, true, false, cond, not, List, [], ◌∷◌, length, map, Option, refl, sym, ap, ◌∙◌, subst, arith}
use Rattle.std.specs.Prelude.{All, Contains, filter, ◌==◌, ◌&&◌, nat_lt, nat_le}
use Rattle.std.specs.List.{list_any}
use Rattle.std.proofs.lemmas.List.{length-take-le}
use Rattle.std.proofs.lemmas.List.Elements.{All-nil, All-cons, All-head, All-tail, All-take, All-weaker, All-filter, filter_passes, All-contains_itself, Contains-append_left, Contains-append_right, Contains-push}
use Rattle.std.proofs.lemmas.Bool.{and_parts, both_ways, ne_eqb, le-leb, lt-leb, leb-true, ltb-true, not-true}
use Rattle.mal_base.specs.declared.profile.Reduction.{Reduction}
use Rattle.mal_base.specs.Profiles.{is_due}
use Rattle.mal_base.specs.NumberedClause.{NumberedClause}
use Rattle.mal_base.specs.declared.trail_entry.TrailEntry.{TrailEntry}
use Rattle.spec_node.specs.Cut.{kept}
use Rattle.spec_node.specs.Load.{is_derived}
use Rattle.spec_learn.specs.Dropping.{is_reason, may_go, goes_before, put_by_length, by_length, longer_half, to_drop}
use Rattle.spec_learn.proofs.InsertionLemmas.{put-All, length-put}
use Rattle.spec_search.specs.Step.{Case, Propagates, Drops, restarting, case_by}
use Rattle.spec_search.specs.Dropping.{is_dropping_due, dropped}
use Rattle.spec_search.specs.DroppingLaws.{DropsHold, DropsWhenDue}

by_length-All : (P : NumberedClause → Type 0) (cs : List NumberedClause) → All P cs → All P (by_length cs)
by_length-All P [] h = h
by_length-All P (c ∷ cs) h = put-All goes_before P c (by_length cs) (All-head P c cs h) (by_length-All P cs (All-tail P c cs h))

longer-All : (P : NumberedClause → Type 0) (cs : List NumberedClause) → All P cs → All P (longer_half cs)
longer-All P cs h = All-take P (length cs / 2) (by_length cs) (by_length-All P cs h)

length-by : (cs : List NumberedClause) → length (by_length cs) ≡ length cs
length-by [] = refl
length-by (c ∷ cs) = let ih : length (by_length cs) ≡ length cs = length-by cs in let p : length (put_by_length c (by_length cs)) ≡ length (by_length cs) + 1 = length-put goes_before c (by_length cs) in omega arith

half-goes : (cs : List NumberedClause) → length (longer_half cs) ≡ length cs / 2
half-goes cs = let l : length (by_length cs) ≡ length cs = length-by cs in length-take-le (length cs / 2) (by_length cs) (omega arith)

-- all that goes may go
may-go : (trail : List TrailEntry) (clauses : List NumberedClause) → All (λ c. may_go trail c ≡ true) (longer_half (filter (may_go trail) clauses))
may-go trail clauses = longer-All (λ c. may_go trail c ≡ true) (filter (may_go trail) clauses) (filter_passes (may_go trail) clauses)

-- a number that is of nothing that may go is not dropped
not-among : (P : NumberedClause → Type 0) (id : ℕ) (ds : List NumberedClause) → All P ds → ((d : NumberedClause) → d.id ≡ id → P d → ⊥) → list_any (λ i. i == id) (map (λ (d : NumberedClause). d.id) ds) ≡ false
not-among P id [] h f = refl
not-among P id (d ∷ ds) h f = rw (ne_eqb d.id id (λ q. f d q (All-head P d ds h))) (not-among P id ds (All-tail P d ds h) f)

pub spared : (trail : List TrailEntry) (clauses : List NumberedClause) (c : NumberedClause) → ((d : NumberedClause) → d.id ≡ c.id → may_go trail d ≡ true → ⊥) → not (list_any (λ i. i == c.id) (to_drop trail clauses)) ≡ true
spared trail clauses c f = ap not (not-among (λ d. may_go trail d ≡ true) c.id (longer_half (filter (may_go trail) clauses)) (may-go trail clauses) f)

pub reason-spared : (trail : List TrailEntry) (clauses : List NumberedClause) (c : NumberedClause) → is_reason trail c ≡ true → not (list_any (λ i. i == c.id) (to_drop trail clauses)) ≡ true
reason-spared trail clauses c h = spared trail clauses c (λ d q m.
    let parts = and_parts (is_derived d) (nat_le 3 (length d.lits) && not (is_reason trail d)) m in
    let more = and_parts (nat_le 3 (length d.lits)) (not (is_reason trail d)) parts.1 in
    both_ways (is_reason trail d) (not-true (is_reason trail d) more.1) (subst (λ (x : ℕ). is_reason trail (record { id = x; lits = d.lits }) ≡ true) (sym q) h))

original-spared : (trail : List TrailEntry) (clauses : List NumberedClause) (c : NumberedClause) → nat_lt c.id (2 ^ 32) ≡ true → not (list_any (λ i. i == c.id) (to_drop trail clauses)) ≡ true
original-spared trail clauses c h = spared trail clauses c (λ d q m.
    let parts = and_parts (is_derived d) (nat_le 3 (length d.lits) && not (is_reason trail d)) m in
    let low : c.id < 2 ^ 32 = ltb-true c.id (2 ^ 32) h in
    let high : 2 ^ 32 ≤ d.id = leb-true (2 ^ 32) d.id parts.0 in
    omega arith)

-- filters of filters
pub filter-again : (o p : NumberedClause → Bool) (cs : List NumberedClause) → ((c : NumberedClause) → o c ≡ true → p c ≡ true) → filter o (filter p cs) ≡ filter o cs
filter-again o p [] f = refl
filter-again o p (c ∷ cs) f = by_test (filter-again o p cs f) (p c) refl (o c) refl
  where
    by_test : filter o (filter p cs) ≡ filter o cs → (b : Bool) → p c ≡ b → (a : Bool) → o c ≡ a → filter o (cond b (c ∷ filter p cs) (filter p cs)) ≡ cond a (c ∷ filter o cs) (filter o cs)
    by_test g true q true k = ap (λ (x : Bool). cond x (c ∷ filter o (filter p cs)) (filter o (filter p cs))) k ∙ ap (λ (xs : List NumberedClause). c ∷ xs) g
    by_test g true q false k = ap (λ (x : Bool). cond x (c ∷ filter o (filter p cs)) (filter o (filter p cs))) k ∙ g
    by_test g false q true k = absurd (both_ways (p c) q (f c k))
    by_test g false q false k = g

pub contains-filter : (p : NumberedClause → Bool) (cs : List NumberedClause) → All (λ c. p c ≡ true → Contains (filter p cs) c) cs
contains-filter p [] = All-nil (λ c. p c ≡ true → Contains (filter p []) c)
contains-filter p (c ∷ cs) = by_test (contains-filter p cs) (p c) refl
  where
    head : Contains (c ∷ filter p cs) c
    head = Contains-append_left (c ∷ []) (filter p cs) c (Contains-push [] c)

    by_test : All (λ d. p d ≡ true → Contains (filter p cs) d) cs → (b : Bool) → p c ≡ b → All (λ d. p d ≡ true → Contains (cond b (c ∷ filter p cs) (filter p cs)) d) (c ∷ cs)
    by_test f true q = All-cons (λ d. p d ≡ true → Contains (c ∷ filter p cs) d) c cs (λ k. head) (All-weaker (λ d. p d ≡ true → Contains (filter p cs) d) (λ d. p d ≡ true → Contains (c ∷ filter p cs) d) (λ d g k. Contains-append_right (c ∷ []) (filter p cs) d (g k)) cs f)
    by_test f false q = All-cons (λ d. p d ≡ true → Contains (filter p cs) d) c cs (λ k. absurd (both_ways (p c) q k)) f

pub drops-hold : DropsHold
drops-hold n =
    let trail : List TrailEntry = kept 0 n.trail in
    record {
      originals = filter-again (λ c. nat_lt c.id (2 ^ 32)) (λ c. not (list_any (λ i. i == c.id) (to_drop trail n.clauses))) n.clauses (original-spared trail n.clauses);
      was = All-filter (λ c. not (list_any (λ i. i == c.id) (to_drop trail n.clauses))) (Contains n.clauses) n.clauses (All-contains_itself n.clauses);
      reasons = All-weaker (λ c. not (list_any (λ i. i == c.id) (to_drop trail n.clauses)) ≡ true → Contains (dropped n).clauses c) (λ c. is_reason trail c ≡ true → Contains (dropped n).clauses c) (λ c f q. f (reason-spared trail n.clauses c q)) n.clauses (contains-filter (λ c. not (list_any (λ i. i == c.id) (to_drop trail n.clauses))) n.clauses);
      count = refl;
      half = half-goes (filter (may_go trail) n.clauses);
    }

-- a dropping that is due comes where the node is idle
pub drops-when_due : DropsWhenDue
drops-when_due = record {
  due = λ n most calm handled reduces many.
      let batch : nat_le n.processed (length n.trail) ≡ false = lt-leb n.processed (length n.trail) handled in
      let is : is_dropping_due n ≡ true = ap (λ (r : Reduction). is_due r n.conflicts_since_dropping) reduces ∙ le-leb most n.conflicts_since_dropping many in
      ap (λ (o : Option ℕ). case_by o n) calm ∙ (ap (λ (b : Bool). cond {A = Case} b Propagates (cond {A = Case} (is_dropping_due n) Drops (restarting n))) batch ∙ ap (λ (b : Bool). cond {A = Case} b Drops (restarting n)) is);
  never = λ n keeps. ap (λ (r : Reduction). is_due r n.conflicts_since_dropping) keeps;
}
