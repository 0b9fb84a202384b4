use Rattle.std.proofs.Common.{◌≡◌, ℕ, ◌+◌, ◌<◌, ◌≤◌, min, Bool, true, false, cond, not, List, [], ◌∷◌, ◌++◌, length, take, Option, Some, None, refl, sym, ap, ◌∙◌, subst, append_assoc, arith}
use Rattle.std.specs.Prelude.{All, Contains, filter, ◌==◌, ◌&&◌, ◌^◌, nat_lt, nat_le}
use Rattle.std.specs.List.{list_any, list_all}
use Rattle.std.specs.Option.{option_map_or}
use Rattle.std.proofs.lemmas.List.{take_all}
use Rattle.std.proofs.lemmas.List.Elements.{All-filter, All-contains, All-weaker, All-contains_itself}
use Rattle.std.proofs.lemmas.Bool.{and_parts, and_from, or_left, or_right, eq-eqb, ne_eqb, both_ways, not-true, ltb-true, leb-true}
use Rattle.mal_base.specs.NumberedClause.{NumberedClause}
use Rattle.mal_base.specs.declared.trail_entry.TrailEntry.{TrailEntry}
use Rattle.spec_node.specs.State.{Node}
use Rattle.spec_node.specs.Value.{level_of}
use Rattle.spec_node.specs.Batch.{is_in_batch}
use Rattle.spec_node.specs.Cut.{kept, removed, cut}
use Rattle.spec_node.specs.Load.{is_derived}
use Rattle.spec_node.specs.Laws.{originals}
use Rattle.spec_node.specs.Sound.{EachAfter, IsClosed, IsForced, IsChosen, IsPassed, IsReason, AreSettled, AreLiteralsOf, left_is_true, serial_of, IsRanged, IsConsistent, IsSound}
use Rattle.spec_node.proofs.TrailLemmas.{each-front, each-weaker}
use Rattle.spec_node.proofs.SoundLemmas.{numbers-filter, length-saved, kept-short}
use Rattle.spec_node.proofs.CutLemmas.{kept-front}
use Rattle.spec_node.proofs.LoadLemmas.{kept-forced}
use Rattle.spec_search.proofs.StepLemmas.{IsIdle}
use Rattle.spec_search.proofs.ConsistentLemmas.{cut-consistent}
use Rattle.spec_node.specs.Adding.{forgetting}
use Rattle.spec_learn.specs.Dropping.{is_reason, to_drop}
use Rattle.spec_search.specs.Dropping.{given_up}
use Rattle.spec_search.specs.DroppingLaws.{DropKeepsSound, GivesUp}
use Rattle.spec_search.proofs.DropLemmas.{reason-spared, contains-filter, filter-again}

-- fewer clauses are settled where all are
all-fewer : (f q p : NumberedClause → Bool) (cs : List NumberedClause) → list_all f (filter q cs) ≡ true → list_all f (filter q (filter p cs)) ≡ true
all-fewer f q p [] h = refl
all-fewer f q p (c ∷ cs) h = by_test (all-fewer f q p cs) (p c) (q c) refl h
  where
    by_test : (list_all f (filter q cs) ≡ true → list_all f (filter q (filter p cs)) ≡ true) → (b a : Bool) → q c ≡ a → list_all f (cond a (c ∷ filter q cs) (filter q cs)) ≡ true → list_all f (filter q (cond b (c ∷ filter p cs) (filter p cs))) ≡ true
    by_test g true true k m = let parts = and_parts (f c) (list_all f (filter q cs)) m in ap (λ (x : Bool). list_all f (cond x (c ∷ filter q (filter p cs)) (filter q (filter p cs)))) k ∙ and_from _ _ parts.0 (g parts.1)
    by_test g true false k m = ap (λ (x : Bool). list_all f (cond x (c ∷ filter q (filter p cs)) (filter q (filter p cs)))) k ∙ g m
    by_test g false true k m = g (and_parts (f c) (list_all f (filter q cs)) m).1
    by_test g false false k m = g m

settled-fewer : (p : NumberedClause → Bool) (below : ℕ) (trail : List TrailEntry) (cs : List NumberedClause) → AreSettled below trail cs → AreSettled below trail (filter p cs)
settled-fewer p below trail cs h q l = all-fewer (left_is_true (take q trail) trail) (is_in_batch (take q trail)) p cs (h q l)

-- an entry's reason is one of a trail that it stands on
reason-on : (trail : List TrailEntry) (c : NumberedClause) (xs : List TrailEntry) (e : TrailEntry) (ys : List TrailEntry) → xs ++ e ∷ ys ≡ trail → e.reason ≡ Some c.id → is_reason trail c ≡ true
reason-on trail c xs e ys whole q = subst (λ (t : List TrailEntry). is_reason t c ≡ true) whole (at xs)
  where
    at : (zs : List TrailEntry) → is_reason (zs ++ e ∷ ys) c ≡ true
    at [] = or_left _ _ (ap (λ (o : Option ℕ). option_map_or (λ r. r == c.id) o false) q ∙ eq-eqb c.id c.id refl)
    at (z ∷ zs) = or_right _ _ (at zs)

forced-fewer : (p : NumberedClause → Bool) (clauses : List NumberedClause) (trail : List TrailEntry) → All (λ c. is_reason trail c ≡ true → Contains (filter p clauses) c) clauses → (es before : List TrailEntry) → before ++ es ≡ trail → EachAfter (IsForced clauses) before es → EachAfter (IsForced (filter p clauses)) before es
forced-fewer p clauses trail stay [] before whole h = tt
forced-fewer p clauses trail stay (e ∷ es) before whole h = ((λ id q. kept_reason id q (h.0 id q)), forced-fewer p clauses trail stay es (before ++ e ∷ []) (append_assoc before (e ∷ []) es ∙ whole) h.1)
  where
    kept_reason : (id : ℕ) → e.reason ≡ Some id → (c : NumberedClause) × Contains clauses c × (c.id ≡ id) × IsReason before e c → (c : NumberedClause) × Contains (filter p clauses) c × (c.id ≡ id) × IsReason before e c
    kept_reason id q k = (k.0, All-contains (λ c. is_reason trail c ≡ true → Contains (filter p clauses) c) clauses k.0 stay k.1 (reason-on trail k.0 before e es whole (q ∙ ap (λ (x : ℕ). Some x) (sym k.2))), k.2, k.3)

-- a sound node without some clauses that are no reasons is sound, whatever it counts
fewer-sound : (p : NumberedClause → Bool) (count : ℕ) (n : Node) → IsSound n → n.conflict ≡ None → All (λ c. is_reason n.trail c ≡ true → Contains (filter p n.clauses) c) n.clauses → IsSound (record n { clauses = filter p n.clauses; conflicts_since_dropping = count })
fewer-sound p count n h calm stay =
    let r : IsRanged n = h.ranged in
    let c : IsConsistent n = h.consistent in
    record {
      ranged = record { index = r.index; variables = r.variables; restart_number = r.restart_number; phases = r.phases; numbers = numbers-filter p 1 n.clauses r.numbers; serial = All-filter p (λ d. is_derived d ≡ true → serial_of d < n.serial) n.clauses r.serial };
      consistent = record {
        order = c.order;
        clauses = All-filter p (λ d. AreLiteralsOf n.variables d.lits) n.clauses c.clauses;
        assumptions = c.assumptions;
        placed = c.placed;
        levels = c.levels;
        closed = each-weaker (IsClosed n.clauses) (IsClosed (filter p n.clauses)) (λ b e f q. settled-fewer p (length b + 1) b n.clauses (f q)) n.trail [] c.closed;
        handled = c.handled;
        settled = λ q. settled-fewer p n.processed n.trail n.clauses (c.settled q);
      };
      reasons = forced-fewer p n.clauses n.trail stay n.trail [] refl h.reasons;
      chosen = h.chosen;
      passed = h.passed;
      reached = h.reached;
      waiting = λ id q. absurd (cc);
    }

-- a cut to level 0 keeps an idle node sound
pub cut-sound : (n : Node) → IsSound n → IsIdle n → IsSound (cut 0 n)
cut-sound n h idle =
    let r : IsRanged n = h.ranged in
    let t : List TrailEntry = kept 0 n.trail in
    let c : IsConsistent (cut 0 n) = cut-consistent 0 n idle.calm h.consistent in
    let front : t ++ removed 0 n.trail ≡ n.trail = kept-front 0 n.trail in
    let short : length t ≤ length n.trail = kept-short 0 n.trail in
    let past : length n.trail < n.processed = idle.handled in
    let phases : length n.phases ≡ n.variables = r.phases in
    record {
      ranged = record { index = r.index; variables = r.variables; restart_number = r.restart_number; phases = length-saved n.phases (removed 0 n.trail) ∙ phases; numbers = r.numbers; serial = r.serial };
      consistent = c;
      reasons = each-front (IsForced n.clauses) t (removed 0 n.trail) [] (rw front h.reasons);
      chosen = kept-forced (IsChosen n.assumptions) (λ b e id q k. absurd (cc)) n.trail [] c.levels;
      passed = kept-forced (IsPassed (min n.processed (length t + 1))) (λ b e id q k. absurd (cc)) n.trail [] c.levels;
      reached = ap level_of (take_all (min n.processed (length t + 1)) t (omega arith));
      waiting = λ id q. let none : n.conflict ≡ None = idle.calm in absurd (cc);
    }

pub dropped-sound : DropKeepsSound
dropped-sound n h calm past =
    fewer-sound (λ c. not (list_any (λ i. i == c.id) (to_drop (kept 0 n.trail) n.clauses))) 0 (cut 0 n) (cut-sound n h (record { calm = calm; handled = past })) calm
    (All-weaker (λ c. not (list_any (λ i. i == c.id) (to_drop (kept 0 n.trail) n.clauses)) ≡ true → Contains (forgetting (to_drop (kept 0 n.trail) n.clauses) n.clauses) c) (λ c. is_reason (kept 0 n.trail) c ≡ true → Contains (forgetting (to_drop (kept 0 n.trail) n.clauses) n.clauses) c) (λ c f q. f (reason-spared (kept 0 n.trail) n.clauses c q)) n.clauses (contains-filter (λ c. not (list_any (λ i. i == c.id) (to_drop (kept 0 n.trail) n.clauses))) n.clauses))

-- one clause is given up
pub gives-up : (id : ℕ) (n : Node) → GivesUp id n
gives-up id n = by_test (nat_le (2 ^ 32) id && not (is_reason n.trail (record { id = id; lits = [] }))) refl
  where
    p : NumberedClause → Bool
    p c = not (list_any (λ i. i == c.id) (id ∷ []))

    other-kept : (c : NumberedClause) → (id == c.id) ≡ false → p c ≡ true
    other-kept c q = rw q refl

    original-kept : 2 ^ 32 ≤ id → (c : NumberedClause) → nat_lt c.id (2 ^ 32) ≡ true → p c ≡ true
    original-kept high c k = let low : c.id < 2 ^ 32 = ltb-true c.id (2 ^ 32) k in other-kept c (ne_eqb id c.id (λ q. omega arith))

    reason-kept : is_reason n.trail (record { id = id; lits = [] }) ≡ false → (c : NumberedClause) → is_reason n.trail c ≡ true → p c ≡ true
    reason-kept none c k = other-kept c (ne_eqb id c.id (λ q. both_ways (is_reason n.trail c) (subst (λ (x : ℕ). is_reason n.trail (record { id = x; lits = c.lits }) ≡ false) q none) k))

    by_test : (b : Bool) → (nat_le (2 ^ 32) id && not (is_reason n.trail (record { id = id; lits = [] }))) ≡ b → GivesUp id n
    by_test true e =
        let parts = and_parts (nat_le (2 ^ 32) id) (not (is_reason n.trail (record { id = id; lits = [] }))) e in
        let high : 2 ^ 32 ≤ id = leb-true (2 ^ 32) id parts.0 in
        let none : is_reason n.trail (record { id = id; lits = [] }) ≡ false = not-true (is_reason n.trail (record { id = id; lits = [] })) parts.1 in
        let is : given_up id n ≡ record n { clauses = filter p n.clauses } = ap (λ (b : Bool). cond {A = Node} b (record n { clauses = filter p n.clauses }) n) e in
        record {
          sound = λ h calm. subst (λ (m : Node). IsSound m) (sym is) (fewer-sound p n.conflicts_since_dropping n h calm (All-weaker (λ c. p c ≡ true → Contains (filter p n.clauses) c) (λ c. is_reason n.trail c ≡ true → Contains (filter p n.clauses) c) (λ c f k. f (reason-kept none c k)) n.clauses (contains-filter p n.clauses)));
          originals = ap (λ (m : Node). originals m.clauses) is ∙ filter-again (λ c. nat_lt c.id (2 ^ 32)) p n.clauses (original-kept high);
          was = subst (λ (m : Node). All (Contains n.clauses) m.clauses) (sym is) (All-filter p (Contains n.clauses) n.clauses (All-contains_itself n.clauses));
        }
    by_test false e =
        let is : given_up id n ≡ n = ap (λ (b : Bool). cond {A = Node} b (record n { clauses = filter p n.clauses }) n) e in
        record {
          sound = λ h calm. subst (λ (m : Node). IsSound m) (sym is) h;
          originals = ap (λ (m : Node). originals m.clauses) is;
          was = subst (λ (m : Node). All (Contains n.clauses) m.clauses) (sym is) (All-contains_itself n.clauses);
        }
