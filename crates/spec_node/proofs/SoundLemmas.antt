use Rattle.std.proofs.Common.{◌≡◌, ℕ, ◌+◌, ◌^◌, ◌<◌, ◌≤◌, Bool, true, false, cond, List, [], ◌∷◌, ◌++◌, length, replicate, Some, None, Option, refl, sym, ap, ◌∙◌, subst, append_assoc, append-nil, arith, inl, inr, ◌⊎◌}
use Rattle.std.specs.Prelude.{All, Contains, filter, nat_lt, nat_le}
use Rattle.std.proofs.lemmas.List.{length-append, length-replicate, length-set}
use Rattle.std.proofs.lemmas.List.Elements.{All-nil, All-cons, All-head, All-tail, All-weaker, All-contains, Contains-append_left, Contains-append_right}
use Rattle.std.proofs.lemmas.Bool.{leb-true, ltb-true, lt-ltb, le-leb, lt-leb, both_ways, cases_lt}
use Rattle.mal_base.specs.declared.trail_entry.TrailEntry.{TrailEntry}
use Rattle.mal_revision.specs.Posted.{Posted, is_posted}
use Rattle.mal_base.specs.NumberedClause.{NumberedClause}
use Rattle.mal_base.specs.Limits.{limits}
use Rattle.mal_base.specs.declared.profile.Profile.{Profile}
use Rattle.mal_base.specs.declared.profile.Profile.TheVariants.{Plain}
use Rattle.spec_node.specs.State.{Node, fresh_with, fresh}
use Rattle.spec_node.specs.Value.{level_of}
use Rattle.spec_node.specs.Cut.{kept, removed, saved}
use Rattle.spec_node.specs.Load.{numbered, is_derived, with_originals, added, loaded, first_phase}
use Rattle.spec_node.specs.Sound.{IsForced, IsChosen, IsPassed, NumbersRise, serial_of, IsRanged, IsConsistent, IsSound}
use Rattle.spec_node.specs.Laws.{has_literals, AreNewNumbers}
use Rattle.spec_node.proofs.TrailLemmas.{each-front, each-weaker}
use Rattle.spec_node.proofs.BatchLemmas.{all-of, All-filtered}
use Rattle.spec_node.proofs.CutLemmas.{kept-cons, kept-front, level_of-push}
use Rattle.spec_node.proofs.LoadLemmas.{IsPostedOf, posted-parts, kept-forced, loaded-consistent, fresh-consistent, All-with_originals, numbered-below}

-- phases keep their number at a cut
pub length-saved : (phases : List Bool) (es : List TrailEntry) → length (saved phases es) ≡ length phases
length-saved phases [] = refl
length-saved phases (e ∷ es) = length-set (saved phases es) _ _ ∙ length-saved phases es

-- what is kept at a cut has at most the level of the cut
pub kept-level : (level : ℕ) (es before : List TrailEntry) → level_of before ≤ level → level_of (before ++ kept level es) ≤ level
kept-level level [] before h = subst (λ (t : List TrailEntry). level_of t ≤ level) (sym (append-nil before)) h
kept-level level (e ∷ es) before h = subst (λ (t : List TrailEntry). level_of (before ++ t) ≤ level) (sym (kept-cons level e es)) (by_level (kept-level level es (before ++ e ∷ [])) (nat_le e.level level) refl)
  where
    by_level : (level_of (before ++ e ∷ []) ≤ level → level_of ((before ++ e ∷ []) ++ kept level es) ≤ level) → (b : Bool) → nat_le e.level level ≡ b → level_of (before ++ cond b (e ∷ kept level es) []) ≤ level
    by_level f true q = let own : level_of (before ++ e ∷ []) ≡ e.level = level_of-push before e in let low : e.level ≤ level = leb-true e.level level q in subst (λ (t : List TrailEntry). level_of t ≤ level) (append_assoc before (e ∷ []) (kept level es)) (f (omega arith))
    by_level f false q = subst (λ (t : List TrailEntry). level_of t ≤ level) (sym (append-nil before)) h

pub kept-short : (level : ℕ) (trail : List TrailEntry) → length (kept level trail) ≤ length trail
kept-short level trail = let whole : length (kept level trail ++ removed level trail) ≡ length trail = ap length (kept-front level trail) in let sum = length-append (kept level trail) (removed level trail) in omega arith

pub fresh-with_sound : (i : ℕ) (profile : Profile) → i ≤ 63 → IsSound (fresh_with i profile)
fresh-with_sound i profile b = record { ranged = record { index = b; variables = omega arith; restart_number = omega arith; phases = refl; numbers = tt; serial = All-nil (λ c. is_derived c ≡ true → serial_of c < 0) }; consistent = fresh-consistent i profile; reasons = tt; chosen = tt; passed = tt; reached = refl; waiting = λ id e. absurd (cc) }

pub fresh-sound : (i : ℕ) → i ≤ 63 → IsSound (fresh i)
fresh-sound i b = fresh-with_sound i Plain b

numbers-lower : (low high : ℕ) (cs : List NumberedClause) → low ≤ high → NumbersRise high cs → NumbersRise low cs
numbers-lower low high [] b h = tt
numbers-lower low high (c ∷ cs) b h = (let a : high ≤ c.id = h.0 in omega arith, h.1)

numbers-from : (low from : ℕ) (cs : List NumberedClause) → NumbersRise low cs → All (λ c. from ≤ c.id) cs → NumbersRise from cs
numbers-from low from [] h k = tt
numbers-from low from (c ∷ cs) h k = (All-head (λ x. from ≤ x.id) c cs k, h.1)

pub numbers-filter : (test : NumberedClause → Bool) (low : ℕ) (cs : List NumberedClause) → NumbersRise low cs → NumbersRise low (filter test cs)
numbers-filter test low [] h = tt
numbers-filter test low (c ∷ cs) h = by_test (numbers-filter test (c.id + 1) cs h.1) (test c)
  where
    by_test : NumbersRise (c.id + 1) (filter test cs) → (b : Bool) → NumbersRise low (cond b (c ∷ filter test cs) (filter test cs))
    by_test k true = (h.0, k)
    by_test k false = numbers-lower low (c.id + 1) (filter test cs) (let a : low ≤ c.id = h.0 in omega arith) k

numbers-append : (low mid : ℕ) (xs ys : List NumberedClause) → NumbersRise low xs → All (λ c. c.id < mid) xs → low ≤ mid → NumbersRise mid ys → NumbersRise low (xs ++ ys)
numbers-append low mid [] ys h k b m = numbers-lower low mid ys b m
numbers-append low mid (c ∷ cs) ys h k b m = (h.0, numbers-append (c.id + 1) mid cs ys h.1 (All-tail (λ x. x.id < mid) c cs k) (let a : c.id < mid = All-head (λ x. x.id < mid) c cs k in omega arith) m)

numbers-numbered : (first : ℕ) (cs : List (Option (List ℕ))) → NumbersRise first (numbered first cs)
numbers-numbered first [] = tt
numbers-numbered first (None ∷ cs) = numbers-lower first (first + 1) (numbered (first + 1) cs) (omega arith) (numbers-numbered (first + 1) cs)
numbers-numbered first (Some lits ∷ cs) = (omega arith, numbers-numbered (first + 1) cs)

-- the clauses held after a load have rising numbers
pub loaded-numbers : (r : Posted) (first : ℕ) (n : Node) → AreNewNumbers r first n → NumbersRise 1 n.clauses → NumbersRise 1 (with_originals n.clauses (numbered first r.clauses))
loaded-numbers r first n new h =
    let below : first + length r.clauses ≤ 2 ^ 32 = new.below in
    let originals : List NumberedClause = filter (λ c. nat_lt c.id (2 ^ 32)) n.clauses in
    let derived : List NumberedClause = filter is_derived n.clauses in
    let low : All (λ c. c.id < first) originals = All-weaker (λ c. (c.id < 2 ^ 32 → c.id < first) × (nat_lt c.id (2 ^ 32) ≡ true)) (λ c. c.id < first) (λ c k. k.0 (ltb-true c.id (2 ^ 32) k.1)) originals (All-filtered (λ c. c.id < 2 ^ 32 → c.id < first) (λ c. nat_lt c.id (2 ^ 32)) n.clauses new.above) in
    let high : All (λ c. 2 ^ 32 ≤ c.id) derived = All-weaker (λ c. (1 ≤ 1) × (is_derived c ≡ true)) (λ c. 2 ^ 32 ≤ c.id) (λ c k. leb-true (2 ^ 32) c.id k.1) derived (All-filtered (λ c. 1 ≤ 1) is_derived n.clauses (all-of (λ c. 1 ≤ 1) (λ c. omega arith) n.clauses)) in
    numbers-append 1 first originals (numbered first r.clauses ++ derived) (numbers-filter (λ c. nat_lt c.id (2 ^ 32)) 1 n.clauses h) low new.some
    (numbers-append first (2 ^ 32) (numbered first r.clauses) derived (numbers-numbered first r.clauses) (numbered-below (2 ^ 32) first r.clauses below) (omega arith) (numbers-from 1 (2 ^ 32) derived (numbers-filter is_derived 1 n.clauses h) high))

-- what passes stays in a filtered list
contains-filtered : (test : NumberedClause → Bool) (xs front : List NumberedClause) → All (λ c. test c ≡ true → Contains (front ++ filter test xs) c) xs
contains-filtered test [] front = All-nil (λ c. test c ≡ true → Contains (front ++ []) c)
contains-filtered test (x ∷ xs) front = by_test (contains-filtered test xs (front ++ x ∷ [])) (contains-filtered test xs front) (test x) refl
  where
    by_test : All (λ c. test c ≡ true → Contains ((front ++ x ∷ []) ++ filter test xs) c) xs → All (λ c. test c ≡ true → Contains (front ++ filter test xs) c) xs → (b : Bool) → test x ≡ b → All (λ c. test c ≡ true → Contains (front ++ cond b (x ∷ filter test xs) (filter test xs)) c) (x ∷ xs)
    by_test k m true e = All-cons (λ c. test c ≡ true → Contains (front ++ x ∷ filter test xs) c) x xs (λ q. Contains-append_right front (x ∷ filter test xs) x (0, omega arith, refl)) (subst (λ (ys : List NumberedClause). All (λ (c : NumberedClause). test c ≡ true → Contains ys c) xs) (append_assoc front (x ∷ []) (filter test xs)) k)
    by_test k m false e = All-cons (λ c. test c ≡ true → Contains (front ++ filter test xs) c) x xs (λ q. absurd (cc)) m

-- a clause held is held after a load
loaded-contains : (held new : List NumberedClause) (c : NumberedClause) → Contains held c → Contains (with_originals held new) c
loaded-contains held new c h = by_number (cases_lt c.id (2 ^ 32))
  where
    by_number : (c.id < 2 ^ 32) ⊎ (2 ^ 32 ≤ c.id) → Contains (with_originals held new) c
    by_number (inl l) = Contains-append_left (filter (λ x. nat_lt x.id (2 ^ 32)) held) (new ++ filter is_derived held) c (All-contains (λ x. nat_lt x.id (2 ^ 32) ≡ true → Contains (filter (λ y. nat_lt y.id (2 ^ 32)) held) x) held c (contains-filtered (λ x. nat_lt x.id (2 ^ 32)) held []) h (lt-ltb c.id (2 ^ 32) l))
    by_number (inr l) = Contains-append_right (filter (λ x. nat_lt x.id (2 ^ 32)) held) (new ++ filter is_derived held) c (Contains-append_right new (filter is_derived held) c (All-contains (λ x. is_derived x ≡ true → Contains (filter is_derived held) x) held c (contains-filtered is_derived held []) h (le-leb (2 ^ 32) c.id l)))

original-serial : (serial : ℕ) (c : NumberedClause) → c.id < 2 ^ 32 → is_derived c ≡ true → serial_of c < serial
original-serial serial c b h = absurd (both_ways (is_derived c) (lt-leb (2 ^ 32) c.id b) h)

pub loaded-sound : (r : Posted) (first : ℕ) (n : Node) → is_posted r ≡ true → has_literals r ≡ true → AreNewNumbers r first n → IsSound n → IsSound (loaded r first n)
loaded-sound r first n p l new h =
    let parts : IsPostedOf r = posted-parts r p l in
    let q : IsRanged n = h.ranged in
    let c : IsConsistent (loaded r first n) = loaded-consistent r first n p l h.consistent in
    let t : List TrailEntry = kept 0 n.trail in
    let front : t ++ removed 0 n.trail ≡ n.trail = kept-front 0 n.trail in
    let old : List Bool = saved n.phases (removed 0 n.trail) in
    let more : List Bool = replicate (added r n) (first_phase n.index) in
    let old_length : length old ≡ n.variables = length-saved n.phases (removed 0 n.trail) ∙ q.phases in
    let sum : length (old ++ more) ≡ length old + length more = length-append old more in
    let more_length : length more ≡ added r n = length-replicate (added r n) (first_phase n.index) in
    let clauses : List NumberedClause = with_originals n.clauses (numbered first r.clauses) in
    let low : level_of t ≤ 0 = kept-level 0 n.trail [] (omega arith) in
    let held_bound : n.variables ≤ limits.variables = q.variables in
    let new_bound : r.variables ≤ limits.variables = parts.variables in
    record {
      ranged = record {
        index = q.index;
        variables = omega arith;
        restart_number = q.restart_number;
        phases = omega arith;
        numbers = loaded-numbers r first n new q.numbers;
        serial = All-with_originals (λ x. is_derived x ≡ true → serial_of x < n.serial) n.clauses (numbered first r.clauses) q.serial (All-weaker (λ x. x.id < 2 ^ 32) (λ x. is_derived x ≡ true → serial_of x < n.serial) (λ x k. original-serial n.serial x k) (numbered first r.clauses) (numbered-below (2 ^ 32) first r.clauses new.below));
      };
      consistent = c;
      reasons = each-weaker (IsForced n.clauses) (IsForced clauses) (λ b e k id m. let w = k id m in (w.0, loaded-contains n.clauses (numbered first r.clauses) w.0 w.1, w.2, w.3)) t [] (each-front (IsForced n.clauses) t (removed 0 n.trail) [] (rw front h.reasons));
      chosen = kept-forced (IsChosen r.assumptions) (λ b e id m k. absurd (cc)) n.trail [] c.levels;
      passed = kept-forced (IsPassed 0) (λ b e id m k. absurd (cc)) n.trail [] c.levels;
      reached = omega arith;
      waiting = λ id m. absurd (cc);
    }
