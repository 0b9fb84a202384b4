use Rattle.std.proofs.Common.{◌≡◌, ℕ, ◌+◌, ◌<◌, ◌≤◌, inl, inr, Bool, true, false, not, ◌&&◌, ◌||◌, cond, eqb, List, [], ◌∷◌, ◌++◌, length, map, drop, get_or, zero, suc, Option, Some, None, refl, sym, ap, ◌∙◌, arith}
use Rattle.std.specs.Prelude.{nat_le, nat_lt, nat_eq, filter, slice_get}
use Rattle.std.specs.List.{AllByRecursion}
use Rattle.std.specs.Option.{unwrap_or, option_map_or}
use Rattle.std.proofs.lemmas.List.Sums.{sum_by-cons}
use Rattle.std.proofs.lemmas.Bool.{false≢true}
use Rattle.std.proofs.lemmas.Bool.Decides.{nat_tests}
use Rattle.mal_base.specs.Literals.{var_of}
use Rattle.mal_base.specs.Formulas.{is_within}
use Rattle.mal_trail.specs.Rooms.{are_within}
use Rattle.mal_base.specs.declared.trail_entry.TrailEntry.{TrailEntry}
use Rattle.mal_base.specs.NumberedClause.{NumberedClause}
use Rattle.spec_node.specs.Batch.{after_all, after_left, after_literal, before_last, batch, is_in_batch}
use Rattle.spec_node.specs.Sound.{left_is_true}
use Rattle.spec_node.specs.Value.{is_true, is_false, level_of, open_count, left_literal}
use Rattle.mal_trail.proofs.FoundLemmas.{and_true, none_some, found_passes, calm, after_all-ended}
use Rattle.mal_store.specs.Stored.{Among, is_short, short_clauses}
use Rattle.mal_store.proofs.AmongLemmas.{among-get, among-passed}
use Rattle.mal_watch.specs.declared.found.Found.{Found}
use Rattle.mal_watch.specs.Finding.{is_pending, found_of, pending, after_found}

le-nat_le : (a b : ℕ) → a ≤ b → nat_le a b ≡ true
le-nat_le a b = grind (arith, nat_tests)

lt-nat_le : (a b : ℕ) → b < a → nat_le a b ≡ false
lt-nat_le a b = grind (arith, nat_tests)

-- where all clauses are of some variables, so is one among them
pub within-among : (room : ℕ) (cs : List NumberedClause) (c : NumberedClause) → are_within room cs ≡ true → Among c cs → is_within room c.lits ≡ true
within-among room [] c w h = absurd h
within-among room (d ∷ ds) c w (inl e) = rw e (and_true (is_within room d.lits) (are_within room ds) w).0
within-among room (d ∷ ds) c w (inr h) = within-among room ds c (and_true (is_within room d.lits) (are_within room ds) w).1 h

-- and one at a place of the short ones, which is in the batch of no entry
pub within-short : (room : ℕ) (cs : List NumberedClause) (i : ℕ) (c : NumberedClause) → are_within room cs ≡ true → slice_get (short_clauses cs) i ≡ Some c → is_within room c.lits ≡ true
within-short room cs i c w e = within-among room cs c w (among-passed is_short c cs (among-get (short_clauses cs) i c e)).0

pub short-in : (cs : List NumberedClause) (i : ℕ) (c : NumberedClause) → slice_get (short_clauses cs) i ≡ Some c → is_in_batch [] c ≡ true
short-in cs i c e = (among-passed is_short c cs (among-get (short_clauses cs) i c e)).1

pub short-batch : (cs : List NumberedClause) → batch [] (short_clauses cs) ≡ batch [] cs
short-batch [] = refl
short-batch (c ∷ cs) = by_test (is_short c) refl (short-batch cs)
  where
    by_test : (b : Bool) → is_short c ≡ b → batch [] (short_clauses cs) ≡ batch [] cs → batch [] (cond b (c ∷ short_clauses cs) (short_clauses cs)) ≡ cond b (c ∷ batch [] cs) (batch [] cs)
    by_test true t f = rw t (ap (λ (ds : List NumberedClause). c ∷ ds) f)
    by_test false t f = f

is_one : (n : ℕ) → eqb n 1 ≡ true → n ≡ 1
is_one n = grind (arith, nat_tests)

not_none : (n : ℕ) → 1 ≤ n → eqb n 0 ≡ false
not_none n = grind (arith, nat_tests)

-- where one literal is not false, one is left
some-left : (prefix : List TrailEntry) (lits : List ℕ) → left_literal prefix lits ≡ None → open_count prefix lits ≡ 0
some-left prefix [] h = refl
some-left prefix (l ∷ ls) h = by_test (is_false prefix l) refl (some-left prefix ls) h
  where
    count : open_count prefix (l ∷ ls) ≡ cond (not (is_false prefix l)) 1 0 + open_count prefix ls
    count = sum_by-cons (λ (x : ℕ). cond (not (is_false prefix x)) 1 0) l ls

    by_test : (b : Bool) → is_false prefix l ≡ b → (left_literal prefix ls ≡ None → open_count prefix ls ≡ 0) → cond (not b) (Some l) (left_literal prefix ls) ≡ None → open_count prefix (l ∷ ls) ≡ 0
    by_test true e rest q =
        let same : open_count prefix (l ∷ ls) ≡ 0 + open_count prefix ls = count ∙ ap (λ (b : Bool). cond (not b) 1 0 + open_count prefix ls) e in
        let zero : open_count prefix ls ≡ 0 = rest q in
        omega arith
    by_test false e rest q = absurd (none_some l (sym q))

in-batch-left : (prefix : List TrailEntry) (c : NumberedClause) → 1 ≤ length prefix → is_in_batch prefix c ≡ true → left_literal prefix c.lits ≡ None → ⊥
in-batch-left prefix c some t n =
    let parts = and_true (eqb (open_count prefix c.lits) 1) (nat_lt 1 (open_count (before_last prefix) c.lits)) (rw (not_none (length prefix) some) at t) in
    let one : open_count prefix c.lits ≡ 1 = is_one (open_count prefix c.lits) parts.0 in
    let zero : open_count prefix c.lits ≡ 0 = some-left prefix c.lits n in
    omega arith

-- what is true on a trail is true on another
abbrev Keeps : List TrailEntry → List TrailEntry → Type 0
Keeps was now = (l : ℕ) → is_true was l ≡ true → is_true now l ≡ true

true-push : (es : List TrailEntry) (e : TrailEntry) (l : ℕ) → is_true es l ≡ true → is_true (es ++ e ∷ []) l ≡ true
true-push [] e l h = absurd (false≢true h)
true-push (d ∷ ds) e l h = by_test (nat_eq d.lit l) (true-push ds e l) h
  where
    by_test : (b : Bool) → (is_true ds l ≡ true → is_true (ds ++ e ∷ []) l ≡ true) → (b || is_true ds l) ≡ true → (b || is_true (ds ++ e ∷ []) l) ≡ true
    by_test true rest q = refl
    by_test false rest q = rest q

-- what was found, where one is the conflict
pub after_found-ended : (trail : List TrailEntry) (id : ℕ) (fs : List Found) → after_found (record { trail = trail; conflict = Some id }) fs ≡ record { trail = trail; conflict = Some id }
after_found-ended trail id [] = refl
after_found-ended trail id (f ∷ fs) = after_found-ended trail id fs

-- handling a clause goes on alike with the rest of its batch and of what is pending
handled-alike : (prefix was t : List TrailEntry) (cs : List NumberedClause) (fs : List Found) (id l : ℕ) → Keeps was t → ((now : List TrailEntry) → Keeps was now → after_all prefix (calm now) cs ≡ after_found (calm now) fs) → after_all prefix (after_literal t id l) cs ≡ after_found (after_literal t id l) fs
handled-alike prefix was t cs fs id l k rest = by_true (is_true t l) (is_false t l)
  where
    e : TrailEntry
    e = record { lit = l; reason = Some id; level = level_of t }

    by_true : (a b : Bool) → after_all prefix (cond a (record { trail = t; conflict = None }) (cond b (record { trail = t; conflict = Some id }) (record { trail = t ++ e ∷ []; conflict = None }))) cs ≡ after_found (cond a (record { trail = t; conflict = None }) (cond b (record { trail = t; conflict = Some id }) (record { trail = t ++ e ∷ []; conflict = None }))) fs
    by_true true b = rest t k
    by_true false true = after_all-ended prefix t id cs ∙ sym (after_found-ended t id fs)
    by_true false false = rest (t ++ e ∷ []) (λ x h. true-push t e x (k x h))

-- handling a batch is handling what is pending of it
pub pending-handled : (prefix was t : List TrailEntry) (cs : List NumberedClause) → 1 ≤ length prefix → Keeps was t → after_all prefix (calm t) (batch prefix cs) ≡ after_found (calm t) (pending prefix was cs)
pending-handled prefix was t [] some k = refl
pending-handled prefix was t (c ∷ cs) some k = by_batch (is_in_batch prefix c) refl (λ now h. pending-handled prefix was now cs some h)
  where
    by_true : (l : ℕ) → ((now : List TrailEntry) → Keeps was now → after_all prefix (calm now) (batch prefix cs) ≡ after_found (calm now) (pending prefix was cs)) → left_literal prefix c.lits ≡ Some l → (b : Bool) → is_true was l ≡ b → after_all prefix (after_literal t c.id l) (batch prefix cs) ≡ after_found (calm t) (map (found_of prefix) (cond (not b) (c ∷ filter (is_pending prefix was) cs) (filter (is_pending prefix was) cs)))
    by_true l rest e true u = let still : is_true t l ≡ true = k l u in rw still (rest t k)
    by_true l rest e false u = rw e (handled-alike prefix was t (batch prefix cs) (pending prefix was cs) c.id l k rest)

    by_left : ((now : List TrailEntry) → Keeps was now → after_all prefix (calm now) (batch prefix cs) ≡ after_found (calm now) (pending prefix was cs)) → is_in_batch prefix c ≡ true → (o : Option ℕ) → left_literal prefix c.lits ≡ o → after_all prefix (after_left t c.id o) (batch prefix cs) ≡ after_found (calm t) (map (found_of prefix) (cond (not (option_map_or (is_true was) o false)) (c ∷ filter (is_pending prefix was) cs) (filter (is_pending prefix was) cs)))
    by_left rest t None e = absurd (in-batch-left prefix c some t e)
    by_left rest t (Some l) e = by_true l rest e (is_true was l) refl

    by_batch : (b : Bool) → is_in_batch prefix c ≡ b → ((now : List TrailEntry) → Keeps was now → after_all prefix (calm now) (batch prefix cs) ≡ after_found (calm now) (pending prefix was cs)) → after_all prefix (calm t) (cond b (c ∷ batch prefix cs) (batch prefix cs)) ≡ after_found (calm t) (map (found_of prefix) (cond (b && not (left_is_true prefix was c)) (c ∷ filter (is_pending prefix was) cs) (filter (is_pending prefix was) cs)))
    by_batch true b rest = by_left rest b (left_literal prefix c.lits) refl
    by_batch false b rest = rest t k

-- the literals left of clauses that there is room for are of variables that there is room for
pub pending-within : (room : ℕ) (prefix was : List TrailEntry) (cs : List NumberedClause) → are_within room cs ≡ true → AllByRecursion (λ (f : Found). var_of f.lit ≤ room) (pending prefix was cs)
pending-within room prefix was [] w = tt
pending-within room prefix was (c ∷ cs) w = by_test (is_pending prefix was c) (pending-within room prefix was cs parts.1)
  where
    parts : (is_within room c.lits ≡ true) × (are_within room cs ≡ true)
    parts = and_true (is_within room c.lits) (are_within room cs) w

    le_of : (a b : ℕ) → nat_le a b ≡ true → a ≤ b
    le_of a b = grind (arith, nat_tests)

    here : (o : Option ℕ) → left_literal prefix c.lits ≡ o → var_of (unwrap_or o 0) ≤ room
    here None e = omega arith
    here (Some l) e =
        let passes : (nat_le 1 (var_of l) && nat_le (var_of l) room) ≡ true = found_passes (λ (x : ℕ). not (is_false prefix x)) (λ (x : ℕ). nat_le 1 (var_of x) && nat_le (var_of x) room) c.lits l parts.0 e in
        le_of _ _ (and_true (nat_le 1 (var_of l)) (nat_le (var_of l) room) passes).1

    by_test : (b : Bool) → AllByRecursion (λ (f : Found). var_of f.lit ≤ room) (pending prefix was cs) → AllByRecursion (λ (f : Found). var_of f.lit ≤ room) (map (found_of prefix) (cond b (c ∷ filter (is_pending prefix was) cs) (filter (is_pending prefix was) cs)))
    by_test true rest = (here (left_literal prefix c.lits) refl, rest)
    by_test false rest = rest

found-drop : (fs : List Found) (i : ℕ) (f : Found) → i < length fs → f ≡ get_or fs i f → drop i fs ≡ f ∷ drop (i + 1) fs
found-drop [] i f l e = absurd (omega arith)
found-drop (x ∷ xs) zero f l e = rw (sym e) refl
found-drop (x ∷ xs) (suc i) f l e =
    let more : suc i + 1 ≡ suc (i + 1) = omega arith in
    rw more (found-drop xs i f (omega arith) e)

-- what was found, of which the next is this one
pub after_found-next : (trail : List TrailEntry) (fs : List Found) (i : ℕ) (f : Found) → i < length fs → f ≡ get_or fs i f → after_found (calm trail) (drop i fs) ≡ after_found (after_literal trail f.id f.lit) (drop (i + 1) fs)
after_found-next trail fs i f l e = rw (found-drop fs i f l e) refl
