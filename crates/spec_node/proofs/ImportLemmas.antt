use Rattle.std.proofs.Common.{◌≡◌, ◌≢◌, ℕ, ◌+◌, ◌^◌, ◌<◌, ◌≤◌, max, Bool, true, false, cond, not, ◌&&◌, ◌==◌, List, [], ◌∷◌, ◌++◌, length, bytes_eq, refl, sym, ap, ◌∙◌, arith}
use Rattle.std.specs.Prelude.{All, Contains, filter, nat_lt}
use Rattle.std.proofs.lemmas.List.Elements.{All-nil, All-cons, All-head, All-tail, All-weaker, All-contains, All-contains_itself, Contains-append_left, Contains-append_right}
use Rattle.std.proofs.lemmas.Bool.{leb-true, ltb-true, ltb-false, le-ltb, or_parts, and_right, ne_eqb, not-true, false≢true}
use Rattle.std.proofs.lemmas.Slice.Eq.{bytes_eq-Decides}
use Rattle.mal_base.specs.declared.trail_entry.TrailEntry.{TrailEntry}
use Rattle.mal_base.specs.NumberedClause.{NumberedClause}
use Rattle.spec_node.specs.State.{Node}
use Rattle.spec_node.specs.Value.{level_of}
use Rattle.spec_node.specs.Cut.{kept, removed}
use Rattle.spec_node.specs.Adding.{with_clause}
use Rattle.spec_node.specs.Load.{is_derived}
use Rattle.mal_base.specs.declared.profile.Profile.{Profile}
use Rattle.mal_base.specs.Profiles.{policy}
use Rattle.spec_node.specs.Import.{has_lits, taken, with_clauses, serial_above, with_new, is_left_off, imported}
use Rattle.spec_node.specs.Sound.{EachAfter, AreLiteralsOf, IsPlaced, IsLevelled, IsClosed, IsForced, IsChosen, IsPassed, NumbersRise, serial_of, IsRanged, IsConsistent, IsSound}
use Rattle.spec_node.specs.Laws.{originals, HaveOwnNumbers, MayImport, ImportHolds, ImportMayLeave}
use Rattle.spec_node.proofs.TrailLemmas.{each-front, each-weaker}
use Rattle.spec_node.proofs.BatchLemmas.{All-filtered}
use Rattle.spec_node.proofs.CutLemmas.{kept-front}
use Rattle.spec_node.proofs.LoadLemmas.{kept-forced}
use Rattle.spec_node.proofs.SoundLemmas.{length-saved, kept-level}

-- what holds of a clause and of others holds of all of them
pub All-with_clause : (P : NumberedClause → Type 0) (c : NumberedClause) (cs : List NumberedClause) → P c → All P cs → All P (with_clause c cs)
All-with_clause P c [] h k = All-cons P c [] h (All-nil P)
All-with_clause P c (d ∷ ds) h k = by_order (All-with_clause P c ds h (All-tail P d ds k)) (nat_lt c.id d.id)
  where
    by_order : All P (with_clause c ds) → (b : Bool) → All P (cond b (c ∷ (d ∷ ds)) (d ∷ with_clause c ds))
    by_order rest true = All-cons P c (d ∷ ds) h k
    by_order rest false = All-cons P d (with_clause c ds) (All-head P d ds k) rest

pub All-with_clauses : (P : NumberedClause → Type 0) (new cs : List NumberedClause) → All P new → All P cs → All P (with_clauses new cs)
All-with_clauses P [] cs h k = k
All-with_clauses P (c ∷ new) cs h k = All-with_clauses P new (with_clause c cs) (All-tail P c new h) (All-with_clause P c cs (All-head P c new h) k)

-- what holds of all of them holds of the others
All-without : (P : NumberedClause → Type 0) (c : NumberedClause) (cs : List NumberedClause) → All P (with_clause c cs) → All P cs
All-without P c [] h = All-nil P
All-without P c (d ∷ ds) h = by_order (All-without P c ds) (nat_lt c.id d.id) h
  where
    by_order : (All P (with_clause c ds) → All P ds) → (b : Bool) → All P (cond b (c ∷ (d ∷ ds)) (d ∷ with_clause c ds)) → All P (d ∷ ds)
    by_order f true k = All-tail P c (d ∷ ds) k
    by_order f false k = All-cons P d ds (All-head P d (with_clause c ds) k) (f (All-tail P d (with_clause c ds) k))

All-without_clauses : (P : NumberedClause → Type 0) (new cs : List NumberedClause) → All P (with_clauses new cs) → All P cs
All-without_clauses P [] cs h = h
All-without_clauses P (c ∷ new) cs h = All-without P c cs (All-without_clauses P new (with_clause c cs) h)

-- what was held is held also with more clauses
pub contains-with_clauses : (new cs : List NumberedClause) (c : NumberedClause) → Contains cs c → Contains (with_clauses new cs) c
contains-with_clauses new cs c h = All-contains (Contains (with_clauses new cs)) cs c (All-without_clauses (Contains (with_clauses new cs)) new cs (All-contains_itself (with_clauses new cs))) h

-- what holds of all holds of those that pass a test
pub All-passed : (P : NumberedClause → Type 0) (test : NumberedClause → Bool) (cs : List NumberedClause) → All P cs → All P (filter test cs)
All-passed P test cs h = All-weaker (λ c. P c × (test c ≡ true)) P (λ c k. k.0) (filter test cs) (All-filtered P test cs h)

pub own-passed : (test : NumberedClause → Bool) (cs : List NumberedClause) → HaveOwnNumbers cs → HaveOwnNumbers (filter test cs)
own-passed test [] h = tt
own-passed test (c ∷ cs) h = by_test (own-passed test cs h.1) (test c)
  where
    by_test : HaveOwnNumbers (filter test cs) → (b : Bool) → HaveOwnNumbers (cond b (c ∷ filter test cs) (filter test cs))
    by_test k true = (All-passed (λ d. c.id ≢ d.id) test cs h.0, k)
    by_test k false = k

above : (a b : ℕ) → nat_lt a b ≡ false → a ≢ b → b + 1 ≤ a
above a b h k = let low : b ≤ a = ltb-false a b h in omega arith

-- numbers rise also with a clause of another number among them
numbers-with : (low : ℕ) (c : NumberedClause) (cs : List NumberedClause) → low ≤ c.id → All (λ d. c.id ≢ d.id) cs → NumbersRise low cs → NumbersRise low (with_clause c cs)
numbers-with low c [] b h k = (b, tt)
numbers-with low c (d ∷ ds) b h k = by_order (λ more. numbers-with (d.id + 1) c ds more (All-tail (λ x. c.id ≢ x.id) d ds h) k.1) (nat_lt c.id d.id) refl
  where
    by_order : (d.id + 1 ≤ c.id → NumbersRise (d.id + 1) (with_clause c ds)) → (x : Bool) → nat_lt c.id d.id ≡ x → NumbersRise low (cond x (c ∷ (d ∷ ds)) (d ∷ with_clause c ds))
    by_order f true e = (b, (let l : c.id < d.id = ltb-true c.id d.id e in omega arith, k.1))
    by_order f false e = (k.0, f (above c.id d.id e (All-head (λ x. c.id ≢ x.id) d ds h)))

-- clauses have other numbers than those of a list
abbrev pub AreApart : List NumberedClause → List NumberedClause → Type 0
AreApart new cs = All (λ c. All (λ d. c.id ≢ d.id) cs) new

pub apart-with : (c : NumberedClause) (cs new : List NumberedClause) → All (λ e. c.id ≢ e.id) new → AreApart new cs → AreApart new (with_clause c cs)
apart-with c cs [] h k = All-nil (λ e. All (λ d. e.id ≢ d.id) (with_clause c cs))
apart-with c cs (e ∷ es) h k =
    let other : c.id ≢ e.id = All-head (λ x. c.id ≢ x.id) e es h in
    All-cons (λ x. All (λ d. x.id ≢ d.id) (with_clause c cs)) e es (All-with_clause (λ d. e.id ≢ d.id) c cs (λ same. other (sym same)) (All-head (λ x. All (λ d. x.id ≢ d.id) cs) e es k)) (apart-with c cs es (All-tail (λ x. c.id ≢ x.id) e es h) (All-tail (λ x. All (λ d. x.id ≢ d.id) cs) e es k))

pub numbers-with_clauses : (low : ℕ) (new cs : List NumberedClause) → All (λ c. low ≤ c.id) new → HaveOwnNumbers new → AreApart new cs → NumbersRise low cs → NumbersRise low (with_clauses new cs)
numbers-with_clauses low [] cs b own h k = k
numbers-with_clauses low (c ∷ new) cs b own h k = numbers-with_clauses low new (with_clause c cs) (All-tail (λ x. low ≤ x.id) c new b) own.1 (apart-with c cs new own.0 (All-tail (λ x. All (λ d. x.id ≢ d.id) cs) c new h)) (numbers-with low c cs (All-head (λ x. low ≤ x.id) c new b) (All-head (λ x. All (λ d. x.id ≢ d.id) cs) c new h) k)

-- a number whose literals are not held is not held
not-held : (lits : List ℕ) (id : ℕ) (ds : List NumberedClause) → All (λ d. id ≡ d.id → lits ≡ d.lits) ds → has_lits lits ds ≡ false → All (λ d. id ≢ d.id) ds
not-held lits id [] h k = All-nil (λ d. id ≢ d.id)
not-held lits id (d ∷ ds) h k =
    let p = or_parts (bytes_eq lits d.lits) (has_lits lits ds) k in
    All-cons (λ x. id ≢ x.id) d ds (λ same. false≢true (differ p.0 (All-head (λ x. id ≡ x.id → lits ≡ x.lits) d ds h same))) (not-held lits id ds (All-tail (λ x. id ≡ x.id → lits ≡ x.lits) d ds h) p.1)
  where
    differ : bytes_eq lits d.lits ≡ false → lits ≡ d.lits → false ≡ true
    differ f same = sym f ∙ (bytes_eq-Decides lits d.lits).1 same

pub taken-apart : (exported cs : List NumberedClause) → ((c d : NumberedClause) → Contains exported c → Contains cs d → c.id ≡ d.id → c.lits ≡ d.lits) → AreApart (taken exported cs) cs
taken-apart exported cs agree = All-weaker (λ c. Contains exported c × (not (has_lits c.lits cs) ≡ true)) (λ c. All (λ d. c.id ≢ d.id) cs) (λ c k. not-held c.lits c.id cs (All-weaker (Contains cs) (λ d. c.id ≡ d.id → c.lits ≡ d.lits) (λ d m same. agree c d k.0 m same) cs (All-contains_itself cs)) (not-true (has_lits c.lits cs) k.1)) (taken exported cs) (All-filtered (Contains exported) (λ c. not (has_lits c.lits cs)) exported (All-contains_itself exported))

-- the serial above clauses is at least the one before, and above that of each
pub serial-least : (serial : ℕ) (new : List NumberedClause) → serial ≤ serial_above serial new
serial-least serial [] = omega arith
serial-least serial (c ∷ new) =
    let more : max serial (serial_of c + 1) ≤ serial_above (max serial (serial_of c + 1)) new = serial-least (max serial (serial_of c + 1)) new in
    omega arith

pub serial-over : (serial : ℕ) (new : List NumberedClause) → All (λ c. serial_of c < serial_above serial new) new
serial-over serial [] = All-nil (λ c. serial_of c < serial)
serial-over serial (c ∷ new) =
    let next : ℕ = max serial (serial_of c + 1) in
    let more : next ≤ serial_above next new = serial-least next new in
    All-cons (λ x. serial_of x < serial_above next new) c new (omega arith) (serial-over next new)

-- derived clauses leave the originals
originals-with : (c : NumberedClause) (cs : List NumberedClause) → is_derived c ≡ true → originals (with_clause c cs) ≡ originals cs
originals-with c [] h =
    let no : nat_lt c.id (2 ^ 32) ≡ false = le-ltb c.id (2 ^ 32) (leb-true (2 ^ 32) c.id h) in
    rw no refl
originals-with c (d ∷ ds) h = by_order (originals-with c ds h) (nat_lt c.id d.id)
  where
    no : nat_lt c.id (2 ^ 32) ≡ false
    no = le-ltb c.id (2 ^ 32) (leb-true (2 ^ 32) c.id h)

    by_order : originals (with_clause c ds) ≡ originals ds → (b : Bool) → originals (cond b (c ∷ (d ∷ ds)) (d ∷ with_clause c ds)) ≡ originals (d ∷ ds)
    by_order k true = ap (λ (b : Bool). cond b (c ∷ originals (d ∷ ds)) (originals (d ∷ ds))) no
    by_order k false = ap (λ (xs : List NumberedClause). cond (nat_lt d.id (2 ^ 32)) (d ∷ xs) xs) k

originals-with_clauses : (new cs : List NumberedClause) → All (λ c. is_derived c ≡ true) new → originals (with_clauses new cs) ≡ originals cs
originals-with_clauses [] cs h = refl
originals-with_clauses (c ∷ new) cs h = originals-with_clauses new (with_clause c cs) (All-tail (λ x. is_derived x ≡ true) c new h) ∙ originals-with c cs (All-head (λ x. is_derived x ≡ true) c new h)

-- what holds of a node, and of the node with the clauses that are taken, holds after an import
pub by-taking : (P : Node → Type 0) (exported : List NumberedClause) (n : Node) → P n → P (with_new (taken exported n.clauses) n) → P (imported exported n)
by-taking P exported n h k = by_test (is_left_off n.profile (taken exported n.clauses))
  where
    by_test : (b : Bool) → P (cond b n (with_new (taken exported n.clauses) n))
    by_test true = h
    by_test false = k

-- taking clauses keeps the search consistent
taken-consistent : (exported : List NumberedClause) (n : Node) → All (λ c. AreLiteralsOf n.variables c.lits) exported → IsConsistent n → IsConsistent (with_new (taken exported n.clauses) n)
taken-consistent exported n within h =
    let t : List TrailEntry = kept 0 n.trail in
    let front : t ++ removed 0 n.trail ≡ n.trail = kept-front 0 n.trail in
    let levels : EachAfter IsLevelled [] t = each-front IsLevelled t (removed 0 n.trail) [] (rw front h.levels) in
    let new : List NumberedClause = taken exported n.clauses in
    record {
      order = h.order;
      clauses = All-with_clauses (λ c. AreLiteralsOf n.variables c.lits) new n.clauses (All-passed (λ c. AreLiteralsOf n.variables c.lits) (λ c. not (has_lits c.lits n.clauses)) exported within) h.clauses;
      assumptions = h.assumptions;
      placed = each-front (IsPlaced n.variables) t (removed 0 n.trail) [] (rw front h.placed);
      levels = levels;
      closed = kept-forced (IsClosed (with_clauses new n.clauses)) (λ b e id q k. absurd (cc)) n.trail [] levels;
      handled = omega arith;
      settled = λ e q k. absurd (omega arith);
    }

-- taking clauses that may be told keeps a node sound
taken-sound : (exported : List NumberedClause) (n : Node) → MayImport exported n → IsSound n → IsSound (with_new (taken exported n.clauses) n)
taken-sound exported n may h =
    let q : IsRanged n = h.ranged in
    let c : IsConsistent (with_new (taken exported n.clauses) n) = taken-consistent exported n may.within h.consistent in
    let t : List TrailEntry = kept 0 n.trail in
    let front : t ++ removed 0 n.trail ≡ n.trail = kept-front 0 n.trail in
    let low : level_of t ≤ 0 = kept-level 0 n.trail [] (omega arith) in
    let test : NumberedClause → Bool = λ x. not (has_lits x.lits n.clauses) in
    let new : List NumberedClause = taken exported n.clauses in
    let clauses : List NumberedClause = with_clauses new n.clauses in
    let serial : ℕ = serial_above n.serial new in
    let least : n.serial ≤ serial = serial-least n.serial new in
    record {
      ranged = record {
        index = q.index;
        variables = q.variables;
        restart_number = q.restart_number;
        phases = length-saved n.phases (removed 0 n.trail) ∙ q.phases;
        numbers = numbers-with_clauses 1 new n.clauses (All-passed (λ x. 1 ≤ x.id) test exported (All-weaker (λ x. is_derived x ≡ true) (λ x. 1 ≤ x.id) (λ x k. let high : 2 ^ 32 ≤ x.id = leb-true (2 ^ 32) x.id k in omega arith) exported may.derived)) (own-passed test exported may.apart) (taken-apart exported n.clauses may.agree) q.numbers;
        serial = All-with_clauses (λ x. is_derived x ≡ true → serial_of x < serial) new n.clauses (All-weaker (λ x. serial_of x < serial) (λ x. is_derived x ≡ true → serial_of x < serial) (λ x k m. k) new (serial-over n.serial new)) (All-weaker (λ x. is_derived x ≡ true → serial_of x < n.serial) (λ x. is_derived x ≡ true → serial_of x < serial) (λ x k m. let below : serial_of x < n.serial = k m in omega arith) n.clauses q.serial);
      };
      consistent = c;
      reasons = each-weaker (IsForced n.clauses) (IsForced clauses) (λ b e k id m. let w = k id m in (w.0, contains-with_clauses new n.clauses w.0 w.1, w.2, w.3)) t [] (each-front (IsForced n.clauses) t (removed 0 n.trail) [] (rw front h.reasons));
      chosen = kept-forced (IsChosen n.assumptions) (λ b e id m k. absurd (cc)) n.trail [] c.levels;
      passed = kept-forced (IsPassed 0) (λ b e id m k. absurd (cc)) n.trail [] c.levels;
      reached = omega arith;
      waiting = λ id m. absurd (cc);
    }

-- importing clauses that may be told keeps a node sound
pub import-keeps_sound : (exported : List NumberedClause) (n : Node) → MayImport exported n → IsSound n → IsSound (imported exported n)
import-keeps_sound exported n may h = by-taking IsSound exported n h (taken-sound exported n may h)

held-or_exported : (exported : List NumberedClause) (n : Node) (c : NumberedClause) → Contains (imported exported n).clauses c → Contains (n.clauses ++ exported) c
held-or_exported exported n c h =
    let all : List NumberedClause = n.clauses ++ exported in
    let itself : All (Contains all) all = All-contains_itself all in
    let behind : All (Contains all) exported = All-weaker (Contains exported) (Contains all) (λ x k. Contains-append_right n.clauses exported x k) exported (All-contains_itself exported) in
    let before : All (Contains all) n.clauses = All-weaker (Contains n.clauses) (Contains all) (λ x k. Contains-append_left n.clauses exported x k) n.clauses (All-contains_itself n.clauses) in
    let with_taken : All (Contains all) (with_clauses (taken exported n.clauses) n.clauses) = All-with_clauses (Contains all) (taken exported n.clauses) n.clauses (All-passed (Contains all) (λ x. not (has_lits x.lits n.clauses)) exported behind) before in
    All-contains (Contains all) (imported exported n).clauses c (by-taking (λ m. All (Contains all) m.clauses) exported n before with_taken) h

pub import-holds : ImportHolds
import-holds = record {
  originals = λ exported n h. by-taking (λ m. originals m.clauses ≡ originals n.clauses) exported n refl (originals-with_clauses (taken exported n.clauses) n.clauses (All-passed (λ c. is_derived c ≡ true) (λ c. not (has_lits c.lits n.clauses)) exported h));
  assumptions = λ exported n. by-taking (λ m. m.assumptions ≡ n.assumptions) exported n refl refl;
  variables = λ exported n. by-taking (λ m. m.variables ≡ n.variables) exported n refl refl;
  verdict = λ exported n. by-taking (λ m. m.verdict ≡ n.verdict) exported n refl refl;
  index = λ exported n. by-taking (λ m. m.index ≡ n.index) exported n refl refl;
  profile = λ exported n. by-taking (λ m. m.profile ≡ n.profile) exported n refl refl;
  held = held-or_exported;
  kept = λ exported n c h. by-taking (λ m. Contains m.clauses c) exported n h (contains-with_clauses (taken exported n.clauses) n.clauses c h);
}

-- an import is left off exactly where the profile skips empty ones and no clause is taken
left-off : (profile : Profile) (new : List NumberedClause) → (policy profile).skips_empty_imports ≡ true → new ≡ [] → is_left_off profile new ≡ true
left-off profile new p e = rw (p, e) refl

takes-some : (profile : Profile) (new : List NumberedClause) → new ≢ [] → is_left_off profile new ≡ false
takes-some profile [] h = absurd (h refl)
takes-some profile (c ∷ new) h = and_right (policy profile).skips_empty_imports (length (c ∷ new) == 0) (ne_eqb (length (c ∷ new)) 0 (λ q. absurd (omega arith)))

other-profile : (profile : Profile) (new : List NumberedClause) → (policy profile).skips_empty_imports ≡ false → is_left_off profile new ≡ false
other-profile profile new h = ap (λ (b : Bool). b && (length new == 0)) h

pub import-may_leave : ImportMayLeave
import-may_leave = record {
  left = λ exported n p e. ap (λ (b : Bool). cond b n (with_new (taken exported n.clauses) n)) (left-off n.profile (taken exported n.clauses) p e);
  takes = λ exported n h. ap (λ (b : Bool). cond b n (with_new (taken exported n.clauses) n)) (takes-some n.profile (taken exported n.clauses) h);
  other = λ exported n h. ap (λ (b : Bool). cond b n (with_new (taken exported n.clauses) n)) (other-profile n.profile (taken exported n.clauses) h);
}
