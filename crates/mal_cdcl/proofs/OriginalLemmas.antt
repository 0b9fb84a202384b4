use Rattle.std.proofs.Common.{◌≡◌, ℕ, zero, suc, ◌+◌, ◌^◌, ◌<◌, ◌≤◌, Bool, true, false, nat_lt, nat_le, nat_eq, List, [], ◌∷◌, ◌++◌, length, drop, get_or, filter, Option, Some, None, refl, sym, ◌∙◌, ap, arith, append_assoc}
use Rattle.std.specs.Prelude.{All}
use Rattle.std.specs.List.{list_all}
use Rattle.std.proofs.lemmas.List.Sums.{sum_by-cons}
use Rattle.mal_base.specs.Clauses.{rises}
use Rattle.mal_base.specs.Formulas.{is_clause_of, is_within, literals_of, size_of}
use Rattle.mal_trail.specs.Rooms.{Room, IsLeft, IsRoomFor}
use Rattle.mal_trail.proofs.FoundLemmas.{and_true}
use Rattle.mal_cdcl.proofs.FillLemmas.{lits_more}
use Rattle.std.proofs.lemmas.List.Elements.{All-head, All-tail, All-cons, All-weaker, All-nil}
use Rattle.std.proofs.lemmas.Bool.Decides.{nat_tests}
use Rattle.mal_base.specs.NumberedClause.{NumberedClause, lits_under}
use Rattle.spec_node.specs.Adding.{with_clause}
use Rattle.spec_node.specs.Load.{numbered, with_originals, is_derived}
use Rattle.spec_node.specs.Sound.{NumbersRise}

-- clauses with these more, one after another
abbrev pub with_all : List NumberedClause → List NumberedClause → List NumberedClause
with_all [] held = held
with_all (c ∷ cs) held = with_all cs (with_clause c held)

-- the originals among some clauses have numbers below this one
abbrev pub AreBelow : ℕ → List NumberedClause → Type 0
AreBelow first held = All (λ (c : NumberedClause). c.id < 2 ^ 32 → c.id < first) held

lt_test : (a b : ℕ) → a < b → nat_lt a b ≡ true
lt_test a b = grind (arith, nat_tests)

not_lt : (a b : ℕ) → b ≤ a → nat_lt a b ≡ false
not_lt a b = grind (arith, nat_tests)

test_lt : (a b : ℕ) → nat_lt a b ≡ true → a < b
test_lt a b = grind (arith, nat_tests)

test_not : (a b : ℕ) → nat_lt a b ≡ false → b ≤ a
test_not a b = grind (arith, nat_tests)

le_test : (a b : ℕ) → a ≤ b → nat_le a b ≡ true
le_test a b = grind (arith, nat_tests)

not_le : (a b : ℕ) → b < a → nat_le a b ≡ false
not_le a b = grind (arith, nat_tests)

-- what one more original leaves of the parts
record IsOneMore (c : NumberedClause) (held : List NumberedClause) : Type 0 where
  originals : filter (λ x. nat_lt x.id (2 ^ 32)) (with_clause c held) ≡ filter (λ x. nat_lt x.id (2 ^ 32)) held ++ c ∷ []
  derived : filter is_derived (with_clause c held) ≡ filter is_derived held
  rising : (low : ℕ) → low ≤ c.id → NumbersRise low held → NumbersRise low (with_clause c held)
  below : AreBelow (c.id + 1) (with_clause c held)

derived-all : (low : ℕ) (cs : List NumberedClause) → 2 ^ 32 ≤ low → NumbersRise low cs → (filter (λ x. nat_lt x.id (2 ^ 32)) cs ≡ []) × All (λ (x : NumberedClause). 2 ^ 32 ≤ x.id) cs
derived-all low [] l h = (refl, All-nil (λ (x : NumberedClause). 2 ^ 32 ≤ x.id))
derived-all low (c ∷ cs) l h =
    let a : low ≤ c.id = h.0 in
    let rest = derived-all (c.id + 1) cs (omega arith) h.1 in
    (rw (not_lt c.id (2 ^ 32) (omega arith)) rest.0, All-cons (λ (x : NumberedClause). 2 ^ 32 ≤ x.id) c cs (omega arith) rest.1)

one-more : (c : NumberedClause) (held : List NumberedClause) (low : ℕ) → c.id < 2 ^ 32 → NumbersRise low held → AreBelow c.id held → IsOneMore c held
one-more c [] low o h b = record {
  originals = rw (lt_test c.id (2 ^ 32) o) refl;
  derived = rw (not_le (2 ^ 32) c.id o) refl;
  rising = λ n l k. (l, tt);
  below = All-cons (λ (x : NumberedClause). x.id < 2 ^ 32 → x.id < c.id + 1) c [] (λ k. omega arith) (All-nil (λ (x : NumberedClause). x.id < 2 ^ 32 → x.id < c.id + 1));
}
one-more c (d ∷ ds) low o h b = by_kind (one-more c ds (d.id + 1) o h.1 (All-tail (λ (x : NumberedClause). x.id < 2 ^ 32 → x.id < c.id) d ds b)) (nat_lt d.id (2 ^ 32)) refl
  where
    by_kind : IsOneMore c ds → (t : Bool) → nat_lt d.id (2 ^ 32) ≡ t → IsOneMore c (d ∷ ds)
    by_kind rest true t =
        let d_low : d.id < 2 ^ 32 = test_lt d.id (2 ^ 32) t in
        let less : d.id < c.id = All-head (λ (x : NumberedClause). x.id < 2 ^ 32 → x.id < c.id) d ds b d_low in
        let order : nat_lt c.id d.id ≡ false = not_lt c.id d.id (omega arith) in
        let not_derived : nat_le (2 ^ 32) d.id ≡ false = not_le (2 ^ 32) d.id d_low in
        record {
          originals = rw (order, t) (ap (λ (xs : List NumberedClause). d ∷ xs) rest.originals);
          derived = rw (order, not_derived) rest.derived;
          rising = λ n l k. rw order (k.0, rest.rising (d.id + 1) (omega arith) k.1);
          below = rw order (All-cons (λ (x : NumberedClause). x.id < 2 ^ 32 → x.id < c.id + 1) d (with_clause c ds) (λ k. omega arith) rest.below);
        }
    by_kind behind false t =
        let d_high : 2 ^ 32 ≤ d.id = test_not d.id (2 ^ 32) t in
        let order : nat_lt c.id d.id ≡ true = lt_test c.id d.id (omega arith) in
        let is_original : nat_lt c.id (2 ^ 32) ≡ true = lt_test c.id (2 ^ 32) o in
        let not_derived : nat_le (2 ^ 32) c.id ≡ false = not_le (2 ^ 32) c.id o in
        let rest = derived-all (d.id + 1) ds (omega arith) h.1 in
        record {
          originals = rw (order, is_original, t, rest.0) refl;
          derived = rw (order, not_derived) refl;
          rising = λ n l k. rw order (l, (omega arith, k.1));
          below = rw order (All-cons (λ (x : NumberedClause). x.id < 2 ^ 32 → x.id < c.id + 1) c (d ∷ ds) (λ k. omega arith) (All-weaker (λ (x : NumberedClause). x.id < 2 ^ 32 → x.id < c.id) (λ (x : NumberedClause). x.id < 2 ^ 32 → x.id < c.id + 1) (λ x k j. let m : x.id < c.id = k j in omega arith) (d ∷ ds) b));
        }

-- one more original that is above the others, under a number that is not held
pub record IsAdded (c : NumberedClause) (held : List NumberedClause) : Type 0 where
  pub rising : NumbersRise 1 (with_clause c held)
  pub below : AreBelow (c.id + 1) (with_clause c held)
  pub new : lits_under c.id held ≡ None

nat_eq_less : (a b : ℕ) → (a ≡ b → ⊥) → nat_eq a b ≡ false
nat_eq_less a b = grind (arith, nat_tests)

not-held : (id : ℕ) (held : List NumberedClause) → id < 2 ^ 32 → AreBelow id held → lits_under id held ≡ None
not-held id [] o b = refl
not-held id (d ∷ ds) o b =
    let other : nat_eq d.id id ≡ false = nat_eq_less d.id id (λ e. let m : d.id < id = All-head (λ (x : NumberedClause). x.id < 2 ^ 32 → x.id < id) d ds b (omega arith) in omega arith) in
    rw other (not-held id ds o (All-tail (λ (x : NumberedClause). x.id < 2 ^ 32 → x.id < id) d ds b))

pub is-added : (c : NumberedClause) (held : List NumberedClause) → 1 ≤ c.id → c.id < 2 ^ 32 → NumbersRise 1 held → AreBelow c.id held → IsAdded c held
is-added c held l o h b =
    let more = one-more c held 1 o h b in
    record { rising = more.rising 1 l h; below = more.below; new = not-held c.id held o b }

pub below-more : (a b : ℕ) (held : List NumberedClause) → a ≤ b → AreBelow a held → AreBelow b held
below-more a b held l h = All-weaker (λ (x : NumberedClause). x.id < 2 ^ 32 → x.id < a) (λ (x : NumberedClause). x.id < 2 ^ 32 → x.id < b) (λ x k j. let m : x.id < a = k j in omega arith) held h

all-derived : (ds : List NumberedClause) → All (λ (x : NumberedClause). 2 ^ 32 ≤ x.id) ds → filter is_derived ds ≡ ds
all-derived [] k = refl
all-derived (d ∷ ds) k =
    let here : nat_le (2 ^ 32) d.id ≡ true = le_test (2 ^ 32) d.id (All-head (λ (x : NumberedClause). 2 ^ 32 ≤ x.id) d ds k) in
    rw here (ap (λ (xs : List NumberedClause). d ∷ xs) (all-derived ds (All-tail (λ (x : NumberedClause). 2 ^ 32 ≤ x.id) d ds k)))

-- clauses of rising numbers are the originals, then the derived ones
parts : (cs : List NumberedClause) (low : ℕ) → NumbersRise low cs → filter (λ x. nat_lt x.id (2 ^ 32)) cs ++ filter is_derived cs ≡ cs
parts [] low k = refl
parts (d ∷ ds) low k = by_kind (parts ds (d.id + 1) k.1) (nat_lt d.id (2 ^ 32)) refl
  where
    by_kind : filter (λ x. nat_lt x.id (2 ^ 32)) ds ++ filter is_derived ds ≡ ds → (t : Bool) → nat_lt d.id (2 ^ 32) ≡ t → filter (λ x. nat_lt x.id (2 ^ 32)) (d ∷ ds) ++ filter is_derived (d ∷ ds) ≡ d ∷ ds
    by_kind r true t =
        let not_derived : nat_le (2 ^ 32) d.id ≡ false = not_le (2 ^ 32) d.id (test_lt d.id (2 ^ 32) t) in
        rw (t, not_derived) (ap (λ (xs : List NumberedClause). d ∷ xs) r)
    by_kind r false t =
        let high : 2 ^ 32 ≤ d.id = test_not d.id (2 ^ 32) t in
        let derived : nat_le (2 ^ 32) d.id ≡ true = le_test (2 ^ 32) d.id high in
        let rest = derived-all (d.id + 1) ds (omega arith) k.1 in
        rw (t, derived, rest.0) (ap (λ (xs : List NumberedClause). d ∷ xs) (all-derived ds rest.1))

-- clauses of rising numbers, added one by one, are the new originals of a load
pub all-originals : (first : ℕ) (cs : List (Option (List ℕ))) (held : List NumberedClause) → 1 ≤ first → first + length cs ≤ 2 ^ 32 → NumbersRise 1 held → AreBelow first held → with_all (numbered first cs) held ≡ with_originals held (numbered first cs)
all-originals first [] held l o h b = sym (parts held 1 h)
all-originals first (None ∷ cs) held l o h b = all-originals (first + 1) cs held (omega arith) (omega arith) h (below-more first (first + 1) held (omega arith) b)
all-originals first (Some lits ∷ cs) held l o h b =
    let c : NumberedClause = record { id = first; lits = lits } in
    let more = one-more c held 1 (omega arith) h b in
    all-originals (first + 1) cs (with_clause c held) (omega arith) (omega arith) (more.rising 1 l h) more.below
    ∙ (ap (λ (xs : List NumberedClause). xs ++ (numbered (first + 1) cs ++ filter is_derived (with_clause c held))) more.originals
    ∙ (ap (λ (xs : List NumberedClause). (filter (λ x. nat_lt x.id (2 ^ 32)) held ++ c ∷ []) ++ (numbered (first + 1) cs ++ xs)) more.derived
    ∙ append_assoc (filter (λ x. nat_lt x.id (2 ^ 32)) held) (c ∷ []) (numbered (first + 1) cs ++ filter is_derived held)))

-- how far clauses were added: those that are left give what all gave at the start, and room is left for them
pub record IsAdding (first place : ℕ) (clauses : List (Option (List ℕ))) (start held : List NumberedClause) (made now : Room) : Type 0 where
  pub done : with_all (numbered (first + place) (drop place clauses)) held ≡ with_all (numbered first clauses) start
  pub below : AreBelow (first + place) held
  pub rising : NumbersRise 1 held
  pub within : list_all (is_clause_of made.variables) (drop place clauses) ≡ true
  pub variables : made.variables ≤ now.variables
  pub clause_room : made.clauses ≤ now.clauses + place
  pub literal_room : made.literals + literals_of (drop place clauses) ≤ now.literals + literals_of clauses

drop-at : (clauses : List (Option (List ℕ))) (i : ℕ) (c d : Option (List ℕ)) → i < length clauses → c ≡ get_or clauses i d → drop i clauses ≡ c ∷ drop (i + 1) clauses
drop-at [] i c d l e = absurd (omega arith)
drop-at (x ∷ xs) zero c d l e = rw e refl
drop-at (x ∷ xs) (suc i) c d l e =
    let more : suc i + 1 ≡ suc (i + 1) = omega arith in
    rw more (drop-at xs i c d (omega arith) e)

pub adding-begins : (first : ℕ) (clauses : List (Option (List ℕ))) (held : List NumberedClause) (room : Room) → AreBelow first held → NumbersRise 1 held → list_all (is_clause_of room.variables) clauses ≡ true → IsAdding first 0 clauses held held room room
adding-begins first clauses held room b r w =
    let same : first + 0 ≡ first = omega arith in
    record { done = rw same refl; below = rw same b; rising = r; within = w; variables = omega arith; clause_room = omega arith; literal_room = omega arith }

pub adding-none : (first place : ℕ) (clauses : List (Option (List ℕ))) (start held : List NumberedClause) (made now : Room) (d : Option (List ℕ)) → place < length clauses → None ≡ get_or clauses place d → IsAdding first place clauses start held made now → IsAdding first (place + 1) clauses start held made now
adding-none first place clauses start held made now d l e h =
    let next : first + (place + 1) ≡ first + place + 1 = omega arith in
    let rest : drop place clauses ≡ None ∷ drop (place + 1) clauses = drop-at clauses place None d l e in
    let count : literals_of (None ∷ drop (place + 1) clauses) ≡ 0 + literals_of (drop (place + 1) clauses) = sum_by-cons size_of None (drop (place + 1) clauses) in
    let literals = rw rest at h.literal_room in
    record {
      done = rw next (rw rest at h.done);
      below = rw next (below-more (first + place) (first + place + 1) held (omega arith) h.below);
      rising = h.rising;
      within = (and_true (is_clause_of made.variables None) (list_all (is_clause_of made.variables) (drop (place + 1) clauses)) (rw rest at h.within)).1;
      variables = h.variables;
      clause_room = omega (arith, h.clause_room);
      literal_room = omega (arith, literals, count);
    }

-- a clause that is left can be added
pub record MayAdd (id : ℕ) (lits : List ℕ) (held : List NumberedClause) (now : Room) : Type 0 where
  pub new : lits_under id held ≡ None
  pub room : IsRoomFor lits now

pub may-add : (first place : ℕ) (clauses : List (Option (List ℕ))) (start held : List NumberedClause) (made now : Room) (lits : List ℕ) (d : Option (List ℕ)) → first + length clauses ≤ 2 ^ 32 → length clauses ≤ made.clauses → literals_of clauses ≤ made.literals → place < length clauses → Some lits ≡ get_or clauses place d → IsAdding first place clauses start held made now → MayAdd (first + place) lits held now
may-add first place clauses start held made now lits d o cr lr l e h =
    let rest : drop place clauses ≡ Some lits ∷ drop (place + 1) clauses = drop-at clauses place (Some lits) d l e in
    let count : literals_of (Some lits ∷ drop (place + 1) clauses) ≡ length lits + literals_of (drop (place + 1) clauses) = sum_by-cons size_of (Some lits) (drop (place + 1) clauses) in
    let literals = rw rest at h.literal_room in
    let form = (and_true (is_clause_of made.variables (Some lits)) (list_all (is_clause_of made.variables) (drop (place + 1) clauses)) (rw rest at h.within)).0 in
    record {
      new = not-held (first + place) held (omega arith) h.below;
      room = record {
        within = lits_more made.variables now.variables lits h.variables ((and_true (rises lits) (is_within made.variables lits) form).1);
        clauses = omega (arith, h.clause_room);
        literals = omega (arith, literals, count);
      };
    }

pub adding-some : (first place : ℕ) (clauses : List (Option (List ℕ))) (start held : List NumberedClause) (made now next : Room) (lits : List ℕ) (d : Option (List ℕ)) → 1 ≤ first → first + length clauses ≤ 2 ^ 32 → place < length clauses → Some lits ≡ get_or clauses place d → IsLeft 1 (length lits) now next → IsAdding first place clauses start held made now → IsAdding first (place + 1) clauses start (with_clause (record { id = first + place; lits = lits }) held) made next
adding-some first place clauses start held made now next lits d some o l e left h =
    let c : NumberedClause = record { id = first + place; lits = lits } in
    let following : first + (place + 1) ≡ first + place + 1 = omega arith in
    let rest : drop place clauses ≡ Some lits ∷ drop (place + 1) clauses = drop-at clauses place (Some lits) d l e in
    let count : literals_of (Some lits ∷ drop (place + 1) clauses) ≡ length lits + literals_of (drop (place + 1) clauses) = sum_by-cons size_of (Some lits) (drop (place + 1) clauses) in
    let literals = rw rest at h.literal_room in
    let more = is-added c held (omega arith) (omega arith) h.rising h.below in
    record {
      done = rw following (rw rest at h.done);
      below = rw following more.below;
      rising = more.rising;
      within = (and_true (is_clause_of made.variables (Some lits)) (list_all (is_clause_of made.variables) (drop (place + 1) clauses)) (rw rest at h.within)).1;
      variables = omega (arith, h.variables, left.variables);
      clause_room = omega (arith, h.clause_room, left.clauses);
      literal_room = omega (arith, literals, count, left.literals);
    }

drop-all : (clauses : List (Option (List ℕ))) (n : ℕ) → length clauses ≤ n → drop n clauses ≡ []
drop-all [] zero l = refl
drop-all [] (suc n) l = refl
drop-all (c ∷ cs) zero l = absurd (omega arith)
drop-all (c ∷ cs) (suc n) l = drop-all cs n (omega arith)

-- all were added
pub record AreAdded (first : ℕ) (new : List (Option (List ℕ))) (start held : List NumberedClause) (made now : Room) : Type 0 where
  pub clauses : held ≡ with_originals start (numbered first new)
  pub room : IsLeft (length new) (literals_of new) made now

pub adding-ends : (first place : ℕ) (clauses : List (Option (List ℕ))) (start held : List NumberedClause) (made now : Room) → 1 ≤ first → first + length clauses ≤ 2 ^ 32 → AreBelow first start → NumbersRise 1 start → place ≡ length clauses → IsAdding first place clauses start held made now → AreAdded first clauses start held made now
adding-ends first place clauses start held made now some o b r e h =
    let none : drop place clauses ≡ [] = drop-all clauses place (omega arith) in
    let literals = rw none at h.literal_room in
    record {
      clauses = (rw none at h.done) ∙ all-originals first clauses start some o r b;
      room = record { variables = h.variables; clauses = omega (arith, h.clause_room, e); literals = omega (arith, literals) };
    }
