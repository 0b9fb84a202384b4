use Rattle.std.proofs.Common.{◌≡◌, ◌≢◌, ℕ, zero, suc, ◌+◌, ◌/◌, ◌<◌, ◌≤◌, true, false, nat_eq, nat_le, List, [], ◌∷◌, length, drop, get_or, None, refl, arith}
use Rattle.std.specs.Prelude.{All}
use Rattle.std.proofs.lemmas.Bool.{le-leb}
use Rattle.std.proofs.lemmas.Bool.Decides.{nat_tests}
use Rattle.std.proofs.lemmas.List.Elements.{All-head, All-tail}
use Rattle.mal_base.specs.Clauses.{rises}
use Rattle.mal_base.specs.Formulas.{is_within}
use Rattle.mal_base.specs.NumberedClause.{NumberedClause, lits_under}
use Rattle.mal_trail.specs.Rooms.{Room, IsLeft, IsRoomFor}
use Rattle.spec_node.specs.Adding.{with_clause}
use Rattle.spec_node.specs.Import.{with_clauses}
use Rattle.spec_node.specs.Sound.{IsLiteralOf, AreLiteralsOf}
use Rattle.spec_node.proofs.ImportLemmas.{apart-with}
use Rattle.mal_cdcl.specs.ImportSizes.{lits_in}
use Rattle.mal_cdcl.specs.Importing.{AreNewTo}
use Rattle.mal_cdcl.proofs.FillLemmas.{lits_more}

nat_eq_less : (a b : ℕ) → (b ≡ a → ⊥) → nat_eq a b ≡ false
nat_eq_less a b = grind (arith, nat_tests)

-- a number that no clause has is not held
pub not-under : (id : ℕ) (held : List NumberedClause) → All (λ d. id ≢ d.id) held → lits_under id held ≡ None
not-under id [] h = refl
not-under id (d ∷ ds) h =
    let other : nat_eq d.id id ≡ false = nat_eq_less d.id id (All-head (λ x. id ≢ x.id) d ds h) in
    rw other (not-under id ds (All-tail (λ x. id ≢ x.id) d ds h))

-- literals of some variables are within them
pub within-literals : (v : ℕ) (lits : List ℕ) → All (IsLiteralOf v) lits → is_within v lits ≡ true
within-literals v [] h = refl
within-literals v (l ∷ ls) h =
    let here : IsLiteralOf v l = All-head (IsLiteralOf v) l ls h in
    let low : nat_le 1 (l / 2) ≡ true = le-leb 1 (l / 2) here.low in
    let high : nat_le (l / 2) v ≡ true = le-leb (l / 2) v here.high in
    rw (low, high) (within-literals v ls (All-tail (IsLiteralOf v) l ls h))

-- the parts of what is new after the first clause
pub new-rest : (c : NumberedClause) (cs held : List NumberedClause) (v : ℕ) → AreNewTo held v (c ∷ cs) → AreNewTo (with_clause c held) v cs
new-rest c cs held v h =
    record {
      some = All-tail (λ x. 1 ≤ x.id) c cs h.some;
      within = All-tail (λ x. AreLiteralsOf v x.lits) c cs h.within;
      own = h.own.1;
      apart = apart-with c held cs h.own.0 (All-tail (λ x. All (λ d. x.id ≢ d.id) held) c cs h.apart);
    }

-- what is left to do of some clauses that are added to those held
pub record IsTelling (left exported start held : List NumberedClause) (made now : Room) : Type 0 where
  pub done : with_clauses left held ≡ with_clauses exported start
  pub new : AreNewTo held made.variables left
  pub variables : made.variables ≤ now.variables
  pub clause_room : made.clauses + length left ≤ now.clauses + length exported
  pub literal_room : made.literals + lits_in left ≤ now.literals + lits_in exported

pub telling-begins : (exported held : List NumberedClause) (room : Room) → AreNewTo held room.variables exported → IsTelling exported exported held held room room
telling-begins exported held room h = record { done = refl; new = h; variables = omega arith; clause_room = omega arith; literal_room = omega arith }

-- a clause that is left can be added
pub record MayTell (c : NumberedClause) (held : List NumberedClause) (now : Room) : Type 0 where
  pub new : lits_under c.id held ≡ None
  pub form : rises c.lits ≡ true
  pub room : IsRoomFor c.lits now

drop-at : (exported : List NumberedClause) (i : ℕ) (c d : NumberedClause) → i < length exported → c ≡ get_or exported i d → drop i exported ≡ c ∷ drop (i + 1) exported
drop-at [] i c d l e = absurd (omega arith)
drop-at (x ∷ xs) zero c d l e = rw e refl
drop-at (x ∷ xs) (suc i) c d l e =
    let more : suc i + 1 ≡ suc (i + 1) = omega arith in
    rw more (drop-at xs i c d (omega arith) e)

may-tell_first : (c : NumberedClause) (cs exported start held : List NumberedClause) (made now : Room) → length exported ≤ made.clauses → lits_in exported ≤ made.literals → IsTelling (c ∷ cs) exported start held made now → MayTell c held now
may-tell_first c cs exported start held made now cr lr h =
    let lits : AreLiteralsOf made.variables c.lits = All-head (λ x. AreLiteralsOf made.variables x.lits) c cs h.new.within in
    record {
      new = not-under c.id held (All-head (λ x. All (λ d. x.id ≢ d.id) held) c cs h.new.apart);
      form = lits.rising;
      room = record {
        within = lits_more made.variables now.variables c.lits h.variables (within-literals made.variables c.lits lits.within);
        clauses = omega (arith, h.clause_room);
        literals = omega (arith, h.literal_room);
      };
    }

pub may-tell : (i : ℕ) (c d : NumberedClause) (exported start held : List NumberedClause) (made now : Room) → i < length exported → c ≡ get_or exported i d → length exported ≤ made.clauses → lits_in exported ≤ made.literals → IsTelling (drop i exported) exported start held made now → MayTell c held now
may-tell i c d exported start held made now l e cr lr h = may-tell_first c (drop (i + 1) exported) exported start held made now cr lr (rw (drop-at exported i c d l e) at h)

telling-first : (c : NumberedClause) (cs exported start held : List NumberedClause) (made now next : Room) → IsLeft 1 (length c.lits) now next → IsTelling (c ∷ cs) exported start held made now → IsTelling cs exported start (with_clause c held) made next
telling-first c cs exported start held made now next left h =
    record {
      done = h.done;
      new = new-rest c cs held made.variables h.new;
      variables = omega (arith, h.variables, left.variables);
      clause_room = omega (arith, h.clause_room, left.clauses);
      literal_room = omega (arith, h.literal_room, left.literals);
    }

pub telling-next : (i : ℕ) (c d : NumberedClause) (exported start held : List NumberedClause) (made now next : Room) → i < length exported → c ≡ get_or exported i d → IsLeft 1 (length c.lits) now next → IsTelling (drop i exported) exported start held made now → IsTelling (drop (i + 1) exported) exported start (with_clause c held) made next
telling-next i c d exported start held made now next l e left h = telling-first c (drop (i + 1) exported) exported start held made now next left (rw (drop-at exported i c d l e) at h)
