use Rattle.std.proofs.Common.{◌≡◌, ℕ, zero, suc, ◌+◌, ◌-◌, ◌/◌, ◌%◌, ◌<◌, inl, inr, Bool, true, false, cond, List, [], ◌∷◌, length, set, get_or, Option, Some, None, refl, ◌∙◌, arith}
use Rattle.std.specs.Prelude.{slice_get, nat_eq}
use Rattle.std.proofs.lemmas.Bool.{cases_eq}
use Rattle.std.proofs.lemmas.Bool.Decides.{nat_tests}
use Rattle.std.proofs.lemmas.List.{length-set, get_or-set_same, get_or-set_other}
use Rattle.mal_base.specs.NumberedClause.{NumberedClause}
use Rattle.mal_watch.specs.WatchLists.{Has}
use Rattle.mal_watch.specs.Watching.{clause_of, partner, IsWatching}

some_held : (c d : NumberedClause) → Some c ≡ Some d → c ≡ d
some_held c d e = cc

none_held : (c : NumberedClause) → ◌≡◌ {A = Option NumberedClause} None (Some c) → ⊥
none_held c e = cc

some_one : (x y : ℕ) → Some x ≡ Some y → x ≡ y
some_one x y e = cc

none_some : (x : ℕ) → ◌≡◌ {A = Option ℕ} None (Some x) → ⊥
none_some x e = cc

pub get-is : (cs : List NumberedClause) (i : ℕ) (c d : NumberedClause) → slice_get cs i ≡ Some c → get_or cs i d ≡ c
get-is [] i c d e = absurd (none_held c e)
get-is (x ∷ xs) zero c d e = some_held x c e
get-is (x ∷ xs) (suc i) c d e = get-is xs i c d e

-- the other watch is one too
pub partner-below : (lists : ℕ) (watched : List NumberedClause) (keys : List ℕ) (watch : ℕ) → IsWatching lists watched keys → watch < length keys → partner watch < length keys
partner-below lists watched keys watch w l = by_side (nat_eq (watch % 2) 0) refl
  where
    even : nat_eq (watch % 2) 0 ≡ true → watch % 2 ≡ 0
    even = grind (arith, nat_tests)

    by_side : (b : Bool) → nat_eq (watch % 2) 0 ≡ b → cond b (watch + 1) (watch - 1) < length keys
    by_side true e = let z : watch % 2 ≡ 0 = even e in omega (arith, w.paired)
    by_side false e = omega arith

pub clause-below : (lists : ℕ) (watched : List NumberedClause) (keys : List ℕ) (watch : ℕ) → IsWatching lists watched keys → watch < length keys → watch / 2 < length watched
clause-below lists watched keys watch w l = omega (arith, w.paired)

-- watches are of literals of their clauses also where one goes to another of its clause
pub watching-set : (lists : ℕ) (watched : List NumberedClause) (keys : List ℕ) (watch lit : ℕ) → IsWatching lists watched keys → watch < length keys → Has (clause_of watched watch).lits lit → IsWatching lists watched (set keys watch lit)
watching-set lists watched keys watch lit w l h =
    let longer : length (set keys watch lit) ≡ length keys = length-set keys watch lit in
    record {
      paired = longer ∙ w.paired;
      own = λ k m. elim (cases_eq k watch) [
        | inl e ↦ rw e (rw (get_or-set_same keys watch lit 0 l) h)
        | inr d ↦ rw (get_or-set_other keys watch k lit 0 d) (w.own k (omega (arith, m, longer)))
      ];
      below = w.below;
    }
