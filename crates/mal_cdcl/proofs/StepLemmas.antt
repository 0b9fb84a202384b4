use Rattle.std.proofs.Common.{◌≡◌, ◌≢◌, ℕ, ◌+◌, ◌*◌, ◌/◌, ◌≤◌, Bool, true, false, not, ◌&&◌, nat_le, List, Some, refl, arith}
use Rattle.std.proofs.lemmas.Bool.{false≢true}
use Rattle.std.proofs.lemmas.Bool.Decides.{nat_tests}
use Rattle.mal_base.specs.Literals.{literal, var_of}
use Rattle.mal_base.specs.Formulas.{is_within}
use Rattle.mal_base.specs.declared.profile.Reduction.{Reduction}
use Rattle.mal_base.specs.declared.profile.Reduction.TheVariants.{Never, After}
use Rattle.mal_base.specs.Profiles.{is_due}
use Rattle.mal_base.specs.declared.trail_entry.TrailEntry.{TrailEntry}
use Rattle.spec_node.specs.Value.{is_true, has_value, next_assumption, first_free}
use Rattle.mal_cdcl.specs.Within.{is_order_of}
use Rattle.mal_trail.proofs.FoundLemmas.{and_true, found_passes}
use Rattle.mal_cdcl.proofs.FillLemmas.{found_holds}

not_true : (b : Bool) → not b ≡ true → b ≡ false
not_true true h = absurd (false≢true h)
not_true false h = refl

-- a reduction that is due is one that comes at all
pub due-reduces : (r : Reduction) (count : ℕ) → is_due r count ≡ true → r ≢ Never
due-reduces Never count h = absurd (false≢true h)
due-reduces (After most) count h = λ never. absurd (cc)

pub test_le : (a b : ℕ) → nat_le a b ≡ true → a ≤ b
test_le a b = grind (arith, nat_tests)

-- an open assumption is of a node's variables, and not true
pub open_within : (n : ℕ) (trail : List TrailEntry) (assumptions : List ℕ) (l : ℕ) → is_within n assumptions ≡ true → next_assumption trail assumptions ≡ Some l → var_of l ≤ n
open_within n trail assumptions l w e = test_le (var_of l) n (and_true (nat_le 1 (var_of l)) (nat_le (var_of l) n) (found_passes (λ (a : ℕ). not (is_true trail a)) (λ (a : ℕ). nat_le 1 (a / 2) && nat_le (a / 2) n) assumptions l w e)).1

pub open_is : (trail : List TrailEntry) (assumptions : List ℕ) (l : ℕ) → next_assumption trail assumptions ≡ Some l → is_true trail l ≡ false
open_is trail assumptions l e = not_true (is_true trail l) (found_holds (λ (a : ℕ). not (is_true trail a)) assumptions l e)

-- a free variable is a node's, and has no value
pub free_within : (n : ℕ) (trail : List TrailEntry) (order : List ℕ) (v : ℕ) → is_order_of n order ≡ true → first_free trail order ≡ Some v → v ≤ n
free_within n trail order v w e = test_le v n (found_passes (λ (a : ℕ). not (has_value trail a)) (λ (a : ℕ). nat_le a n) order v w e)

pub free_is : (trail : List TrailEntry) (order : List ℕ) (v : ℕ) → first_free trail order ≡ Some v → has_value trail v ≡ false
free_is trail order v e = not_true (has_value trail v) (found_holds (λ (a : ℕ). not (has_value trail a)) order v e)

pub var_literal : (v : ℕ) (b : Bool) → var_of (literal v b) ≡ v
var_literal v true = halved v
  where
    halved : (v : ℕ) → 2 * v / 2 ≡ v
    halved v = omega arith
var_literal v false = halved v
  where
    halved : (v : ℕ) → (2 * v + 1) / 2 ≡ v
    halved v = omega arith
