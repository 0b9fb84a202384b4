use Rattle.std.proofs.Common.{◌≡◌, ℕ, zero, suc, ◌+◌, ◌≤◌, Bool, true, false, length, Option, Some, None, refl, sym, subst, arith}
use Rattle.std.specs.Prelude.{sum_by, nat_lt, is_some, ◌||◌}
use Rattle.std.specs.Option.{option_map_or}
use Rattle.std.proofs.lemmas.List.Sums.{sum_by-cons}
use Rattle.std.proofs.lemmas.Bool.{le-ltb}
use Rattle.mal_base.specs.declared.profile.Profile.{Profile}
use Rattle.mal_base.specs.declared.profile.Reduction.{Reduction}
use Rattle.mal_base.specs.declared.profile.Reduction.TheVariants.{Never, After}
use Rattle.mal_base.specs.Profiles.{policy, counted, may_stand}
use Rattle.mal_base.specs.NumberedClause.{Line}
use Rattle.mal_base.specs.declared.verdict.Verdict.{Verdict}
use Rattle.spec_node.specs.State.{Node, fresh_with, has_profile}
use Rattle.spec_learn.specs.Learning.{line_of}
use Rattle.spec_learn.specs.Refuting.{core_line}
use Rattle.spec_learn.proofs.ProfileLemmas.{sound-small}
use Rattle.spec_learn.proofs.CoreClauseLemmas.{core-small}
use Rattle.spec_search.specs.Step.{Case, Learns, Refutes, Propagates, Drops, Restarts, Contradicts, Assumes, Decides, Ends, case_of, line_by, next_line, after_case, step}
use Rattle.spec_search.specs.Slice.{Sliced, slice, steps_unless, is_over, after_line, used_after, numbers_of, most_numbers}
use Rattle.spec_search.specs.Laws.{CountsRise, LinesFit, SliceGoesOn, StepKeepsProfile, SliceKeepsProfile}
use Rattle.spec_search.proofs.SliceLemmas.{after_line-node, going, steps-keep}
use Rattle.spec_search.proofs.ModelLemmas.{step-leaves}

-- the counts of a node rise by so much at the most
pub record Rise (k : ℕ) (before after : Node) : Type 0 where
  pub serial : after.serial ≤ before.serial + k
  pub conflicts_since_restart : after.conflicts_since_restart ≤ before.conflicts_since_restart + k
  pub restart_number : after.restart_number ≤ before.restart_number + k
  pub conflicts_since_dropping : after.conflicts_since_dropping ≤ before.conflicts_since_dropping + k

counted-more : (r : Reduction) (count : ℕ) → counted r count ≤ count + 1
counted-more Never count = omega arith
counted-more (After most) count = omega arith

pub case-rise : (c : Case) (n : Node) → Rise 1 n (after_case c n)
case-rise (Learns id) n = record { serial = omega arith; conflicts_since_restart = omega arith; restart_number = omega arith; conflicts_since_dropping = counted-more (policy n.profile).reduction n.conflicts_since_dropping }
case-rise (Refutes id) n = record { serial = omega arith; conflicts_since_restart = omega arith; restart_number = omega arith; conflicts_since_dropping = omega arith }
case-rise Propagates n = record { serial = omega arith; conflicts_since_restart = omega arith; restart_number = omega arith; conflicts_since_dropping = omega arith }
case-rise Drops n = record { serial = omega arith; conflicts_since_restart = omega arith; restart_number = omega arith; conflicts_since_dropping = omega arith }
case-rise Restarts n = record { serial = omega arith; conflicts_since_restart = omega arith; restart_number = omega arith; conflicts_since_dropping = omega arith }
case-rise (Contradicts a) n = record { serial = omega arith; conflicts_since_restart = omega arith; restart_number = omega arith; conflicts_since_dropping = omega arith }
case-rise (Assumes a) n = record { serial = omega arith; conflicts_since_restart = omega arith; restart_number = omega arith; conflicts_since_dropping = omega arith }
case-rise (Decides v) n = record { serial = omega arith; conflicts_since_restart = omega arith; restart_number = omega arith; conflicts_since_dropping = omega arith }
case-rise Ends n = record { serial = omega arith; conflicts_since_restart = omega arith; restart_number = omega arith; conflicts_since_dropping = omega arith }

rise-more : (k : ℕ) (n m o : Node) → Rise 1 n m → Rise k m o → Rise (suc k) n o
rise-more k n m o a b = record { serial = omega (arith, a.serial, b.serial); conflicts_since_restart = omega (arith, a.conflicts_since_restart, b.conflicts_since_restart); restart_number = omega (arith, a.restart_number, b.restart_number); conflicts_since_dropping = omega (arith, a.conflicts_since_dropping, b.conflicts_since_dropping) }

steps-rise : (k : ℕ) (over : Bool) (used : ℕ) (n : Node) → Rise k n (steps_unless k over used n).node
steps-rise zero over used n = record { serial = omega arith; conflicts_since_restart = omega arith; restart_number = omega arith; conflicts_since_dropping = omega arith }
steps-rise (suc k) true used n = record { serial = omega arith; conflicts_since_restart = omega arith; restart_number = omega arith; conflicts_since_dropping = omega arith }
steps-rise (suc k) false used n =
    let u : ℕ = used_after used (next_line n) in
    let m : Node = step n in
    subst (Rise (suc k) n) (sym (after_line-node (next_line n) (steps_unless k (is_over u m) u m))) (rise-more k n m (steps_unless k (is_over u m) u m).node (case-rise (case_of n) n) (steps-rise k (is_over u m) u m))

-- a slice raises each count by 1,000 at the most
pub slice-counts : (n : Node) → CountsRise n
unfolding slice
slice-counts n = let r : Rise 1000 n (steps_unless 1000 (is_over 0 n) 0 n).node = steps-rise 1000 (is_over 0 n) 0 n in record { serial = r.serial; conflicts_since_restart = r.conflicts_since_restart; restart_number = r.restart_number; conflicts_since_dropping = r.conflicts_since_dropping }

-- a node that follows a profile follows it after a step
counted-stands : (r : Reduction) (count : ℕ) → may_stand r count ≡ true → may_stand r (counted r count) ≡ true
counted-stands Never count h = h
counted-stands (After most) count h = refl

none-stands : (r : Reduction) → may_stand r 0 ≡ true
none-stands Never = refl
none-stands (After most) = refl

pub fresh-has_profile : (index : ℕ) (profile : Profile) → has_profile (fresh_with index profile) ≡ true
fresh-has_profile index profile = none-stands (policy profile).reduction

case-has_profile : (c : Case) (n : Node) → has_profile n ≡ true → has_profile (after_case c n) ≡ true
case-has_profile (Learns id) n h = counted-stands (policy n.profile).reduction n.conflicts_since_dropping h
case-has_profile (Refutes id) n h = h
case-has_profile Propagates n h = h
case-has_profile Drops n h = none-stands (policy n.profile).reduction
case-has_profile Restarts n h = h
case-has_profile (Contradicts a) n h = h
case-has_profile (Assumes a) n h = h
case-has_profile (Decides v) n h = h
case-has_profile Ends n h = h

pub step-has_profile : StepKeepsProfile
step-has_profile n h = case-has_profile (case_of n) n h

pub slice-has_profile : SliceKeepsProfile
unfolding slice
slice-has_profile n h = steps-keep (λ m. has_profile m ≡ true) (λ m none k. step-has_profile m k) 1000 (is_over 0 n) 0 n refl h

-- a line with so many lines
after_line-few : (k : ℕ) (o : Option Line) (s : Sliced) → length s.lines ≤ k → length (after_line o s).lines ≤ suc k
after_line-few k None s h = omega arith
after_line-few k (Some l) s h = omega arith

steps-few : (k : ℕ) (over : Bool) (used : ℕ) (n : Node) → length (steps_unless k over used n).lines ≤ k
steps-few zero over used n = omega arith
steps-few (suc k) true used n = omega arith
steps-few (suc k) false used n =
    let u : ℕ = used_after used (next_line n) in
    after_line-few k (next_line n) (steps_unless k (is_over u (step n)) u (step n)) (steps-few k (is_over u (step n)) u (step n))

after_line-numbers : (used most : ℕ) (o : Option Line) (s : Sliced) → used_after used o + sum_by numbers_of s.lines ≤ most → used + sum_by numbers_of (after_line o s).lines ≤ most
after_line-numbers used most None s h = omega arith
after_line-numbers used most (Some l) s h = omega (arith, sum_by-cons numbers_of l s.lines)

used-fits : (used most : ℕ) (o : Option Line) → used ≤ most → ((l : Line) → o ≡ Some l → used + numbers_of l ≤ most) → used_after used o ≤ most
used-fits used most None b f = omega arith
used-fits used most (Some l) b f = f l refl

steps-numbers : (k : ℕ) (over : Bool) (used : ℕ) (n : Node) → is_over used n ≡ over → used ≤ most_numbers n.variables → used + sum_by numbers_of (steps_unless k over used n).lines ≤ most_numbers n.variables
steps-numbers zero over used n e b = omega arith
steps-numbers (suc k) true used n e b = omega arith
steps-numbers (suc k) false used n e b =
    let u : ℕ = used_after used (next_line n) in
    let same : (step n).variables ≡ n.variables = (step-leaves n).variables in
    let low : u ≤ most_numbers n.variables = used-fits used (most_numbers n.variables) (next_line n) b (going used n e).fits in
    after_line-numbers used (most_numbers n.variables) (next_line n) (steps_unless k (is_over u (step n)) u (step n))
    (subst (λ (v : ℕ). u + sum_by numbers_of (steps_unless k (is_over u (step n)) u (step n)).lines ≤ most_numbers v) same (steps-numbers k (is_over u (step n)) u (step n) refl (subst (λ (v : ℕ). u ≤ most_numbers v) (sym same) low)))

-- the lines of a slice have room
pub slice-fits : (n : Node) → LinesFit n
unfolding slice
slice-fits n = record { few = steps-few 1000 (is_over 0 n) 0 n; numbers = let r : 0 + sum_by numbers_of (steps_unless 1000 (is_over 0 n) 0 n).lines ≤ most_numbers n.variables = steps-numbers 1000 (is_over 0 n) 0 n refl (omega arith) in omega arith }

over-none : (v : Option Verdict) (b : Bool) → v ≡ None → b ≡ false → (is_some v || b) ≡ false
over-none None b q k = k
over-none (Some x) b q k = absurd (cc)

-- one line always fits
pub slice-goes_on : SliceGoesOn
slice-goes_on n h none = over-none n.verdict (option_map_or (λ l. nat_lt (most_numbers n.variables) (0 + numbers_of l)) (next_line n) false) none (by_case (case_of n))
  where
    small : (id : ℕ) → nat_lt (most_numbers n.variables) (0 + numbers_of (line_of id n)) ≡ false
    small id = le-ltb (most_numbers n.variables) (0 + numbers_of (line_of id n)) (omega (arith, sound-small n id h))

    small-core : (a : ℕ) → nat_lt (most_numbers n.variables) (0 + numbers_of (core_line a n)) ≡ false
    small-core a = le-ltb (most_numbers n.variables) (0 + numbers_of (core_line a n)) (omega (arith, core-small n a h))

    by_case : (c : Case) → option_map_or (λ l. nat_lt (most_numbers n.variables) (0 + numbers_of l)) (line_by c n) false ≡ false
    by_case (Learns id) = small id
    by_case (Refutes id) = small id
    by_case Propagates = refl
    by_case Drops = refl
    by_case Restarts = refl
    by_case (Contradicts a) = small-core a
    by_case (Assumes a) = refl
    by_case (Decides v) = refl
    by_case Ends = refl
