use Rattle.std.proofs.Common.{◌≡◌, ℕ, zero, suc, ◌+◌, ◌≤◌, Bool, true, false, ◌||◌, Option, Some, None, is_some, refl, sym, subst}
use Rattle.std.specs.Prelude.{nat_lt}
use Rattle.std.specs.Option.{option_map_or}
use Rattle.std.proofs.lemmas.Bool.{ltb-false}
use Rattle.mal_base.specs.NumberedClause.{Line}
use Rattle.mal_base.specs.declared.verdict.Verdict.{Verdict}
use Rattle.spec_node.specs.State.{Node}
use Rattle.spec_search.specs.Step.{next_line, step}
use Rattle.spec_search.specs.Slice.{Sliced, steps_unless, is_over, after_line, used_after, numbers_of, most_numbers}

-- the node that comes with a line is the node
pub after_line-node : (o : Option Line) (s : Sliced) → (after_line o s).node ≡ s.node
after_line-node None s = refl
after_line-node (Some l) s = refl

-- a slice that goes on has no verdict, and its next line fits
pub record GoesOn (used : ℕ) (n : Node) : Type 0 where
  pub none : n.verdict ≡ None
  pub fits : (l : Line) → next_line n ≡ Some l → used + numbers_of l ≤ most_numbers n.variables

or-none : (a b : Bool) → (a || b) ≡ false → (a ≡ false) × (b ≡ false)
or-none true b h = absurd (cc)
or-none false b h = (refl, h)

pub going : (used : ℕ) (n : Node) → is_over used n ≡ false → GoesOn used n
going used n h =
    let parts = or-none (is_some n.verdict) (option_map_or (λ l. nat_lt (most_numbers n.variables) (used + numbers_of l)) (next_line n) false) h in
    record { none = none-from n.verdict parts.0; fits = λ l q. ltb-false (most_numbers n.variables) (used + numbers_of l) (subst (λ (o : Option Line). option_map_or (λ x. nat_lt (most_numbers n.variables) (used + numbers_of x)) o false ≡ false) q parts.1) }
  where
    none-from : (o : Option Verdict) → is_some o ≡ false → o ≡ None
    none-from None q = refl
    none-from (Some v) q = absurd (cc)

-- what each step keeps, the steps of a slice keep
pub steps-keep : (P : Node → Type 0) → ((n : Node) → n.verdict ≡ None → P n → P (step n)) → (k : ℕ) (over : Bool) (used : ℕ) (n : Node) → is_over used n ≡ over → P n → P (steps_unless k over used n).node
steps-keep P f zero over used n e h = h
steps-keep P f (suc k) true used n e h = h
steps-keep P f (suc k) false used n e h =
    let u : ℕ = used_after used (next_line n) in
    let m : Node = step n in
    subst P (sym (after_line-node (next_line n) (steps_unless k (is_over u m) u m))) (steps-keep P f k (is_over u m) u m refl (f n (going used n e).none h))
