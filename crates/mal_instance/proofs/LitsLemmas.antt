-- What is known of literals that are read.
use Rattle.std.proofs.Common.{◌≡◌, ℕ, ◌≤◌, Bool, true, false, cond, nat_lt, List, length, Result, Ok, Err, refl, ap, arith}
use Rattle.std.proofs.lemmas.Bool.Decides.{nat_tests}
use Rattle.mal_base.specs.declared.line_fault.LineFault.{LineFault}
use Rattle.spec_script.proofs.Inversions.{ok_is}
use Rattle.mal_instance.specs.Reading.{LitsFault, Exceeds, wrong, at_most}

pub wrong_ok : {A : Type 0} (r : Result A LineFault) (x : A) → wrong r ≡ Ok x → r ≡ Ok x
wrong_ok (Ok y) x e = let h : y ≡ x = cc in rw h refl
wrong_ok (Err d) x e = absurd (cc)

abbrev lits_read : List ℕ → Result (List ℕ) LitsFault
lits_read lits = Ok lits

-- as many literals as may be
pub few-at_most : (most : ℕ) (lits : List ℕ) → length lits ≤ most → at_most most lits ≡ Ok lits
few-at_most most lits few = ap (λ (b : Bool). cond b (Err Exceeds) (lits_read lits)) (not_more most (length lits) few)
  where
    not_more : (m n : ℕ) → n ≤ m → nat_lt m n ≡ false
    not_more m n low = grind (arith, nat_tests)

pub at_most-few : (most : ℕ) (lits found : List ℕ) → at_most most lits ≡ Ok found → (length lits ≤ most) × (lits ≡ found)
at_most-few most lits found e = by_test (nat_lt most (length lits)) refl e
  where
    not_more : (m n : ℕ) → nat_lt m n ≡ false → n ≤ m
    not_more m n low = grind (arith, nat_tests)

    by_test : (b : Bool) → nat_lt most (length lits) ≡ b → cond b (Err Exceeds) (lits_read lits) ≡ Ok found → (length lits ≤ most) × (lits ≡ found)
    by_test true q e = absurd (cc)
    by_test false q e = (not_more most (length lits) q, ok_is lits found e)
