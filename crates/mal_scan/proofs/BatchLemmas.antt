use Rattle.std.proofs.Common.{◌≡◌, ℕ, ◌-◌, ◌≤◌, true, false, List, length, take, refl, arith, ltb, eqb}
use Rattle.std.proofs.lemmas.Bool.Decides.{nat_tests}
use Rattle.std.proofs.lemmas.List.{length-take-le, take-take}
use Rattle.mal_base.specs.declared.trail_entry.TrailEntry.{TrailEntry}
use Rattle.mal_base.specs.NumberedClause.{NumberedClause}
use Rattle.spec_node.specs.Batch.{is_in_batch}
use Rattle.spec_node.specs.Value.{open_count}

not_zero : (n : ℕ) → (n ≡ 0 → ⊥) → eqb n 0 ≡ false
not_zero n = grind (arith, nat_tests)

-- a clause with one literal left is in the batch where it had more before the last entry
pub in_batch : (trail : List TrailEntry) (n : ℕ) (c : NumberedClause) → n ≤ length trail → (n ≡ 0 → ⊥) → open_count (take n trail) c.lits ≡ 1 → ltb 1 (open_count (take (n - 1) trail) c.lits) ≡ is_in_batch (take n trail) c
in_batch trail n c l z o =
    let fits : n - 1 ≤ n = omega arith in
    rw (length-take-le n trail l, not_zero n z, o, take-take (n - 1) n trail fits) refl
