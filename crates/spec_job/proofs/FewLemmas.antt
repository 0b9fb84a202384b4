-- The slices of a job are no more than the budgets of its revisions.
use Rattle.std.proofs.Common.{◌≡◌, ◌≢◌, ℕ, ◌+◌, ◌*◌, ◌<◌, ◌≤◌, Bool, cond, List, length, Option, Some, None, inl, inr, ◌⊎◌, refl, ap, arith}
use Rattle.std.specs.Prelude.{sum_by, is_some}
use Rattle.std.proofs.lemmas.Bool.{ne_eqb}
use Rattle.std.proofs.lemmas.Nat.{mul-le}
use Rattle.spec_job.specs.SoloMachine.{Lease, NodeSlot, SoloMachine, place_at, is_for}
use Rattle.spec_job.proofs.SolvingLemmas.{IsSolvingSolo}
use Rattle.spec_job.proofs.SumLemmas.{sum-none}

-- whether a start is out for a revision, and whether one is out, counted
abbrev pub one_if : Bool → ℕ
one_if b = cond b 1 0

abbrev pub out_for : ℕ → NodeSlot → ℕ
out_for revision p = one_if (is_for revision p.out)

abbrev pub one_out : NodeSlot → ℕ
one_out p = one_if (is_some p.out)

-- how many starts are out for a revision
abbrev pub outs_for : ℕ → List NodeSlot → ℕ
outs_for revision places = sum_by (out_for revision) places

-- budgets with one more
pub next-budget : (n slices : ℕ) → (n + 1) * slices ≡ n * slices + slices
next-budget n slices = grind arith

pub budgets-more : (n m slices : ℕ) → n < m → n * slices + slices ≤ m * slices
budgets-more n m slices low =
    let most : (n + 1) * slices ≤ m * slices = mul-le (n + 1) slices m slices (omega arith) (omega arith) in
    let next : (n + 1) * slices ≡ n * slices + slices = next-budget n slices in
    omega arith

-- no start is out for a revision after the current one, nor for one that was not posted
none-for : (revision : ℕ) (o : Option Lease) → ((l : Lease) → o ≡ Some l → l.revision ≢ revision) → one_if (is_for revision o) ≡ 0
none-for revision None h = refl
none-for revision (Some l) h = ap one_if (ne_eqb l.revision revision (h l refl))

pub none-ahead : (s : SoloMachine) (revision : ℕ) → IsSolvingSolo s → (length s.answers < revision) ⊎ (length s.revisions ≤ revision) → outs_for revision s.places ≡ 0
none-ahead s revision k side = sum-none (out_for revision) s.places (λ i low. none-for revision (place_at s i).out (λ l e. by_side i l low e side))
  where
    by_side : (i : ℕ) (l : Lease) → i < length s.places → (place_at s i).out ≡ Some l → (length s.answers < revision) ⊎ (length s.revisions ≤ revision) → l.revision ≢ revision
    by_side i l low e (inl more) q =
        let most : length s.places ≤ 64 = k.count in
        let reached : l.revision ≤ length s.answers = ((k.ready i (omega arith)).leased l e).reached in
        absurd (omega arith)
    by_side i l low e (inr more) q =
        let most : length s.places ≤ 64 = k.count in
        let posted : l.revision < length s.revisions = ((k.ready i (omega arith)).leased l e).posted in
        absurd (omega arith)
