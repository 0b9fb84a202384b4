-- Starts of a job whose slices are within its budgets, and those that have come back.
use Rattle.std.proofs.Common.{◌≡◌, ℕ, ◌+◌, ◌<◌, ◌≤◌, true, ◌&&◌, ◌==◌, nat_lt, List, length, Option, Some, None, inl, inr, ◌⊎◌, refl, sym, ap, subst, arith}
use Rattle.std.specs.Prelude.{slice_set, is_some, is_none}
use Rattle.std.proofs.lemmas.Bool.{and_parts, ltb-true, cases_lt, eq-eqb, ne_eqb}
use Rattle.spec_job.specs.SoloMachine.{Started, Lease, NodeSlot, Slice, SoloMachine, solo_step, place_at, is_for, out_count, is_live, startable}
use Rattle.spec_job.specs.Counts.{runs_in, runs_of, starts_out}
use Rattle.spec_job.proofs.PlacesLemmas.{out-within}
use Rattle.spec_job.proofs.SolvingLemmas.{IsSolvingSolo, lease_of, live-parts}
use Rattle.spec_job.proofs.CountLemmas.{runs-same, runs-set}
use Rattle.spec_job.proofs.SumLemmas.{sum-set, set-beyond}
use Rattle.spec_job.proofs.FewLemmas.{one_if, out_for, one_out, outs_for, none-ahead}
use Rattle.spec_job.proofs.BudgetLemmas.{IsFew, IsBack}
use Rattle.mal_base.specs.NumberedClause.{Line}

none-of : (o : Option Lease) → is_none o ≡ true → o ≡ None
none-of None e = refl
none-of (Some l) e = absurd (cc)

-- a start
started-there : (slices : ℕ) (s : SoloMachine) (i : ℕ) → i < length s.places → startable s i ≡ true → IsFew slices s → IsFew slices (solo_step s (Started i))
started-there slices s i low may h =
    let p : NodeSlot = place_at s i in
    let q : NodeSlot = record p { out = Some (lease_of s i); starts = p.starts + 1 } in
    let c : ℕ = length s.answers in
    let parts = and_parts (is_none p.out) (nat_lt (s.spent + out_count s) s.ask.slices) (and_parts (is_live s && nat_lt i s.volume) (is_none p.out && nat_lt (s.spent + out_count s) s.ask.slices) may).1 in
    let free : p.out ≡ None = none-of p.out parts.0 in
    let room : s.spent + outs_for c s.places < s.ask.slices = ltb-true (s.spent + out_count s) s.ask.slices parts.1 in
    let outs : outs_for c (slice_set s.places i q) + out_for c p ≡ outs_for c s.places + out_for c q = sum-set (out_for c) s.places i q low in
    let before : out_for c p ≡ 0 = ap (λ (o : Option Lease). one_if (is_for c o)) free in
    let after : out_for c q ≡ 1 = ap one_if (eq-eqb c c refl) in
    let starts : starts_out (slice_set s.places i q) + one_out p ≡ starts_out s.places + 1 = sum-set one_out s.places i q low in
    let home : one_out p ≡ 0 = ap (λ (o : Option Lease). one_if (is_some o)) free in
    let runs : runs_of (slice_set s.places i q) ≡ runs_of s.places = runs-same s.places i q refl in
    let live : length s.answers < length s.revisions = live-parts s i may in
    record {
      budget = h.budget;
      shared = omega (arith, outs, before, after, room, h.budget);
      few = omega (arith, outs, before, after, starts, home, runs, h.few);
      idle = λ e. absurd (omega (arith, e, live));
    }

pub started-few : (slices : ℕ) (s : SoloMachine) (i : ℕ) → startable s i ≡ true → IsFew slices s → IsFew slices (solo_step s (Started i))
started-few slices s i may h = by_place (cases_lt i (length s.places))
  where
    q : NodeSlot
    q = record (place_at s i) { out = Some (lease_of s i); starts = (place_at s i).starts + 1 }

    by_place : (i < length s.places) ⊎ (length s.places ≤ i) → IsFew slices (solo_step s (Started i))
    by_place (inl low) = started-there slices s i low may h
    by_place (inr high) = subst (λ (ps : List NodeSlot). IsFew slices (record s { places = ps })) (sym (set-beyond s.places i q high)) h

-- a start that has come back, with so many slices run
module _ (slices n i : ℕ) (s : SoloMachine) (l : Lease) (q : NodeSlot) (log : List Line) (kept : List Slice) (ran : ℕ) (out : (place_at s i).out ≡ Some l) (none : q.out ≡ None) (more : runs_in q.entries ≡ runs_in (place_at s i).entries + n) (h : IsFew slices s) where
  abbrev pub t : SoloMachine
  t = record s { places = slice_set s.places i q; log = log; slices = kept; ran = ran }

  within : i < length s.places
  within = out-within s.places i l out

  outs : (c : ℕ) → outs_for c t.places + one_if (l.revision == c) ≡ outs_for c s.places
  outs c =
      let set : outs_for c t.places + out_for c (place_at s i) ≡ outs_for c s.places + out_for c q = sum-set (out_for c) s.places i q within in
      let old : out_for c (place_at s i) ≡ one_if (l.revision == c) = ap (λ (o : Option Lease). one_if (is_for c o)) out in
      let new : out_for c q ≡ 0 = ap (λ (o : Option Lease). one_if (is_for c o)) none in
      omega (arith, set, old, new)

  starts : starts_out t.places + 1 ≡ starts_out s.places
  starts =
      let set : starts_out t.places + one_out (place_at s i) ≡ starts_out s.places + one_out q = sum-set one_out s.places i q within in
      let old : one_out (place_at s i) ≡ 1 = ap (λ (o : Option Lease). one_if (is_some o)) out in
      let new : one_out q ≡ 0 = ap (λ (o : Option Lease). one_if (is_some o)) none in
      omega (arith, set, old, new)

  runs : runs_of t.places ≡ runs_of s.places + n
  runs = runs-set s.places i n q within more

  -- for an earlier revision
  pub late-few : n ≤ 1 → l.revision < length s.answers → IsFew slices t
  late-few one late =
      let c : ℕ = length s.answers in
      let other : one_if (l.revision == c) ≡ 0 = ap one_if (ne_eqb l.revision c (λ e. absurd (omega (arith, e, late)))) in
      let same : outs_for c t.places + one_if (l.revision == c) ≡ outs_for c s.places = outs c in
      record { budget = h.budget; shared = omega (arith, other, same, h.shared); few = omega (arith, one, other, same, starts, runs, h.few); idle = h.idle }

  own : l.revision ≡ length s.answers → outs_for (length s.answers) t.places + 1 ≡ outs_for (length s.answers) s.places
  own e =
      let is : one_if (l.revision == length s.answers) ≡ 1 = ap one_if (eq-eqb l.revision (length s.answers) e) in
      let fewer : outs_for (length s.answers) t.places + one_if (l.revision == length s.answers) ≡ outs_for (length s.answers) s.places = outs (length s.answers) in
      omega (arith, is, fewer)

  -- for the current one
  pub now-back : n ≤ 1 → l.revision ≡ length s.answers → length s.answers < length s.revisions → IsSolvingSolo s → IsBack slices t
  now-back one e live k =
      let fewer : outs_for (length s.answers) t.places + 1 ≡ outs_for (length s.answers) s.places = own e in
      let ahead : outs_for (length s.answers + 1) s.places ≡ 0 = none-ahead s (length s.answers + 1) k (inl (omega arith)) in
      let next : outs_for (length s.answers + 1) t.places + one_if (l.revision == length s.answers + 1) ≡ outs_for (length s.answers + 1) s.places = outs (length s.answers + 1) in
      record { budget = h.budget; shared = omega (arith, fewer, h.shared); few = omega (arith, one, fewer, starts, runs, h.few); live = live; ahead = omega (arith, next, ahead) }

  -- without a slice
  pub now-few : n ≡ 0 → l.revision ≡ length s.answers → IsFew slices t
  now-few zero-run e =
      let fewer : outs_for (length s.answers) t.places + 1 ≡ outs_for (length s.answers) s.places = own e in
      record { budget = h.budget; shared = omega (arith, fewer, h.shared); few = omega (arith, zero-run, fewer, starts, runs, h.few); idle = h.idle }
