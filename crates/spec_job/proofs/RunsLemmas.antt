-- A job that is opened once runs no more slices than its budgets.
use Rattle.std.proofs.Common.{◌≡◌, ℕ, ◌+◌, ◌*◌, ◌<◌, ◌≤◌, Bool, true, false, List, [], ◌∷◌, ◌++◌, length, Option, Some, None, inl, inr, ◌⊎◌, refl, arith, length-append}
use Rattle.std.specs.List.{list_any}
use Rattle.std.proofs.lemmas.Bool.{or_parts, ltb-true, cases_lt}
use Rattle.mal_base.specs.Asks.{Terms}
use Rattle.mal_base.specs.declared.verdict.Outcome.{Outcome}
use Rattle.mal_base.specs.declared.verdict.Outcome.TheVariants.{Ran, Starved, Lost}
use Rattle.spec_search.specs.Slice.{Sliced}
use Rattle.spec_job.specs.SoloMachine.{Own, Opened, Revised, Reasked, Closed, Volume, Started, Finished, Exchanged, Lease, NodeSlot, SoloMachine, solo, solo_step, place_at, first_empty, is_late, finished_home, finished_lease, finished, exchanged, marked_from}
use Rattle.spec_job.specs.Runnable.{MayHappen, IsRunnable}
use Rattle.spec_job.specs.Counts.{runs_in, runs_of, starts_out, is_opening, RunsAreFew}
use Rattle.spec_job.proofs.PushLemmas.{events-keep}
use Rattle.spec_job.proofs.FinishLemmas.{with_entries, slice_of, ran_home, ran_now, by-ran, by-starved}
use Rattle.spec_job.proofs.PlacesLemmas.{out-within}
use Rattle.spec_job.proofs.SolvingLemmas.{IsSolvingSolo, out-leased}
use Rattle.spec_job.proofs.SolvedLemmas.{lease-solving, in-time}
use Rattle.spec_job.proofs.PostingLemmas.{posted-solving}
use Rattle.mal_revision.specs.Posted.{Posted}
use Rattle.spec_job.proofs.KeptLemmas.{MachineInvariant, step-kept, opened-kept}
use Rattle.spec_job.proofs.LowLemmas.{IsLowSolo}
use Rattle.spec_job.proofs.CountLemmas.{runs-marked}
use Rattle.spec_job.proofs.CountingLemmas.{step-low, unopened-low}
use Rattle.spec_job.proofs.SumLemmas.{sum-marked}
use Rattle.spec_job.proofs.FewLemmas.{out_for, one_out, outs_for, next-budget}
use Rattle.spec_job.proofs.LowLemmas.{adds-run}
use Rattle.spec_job.proofs.BudgetLemmas.{IsFew, conclude-few, starve-few, settled-few}
use Rattle.mal_base.specs.NumberedClause.{Line}
use Rattle.spec_job.proofs.TurnLemmas.{started-few, late-few, now-back, now-few}

late-now : (s : SoloMachine) (l : Lease) → is_late s l ≡ true → l.revision < length s.answers
late-now s l e = ltb-true l.revision (length s.answers) e

-- a start that ended, by its outcome
module _ (slices i : ℕ) (s : SoloMachine) (l : Lease) (out : (place_at s i).out ≡ Some l) (k : IsSolvingSolo s) (h : IsFew slices s) where
  live : length s.answers < length s.revisions ⊎ (l.revision < length s.answers)
  live = by_order (cases_lt l.revision (length s.answers))
    where
      by_order : (l.revision < length s.answers) ⊎ (length s.answers ≤ l.revision) → length s.answers < length s.revisions ⊎ (l.revision < length s.answers)
      by_order (inl late) = inr late
      by_order (inr now) = let posted : l.revision < length s.revisions = (out-leased s i l out k).posted in inl (omega arith)

  current : is_late s l ≡ false → l.revision ≡ length s.answers
  current e = in-time s l (out-leased s i l out k).reached e

  open_now : is_late s l ≡ false → length s.answers < length s.revisions
  open_now e = let posted : l.revision < length s.revisions = (out-leased s i l out k).posted in let now : l.revision ≡ length s.answers = current e in omega arith

  home-few : IsFew slices (finished_home s i (place_at s i))
  home-few = by_late (is_late s l) refl
    where
      q : NodeSlot
      q = record (place_at s i) { out = None }

      same : runs_in q.entries ≡ runs_in (place_at s i).entries + 0
      same = omega arith

      by_late : (b : Bool) → is_late s l ≡ b → IsFew slices (finished_home s i (place_at s i))
      by_late true e = late-few slices 0 i s l q s.log s.slices s.ran out refl same h (omega arith) (late-now s l e)
      by_late false e = now-few slices 0 i s l q s.log s.slices s.ran out refl same h refl (current e)

  starved-few : IsFew slices (finished_lease s i (place_at s i) l Starved)
  starved-few =
      let same : runs_in (place_at s i).entries ≡ runs_in (place_at s i).entries + 0 = omega arith in
      by-starved (IsFew slices) s i (place_at s i) l (λ late. home-few) (λ e. starve-few slices (finished_home s i (place_at s i)) (now-back slices 0 i s l (record (place_at s i) { out = None }) s.log s.slices s.ran out refl same h (omega arith) (current e) (open_now e) k) home-few)

  ran-few : runs_in ((place_at s i).entries ++ l.adds) ≡ runs_in (place_at s i).entries + 1 → IsFew slices (finished_lease s i (place_at s i) l Ran)
  ran-few one = by-ran (IsFew slices) s i (place_at s i) l (λ e. late-few slices 1 i s l q log (ran_home s i (place_at s i) l).slices (s.ran + 1) out refl one h (omega arith) (late-now s l e)) now
    where
      q : NodeSlot
      q = with_entries (place_at s i) l

      ran : Sliced
      ran = slice_of s i (place_at s i) l

      log : List Line
      log = s.log ++ ran.lines

      now : is_late s l ≡ false → IsFew slices (ran_now s i (place_at s i) l)
      now e = conclude-few slices ran.node.verdict ran.node (ran_home s i (place_at s i) l) (now-back slices 1 i s l q log (ran_home s i (place_at s i) l).slices (s.ran + 1) out refl one h (omega arith) (current e) (open_now e) k)

lease-few : (slices i : ℕ) (s : SoloMachine) (l : Lease) (o : Outcome) → (place_at s i).out ≡ Some l → IsSolvingSolo s → IsLowSolo s → IsFew slices s → IsFew slices (finished_lease s i (place_at s i) l o)
lease-few slices i s l Ran out k low h =
    let within : i < length s.places = out-within s.places i l out in
    let most : length s.places ≤ 64 = low.count in
    ran-few slices i s l out k h (adds-run (runs_of s.places) i (place_at s i).entries l ((low.places_low i (omega arith)).out l out))
lease-few slices i s l Starved out k low h = starved-few slices i s l out k h
lease-few slices i s l Lost out k low h = home-few slices i s l out k h

finished-few : (slices i : ℕ) (s : SoloMachine) (out : Option Lease) (o : Outcome) → (place_at s i).out ≡ out → IsSolvingSolo s → IsLowSolo s → IsFew slices s → IsFew slices (finished s i (place_at s i) out o)
finished-few slices i s None o e k low h = h
finished-few slices i s (Some l) o e k low h = let ended : SoloMachine = finished_lease s i (place_at s i) l o in settled-few slices (first_empty ended.log) ended (lease-solving s i l o e k) (lease-few slices i s l o e k low h)

exchanged-few : (slices : ℕ) (s : SoloMachine) → IsFew slices s → IsFew slices (exchanged s)
exchanged-few slices s h =
    let outs : outs_for (length s.answers) (marked_from s.volume (length s.log) 0 s.places) ≡ outs_for (length s.answers) s.places = sum-marked (out_for (length s.answers)) (λ m p. refl) s.volume (length s.log) 0 s.places in
    let starts : starts_out (marked_from s.volume (length s.log) 0 s.places) ≡ starts_out s.places = sum-marked one_out (λ m p. refl) s.volume (length s.log) 0 s.places in
    let runs : runs_of (marked_from s.volume (length s.log) 0 s.places) ≡ runs_of s.places = runs-marked s.volume (length s.log) 0 s.places in
    record { budget = h.budget; shared = omega (arith, outs, h.shared); few = omega (arith, outs, starts, runs, h.few); idle = h.idle }

posted-few : (slices : ℕ) (s : SoloMachine) (r : Posted) → IsSolvingSolo s → IsFew slices s → IsFew slices (record s { revisions = s.revisions ++ r ∷ [] })
posted-few slices s r k h =
    let long : length (s.revisions ++ r ∷ []) ≡ length s.revisions + 1 = length-append s.revisions (r ∷ []) in
    let order : length s.answers ≤ length s.revisions = k.order in
    record { budget = h.budget; shared = h.shared; few = h.few; idle = λ e. absurd (omega (arith, e, long, order)) }

step-few : (slices : ℕ) (s : SoloMachine) (o : Own) → MayHappen s o → is_opening o ≡ false → MachineInvariant s → IsLowSolo s → IsFew slices s → IsFew slices (solo_step s o)
step-few slices s (Opened ask) may once k low h = absurd (cc)
step-few slices s (Revised r) may once k low h = settled-few slices (first_empty s.log) (record s { revisions = s.revisions ++ r ∷ [] }) (posted-solving s r may k.solving) (posted-few slices s r k.solving h)
step-few slices s (Reasked w) may once k low h = record { budget = h.budget; shared = h.shared; few = h.few; idle = h.idle }
step-few slices s Closed may once k low h = record { budget = h.budget; shared = h.shared; few = h.few; idle = h.idle }
step-few slices s (Volume v) may once k low h = record { budget = h.budget; shared = h.shared; few = h.few; idle = h.idle }
step-few slices s (Started i) may once k low h = started-few slices s i may h
step-few slices s (Finished i o) may once k low h = finished-few slices i s (place_at s i).out o refl k.solving low h
step-few slices s Exchanged may once k low h = exchanged-few slices s h

-- a machine within its budgets, and what is kept of any
pub record IsWithin (slices : ℕ) (s : SoloMachine) : Type 0 where
  pub kept : MachineInvariant s
  pub low : IsLowSolo s
  pub few : IsFew slices s

pub step-within : (slices : ℕ) (s : SoloMachine) (o : Own) → MayHappen s o → is_opening o ≡ false → IsWithin slices s → IsWithin slices (solo_step s o)
step-within slices s o may once h = record { kept = step-kept s o may h.kept; low = step-low s o h.low; few = step-few slices s o may once h.kept h.low h.few }

pub events-within : (slices : ℕ) (past events : List Own) → IsRunnable past events → list_any is_opening events ≡ false → IsWithin slices (solo past) → IsWithin slices (solo (past ++ events))
events-within slices past events may once h = events-keep (IsWithin slices) (λ before os. IsRunnable before os × (list_any is_opening os ≡ false)) (λ before o os q k.
    let parts = or_parts (is_opening o) (list_any is_opening os) q.1 in
    (step-within slices (solo before) o q.0.0 parts.0 k, (q.0.1, parts.1))) past events (may, once) h

pub opened-within : (ask : Terms) → IsWithin ask.slices (solo (Opened ask ∷ []))
opened-within ask = record {
  kept = opened-kept ask;
  low = unopened-low;
  few = record { budget = refl; shared = omega arith; few = omega arith; idle = λ e. refl };
}

within-few : (slices : ℕ) (s : SoloMachine) → IsFew slices s → runs_of s.places + starts_out s.places ≤ (length s.answers + 1) * slices
within-few slices s h =
    let next : (length s.answers + 1) * slices ≡ length s.answers * slices + slices = next-budget (length s.answers) slices in
    omega (arith, next, h.few, h.shared)

pub runs-are_few : RunsAreFew
runs-are_few ask own h = within-few ask.slices (solo (Opened ask ∷ own)) (events-within ask.slices (Opened ask ∷ []) own h.runnable.1 h.once (opened-within ask)).few
