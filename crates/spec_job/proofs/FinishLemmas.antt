-- A finish by its cases, and what answers leave of a machine.
use Rattle.std.proofs.Common.{◌≡◌, ℕ, ◌+◌, ◌-◌, Bool, true, false, cond, ◌==◌, List, [], ◌∷◌, ◌++◌, length, replicate, Option, Some, None, refl}
use Rattle.mal_base.specs.declared.answer.Answer.{Answer}
use Rattle.mal_base.specs.declared.answer.Answer.TheVariants.{Satisfied, Refuted, Spent, OutOfStarts}
use Rattle.mal_base.specs.declared.verdict.Verdict.{Verdict}
use Rattle.mal_base.specs.declared.verdict.Verdict.TheVariants.{Satisfiable, Unsatisfiable}
use Rattle.mal_base.specs.declared.verdict.Outcome.{Outcome}
use Rattle.mal_base.specs.declared.verdict.Outcome.TheVariants.{Ran, Starved, Lost}
use Rattle.spec_node.specs.State.{Node}
use Rattle.spec_node.specs.Model.{model_of}
use Rattle.spec_search.specs.Slice.{Sliced}
use Rattle.spec_job.specs.Journal.{replay}
use Rattle.spec_job.specs.SoloMachine.{Lease, NodeSlot, SoloMachine, with_place, answered, spend, starve, conclude, settled_by, settled, first_empty, is_late, remembered, finished_ran, finished_home, finished_lease, finished}

-- a place at home with the entries that its start added, and the slice that they ran
abbrev pub with_entries : NodeSlot → Lease → NodeSlot
with_entries p l = record p { entries = p.entries ++ l.adds; out = None }

abbrev pub slice_of : SoloMachine → ℕ → NodeSlot → Lease → Sliced
slice_of s i p l = replay s.ask.profile i (p.entries ++ l.adds)

-- the machine with both, before the slice answers anything
abbrev pub ran_home : SoloMachine → ℕ → NodeSlot → Lease → SoloMachine
ran_home s i p l = record (with_place s i (with_entries p l)) { log = s.log ++ (slice_of s i p l).lines; slices = s.slices ++ remembered s l (slice_of s i p l) ∷ []; ran = s.ran + 1 }

-- what the slice answers then
abbrev pub ran_now : SoloMachine → ℕ → NodeSlot → Lease → SoloMachine
ran_now s i p l = conclude (slice_of s i p l).node.verdict (slice_of s i p l).node (ran_home s i p l)

-- each case of a finish
module _ (P : SoloMachine → Type 0) where
  by-late : (s x y : SoloMachine) (l : Lease) → (is_late s l ≡ true → P x) → (is_late s l ≡ false → P y) → P (cond (is_late s l) x y)
  by-late s x y l late now = by_test (is_late s l) refl
    where
      by_test : (b : Bool) → is_late s l ≡ b → P (cond b x y)
      by_test true e = late e
      by_test false e = now e

  pub by-ran : (s : SoloMachine) (i : ℕ) (p : NodeSlot) (l : Lease) → (is_late s l ≡ true → P (ran_home s i p l)) → (is_late s l ≡ false → P (ran_now s i p l)) → P (finished_ran s i p l)
  by-ran s i p l late now = by-late s (ran_home s i p l) (ran_now s i p l) l late now

  pub by-starved : (s : SoloMachine) (i : ℕ) (p : NodeSlot) (l : Lease) → (is_late s l ≡ true → P (finished_home s i p)) → (is_late s l ≡ false → P (starve (finished_home s i p))) → P (finished_lease s i p l Starved)
  by-starved s i p l late now = by-late s (finished_home s i p) (starve (finished_home s i p)) l late now

  pub by-outcome : (s : SoloMachine) (i : ℕ) (p : NodeSlot) (l : Lease) (o : Outcome) → P (finished_ran s i p l) → P (finished_lease s i p l Starved) → P (finished_home s i p) → P (finished_lease s i p l o)
  by-outcome s i p l Ran ran starved home = ran
  by-outcome s i p l Starved ran starved home = starved
  by-outcome s i p l Lost ran starved home = home

  pub by-lease : (s : SoloMachine) (i : ℕ) (p : NodeSlot) (out : Option Lease) (o : Outcome) → P s → ((l : Lease) → out ≡ Some l → P (settled (finished_lease s i p l o))) → P (finished s i p out o)
  by-lease s i p None o none some = none
  by-lease s i p (Some l) o none some = some l refl

-- what holds of a machine however its answers become more, and however its slices spent and its starved starts are counted,
-- holds after a finish where it holds with the place at home
module _ (P : SoloMachine → Type 0) (more : (s : SoloMachine) (answers : List Answer) → P s → P (record s { answers = s.answers ++ answers; spent = 0; starved = 0 })) (counted : (s : SoloMachine) (spent starved : ℕ) → P s → P (record s { spent = spent; starved = starved })) where
  by-test : (b : Bool) (x y : SoloMachine) → P x → P y → P (cond b x y)
  by-test true x y h k = h
  by-test false x y h k = k

  spend-leaves : (s : SoloMachine) → P s → P (spend s)
  spend-leaves s h = by-test (s.spent + 1 == s.ask.slices) (answered s (Spent s.ask.slices)) (record s { spent = s.spent + 1 }) (more s (Spent s.ask.slices ∷ []) h) (counted s (s.spent + 1) s.starved h)

  pub starve-leaves : (s : SoloMachine) → P s → P (starve s)
  starve-leaves s h = by-test (s.starved + 1 == 3) (answered s OutOfStarts) (record s { starved = s.starved + 1 }) (more s (OutOfStarts ∷ []) h) (counted s s.spent (s.starved + 1) h)

  pub conclude-leaves : (v : Option Verdict) (n : Node) (s : SoloMachine) → P s → P (conclude v n s)
  conclude-leaves None n s h = spend-leaves s h
  conclude-leaves (Some Satisfiable) n s h = more s (Satisfied (model_of n) ∷ []) h
  conclude-leaves (Some (Unsatisfiable goal)) n s h = more s (Refuted goal ∷ []) h

  pub settled-leaves : (o : Option ℕ) (s : SoloMachine) → P s → P (settled_by o s)
  settled-leaves None s h = h
  settled-leaves (Some goal) s h = more s (replicate (length s.revisions - length s.answers) (Refuted goal)) h

  lease-leaves : (s : SoloMachine) (i : ℕ) (p : NodeSlot) (l : Lease) (o : Outcome) → P (ran_home s i p l) → P (finished_home s i p) → P (finished_lease s i p l o)
  lease-leaves s i p l o ran home = by-outcome P s i p l o (by-ran P s i p l (λ late. ran) (λ now. conclude-leaves (slice_of s i p l).node.verdict (slice_of s i p l).node (ran_home s i p l) ran)) (by-starved P s i p l (λ late. home) (λ now. starve-leaves (finished_home s i p) home)) home

  pub finished-leaves : (s : SoloMachine) (i : ℕ) (p : NodeSlot) (out : Option Lease) (o : Outcome) → P s → ((l : Lease) → out ≡ Some l → P (ran_home s i p l)) → P (finished_home s i p) → P (finished s i p out o)
  finished-leaves s i p out o h ran home = by-lease P s i p out o h (λ l e. settled-leaves (first_empty (finished_lease s i p l o).log) (finished_lease s i p l o) (lease-leaves s i p l o (ran l e) home))
