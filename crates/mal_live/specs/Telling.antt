-- What was told so far: a history was written to a log, and replies to an output.
use Rattle.std.specs.Prelude.{◌≡◌, ℕ, ◌+◌, List, length, if◌then◌else◌, Option}
use Rattle.std.specs.BTreeMap as tree
use Rattle.std.specs.Io.KnownBytes.{Appends}
use Rattle.std.specs.Cmp.Lexicographic.{slice_cmp}
use Rattle.std.specs.Map.{count_at}
use Rattle.std.specs.declared.cmp.Ordering.{Ordering}
use Rattle.std.specs.Ordering.{nat_cmp, ordering_then}
use Rattle.mal_base.specs.declared.key.Key.{Key}
use Rattle.mal_live.specs.declared.telling.Teller.{Teller}
use Rattle.spec_hall.specs.Events.{Event}
use Rattle.spec_hall.specs.Own.{is_key}
use Rattle.spec_live.specs.Live.{AreTold, IsFront, Told, live_text, told_text, told_to}

-- how keys are ordered
abbrev pub key_cmp : Key → Key → Ordering
key_cmp a b = ordering_then (slice_cmp nat_cmp a.tenant b.tenant) (slice_cmp nat_cmp a.job b.job)

-- how many replies to a job were told
abbrev pub told_at : Teller → Key → ℕ
told_at t k = count_at (tree.get key_cmp t.counts) k

-- one more reply was told, to this job
abbrev pub IsToldOnce : Teller → Teller → Key → Type 0
IsToldOnce before now key = (k : Key) → told_at now k ≡ (if is_key k key then told_at before k + 1 else told_at before k)

-- what a teller keeps of what was told: how many events were written, and how many replies to each job
pub record Keeps (t : Teller) (history : List Event) (told : List Told) : Type 0 where
  pub written : t.written ≡ length history
  pub counts : (k : Key) → told_at t k ≡ length (told_to k told)

-- a history of so many workers was told: the log gained its text, and the output replies of it
pub record Tells (workers : ℕ) (history : List Event) (t : Teller) (log log_now out out_now : Option (List ℕ)) : Type 0 where
  pub told : List Told
  pub kept : Keeps t history told
  pub replies : AreTold history told
  pub log_text : Appends log log_now (live_text workers history)
  pub out_text : Appends out out_now (told_text history told)

-- the same as far as the log and the output took it: each gained a front of these texts
pub record TellsInPart (workers : ℕ) (history : List Event) (log log_now out out_now : Option (List ℕ)) : Type 0 where
  pub told : List Told
  pub log_text : List ℕ
  pub out_text : List ℕ
  pub replies : AreTold history told
  pub log_front : IsFront log_text (live_text workers history)
  pub out_front : IsFront out_text (told_text history told)
  pub log_gained : Appends log log_now log_text
  pub out_gained : Appends out out_now out_text
