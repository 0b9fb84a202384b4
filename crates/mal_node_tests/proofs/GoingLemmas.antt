-- Nodes that are run by whole slices.
use Rattle.std.proofs.Common.{◌≡◌, ℕ, ◌+◌, ◌≤◌, ◌^◌, true, length, refl, arith}
use Rattle.mal_revision.specs.Posted.{Posted, is_posted}
use Rattle.spec_node.specs.State.{Node, fresh}
use Rattle.spec_node.specs.Load.{loaded}
use Rattle.spec_search.specs.Laws.{CountsRise}
use Rattle.spec_search.specs.Slice.{slice}
use Rattle.spec_search.proofs.SoundLemmas.{slice-sound}
use Rattle.spec_search.proofs.CountLemmas.{slice-counts, slice-has_profile}
use Rattle.mal_freeze.specs.Imaged.{IsImage}
use Rattle.mal_freeze.proofs.SoundLemmas.{sound-image}
use Rattle.mal_node_tests.specs.Going.{HasRun}
use Rattle.mal_node_tests.proofs.FirstLemmas.{sound-first}

-- such a node is in the form of an image
pub run-image : (k : ℕ) (n : Node) → k ≤ 10000 → HasRun k n → IsImage n
run-image k n few h = sound-image n h.sound (omega (arith, h.serial, few)) h.profile

-- one slice more
pub run-more : (k : ℕ) (n : Node) → HasRun k n → HasRun (k + 1) (slice n).node
run-more k n h =
    let rise : CountsRise n = slice-counts n in
    record { sound = slice-sound n h.sound; conflicts_since_restart = omega (arith, rise.conflicts_since_restart, h.conflicts_since_restart); restart_number = omega (arith, rise.restart_number, h.restart_number); serial = omega (arith, rise.serial, h.serial); conflicts_since_dropping = omega (arith, rise.conflicts_since_dropping, h.conflicts_since_dropping); profile = slice-has_profile n h.profile }

-- the first node that has loaded a revision
pub run-first : (r : Posted) → is_posted r ≡ true → 1 + length r.clauses ≤ 2 ^ 32 → HasRun 0 (loaded r 1 (fresh 0))
run-first r p b =
    let n : Node = loaded r 1 (fresh 0) in
    let conflicts_since_restart : n.conflicts_since_restart ≡ 0 = refl in
    let restart_number : n.restart_number ≡ 1 = refl in
    let serial : n.serial ≡ 0 = refl in
    let conflicts_since_dropping : n.conflicts_since_dropping ≡ 0 = refl in
    record { sound = sound-first 0 r (omega arith) p b; conflicts_since_restart = omega (arith, conflicts_since_restart); restart_number = omega (arith, restart_number); serial = omega (arith, serial); conflicts_since_dropping = omega (arith, conflicts_since_dropping); profile = refl }
