-- The first starts of a node of one revision.
use Rattle.std.proofs.Common.{◌≡◌, ℕ, ◌+◌, ◌<◌, ◌≤◌, ◌^◌, true, [], ◌∷◌, length, refl, arith}
use Rattle.std.proofs.lemmas.List.Elements.{All-nil}
use Rattle.mal_base.specs.declared.profile.Profile.TheVariants.{Plain}
use Rattle.mal_base.specs.NumberedClause.{NumberedClause}
use Rattle.mal_revision.specs.Posted.{Posted, is_posted}
use Rattle.spec_node.specs.State.{Node, fresh}
use Rattle.spec_node.specs.Load.{loaded}
use Rattle.spec_node.specs.Laws.{AreNewNumbers}
use Rattle.spec_node.specs.Sound.{IsSound}
use Rattle.spec_node.proofs.PostedLemmas.{posted-literals}
use Rattle.spec_node.proofs.SoundLemmas.{fresh-sound, loaded-sound}
use Rattle.spec_job.specs.Journal.{Load, Run, replay}
use Rattle.mal_suspend.specs.Replaying.{MayAllReplay}

new-numbers : (i : ℕ) (r : Posted) → 1 + length r.clauses ≤ 2 ^ 32 → AreNewNumbers r 1 (fresh i)
new-numbers i r b = record { some = omega arith; above = All-nil (λ (c : NumberedClause). c.id < 2 ^ 32 → c.id < 1); below = b }

pub sound-first : (i : ℕ) (r : Posted) → i ≤ 63 → is_posted r ≡ true → 1 + length r.clauses ≤ 2 ^ 32 → IsSound (loaded r 1 (fresh i))
sound-first i r l p b = loaded-sound r 1 (fresh i) p (posted-literals r p) (new-numbers i r b) (fresh-sound i l)

-- a node at its first start may load a revision and run a slice
pub first-may : (i : ℕ) (r : Posted) → i ≤ 63 → is_posted r ≡ true → 1 + length r.clauses ≤ 2 ^ 32 → MayAllReplay (replay Plain i []) (Load r 1 ∷ Run ∷ [])
first-may i r l p b =
    let n : Node = loaded r 1 (fresh i) in
    let conflicts_since_restart : n.conflicts_since_restart ≡ 0 = refl in
    let restart_number : n.restart_number ≡ 1 = refl in
    let serial : n.serial ≡ 0 = refl in
    let conflicts_since_dropping : n.conflicts_since_dropping ≡ 0 = refl in
    (record { follows = (p, new-numbers i r b); low = tt }, (record { follows = (sound-first i r l p b, refl); low = record { conflicts_since_restart = omega (arith, conflicts_since_restart); restart_number = omega (arith, restart_number); serial = omega (arith, serial); conflicts_since_dropping = omega (arith, conflicts_since_dropping) } }, tt))
