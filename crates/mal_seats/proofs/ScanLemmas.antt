use Rattle.std.proofs.Common.{◌≡◌, ℕ, ◌+◌, ◌-◌, ◌<◌, Bool, true, false, if◌then◌else◌, fold, Option, sym, ◌∙◌, ap}
use Rattle.spec_node.specs.Load.{counted}
use Rattle.spec_job.specs.SoloMachine.{SoloMachine, place_at, startable}
use Rattle.spec_hall.specs.Seats.{pick_node}
use Rattle.spec_hall.specs.States.{Candidate, fewer}
use Rattle.spec_hall.proofs.PickLemmas.{pick-more}

-- a node that may start
pub picked-then : (job : ℕ) (s : SoloMachine) (best now : Option Candidate) (i starts : ℕ) (may : Bool) → may ≡ startable s i → may ≡ true → starts ≡ (place_at s i).starts → now ≡ fewer best (record { job = job; index = i; starts = starts }) → now ≡ pick_node job s best i
picked-then job s best now i starts may is on count next =
    next
    ∙ (ap (λ (n : ℕ). fewer best (record { job = job; index = i; starts = n })) count
    ∙ sym (ap (λ (b : Bool). if b then fewer best (record { job = job; index = i; starts = (place_at s i).starts }) else best) (sym is ∙ on)))

-- one that may not
pub picked-else : (job : ℕ) (s : SoloMachine) (best : Option Candidate) (i : ℕ) (may : Bool) → may ≡ startable s i → may ≡ false → best ≡ pick_node job s best i
picked-else job s best i may is off = sym (ap (λ (b : Bool). if b then fewer best (record { job = job; index = i; starts = (place_at s i).starts }) else best) (sym is ∙ off))

-- what is picked of a job from an index on
pub picks-more : (job : ℕ) (s : SoloMachine) (best now all : Option Candidate) (i : ℕ) → i < s.volume → now ≡ pick_node job s best i → fold (pick_node job s) best (counted i (s.volume - i)) ≡ all → fold (pick_node job s) now (counted (i + 1) (s.volume - (i + 1))) ≡ all
picks-more job s best now all i within is whole =
    ap (λ (o : Option Candidate). fold (pick_node job s) o (counted (i + 1) (s.volume - (i + 1)))) is
    ∙ (sym (pick-more job s best i s.volume within) ∙ whole)
