-- A job that no history names did nothing.
use Rattle.std.proofs.Common.{◌≡◌, ℕ, zero, suc, false, List, [], None, refl, ◌∙◌, ap}
use Rattle.std.specs.List.{list_any}
use Rattle.spec_job.specs.KeyedJob.{Key}
use Rattle.spec_job.specs.Replies.{reply}
use Rattle.spec_job.specs.SoloMachine.{Own, solo}
use Rattle.spec_hall.specs.Events.{Event}
use Rattle.spec_hall.specs.Legal.{Legal}
use Rattle.spec_hall.specs.Own.{is_key, own}
use Rattle.spec_hall.specs.States.{names_of}
use Rattle.spec_hall.proofs.OrderlyLemmas.{legal-orderly}
use Rattle.spec_hall.proofs.StayLemmas.{has-stayed}
use Rattle.spec_live.specs.Laws.{UnknownHasNoRevision}

-- a job whose name never came has no own events
pub nameless-has_none : (workers : ℕ) (history : List Event) (k : Key) → Legal workers history → list_any (is_key k) (names_of history) ≡ false → own k history ≡ []
nameless-has_none workers history k legal none = (legal-orderly workers history legal).unknown k none

-- a machine that did nothing tells of no revision
none-told : (k : Key) (r : ℕ) → reply k r (solo []) ≡ None
none-told k zero = refl
none-told k (suc r) = refl

pub unknown-has_no_revision : UnknownHasNoRevision
unknown-has_no_revision workers history k legal still none =
    let idle = nameless-has_none workers history k legal (ap (list_any (is_key k)) (has-stayed workers history legal still).names ∙ none) in
    (ap (λ (os : List Own). (solo os).revisions) idle, λ r. ap (λ (os : List Own). reply k r (solo os)) idle ∙ none-told k r)
