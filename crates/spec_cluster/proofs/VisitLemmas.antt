-- The events of a stay.
use Rattle.std.proofs.Common.{◌≡◌, Bool, true, false, ◌||◌, List, [], ◌∷◌, ◌++◌, refl, sym, ◌∙◌, ap, append-nil}
use Rattle.std.specs.List.{list_any}
use Rattle.std.proofs.lemmas.Bool.{both_ways, or_parts}
use Rattle.spec_job.specs.KeyedJob.{Key}
use Rattle.spec_hall.specs.Events.{Event, Leave}
use Rattle.spec_hall.specs.Own.{leaves}
use Rattle.spec_hall.proofs.KeyLemmas.{is_key-same}
use Rattle.spec_cluster.specs.Visits.{unless, until_leave}

-- once a job has left, what its hall does later is no part of the stay
pub stay-ends : (k : Key) (es later : List Event) → list_any (leaves k) es ≡ true → until_leave k (es ++ later) ≡ until_leave k es
stay-ends k [] later gone = absurd (both_ways false refl gone)
stay-ends k (e ∷ es) later gone = by_test (leaves k e) gone (stay-ends k es later)
  where
    by_test : (b : Bool) → (b || list_any (leaves k) es) ≡ true → (list_any (leaves k) es ≡ true → until_leave k (es ++ later) ≡ until_leave k es) → e ∷ unless b (until_leave k (es ++ later)) ≡ e ∷ unless b (until_leave k es)
    by_test true q rest = refl
    by_test false q rest = ap (λ (xs : List Event). e ∷ xs) (rest q)

-- while it has not left, all is
pub stay-goes_on : (k : Key) (es later : List Event) → list_any (leaves k) es ≡ false → until_leave k (es ++ later) ≡ es ++ until_leave k later
stay-goes_on k [] later here = refl
stay-goes_on k (e ∷ es) later here =
    let parts = or_parts (leaves k e) (list_any (leaves k) es) here in
    ap (λ (b : Bool). e ∷ unless b (until_leave k (es ++ later))) parts.0 ∙ ap (λ (xs : List Event). e ∷ xs) (stay-goes_on k es later parts.1)

pub stay-all : (k : Key) (es : List Event) → list_any (leaves k) es ≡ false → until_leave k es ≡ es
stay-all k es here = ap (until_leave k) (sym (append-nil es)) ∙ (stay-goes_on k es [] here ∙ append-nil es)

-- its leave is the last event
pub stay-left : (k : Key) (es : List Event) → list_any (leaves k) es ≡ false → until_leave k (es ++ Leave k ∷ []) ≡ es ++ Leave k ∷ []
stay-left k es here = stay-goes_on k es (Leave k ∷ []) here ∙ ap (λ (b : Bool). es ++ Leave k ∷ unless b []) (is_key-same k)
