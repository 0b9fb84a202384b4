-- Where no worker is stopped, no lease is lost.
use Rattle.std.proofs.Common.{◌≡◌, Bool, true, false, refl}
use Rattle.std.specs.List.{list_any}
use Rattle.mal_answer.specs.Laws.{NoneStopsNoneLost}
use Rattle.spec_run.specs.Losses.{is_loss}

never : (b : Bool) → (b ≡ true → ⊥) → b ≡ false
never true other = absurd (other refl)
never false other = refl

pub none-lost : NoneStopsNoneLost
none-lost stops workers s log out run unstopped = never (list_any is_loss run.ran.history) (λ some. unstopped (run.lost some))
