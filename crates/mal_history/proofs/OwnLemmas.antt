-- What an event tells of a job.
use Rattle.std.proofs.Common.{◌≡◌, ℕ, Bool, List, Option, Some, None, refl, ap}
use Rattle.mal_history.specs.declared.event.Event.{Event}
use Rattle.mal_history.specs.declared.event.Event.TheVariants.{Open, Revise, Reask, Close, Balance, Start, Finish, Exchange, Leave, Arrive}
use Rattle.mal_history.specs.Own.{OwnSoFar, is_of, is_own, other_step, own_event, own_step, tells}

same-told : (b : Bool) (x e : Event) (told : OwnSoFar) → ◌≡◌ {A = Option Event} (Some x) (Some e) → tells b x told ≡ tells b e told
same-told b x e told h = let same : x ≡ e = cc in ap (λ (y : Event). tells b y told) same

-- an event of a job is told as its own
pub own_told : (tenant job : List ℕ) (told : OwnSoFar) (event e : Event) → own_event tenant job event ≡ Some e → own_step tenant job told event ≡ tells (is_own tenant job event) e told
own_told tenant job told (Open t j ask) e h = same-told (is_of tenant job t j) (Open tenant job ask) e told h
own_told tenant job told (Revise t j n) e h = same-told (is_of tenant job t j) (Revise tenant job n) e told h
own_told tenant job told (Reask t j w) e h = same-told (is_of tenant job t j) (Reask tenant job w) e told h
own_told tenant job told (Close t j) e h = same-told (is_of tenant job t j) (Close tenant job) e told h
own_told tenant job told (Start t j i w) e h = same-told (is_of tenant job t j) (Start tenant job i 1) e told h
own_told tenant job told (Finish t j i w o) e h = same-told (is_of tenant job t j) (Finish tenant job i 1 o) e told h
own_told tenant job told (Exchange t j) e h = same-told (is_of tenant job t j) (Exchange tenant job) e told h
own_told tenant job told (Balance ss) e h = absurd (cc)
own_told tenant job told (Leave t j) e h = absurd (cc)
own_told tenant job told (Arrive t j) e h = absurd (cc)

-- and another one as itself
pub other_told : (tenant job : List ℕ) (told : OwnSoFar) (event : Event) → own_event tenant job event ≡ None → own_step tenant job told event ≡ other_step tenant job told event
other_told tenant job told (Open t j ask) h = absurd (cc)
other_told tenant job told (Revise t j n) h = absurd (cc)
other_told tenant job told (Reask t j w) h = absurd (cc)
other_told tenant job told (Close t j) h = absurd (cc)
other_told tenant job told (Start t j i w) h = absurd (cc)
other_told tenant job told (Finish t j i w o) h = absurd (cc)
other_told tenant job told (Exchange t j) h = absurd (cc)
other_told tenant job told (Balance ss) h = refl
other_told tenant job told (Leave t j) h = refl
other_told tenant job told (Arrive t j) h = refl
