-- What a run that was brought to its end comes to, and which leases it lost.
use Rattle.std.proofs.Common.{◌≡◌, ℕ, Bool, true, false, ◌||◌, ◌&&◌, not, List, [], ◌∷◌, flat_map, map, Result, Ok, Err, IfOk, refl, sym, ◌∙◌, ap, subst}
use Rattle.std.specs.List.{All, list_any}
use Rattle.std.proofs.lemmas.List.Elements.{All-head, All-tail}
use Rattle.mal_hall.specs.HallView.{HallView}
use Rattle.mal_history.specs.declared.event.Event as written
use Rattle.mal_posts.specs.declared.cursor.Left.{Left}
use Rattle.mal_pool.specs.Gates.{Stops, StopsSomewhere, LosesByStops}
use Rattle.mal_pool.specs.Posts.{HasRun}
use Rattle.mal_pool.specs.Runs.{IsSettled, left_by}
use Rattle.mal_pool.specs.Testing as testing
use Rattle.mal_pool.specs.Testing.{HasPosts}
use Rattle.mal_pool.proofs.Agreements.{bare-losses}
use Rattle.mal_pool.proofs.Knowing.{posts-known}
use Rattle.mal_pool.proofs.Leavings.{posts-lose-none}
use Rattle.spec_hall.specs.Events.{Event, bare}
use Rattle.spec_hall.specs.Legal.{Legal}
use Rattle.spec_hall.specs.States.{leases, lives, states}
use Rattle.spec_run.specs.Losses.{NoneIsLost, LosesLate, is_loss}
use Rattle.spec_run.proofs.LossLemmas.{none-late, recalled-late}
use Rattle.spec_script.specs.Script.{ScriptedJob, Scripted}

-- where none is lost no gate need stop anybody
pub none_by_stops : (stops : Stops) (h : List Event) → NoneIsLost h → LosesByStops stops h
none_by_stops stops h none = record { stopped = λ some. absurd (let no : false ≡ true = sym none ∙ some in cc); late = none-late h none }

pub alone_by_stops : {E : Type 0} (stops : Stops) (r : Result HallView E) → IfOk r (λ h. NoneIsLost h.events) → IfOk r (λ h. LosesByStops stops h.events)
alone_by_stops stops (Ok h) none = none_by_stops stops h.events none
alone_by_stops stops (Err e) none = tt

-- a history that was brought to its end loses leases late
pub settled-late : (w : ℕ) (js : List ScriptedJob) (left : List Left) (before now : List Event) → NoneIsLost before → IsSettled w js left before now → LosesLate now
settled-late w js left before now none s = recalled-late w s.posted s.lost now (subst NoneIsLost (sym s.posted_is) (posts-lose-none before (flat_map (left_by js) left) none)) s.lost_is s.turns

-- where one of these tells that a gate stopped it, the gate stops somebody
pub some-stopped : {X : Type 0} (f : X → Bool) (A : X → Type 0) (S : Type 0) (xs : List X) → All (λ x. A x × (f x ≡ true → S)) xs → list_any f xs ≡ true → S
some-stopped f A S [] all some = absurd (let no : false ≡ true = some in cc)
some-stopped f A S (x ∷ xs) all some = by_test (f x) refl some (some-stopped f A S xs (All-tail (λ y. A y × (f y ≡ true → S)) x xs all))
  where
    by_test : (b : Bool) → f x ≡ b → (b || list_any f xs) ≡ true → (list_any f xs ≡ true → S) → S
    by_test true is h rest = (All-head (λ y. A y × (f y ≡ true → S)) x xs all).1 is
    by_test false is h rest = rest h

asked : (lost stopped : Bool) → (lost && not stopped) ≡ false → lost ≡ true → stopped ≡ true
asked true true e h = refl
asked true false e h = absurd (let no : true ≡ false = e in cc)
asked false stopped e h = absurd (let no : false ≡ true = h in cc)

-- where leases are lost though nobody tells of a stop a hall does not serve; so in one that serves they are lost by stops
pub lost-asked : {E : Type 0} (r : Result Bool E) (h : List Event) (es : List written.Event) (stopped unasked : Bool) → es ≡ map bare h → unasked ≡ (list_any testing.is_loss es && not stopped) → unasked ≡ false → IfOk r (λ serves. serves ≡ true → list_any is_loss h ≡ true → stopped ≡ true)
lost-asked (Ok serves) h es stopped unasked bares is none = λ _ some. asked (list_any testing.is_loss es) stopped (sym is ∙ none) (ap (list_any testing.is_loss) bares ∙ (bare-losses h ∙ some))
lost-asked (Err e) h es stopped unasked bares is none = tt

pub run-loses : {X : Type 0} (stops : Stops) (A : X → Type 0) (f : X → Bool) (xs ys : List X) (stopped : Bool) (h : List Event) → All (λ x. A x × (f x ≡ true → StopsSomewhere stops)) xs → ys ≡ xs → stopped ≡ list_any f ys → (list_any is_loss h ≡ true → stopped ≡ true) → LosesLate h → LosesByStops stops h
run-loses stops A f xs ys stopped h all same tells told late = record {
  stopped = λ some. some-stopped f A (StopsSomewhere stops) xs all (ap (list_any f) (sym same) ∙ (sym tells ∙ told some));
  late = late;
}

-- a hall that was brought to its end with a script's posts has run it
pub settled-run : (w : ℕ) (s : Scripted) (h : HallView) → h.workers ≡ w → Legal h.workers h.events → HasPosts s h.events → lives (states h.events) ≡ [] → leases h.events ≡ [] → HasRun w s h
settled-run w s h are legal posts answered home = record {
  workers_are = are;
  legal = legal;
  complete = record { posts = posts.posts; answered = answered; home = home; stay = posts.stay };
  known = posts-known s h.events posts;
}
