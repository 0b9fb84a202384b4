-- A run's own history replays to its output.
use Rattle.std.proofs.Common.{◌≡◌, ℕ, Bool, true, false, cond, List, [], ◌∷◌, map, filter, Option, Some, Ok, Err, refl, sym, ◌∙◌, ap, subst}
use Rattle.std.specs.List.{list_any}
use Rattle.std.proofs.lemmas.Bool.{or_parts}
use Rattle.spec_hall.specs.Events.{Event, Open, Revise, Reask, Close, Balance, Start, Finish, Exchange, Leave, Arrive, bare, moves}
use Rattle.spec_hall.proofs.FormedLemmas.{legal-is_formed}
use Rattle.spec_hall.proofs.KeyLemmas.{is_text-Decides}
use Rattle.mal_base.specs.declared.replay_fault.ReplayFault.TheVariants.{OutOfMemory}
use Rattle.spec_run.specs.ReplayLaws.{RunIsFormed, RunIsReplied, RunIsReplayed}
use Rattle.spec_run.specs.Replayed.{IsReplay}
use Rattle.spec_run.specs.Accounted.{event_by}
use Rattle.spec_run.proofs.PostLemmas.{AreScripted, posts-scripted}
use Rattle.spec_run.proofs.ReplayLemmas.{replay-is_decided}
use Rattle.spec_run.specs.Complete.{is_post_of}
use Rattle.spec_script.specs.Script.{Scripted}

-- what each tenant posts is the script's
abbrev PostsAreScripted : Scripted → List Event → Type 0
PostsAreScripted s events = (tenant : List ℕ) → AreScripted s (filter (is_post_of tenant) events)

-- after the first event too
rest-scripted : (s : Scripted) (e : Event) (es : List Event) → PostsAreScripted s (e ∷ es) → PostsAreScripted s es
rest-scripted s e es are tenant = by_test (is_post_of tenant e) (are tenant)
  where
    by_test : (b : Bool) → AreScripted s (cond b (e ∷ filter (is_post_of tenant) es) (filter (is_post_of tenant) es)) → AreScripted s (filter (is_post_of tenant) es)
    by_test true whole = cc
    by_test false rest = rest

-- an event that moves no job is the script's where what its tenant posts is
first-scripted : (s : Scripted) (e : Event) (es : List Event) → moves e ≡ false → PostsAreScripted s (e ∷ es) → event_by s (bare e) ≡ Some e
first-scripted s (Open k ask) es stay are = refl
first-scripted s (Revise k number r) es stay are =
    let mine : AreScripted s (Revise k number r ∷ filter (is_post_of k.tenant) es) =
    subst (λ (b : Bool). AreScripted s (cond b (Revise k number r ∷ filter (is_post_of k.tenant) es) (filter (is_post_of k.tenant) es))) ((is_text-Decides k.tenant k.tenant).1 refl) (are k.tenant) in
    cc
first-scripted s (Reask k w) es stay are = refl
first-scripted s (Close k) es stay are = refl
first-scripted s (Balance shares) es stay are = refl
first-scripted s (Start k index worker) es stay are = refl
first-scripted s (Finish k index worker outcome) es stay are = refl
first-scripted s (Exchange k) es stay are = refl
first-scripted s (Leave k) es stay are = absurd (cc)
first-scripted s (Arrive k brought) es stay are = absurd (cc)

-- so a history in which no job moves is the script's where what each tenant posts is
all-scripted : (s : Scripted) (events : List Event) → list_any moves events ≡ false → PostsAreScripted s events → AreScripted s events
all-scripted s [] stay are = refl
all-scripted s (e ∷ es) stay are =
    let parts = or_parts (moves e) (list_any moves es) stay in
    ap (λ (o : Option Event). o ∷ map (event_by s) (map bare es)) (first-scripted s e es parts.0 are)
    ∙ ap (λ (os : List (Option Event)). Some e ∷ os) (all-scripted s es parts.1 (rest-scripted s e es are))

pub run-is_replied : RunIsReplied
run-is_replied workers s history log out formed run =
    let posts : PostsAreScripted s history = λ tenant. subst (λ (es : List Event). AreScripted s es) (sym (run.complete.posts tenant)) (posts-scripted s tenant formed) in
    record {
      events = history;
      legal = record { written = all-scripted s history run.complete.stay posts; legal = run.legal };
      complete = run.complete;
      text_is = run.out_text;
    }

pub run-is_replayed : RunIsReplayed
run-is_replayed workers s history log out line_of answer formed run is fed =
    let told : IsReplay workers s (map bare history) line_of (Ok out) = run-is_replied workers s history log out formed run in
    replay-is_decided workers s (map bare history) line_of answer (Ok out) is told fed ok-fed
  where
    ok-fed : Ok out ≡ Err OutOfMemory → ⊥
    ok-fed e = absurd (cc)

-- what a run writes down is in form
pub run-is_formed : RunIsFormed
run-is_formed w s history log out some bound run few = legal-is_formed w history some bound run.legal run.complete.stay few
