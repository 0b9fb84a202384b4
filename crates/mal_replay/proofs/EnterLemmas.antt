-- A history that is entered event by event, and then judged.
use Rattle.std.proofs.Common.{◌≡◌, ℕ, ◌+◌, ◌<◌, Bool, false, List, [], ◌∷◌, ◌++◌, length, map, take, get_or, Option, Some, refl, sym, ◌∙◌, ap, subst, arith}
use Rattle.std.specs.Prelude.{IsTrue, ◌↔◌}
use Rattle.std.proofs.lemmas.Bool.{both_ways}
use Rattle.std.proofs.lemmas.List.{map-append, take_all}
use Rattle.std.proofs.lemmas.Option.{slice_get_read}
use Rattle.mal_hall.specs.Applied.{HasApplied, IsInside, IsRefused}
use Rattle.mal_hall.specs.HallView.{HallView}
use Rattle.mal_history.specs.Written.{Written}
use Rattle.mal_history.specs.declared.event.Event as written
use Rattle.mal_pool.specs.Posts.{HasRun}
use Rattle.mal_pool.proofs.Knowing.{posts-known}
use Rattle.mal_replay.specs.Replaying.{AreReplies, HasReplayed}
use Rattle.spec_hall.specs.Events.{Event}
use Rattle.spec_hall.specs.Legal.{Allowed, Legal}
use Rattle.spec_hall.specs.States.{leases, lives, states}
use Rattle.spec_run.proofs.Evidence.{evident_by_law}
use Rattle.spec_run.proofs.PostLemmas.{lines-posted, posted-lines, written-stays}
use Rattle.spec_run.specs.PostLines.{HavePosts}
use Rattle.spec_run.specs.Replayed.{IsFirstRefused, IsLacking, IsLegal, IsRefusedAt}
use Rattle.spec_run.specs.Accounted.{AreWritten, event_by, posted_in}
use Rattle.spec_run.proofs.PostingLemmas.{take-one}
use Rattle.spec_run.specs.Complete.{IsComplete}
use Rattle.spec_run.specs.Run.{replies}
use Rattle.spec_script.specs.Formed.{IsScript}
use Rattle.mal_base.specs.Limits.{limits}
use Rattle.spec_script.specs.Script.{Scripted}

-- one event more was entered
pub replayed-more : (s : Scripted) (h : Written) (n : ℕ) (old now : HallView) (event : written.Event) → HasReplayed s h n old → n < length h.events → event ≡ get_or h.events n event → now.workers ≡ old.workers → HasApplied old.workers old.events (posted_in s event) event now.events → IsInside now → HasReplayed s h (n + 1) now
replayed-more s h n old now event is low read workers applied inside = record { workers = workers ∙ is.workers; events = grown; inside = inside }
  where
    grown : AreWritten s (take (n + 1) h.events) now.events
    grown =
        ap (map (event_by s)) (take-one h.events n event low read)
        ∙ (map-append (event_by s) (take n h.events) (event ∷ [])
        ∙ (ap (λ (os : List (Option Event)). os ++ event_by s event ∷ []) is.events
        ∙ (ap (λ (o : Option Event). map Some old.events ++ o ∷ []) applied.given_is
        ∙ sym (ap (map Some) applied.entered.grown ∙ map-append Some old.events (applied.event ∷ [])))))

-- the first one is refused
pub refused-at : (s : Scripted) (h : Written) (n line : ℕ) (line_of : ℕ → ℕ) (old : HallView) (event : written.Event) → HasReplayed s h n old → Legal old.workers old.events → n < length h.events → event ≡ get_or h.events n event → IsRefused old.workers old.events (posted_in s event) event → line ≡ line_of n → IsRefusedAt h.workers s h.events line_of line
refused-at s h n line line_of old event is legal low read refused line_is = record { place = n; first = first; line_is = line_is }
  where
    first : IsFirstRefused h.workers s h.events n
    first = record {
      past = old.events;
      before = record { written = is.events; legal = subst (λ (w : ℕ). Legal w old.events) is.workers legal };
      line = event;
      at = slice_get_read h.events (length h.events) n event refl low read;
      refused = λ e given may. refused e given (subst (λ (w : ℕ). Allowed w old.events e) (sym is.workers) may);
    }

-- all were entered
pub all-legal : (s : Scripted) (h : Written) (hall : HallView) → HasReplayed s h (length h.events) hall → Legal hall.workers hall.events → IsLegal h.workers s h.events hall.events
all-legal s h hall is legal = record {
  written = subst (λ (es : List written.Event). AreWritten s es hall.events) (take_all (length h.events) h.events (omega arith)) is.events;
  legal = subst (λ (w : ℕ). Legal w hall.events) is.workers legal;
}

pub lacks-posts : (s : Scripted) (h : Written) (hall : HallView) → HasReplayed s h (length h.events) hall → Legal hall.workers hall.events → (HavePosts s h.events → ⊥) → IsLacking h.workers s h.events
lacks-posts s h hall is legal other =
    let all = all-legal s h hall is legal in
    record { events = hall.events; legal = all; lacking = λ complete. other (posted-lines s h.events hall.events all.written complete.posts) }

pub is-complete : (s : Scripted) (h : Written) (hall : HallView) → IsScript limits s → HasReplayed s h (length h.events) hall → Legal hall.workers hall.events → lives (states hall.events) ≡ [] → leases hall.events ≡ [] → HavePosts s h.events → IsComplete s hall.events
is-complete s h hall formed is legal answered home have =
    let written = (all-legal s h hall is legal).written in
    record { posts = lines-posted s h.events hall.events formed written have; answered = answered; home = home; stay = written-stays s h.events hall.events written }

pub has-run : (s : Scripted) (hall : HallView) → Legal hall.workers hall.events → IsComplete s hall.events → (w : ℕ) × HasRun w s hall
has-run s hall legal complete = (hall.workers, record { workers_are = refl; legal = legal; complete = complete; known = posts-known s hall.events (record { posts = complete.posts; stay = complete.stay }) })

pub replied : (s : Scripted) (h : Written) (hall : HallView) (text : List ℕ) → HasReplayed s h (length h.events) hall → Legal hall.workers hall.events → IsComplete s hall.events → text ≡ replies s hall.events → AreReplies h.workers s h.events text
replied s h hall text is legal complete told =
    let all = all-legal s h hall is legal in
    record { replied = record { events = hall.events; legal = all; complete = complete; text_is = told }; evident = evident_by_law h.workers hall.events all.legal }

-- what a test says that failed
pub not-passed : {P : Type 0} (b : Bool) → IsTrue b ↔ P → b ≡ false → P → ⊥
not-passed b e q p = both_ways b q (e.1 p)
