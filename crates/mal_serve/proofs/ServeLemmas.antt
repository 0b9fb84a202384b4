-- From what the parts of a live service did to what the service did.
use Rattle.std.proofs.Common.{◌≡◌, ℕ, false, List, [], Option, Some, None, Result, Ok, Err, inl, refl, sym, ◌∙◌, ap, subst}
use Rattle.std.specs.List.{list_any}
use Rattle.std.proofs.KnownBytes.{Appends-nil, Consumes-nil}
use Rattle.std.proofs.lemmas.Bool.{or_parts}
use Rattle.std.proofs.lemmas.List.Folds.{list_any-append}
use Rattle.mal_feed.specs.Coming.{after_posts, nothing_came, reading_on}
use Rattle.mal_live.specs.Telling.{Tells, TellsInPart}
use Rattle.mal_live.specs.declared.telling.Teller.{Teller}
use Rattle.mal_live.proofs.ToldLemmas.{in_part-grows}
use Rattle.mal_parts.specs.Reading.{HasRead, closed}
use Rattle.mal_parts.specs.Writing.{HasTold}
use Rattle.mal_parts.specs.declared.reading.ReadEnd.{ReadEnd}
use Rattle.mal_parts.specs.declared.reading.ReadEnd.TheVariants as reading
use Rattle.mal_serve.specs.Finishing.{HasFinished, IsToldInPart, IsToldWhole}
use Rattle.mal_serve.specs.Said.{said_in, said_of}
use Rattle.mal_serve.specs.Serving.{HasServed, IsServed, IsServedInPart, WasRead, ends_so}
use Rattle.mal_serve.specs.declared.finishing.Finished.{Finished}
use Rattle.mal_serve.specs.declared.finishing.Finished.TheVariants as finished
use Rattle.mal_serve.proofs.SaidLemmas.{record-keeps, record-posts, record-stays}
use Rattle.mal_service.specs.Passes.{LeavesHall}
use Rattle.mal_service.specs.Record.{Entry, Record, StandsFor, events_of}
use Rattle.mal_turn.specs.Numbers.{part}
use Rattle.mal_turn.specs.Rule.{IsWhole}
use Rattle.mal_turn.specs.declared.view.View.{View}
use Rattle.mal_turn.proofs.Wholes.{whole_sees}
use Rattle.spec_feed.specs.declared.fault.FeedFault.{FeedFault}
use Rattle.spec_feed.specs.declared.post.FeedPost.{FeedPost}
use Rattle.spec_hall.specs.Driven.{GrowsByTurns}
use Rattle.spec_hall.specs.Events.{Event, moves}
use Rattle.spec_hall.specs.Legal.{Legal}
use Rattle.spec_live.specs.Live.{IsFront, live_text, posts_in, told_text}
use Rattle.spec_live.proofs.Order.{told-none}
use Rattle.spec_live.proofs.TextLemmas.{front-more, front-none, front-same}
use Rattle.spec_live.proofs.TurnLemmas.{turns-are_legal, turns-post_nothing}
use Rattle.spec_run.proofs.Evidence.{evident_by_law}
use Rattle.spec_run.specs.Losses.{NoneIsLost}

-- a legal history has these posts; no job came or left, and no lease was lost
pub record Holds (workers : ℕ) (posts : List FeedPost) (history : List Event) : Type 0 where
  pub legal : Legal workers history
  pub posted : posts_in history ≡ posts
  pub stay : list_any moves history ≡ false
  pub none_lost : NoneIsLost history

-- the history of a closed service is what its whole pass has seen
pub left-seen : (w : ℕ) (history : List Event) (v : View Entry) → IsWhole v.of → LeavesHall w history v → history ≡ events_of v.seen
left-seen w history v whole left = (whole_sees (StandsFor w) history v whole left).2.1

-- and has what was posted with that pass
pub left-holds : (w : ℕ) (history : List Event) (v : View Entry) → IsWhole v.of → LeavesHall w history v → Holds w (said_of v) history
left-holds w history v whole left =
    let sees = whole_sees (StandsFor w) history v whole left in
    let mine : part v.of.all v.seen ≡ v.seen = subst (λ (log : Record). part v.of.all log ≡ log) sees.0 sees.1 in
    let legal = sees.2.0 in
    subst (Holds w (said_of v)) (sym sees.2.1)
    (record {
      legal = legal.history;
      posted = record-posts w v.seen legal ∙ ap said_in (sym mine);
      stay = record-stays w v.seen legal;
      none_lost = record-keeps w v.seen legal;
    })

-- turns keep it
pub turned-holds : (w : ℕ) (posts : List FeedPost) (before now : List Event) → Holds w posts before → GrowsByTurns w before now → Holds w posts now
turned-holds w posts before now h turns =
    let unposted = turns-post_nothing w before now turns in
    record {
      legal = turns-are_legal w before now turns h.legal;
      posted = unposted.posts ∙ h.posted;
      stay = unposted.moved ∙ h.stay;
      none_lost = unposted.none_lost h.none_lost;
    }

-- what was read with a pass with which nothing had been posted, and no other had since
pub read-all : (before after all : List FeedPost) (left left_now : Option (List ℕ)) (end : ReadEnd) → HasRead before after left left_now end → before ≡ [] → all ≡ after → HasRead [] all left left_now end
read-all before after all left left_now end read none same =
    subst (λ (ps : List FeedPost). HasRead ps all left left_now end) none (subst (λ (ps : List FeedPost). HasRead before ps left left_now end) (sym same) read)

-- what was told of a history is told of one that goes on
pub told-longer : (w : ℕ) (seen later : List Event) (o : Option Teller) (log log_now out out_now : Option (List ℕ)) → HasTold w seen o log log_now out out_now → IsFront seen later → HasTold w later o log log_now out out_now
told-longer w seen later o log log_now out out_now told front = (told.0, front-more told.0 seen later told.1 front, told.2)

-- what was told in part of a front of a history was told in part of the history
grown-part : (w : ℕ) (past history : List Event) → IsFront past history → Legal w history → list_any moves history ≡ false → (log log_now out out_now : Option (List ℕ)) → TellsInPart w past log log_now out out_now → TellsInPart w history log log_now out out_now
grown-part w past history front legal still log log_now out out_now part =
    let later = front.0 in
    let parts = or_parts (list_any moves past) (list_any moves later) (sym (list_any-append moves past later) ∙ (sym (ap (list_any moves) front.1) ∙ still)) in
    subst (λ (h : List Event). TellsInPart w h log log_now out out_now) (sym front.1)
    (in_part-grows w past later (subst (Legal w) front.1 legal) parts.1 log log_now out out_now part)

-- what was read from the first post on
pub was-read : (said : List FeedPost) (left left_now : Option (List ℕ)) (end : ReadEnd) → HasRead [] said left left_now end → WasRead left left_now end said
was-read said left left_now end h =
    subst (WasRead left left_now end) (sym h.posted) (record { taken = h.taken; consumed = h.consumed; ends = h.ends })

-- of a front of a text, a front was posted
front-posted : (posts now : List FeedPost) → now ≡ posts → IsFront now posts
front-posted posts now is = subst (IsFront now) is (front-same now)

module _ (w : ℕ) (posts : List FeedPost) (history : List Event) (holds : Holds w posts history) (log log_now out out_now : Option (List ℕ)) where
  -- a history that was told in part
  part-served : (left left_now : Option (List ℕ)) (end : ReadEnd) → WasRead left left_now end posts → TellsInPart w history log log_now out out_now → IsServedInPart w left left_now log log_now out out_now
  part-served left left_now end read part = record {
    end = end;
    posts = posts;
    read = read;
    log_text = part.log_text;
    out_text = part.out_text;
    serving = record {
      history = history;
      told = part.told;
      legal = holds.legal;
      posted = front-posted posts (posts_in history) holds.posted;
      replies = part.replies;
      log_text = part.log_front;
      out_text = part.out_front;
    };
    log_gained = part.log_gained;
    out_gained = part.out_gained;
  }

-- a history that was brought to its end and told whole was served
whole-served : (w : ℕ) (posts : List FeedPost) (history : List Event) (left left_now : Option (List ℕ)) (end : ReadEnd) (log log_now out out_now : Option (List ℕ))
    → Holds w posts history → WasRead left left_now end posts → IsToldWhole w history log log_now out out_now → IsServed w left left_now end log log_now out out_now
whole-served w posts history left left_now end log log_now out out_now holds read whole =
    let turned = turned-holds w posts history whole.now holds whole.turns in
    record {
      posts = posts;
      read = read;
      log_text = live_text w whole.now;
      out_text = told_text whole.now whole.told;
      serving = record {
        history = whole.now;
        told = whole.told;
        serves = record {
          legal = turned.legal;
          posted = turned.posted;
          stay = turned.stay;
          none_lost = turned.none_lost;
          answered = whole.answered;
          evident = λ k. evident_by_law w whole.now turned.legal k;
        };
        replies = whole.replies;
        log_text = refl;
        out_text = refl;
      };
      log_gained = whole.log_text;
      out_gained = whole.out_text;
    }

-- what was served was served in part
served-in_part : (w : ℕ) (left left_now : Option (List ℕ)) (end : ReadEnd) (log log_now out out_now : Option (List ℕ)) → IsServed w left left_now end log log_now out out_now → IsServedInPart w left left_now log log_now out out_now
served-in_part w left left_now end log log_now out out_now s = record {
  end = end;
  posts = s.posts;
  read = s.read;
  log_text = s.log_text;
  out_text = s.out_text;
  serving = record {
    history = s.serving.history;
    told = s.serving.told;
    legal = s.serving.serves.legal;
    posted = front-posted s.posts (posts_in s.serving.history) s.serving.serves.posted;
    replies = s.serving.replies.some;
    log_text = front-posted-text s.log_text (live_text w s.serving.history) s.serving.log_text;
    out_text = front-posted-text s.out_text (told_text s.serving.history s.serving.told) s.serving.out_text;
  };
  log_gained = s.log_gained;
  out_gained = s.out_gained;
}
  where
    front-posted-text : (text whole : List ℕ) → text ≡ whole → IsFront text whole
    front-posted-text text whole is = subst (IsFront text) is (front-same text)

turned-part : (w : ℕ) (posts : List FeedPost) (history : List Event) (left left_now : Option (List ℕ)) (end : ReadEnd) (log log_now out out_now : Option (List ℕ))
    → Holds w posts history → WasRead left left_now end posts → IsToldInPart w history log log_now out out_now → IsServedInPart w left left_now log log_now out out_now
turned-part w posts history left left_now end log log_now out out_now holds read part =
    part-served w posts part.now (turned-holds w posts history part.now holds part.turns) log log_now out out_now left left_now end read part.part

-- a history that was brought to its end so was served so
pub finished-served : (w : ℕ) (posts : List FeedPost) (history : List Event) (left left_now : Option (List ℕ)) (log log_now out out_now : Option (List ℕ)) (end : ReadEnd) (f : Finished)
    → Holds w posts history → WasRead left left_now end posts → HasFinished w history log log_now out out_now f → HasServed w left left_now log log_now out out_now (ends_so end f)
finished-served w posts history left left_now log log_now out out_now reading.AtEnd finished.Whole holds read whole = whole-served w posts history left left_now reading.AtEnd log log_now out out_now holds read whole
finished-served w posts history left left_now log log_now out out_now (reading.Fault line fault) finished.Whole holds read whole = whole-served w posts history left left_now (reading.Fault line fault) log log_now out out_now holds read whole
finished-served w posts history left left_now log log_now out out_now reading.Failed finished.Whole holds read whole = whole-served w posts history left left_now reading.Failed log log_now out out_now holds read whole
finished-served w posts history left left_now log log_now out out_now reading.Broken finished.Whole holds read whole =
    served-in_part w left left_now reading.Broken log log_now out out_now (whole-served w posts history left left_now reading.Broken log log_now out out_now holds read whole)
finished-served w posts history left left_now log log_now out out_now reading.OutOfMemory finished.Whole holds read whole =
    served-in_part w left left_now reading.OutOfMemory log log_now out out_now (whole-served w posts history left left_now reading.OutOfMemory log log_now out out_now holds read whole)
finished-served w posts history left left_now log log_now out out_now end finished.Broken holds read part = turned-part w posts history left left_now end log log_now out out_now holds read part
finished-served w posts history left left_now log log_now out out_now end finished.OutOfMemory holds read part = turned-part w posts history left left_now end log log_now out out_now holds read part

-- one of which a front was told in part was served in part
pub told-served : (w : ℕ) (posts : List FeedPost) (history past : List Event) (left left_now : Option (List ℕ)) (end : ReadEnd) (log log_now out out_now : Option (List ℕ))
    → Holds w posts history → WasRead left left_now end posts → IsFront past history → TellsInPart w past log log_now out out_now → IsServedInPart w left left_now log log_now out out_now
told-served w posts history past left left_now end log log_now out out_now holds read front part =
    part-served w posts history holds log log_now out out_now left left_now end read (grown-part w past history front holds.legal holds.stay log log_now out out_now part)

-- reading on without a post
on-nothing : (r : Result (List FeedPost) (ℕ × FeedFault)) → r ≡ after_posts [] r
on-nothing (Ok posts) = refl
on-nothing (Err fault) = refl

-- nothing was read where memory ran out at once
nothing-read : (left : Option (List ℕ)) → WasRead left left reading.OutOfMemory []
nothing-read left = record {
  taken = [];
  consumed = Consumes-nil left;
  ends = inl ([], record { read = []; rest = []; taken_is = refl; after = nothing_came; posted = record { goes = λ more. on-nothing (reading_on nothing_came more); inside = refl } }, front-none (closed []));
}

-- and nothing was served
pub nothing-served : (w : ℕ) (left log out : Option (List ℕ)) → IsServedInPart w left left log log out out
unfolding posts_in
nothing-served w left log out = record {
  end = reading.OutOfMemory;
  posts = [];
  read = nothing-read left;
  log_text = [];
  out_text = [];
  serving = record {
    history = [];
    told = [];
    legal = tt;
    posted = front-none [];
    replies = told-none [];
    log_text = front-none (live_text w []);
    out_text = front-none (told_text [] []);
  };
  log_gained = Appends-nil log;
  out_gained = Appends-nil out;
}

module _ (w : ℕ) (history : List Event) (v : View Entry) (whole : IsWhole v.of) (closes : LeavesHall w history v) (left left_now log_first log out_first out : Option (List ℕ)) (end : ReadEnd) (read : HasRead [] (said_of v) left left_now end) where
  -- where the writer told a front of what a closed service leaves, and what was left was told then
  pub concludes : (size : ℕ) (o : Option Teller) (t : Teller) (f : Finished) (log_now out_now : Option (List ℕ)) → size ≡ w → o ≡ Some t → HasTold w (events_of v.seen) o log_first log out_first out
      → ((past : List Event) (log_then out_then : Option (List ℕ)) → IsFront past history → list_any moves history ≡ false → Tells size past t log_then log out_then out → HasFinished size history log_then log_now out_then out_now f)
      → HasServed w left left_now log_first log_now out_first out_now (ends_so end f)
  concludes size o t f log_now out_now same is told finishes =
      let holds = left-holds w history v whole closes in
      let mine : HasTold w (events_of v.seen) (Some t) log_first log out_first out = subst (λ (x : Option Teller). HasTold w (events_of v.seen) x log_first log out_first out) is told in
      let front : IsFront mine.0 history = subst (λ (h : List Event). IsFront mine.0 h) (sym (left-seen w history v whole closes)) mine.1 in
      let tells : Tells size mine.0 t log_first log out_first out = subst (λ (n : ℕ). Tells n mine.0 t log_first log out_first out) (sym same) mine.2 in
      finished-served w (said_of v) history left left_now log_first log_now out_first out_now end f holds (was-read (said_of v) left left_now end read)
      (subst (λ (n : ℕ). HasFinished n history log_first log_now out_first out_now f) same (finishes mine.0 log_first out_first front holds.stay tells))

  -- where it told a front in part, since a sink failed
  pub breaks-off : (o : Option Teller) → o ≡ None → HasTold w (events_of v.seen) o log_first log out_first out → IsServedInPart w left left_now log_first log out_first out
  breaks-off o is told =
      let holds = left-holds w history v whole closes in
      let mine : HasTold w (events_of v.seen) None log_first log out_first out = subst (λ (x : Option Teller). HasTold w (events_of v.seen) x log_first log out_first out) is told in
      told-served w (said_of v) history mine.0 left left_now end log_first log out_first out holds (was-read (said_of v) left left_now end read)
      (subst (λ (h : List Event). IsFront mine.0 h) (sym (left-seen w history v whole closes)) mine.1) mine.2

-- nothing was served where nothing changed
pub untouched-served : (w : ℕ) (left left_now log log_now out out_now : Option (List ℕ)) → left_now ≡ left → log_now ≡ log → out_now ≡ out → IsServedInPart w left left_now log log_now out out_now
untouched-served w left left_now log log_now out out_now a b c =
    subst (λ (x : Option (List ℕ)). IsServedInPart w left x log log_now out out_now) (sym a)
    (subst (λ (x : Option (List ℕ)). IsServedInPart w left left log x out out_now) (sym b)
    (subst (λ (x : Option (List ℕ)). IsServedInPart w left left log log out x) (sym c) (nothing-served w left log out)))
