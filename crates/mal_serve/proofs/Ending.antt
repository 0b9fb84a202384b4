-- A history that is brought to its end is told whole.
use Rattle.std.proofs.Common.{◌≡◌, ℕ, suc, ◌+◌, ◌<◌, ◌≤◌, Bool, true, false, cond, ◌||◌, List, [], ◌∷◌, ◌++◌, length, map, drop, fold, Option, Some, None, refl, sym, ◌∙◌, ap, subst, arith}
use Rattle.std.specs.Prelude.{All, MatchOption}
use Rattle.std.specs.Io.KnownBytes.{Appends}
use Rattle.std.specs.List.{list_any}
use Rattle.std.proofs.lemmas.Bool.{or_parts}
use Rattle.std.proofs.lemmas.List.{drop-map}
use Rattle.std.proofs.lemmas.List.Elements.{All-head, All-tail, All-weaker}
use Rattle.std.proofs.lemmas.List.Folds.{list_any-append}
use Rattle.mal_history.specs.Text.{event_words}
use Rattle.mal_history.specs.declared.event.Event as written
use Rattle.mal_io.specs.Moves.{GotPrefix}
use Rattle.mal_live.specs.Telling.{IsToldOnce, Keeps, Tells, TellsInPart, told_at}
use Rattle.mal_live.specs.declared.telling.Teller.{Teller}
use Rattle.mal_live.proofs.ToldLemmas.{in_part-grows, tells-in_part, tells-news, tells-news_in_part}
use Rattle.mal_service.specs.News.{lines_of_events}
use Rattle.mal_serve.specs.Finishing.{HasToldAll, HasToldOpened, IsToldInPart, IsToldWhole, opened_by, untold}
use Rattle.mal_serve.proofs.Answering.{all-answered, later-none, reply-low, reply-none, told-low}
use Rattle.spec_job.specs.KeyedJob.{Key, KeyedJob}
use Rattle.spec_job.specs.Replies.{reply}
use Rattle.spec_job.specs.SoloMachine.{solo}
use Rattle.spec_hall.specs.Driven.{GrowsByTurns}
use Rattle.spec_hall.specs.Events.{Event, Open, Revise, Reask, Close, Balance, Start, Finish, Exchange, Leave, Arrive, bare, moves}
use Rattle.spec_hall.specs.Legal.{Legal, job_of}
use Rattle.spec_hall.specs.Own.{is_key, own}
use Rattle.spec_hall.specs.States.{keys_of, keys_step, lives, states}
use Rattle.spec_hall.proofs.KeyLemmas.{is_key-Decides, is_key-same}
use Rattle.spec_hall.proofs.RunnableLemmas.{find-titled}
use Rattle.spec_text.specs.Lines.{line_of}
use Rattle.spec_live.specs.Live.{AreAllTold, AreTold, IsFront, Told, event_lines, reply_in, to, told_to}
use Rattle.spec_live.proofs.TextLemmas.{front-more}
use Rattle.spec_live.proofs.TurnLemmas.{turns-are_legal, turns-post_nothing}
use Rattle.spec_live.proofs.UnknownLemmas.{unknown-has_no_revision}

-- a job of which no further reply can be told stays one, as more are told
pub told-stays : (h : List Event) (before now : Teller) (k : Key) → told_at before k ≤ told_at now k → HasToldAll h before k → HasToldAll h now k
told-stays h before now k more none = later-none k (solo (own k h)) (told_at before k) (told_at now k) more none

-- so it is with the job that an event opens
opened-stays : (h : List Event) (before now : Teller) (e : written.Event) → ((k : Key) → told_at before k ≤ told_at now k) → HasToldOpened h before e → HasToldOpened h now e
opened-stays h before now e more = by_key (opened_by e)
  where
    by_key : (o : Option Key) → MatchOption o (Unit {0}) (HasToldAll h before) → MatchOption o (Unit {0}) (HasToldAll h now)
    by_key None none = tt
    by_key (Some k) none = told-stays h before now k (more k) none

-- and with many
pub all-stays : (h : List Event) (before now : Teller) (es : List written.Event) → ((k : Key) → told_at before k ≤ told_at now k) → All (HasToldOpened h before) es → All (HasToldOpened h now) es
all-stays h before now es more all = All-weaker (HasToldOpened h before) (HasToldOpened h now) (λ e. opened-stays h before now e more) es all

-- what holds of all jobs that are opened holds of each key of a history in which no job moves
opened-keys : (P : Key → Type 0) (h : List Event) (keys : List Key) (k : Key) → list_any moves h ≡ false → All (λ e. MatchOption (opened_by e) (Unit {0}) P) (map bare h) → (list_any (is_key k) keys ≡ true → P k) → list_any (is_key k) (fold keys_step keys h) ≡ true → P k
opened-keys P [] keys k still all before among = before among
opened-keys P (e ∷ es) keys k still all before among =
    let parts = or_parts (moves e) (list_any moves es) still in
    opened-keys P es (keys_step keys e) k parts.1 (All-tail Q (bare e) (map bare es) all) (by_event e parts.0 (All-head Q (bare e) (map bare es) all)) among
  where
    Q : written.Event → Type 0
    Q e = MatchOption (opened_by e) (Unit {0}) P

    opened : (j : Key) → P j → list_any (is_key k) (keys ++ j ∷ []) ≡ true → P k
    opened j here there = by_old (list_any (is_key k) keys) (is_key k j) refl refl (sym (list_any-append (is_key k) keys (j ∷ [])) ∙ there)
      where
        by_old : (a b : Bool) → list_any (is_key k) keys ≡ a → is_key k j ≡ b → (a || (b || false)) ≡ true → P k
        by_old true b old new e = before old
        by_old false true old new e = subst P (sym ((is_key-Decides k j).0 new)) here
        by_old false false old new e = absurd (cc)

    by_event : (e : Event) → moves e ≡ false → Q (bare e) → list_any (is_key k) (keys_step keys e) ≡ true → P k
    by_event (Open j ask) stay here there = opened j here there
    by_event (Revise j number r) stay here there = before there
    by_event (Reask j w) stay here there = before there
    by_event (Close j) stay here there = before there
    by_event (Balance shares) stay here there = before there
    by_event (Start j index worker) stay here there = before there
    by_event (Finish j index worker outcome) stay here there = before there
    by_event (Exchange j) stay here there = before there
    by_event (Leave j) stay here there = absurd (cc)
    by_event (Arrive j brought) stay here there = absurd (cc)

-- where each revision is answered and no further reply to a job can be told, all were told
all-told : (workers : ℕ) (h : List Event) (t : Teller) (told : List Told) → Legal workers h → list_any moves h ≡ false → lives (states h) ≡ [] → All (HasToldOpened h t) (map bare h) → Keeps t h told → AreTold h told → AreAllTold h told
all-told workers h t told legal still none all keeps are = record { some = are; all = λ k. by_known k (list_any (is_key k) (keys_of h)) refl }
  where
    by_known : (k : Key) (b : Bool) → list_any (is_key k) (keys_of h) ≡ b → length (told_to k told) ≡ length (solo (own k h)).revisions
    by_known k true known =
        let answered = all-answered workers h k legal still none in
        let low = told-low h told k are in
        let end : HasToldAll h t k = opened-keys (HasToldAll h t) h [] k still all (λ e. absurd (cc)) known in
        let more : told_at t k + 1 ≡ suc (told_at t k) = omega arith in
        let high : length (solo (own k h)).answers ≤ told_at t k = reply-none k (told_at t k) (solo (own k h)) (ap (λ (r : ℕ). reply_in h (to k r)) (sym more) ∙ end) in
        let count = keeps.counts k in
        omega (arith, answered, low, high, count)
    by_known k false unknown =
        let answered = all-answered workers h k legal still none in
        let low = told-low h told k are in
        let no : length (solo (own k h)).revisions ≡ 0 = ap length (unknown-has_no_revision workers h k legal still unknown).0 in
        omega (arith, answered, low, no)

-- a history that was brought to its end and told is told whole
pub told-whole : (workers : ℕ) (before now : List Event) (t : Teller) (log log_now out out_now : Option (List ℕ)) → GrowsByTurns workers before now → Legal workers now → list_any moves now ≡ false → lives (states now) ≡ [] → All (HasToldOpened now t) (map bare now) → Tells workers now t log log_now out out_now → IsToldWhole workers before log log_now out out_now
told-whole workers before now t log log_now out out_now turns legal still none all tells = record {
  now = now;
  told = tells.told;
  turns = turns;
  answered = none;
  replies = all-told workers now t tells.told legal still none all tells.kept tells.replies;
  log_text = tells.log_text;
  out_text = tells.out_text;
}

-- one more told reply leaves one fewer untold
pub fewer-untold : (h : List Event) (before now : Teller) (k : Key) (text : List ℕ) → told_at now k ≡ told_at before k + 1 → reply_in h (to k (told_at before k + 1)) ≡ Some text → untold h now k < untold h before k
fewer-untold h before now k text more there =
    let low : told_at before k + 1 ≤ length (solo (own k h)).answers = reply-low k (told_at before k + 1) (solo (own k h)) text there in
    omega (arith, more, low)

-- what comes after a front of events
drop-front : {A : Type 0} (front rest : List A) → drop (length front) (front ++ rest) ≡ rest
drop-front [] rest = refl
drop-front (x ∷ xs) rest = drop-front xs rest

-- no job moves in what came after a front
later-still : (past later : List Event) → list_any moves (past ++ later) ≡ false → list_any moves later ≡ false
later-still past later still = (or_parts (list_any moves past) (list_any moves later) (sym (list_any-append moves past later) ∙ still)).1

-- the lines of the events that were not written tell the history
pub news-whole : (workers : ℕ) (past now : List Event) (t t2 : Teller) (log log1 log2 out out1 : Option (List ℕ)) → IsFront past now → list_any moves now ≡ false → Legal workers now → Tells workers past t log log1 out out1 → Appends log1 log2 (event_lines (drop t.written now)) → t2.written ≡ length now → ((k : Key) → told_at t2 k ≡ told_at t k) → Tells workers now t2 log log2 out out1
news-whole workers past now t t2 log log1 log2 out out1 (later, is) still legal tells news written counts =
    let rest : drop t.written now ≡ later = ap (λ (n : ℕ). drop n now) tells.kept.written ∙ (ap (drop (length past)) is ∙ drop-front past later) in
    subst (λ (h : List Event). Tells workers h t2 log log2 out out1) (sym is)
    (tells-news workers past later (subst (Legal workers) is legal) (later-still past later (ap (list_any moves) (sym is) ∙ still)) t t2 log log1 log2 out out1 tells (subst (λ (es : List Event). Appends log1 log2 (event_lines es)) rest news) (written ∙ ap (λ (h : List Event). length h) is) counts)

-- and a front of these lines tells it in part
pub news-part : (workers : ℕ) (past now : List Event) (t : Teller) (log log1 log2 out out1 : Option (List ℕ)) (prefix : List ℕ) → IsFront past now → list_any moves now ≡ false → Legal workers now → Tells workers past t log log1 out out1 → GotPrefix log1 log2 (event_lines (drop t.written now)) prefix → TellsInPart workers now log log2 out out1
news-part workers past now t log log1 log2 out out1 prefix (later, is) still legal tells news =
    let rest : drop t.written now ≡ later = ap (λ (n : ℕ). drop n now) tells.kept.written ∙ (ap (drop (length past)) is ∙ drop-front past later) in
    subst (λ (h : List Event). TellsInPart workers h log log2 out out1) (sym is)
    (tells-news_in_part workers past later (subst (Legal workers) is legal) (later-still past later (ap (list_any moves) (sym is) ∙ still)) t log log1 log2 out out1 prefix tells (subst (λ (es : List Event). GotPrefix log1 log2 (event_lines es) prefix) rest news))

-- what was told of a front was told in part of the history
pub front-part : (workers : ℕ) (past now : List Event) (t : Teller) (log log1 out out1 : Option (List ℕ)) → IsFront past now → list_any moves now ≡ false → Legal workers now → Tells workers past t log log1 out out1 → TellsInPart workers now log log1 out out1
front-part workers past now t log log1 out out1 (later, is) still legal tells =
    subst (λ (h : List Event). TellsInPart workers h log log1 out out1) (sym is)
    (in_part-grows workers past later (subst (Legal workers) is legal) (later-still past later (ap (list_any moves) (sym is) ∙ still)) log log1 out out1 (tells-in_part workers past t log log1 out out1 tells))

-- a history that grew by turns is legal, moves no job, and has the same front
pub record HasGrown (workers : ℕ) (past now : List Event) : Type 0 where
  pub legal : Legal workers now
  pub still : list_any moves now ≡ false
  pub front : IsFront past now

pub has-grown : (workers : ℕ) (past before now : List Event) → IsFront past before → list_any moves before ≡ false → Legal workers before → GrowsByTurns workers before now → HasGrown workers past now
has-grown workers past before now front still legal turns =
    let grown = turns-post_nothing workers before now turns in
    record { legal = turns-are_legal workers before now turns legal; still = grown.moved ∙ still; front = front-more past before now front grown.front }

-- a history that went on and was not told further
pub untold-part : (workers : ℕ) (past before now : List Event) (t : Teller) (log log1 out out1 : Option (List ℕ)) → IsFront past before → list_any moves before ≡ false → Legal workers before → GrowsByTurns workers before now → Tells workers past t log log1 out out1 → IsToldInPart workers before log log1 out out1
untold-part workers past before now t log log1 out out1 front still legal turns tells =
    let grown = has-grown workers past before now front still legal turns in
    record { now = now; turns = turns; part = front-part workers past now t log log1 out out1 grown.front grown.still grown.legal tells }

-- the reply of a job that is found
pub found-reply : (h : List Event) (k : Key) (r : ℕ) (t : KeyedJob) (v : Option (List ℕ)) → job_of k (states h) ≡ Some t → reply k r t.state ≡ v → reply_in h (to k r) ≡ v
found-reply h k r t v found is = ap (λ (x : KeyedJob). reply k r x.state) (find-titled h k (keys_of h) t found) ∙ is

-- the lines of the news are those of the events that were not written
pub news-lines : (from written : ℕ) (h : List Event) (text : List ℕ) → text ≡ lines_of_events (drop from (map bare h)) → from ≡ written → text ≡ event_lines (drop written h)
unfolding event_lines
news-lines from written h text is same =
    is
    ∙ (ap lines_of_events (drop-map bare from h)
    ∙ (lines-bare (drop from h)
    ∙ ap (λ (n : ℕ). event_lines (drop n h)) same))
  where
    lines-bare : (es : List Event) → lines_of_events (map bare es) ≡ event_lines es
    lines-bare [] = refl
    lines-bare (e ∷ es) = ap (λ (rest : List ℕ). line_of (event_words (bare e)) ++ rest) (lines-bare es)

-- of the job to which a reply was told, one more was told
pub told-once : (before now : Teller) (k : Key) → IsToldOnce before now k → told_at now k ≡ told_at before k + 1
told-once before now k once = once k ∙ ap (λ (b : Bool). cond b (told_at before k + 1) (told_at before k)) (is_key-same k)

module _ (workers size : ℕ) (past before now : List Event) (t : Teller) (log log1 log2 out out1 out2 : Option (List ℕ)) (same : size ≡ workers) (front : IsFront past before) (still : list_any moves before ≡ false) (legal : Legal workers before) (turns : GrowsByTurns workers before now) where
  -- a history grew by turns until every revision was answered, and was told then
  pub finished-whole : (t2 : Teller) → lives (states now) ≡ [] → All (HasToldOpened now t2) (map bare now) → (IsFront past now → list_any moves now ≡ false → Tells size past t log log1 out out1 → Tells size now t2 log log2 out out2) → Tells workers past t log log1 out out1 → IsToldWhole workers before log log2 out out2
  finished-whole t2 none all told tells =
      let grown = has-grown workers past before now front still legal turns in
      let whole : Tells size now t2 log log2 out out2 = told grown.front grown.still (subst (λ (n : ℕ). Tells n past t log log1 out out1) (sym same) tells) in
      told-whole workers before now t2 log log2 out out2 turns grown.legal grown.still none all (subst (λ (n : ℕ). Tells n now t2 log log2 out out2) same whole)

  -- or in part
  pub finished-part : (IsFront past now → list_any moves now ≡ false → Tells size past t log log1 out out1 → TellsInPart size now log log2 out out2) → Tells workers past t log log1 out out1 → IsToldInPart workers before log log2 out out2
  finished-part told tells =
      let grown = has-grown workers past before now front still legal turns in
      record {
        now = now;
        turns = turns;
        part = subst (λ (n : ℕ). TellsInPart n now log log2 out out2) same (told grown.front grown.still (subst (λ (n : ℕ). Tells n past t log log1 out out1) (sym same) tells));
      }
