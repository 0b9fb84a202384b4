-- What was told, as the history goes on and replies are told.
use Rattle.std.proofs.Common.{◌≡◌, ℕ, ◌+◌, Bool, true, false, cond, List, [], ◌∷◌, ◌++◌, length, Option, Some, refl, sym, ◌∙◌, ap, subst, append-nil, append_assoc, length-append}
use Rattle.std.specs.Prelude.{is_some}
use Rattle.std.specs.Io.KnownBytes.{Appends}
use Rattle.std.specs.List.{list_any}
use Rattle.std.proofs.KnownBytes.{Appends-trans}
use Rattle.mal_base.specs.declared.key.Key.{Key}
use Rattle.mal_io.specs.Moves.{GotPrefix}
use Rattle.mal_live.specs.Telling.{IsToldOnce, Tells, TellsInPart, told_at}
use Rattle.mal_live.specs.declared.telling.Teller.{Teller}
use Rattle.spec_hall.specs.Events.{Event, moves}
use Rattle.spec_hall.specs.Legal.{Legal}
use Rattle.spec_hall.specs.Own.{is_key}
use Rattle.spec_hall.proofs.KeyLemmas.{is_key-Decides}
use Rattle.spec_run.specs.Run.{text_or_none}
use Rattle.spec_live.specs.Live.{AreTold, IsFront, event_lines, first_line, live_text, reply_in, to, told_text, told_to}
use Rattle.spec_live.proofs.Order.{told-more, told-none, told_text-push, told_to-push, told_to-stays}
use Rattle.spec_live.proofs.StayLemmas.{are-told_on, text-stays}
use Rattle.spec_live.proofs.TextLemmas.{front-more, front-none, front-same, live_text-append, text-front}

-- the text of no events is the first line
text-of_none : (workers : ℕ) → live_text workers [] ≡ first_line workers
unfolding event_lines
text-of_none workers = append-nil (first_line workers)

-- and nothing is told by no replies
told-of_none : (history : List Event) → told_text history [] ≡ []
unfolding told_text
told-of_none history = refl

-- a text that grew by what a sink got of another is a front of both
front-grown : (front rest text prefix : List ℕ) → text ≡ prefix ++ rest → IsFront (front ++ prefix) (front ++ text)
front-grown front rest text prefix e = (rest, ap (λ (xs : List ℕ). front ++ xs) e ∙ sym (append_assoc front prefix rest))

-- the first line alone tells a history without events
pub tells-nothing : (workers : ℕ) (t : Teller) (log log_now out out_now : Option (List ℕ)) → t.written ≡ 0 → ((k : Key) → told_at t k ≡ 0) → Appends log log_now (first_line workers) → Appends out out_now [] → Tells workers [] t log log_now out out_now
tells-nothing workers t log log_now out out_now written counts first none = record {
  told = [];
  kept = record { written = written; counts = counts };
  replies = told-none [];
  log_text = subst (λ (text : List ℕ). Appends log log_now text) (sym (text-of_none workers)) first;
  out_text = subst (λ (text : List ℕ). Appends out out_now text) (sym (told-of_none [])) none;
}

-- and a front of that line tells it in part
pub tells-nothing_in_part : (workers : ℕ) (log log_now out out_now : Option (List ℕ)) (prefix : List ℕ) → GotPrefix log log_now (first_line workers) prefix → Appends out out_now [] → TellsInPart workers [] log log_now out out_now
tells-nothing_in_part workers log log_now out out_now prefix got none = record {
  told = [];
  log_text = prefix;
  out_text = [];
  replies = told-none [];
  log_front = subst (λ (text : List ℕ). IsFront prefix text) (sym (text-of_none workers)) got.split;
  out_front = front-none (told_text [] []);
  log_gained = got.gained;
  out_gained = none;
}

-- what was told whole was told in part
pub tells-in_part : (workers : ℕ) (history : List Event) (t : Teller) (log log_now out out_now : Option (List ℕ)) → Tells workers history t log log_now out out_now → TellsInPart workers history log log_now out out_now
tells-in_part workers history t log log_now out out_now tells = record {
  told = tells.told;
  log_text = live_text workers history;
  out_text = told_text history tells.told;
  replies = tells.replies;
  log_front = front-same (live_text workers history);
  out_front = front-same (told_text history tells.told);
  log_gained = tells.log_text;
  out_gained = tells.out_text;
}

module _ (workers : ℕ) (past later : List Event) (legal : Legal workers (past ++ later)) (still : list_any moves later ≡ false) where
  -- the lines of the events that came since tell the history that has them
  pub tells-news : (t t2 : Teller) (log log1 log2 out out1 : Option (List ℕ)) → Tells workers past t log log1 out out1 → Appends log1 log2 (event_lines later) → t2.written ≡ length (past ++ later) → ((k : Key) → told_at t2 k ≡ told_at t k) → Tells workers (past ++ later) t2 log log2 out out1
  tells-news t t2 log log1 log2 out out1 tells news written counts = record {
    told = tells.told;
    kept = record { written = written; counts = λ k. counts k ∙ tells.kept.counts k };
    replies = are-told_on workers past later tells.told legal still tells.replies;
    log_text = subst (λ (text : List ℕ). Appends log log2 text) (sym (live_text-append workers past later)) (Appends-trans log log1 log2 (live_text workers past) (event_lines later) tells.log_text news);
    out_text = subst (λ (text : List ℕ). Appends out out1 text) (sym (text-stays workers past later tells.told legal still tells.replies.answered)) tells.out_text;
  }

  -- and a front of these lines tells it in part
  pub tells-news_in_part : (t : Teller) (log log1 log2 out out1 : Option (List ℕ)) (prefix : List ℕ) → Tells workers past t log log1 out out1 → GotPrefix log1 log2 (event_lines later) prefix → TellsInPart workers (past ++ later) log log2 out out1
  tells-news_in_part t log log1 log2 out out1 prefix tells got = record {
    told = tells.told;
    log_text = live_text workers past ++ prefix;
    out_text = told_text past tells.told;
    replies = are-told_on workers past later tells.told legal still tells.replies;
    log_front = subst (λ (text : List ℕ). IsFront (live_text workers past ++ prefix) text) (sym (live_text-append workers past later)) (front-grown (live_text workers past) got.split.0 (event_lines later) prefix got.split.1);
    out_front = ([], text-stays workers past later tells.told legal still tells.replies.answered ∙ sym (append-nil (told_text past tells.told)));
    log_gained = Appends-trans log log1 log2 (live_text workers past) prefix tells.log_text got.gained;
    out_gained = tells.out_text;
  }

  -- what was told in part was told in part of a history that goes on
  pub in_part-grows : (log log1 out out1 : Option (List ℕ)) → TellsInPart workers past log log1 out out1 → TellsInPart workers (past ++ later) log log1 out out1
  in_part-grows log log1 out out1 tells = record {
    told = tells.told;
    log_text = tells.log_text;
    out_text = tells.out_text;
    replies = are-told_on workers past later tells.told legal still tells.replies;
    log_front = front-more tells.log_text (live_text workers past) (live_text workers (past ++ later)) tells.log_front (text-front workers past (past ++ later) (later, refl));
    out_front = subst (λ (text : List ℕ). IsFront tells.out_text text) (sym (text-stays workers past later tells.told legal still tells.replies.answered)) tells.out_front;
    log_gained = tells.log_gained;
    out_gained = tells.out_gained;
  }

module _ (workers : ℕ) (history : List Event) (t : Teller) (k : Key) (text : List ℕ) (log log1 out out1 out2 : Option (List ℕ)) (tells : Tells workers history t log log1 out out1) (reply : reply_in history (to k (told_at t k + 1)) ≡ Some text) where
  -- the reply to the next revision of a job was told after the others
  one-more : AreTold history (tells.told ++ to k (told_at t k + 1) ∷ [])
  one-more = told-more history tells.told k (told_at t k + 1) tells.replies (ap (λ (o : Option (List ℕ)). is_some o) reply) (ap (λ (n : ℕ). n + 1) (tells.kept.counts k))

  -- and its text stands after theirs
  one-more_text : told_text history (tells.told ++ to k (told_at t k + 1) ∷ []) ≡ told_text history tells.told ++ text
  one-more_text = told_text-push history tells.told (to k (told_at t k + 1)) ∙ ap (λ (o : Option (List ℕ)). told_text history tells.told ++ text_or_none o) reply

  -- as many were told to each job
  one-more_count : (j : Key) → cond (is_key j k) (told_at t j + 1) (told_at t j) ≡ length (told_to j (tells.told ++ to k (told_at t k + 1) ∷ []))
  one-more_count j = by_key (is_key j k) refl
    where
      by_key : (b : Bool) → is_key j k ≡ b → cond b (told_at t j + 1) (told_at t j) ≡ length (told_to j (tells.told ++ to k (told_at t k + 1) ∷ []))
      by_key true same = subst (λ (i : Key). told_at t i + 1 ≡ length (told_to i (tells.told ++ to k (told_at t k + 1) ∷ []))) (sym ((is_key-Decides j k).0 same))
          (ap (λ (n : ℕ). n + 1) (tells.kept.counts k) ∙ sym (ap (λ (rs : List ℕ). length rs) (told_to-push k tells.told (told_at t k + 1)) ∙ length-append (told_to k tells.told) ((told_at t k + 1) ∷ [])))
      by_key false other = tells.kept.counts j ∙ sym (ap (λ (rs : List ℕ). length rs) (told_to-stays j k tells.told (told_at t k + 1) other))

  -- the reply to the next revision of a job was told
  pub tells-reply : (t2 : Teller) → Appends out1 out2 text → IsToldOnce t t2 k → t2.written ≡ t.written → Tells workers history t2 log log1 out out2
  tells-reply t2 gained once written = record {
    told = tells.told ++ to k (told_at t k + 1) ∷ [];
    kept = record { written = written ∙ tells.kept.written; counts = λ j. once j ∙ one-more_count j };
    replies = one-more;
    log_text = tells.log_text;
    out_text = subst (λ (bytes : List ℕ). Appends out out2 bytes) (sym one-more_text) (Appends-trans out out1 out2 (told_text history tells.told) text tells.out_text gained);
  }

  -- or in part
  pub tells-reply_in_part : (prefix : List ℕ) → GotPrefix out1 out2 text prefix → TellsInPart workers history log log1 out out2
  tells-reply_in_part prefix got = record {
    told = tells.told ++ to k (told_at t k + 1) ∷ [];
    log_text = live_text workers history;
    out_text = told_text history tells.told ++ prefix;
    replies = one-more;
    log_front = front-same (live_text workers history);
    out_front = subst (λ (bytes : List ℕ). IsFront (told_text history tells.told ++ prefix) bytes) (sym one-more_text) (front-grown (told_text history tells.told) got.split.0 text prefix got.split.1);
    log_gained = tells.log_text;
    out_gained = Appends-trans out out1 out2 (told_text history tells.told) prefix tells.out_text got.gained;
  }
