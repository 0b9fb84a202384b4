-- What the writer told, after a look.
use Rattle.std.proofs.Common.{◌≡◌, ◌≢◌, ℕ, ◌+◌, false, List, [], ◌∷◌, ◌++◌, length, drop, Option, Some, None, IfSome, Result, Ok, IfOk, refl, sym, ◌∙◌, ap, subst, append-nil}
use Rattle.std.specs.Io.KnownBytes.{Appends}
use Rattle.std.specs.List.{list_any}
use Rattle.std.proofs.KnownBytes.{Appends-trans}
use Rattle.std.proofs.lemmas.Bool.{or_parts}
use Rattle.std.proofs.lemmas.List.Folds.{list_any-append}
use Rattle.mal_base.specs.declared.key.Key.{Key}
use Rattle.mal_io.specs.Moves.{GotPrefix}
use Rattle.mal_live.specs.Telling.{IsToldOnce, Tells, TellsInPart, told_at}
use Rattle.mal_live.specs.declared.desk.Seen.{Seen}
use Rattle.mal_live.specs.declared.telling.Teller.{Teller}
use Rattle.mal_live.proofs.ToldLemmas.{tells-news, tells-news_in_part, tells-reply, tells-reply_in_part}
use Rattle.mal_parts.specs.Writing.{HasTold, Shows, teller_after}
use Rattle.mal_parts.specs.declared.writing.Step.{Step}
use Rattle.mal_parts.specs.declared.writing.Step.TheVariants as steps
use Rattle.spec_hall.specs.Events.{Event, moves}
use Rattle.spec_hall.specs.Legal.{Legal}
use Rattle.spec_live.specs.Live.{IsFront, event_lines, reply_in, to, told_text}
use Rattle.spec_live.proofs.TextLemmas.{front-more}

-- what stands behind a front
behind : {A : Type 0} (front rest : List A) → drop (length front) (front ++ rest) ≡ rest
behind [] rest = refl
behind (x ∷ xs) rest = behind xs rest

-- of a reply that is there its fact holds
pub reply-there : {A : Type 0} {o : Option A} {x : A} (P : A → Type 0) → o ≡ Some x → IfSome o P → P x
reply-there P is there = subst (λ (z : Option _). IfSome z P) is there

-- and so of an answer
ok-there : {A E : Type 0} {r : Result A E} {x : A} (P : A → Type 0) → r ≡ Ok x → IfOk r P → P x
ok-there P is there = subst (λ (z : Result _ _). IfOk z P) is there

-- a step after which its teller tells on has not failed
pub is-calm : (t : Teller) (s x : Step) → s ≡ x → teller_after x t ≡ Some t → s ≢ steps.Broken
is-calm t s x is on broken = let bad : None ≡ Some t = ap (λ (z : Step). teller_after z t) (sym broken ∙ is) ∙ on in absurd (cc)

-- what was told up to a step, by the step that it was
pub told-by : (w w2 : ℕ) (seen : List Event) (t : Teller) (s x : Step) (log log_now out out_now : Option (List ℕ)) → w ≡ w2 → s ≡ x → HasTold w2 seen (teller_after s t) log log_now out out_now → HasTold w seen (teller_after x t) log log_now out out_now
told-by w w2 seen t s x log log_now out out_now size is told =
    subst (λ (n : ℕ). HasTold n seen (teller_after x t) log log_now out out_now) (sym size)
    (subst (λ (z : Step). HasTold w2 seen (teller_after z t) log log_now out out_now) is told)

-- what a look shows where it asked for the reply that is told next, and for the events since those that were told
pub look-shows : {E : Type 0} (workers : ℕ) (past seen history : List Event) (t : Teller) (key k1 k2 : Key) (revision from : ℕ) (looked : Result Seen E) (s : Seen) → looked ≡ Ok s → k1 ≡ key → k2 ≡ key → revision ≡ told_at t k1 + 1 → from ≡ t.written → t.written ≡ length past → IsFront past seen → IsFront seen history → Legal workers history → list_any moves history ≡ false → IfOk looked (λ s. IfSome s.reply (λ text. reply_in history (to k2 revision) ≡ Some text.items)) → IfOk looked (λ s. s.news.text.items ≡ event_lines (drop from history)) → IfOk looked (λ s. s.news.count ≡ length history) → Shows workers past history t key s
look-shows workers past seen history t key k1 k2 revision from looked s is e1 e2 next since written front grown legal stay reply lines count = record {
  legal = legal;
  stay = stay;
  front = front-more past seen history front grown;
  reply = subst (λ (n : ℕ). IfSome s.reply (λ text. reply_in history (to key n) ≡ Some text.items)) (next ∙ ap (λ (k : Key). told_at t k + 1) e1)
      (subst (λ (k : Key). IfSome s.reply (λ text. reply_in history (to k revision) ≡ Some text.items)) e2
      (ok-there (λ (x : Seen). IfSome x.reply (λ text. reply_in history (to k2 revision) ≡ Some text.items)) is reply));
  lines = ok-there (λ (x : Seen). x.news.text.items ≡ event_lines (drop from history)) is lines ∙ ap (λ (n : ℕ). event_lines (drop n history)) (since ∙ written);
  count = ok-there (λ (x : Seen). x.news.count ≡ length history) is count;
}

module _ (workers : ℕ) (past history : List Event) (t : Teller) (key : Key) (seen : Seen) (shows : Shows workers past history t key seen) where
  -- the events that came since
  abbrev later : List Event
  later = drop (length past) history

  grown : history ≡ past ++ later
  grown = shows.front.1 ∙ ap (λ (es : List Event). past ++ es) (sym (ap (drop (length past)) shows.front.1 ∙ behind past shows.front.0))

  legal : Legal workers (past ++ later)
  legal = subst (Legal workers) grown shows.legal

  still : list_any moves later ≡ false
  still = (or_parts (list_any moves past) (list_any moves later) (sym (list_any-append moves past later) ∙ (sym (ap (list_any moves) grown) ∙ shows.stay))).1

  -- their lines were written
  pub shown-news : (t2 : Teller) (log log1 log2 out out1 : Option (List ℕ)) → Tells workers past t log log1 out out1 → Appends log1 log2 seen.news.text.items → t2.written ≡ seen.news.count → ((k : Key) → told_at t2 k ≡ told_at t k) → Tells workers history t2 log log2 out out1
  shown-news t2 log log1 log2 out out1 tells news written counts =
      subst (λ (h : List Event). Tells workers h t2 log log2 out out1) (sym grown)
      (tells-news workers past later legal still t t2 log log1 log2 out out1 tells (subst (Appends log1 log2) shows.lines news) (written ∙ (shows.count ∙ ap (λ (es : List Event). length es) grown)) counts)

  -- or in part
  pub shown-news_in_part : (log log1 log2 out out1 : Option (List ℕ)) → Tells workers past t log log1 out out1 → (prefix : List ℕ) × GotPrefix log1 log2 seen.news.text.items prefix → TellsInPart workers history log log2 out out1
  shown-news_in_part log log1 log2 out out1 tells got =
      subst (λ (h : List Event). TellsInPart workers h log log2 out out1) (sym grown)
      (tells-news_in_part workers past later legal still t log log1 log2 out out1 got.0 tells (subst (λ (text : List ℕ). GotPrefix log1 log2 text got.0) shows.lines got.1))

  -- after them the reply to the next revision of a job was told, where it was seen
  module _ (t2 : Teller) (text : List ℕ) (log log2 out out1 out2 : Option (List ℕ)) (tells : Tells workers history t2 log log2 out out1) (counts : (k : Key) → told_at t2 k ≡ told_at t k) (reply : reply_in history (to key (told_at t key + 1)) ≡ Some text) where
    seen-next : reply_in history (to key (told_at t2 key + 1)) ≡ Some text
    seen-next = ap (λ (n : ℕ). reply_in history (to key (n + 1))) (counts key) ∙ reply

    pub shown-reply : (t3 : Teller) → Appends out1 out2 text → IsToldOnce t2 t3 key → t3.written ≡ t2.written → Tells workers history t3 log log2 out out2
    shown-reply t3 gained once written = tells-reply workers history t2 key text log log2 out out1 out2 tells seen-next t3 gained once written

    pub shown-reply_in_part : (prefix : List ℕ) × GotPrefix out1 out2 text prefix → TellsInPart workers history log log2 out out2
    shown-reply_in_part got = tells-reply_in_part workers history t2 key text log log2 out out1 out2 tells seen-next got.0 got.1

-- what was told stays where nothing more was written
pub told-still : (workers : ℕ) (history : List Event) (t t2 : Teller) (log log1 out out1 out2 : Option (List ℕ)) → Tells workers history t log log1 out out1 → t2.written ≡ t.written → ((k : Key) → told_at t2 k ≡ told_at t k) × Appends out1 out2 [] → Tells workers history t2 log log1 out out2
told-still workers history t t2 log log1 out out1 out2 tells written same = record {
  told = tells.told;
  kept = record { written = written ∙ tells.kept.written; counts = λ k. same.0 k ∙ tells.kept.counts k };
  replies = tells.replies;
  log_text = tells.log_text;
  out_text = subst (Appends out out2) (append-nil (told_text history tells.told)) (Appends-trans out out1 out2 (told_text history tells.told) [] tells.out_text same.1);
}
