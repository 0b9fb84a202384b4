-- The answers to a replay exclude each other.
use Rattle.std.proofs.Common.{◌≡◌, ℕ, zero, suc, ◌<◌, ◌≤◌, List, [], ◌∷◌, ◌++◌, take, slice_get, Some, Ok, Err, inl, inr, ◌⊎◌, refl, sym, ◌∙◌, ap, subst, arith, append_assoc, append-nil}
use Rattle.std.proofs.lemmas.Bool.{cases_lt}
use Rattle.mal_history.specs.declared.event.Event as written
use Rattle.spec_hall.specs.Events.{Event}
use Rattle.spec_hall.specs.Legal.{Allowed, LegalFrom}
use Rattle.mal_base.specs.declared.replay_fault.ReplayFault.TheVariants.{NotLegal, NotComplete, OutOfMemory}
use Rattle.spec_run.specs.ReplayLaws.{ReplayIsDecided}
use Rattle.spec_run.specs.Replayed.{IsLegal, IsFirstRefused}
use Rattle.spec_run.specs.Accounted.{AreWritten, event_by}
use Rattle.spec_run.proofs.PostLemmas.{some-same}
use Rattle.spec_run.specs.Run.{replies}
use Rattle.spec_script.specs.Script.{Scripted}

-- what is written down are one list of events at most
events-same : (w : ℕ) (s : Scripted) (lines : List written.Event) (one other : List Event) → IsLegal w s lines one → IsLegal w s lines other → one ≡ other
events-same w s lines one other a b = some-same one other (sym a.written ∙ b.written)

-- the event at a place of a legal history is written there and allowed after those before it
record IsAllowedAt (w : ℕ) (s : Scripted) (past : List Event) (line : written.Event) : Type 0 where
  event : Event
  is : event_by s line ≡ Some event
  allowed : Allowed w past event

-- of a history that is legal after a past the first events are written, and the next is allowed
at-place : (w : ℕ) (s : Scripted) (past : List Event) (lines : List written.Event) (events front : List Event) (n : ℕ) (line : written.Event) → AreWritten s lines events → LegalFrom w past events → AreWritten s (take n lines) front → slice_get lines n ≡ Some line → IsAllowedAt w s (past ++ front) line
at-place w s past [] events front n line are legal begun at = absurd (cc)
at-place w s past (x ∷ xs) [] front n line are legal begun at = absurd (cc)
at-place w s past (x ∷ xs) (e ∷ es) [] zero line are legal begun at =
    let same : x ≡ line = cc in
    let first : event_by s x ≡ Some e = cc in
    record { event = e; is = ap (event_by s) (sym same) ∙ first; allowed = rw append-nil legal.0 }
at-place w s past (x ∷ xs) (e ∷ es) (f ∷ fs) zero line are legal begun at = absurd (cc)
at-place w s past (x ∷ xs) (e ∷ es) [] (suc n) line are legal begun at = absurd (cc)
at-place w s past (x ∷ xs) (e ∷ es) (f ∷ fs) (suc n) line are legal begun at =
    let first : event_by s x ≡ Some e = cc in
    let again : event_by s x ≡ Some f = cc in
    let both : Some e ≡ Some f = sym first ∙ again in
    let same : e ≡ f = cc in
    let rest : AreWritten s xs es = cc in
    let others : AreWritten s (take n xs) fs = cc in
    let here = at-place w s (past ++ e ∷ []) xs es fs n line rest legal.1 others at in
    subst (λ (h : List Event). IsAllowedAt w s h line) (append_assoc past (e ∷ []) fs ∙ ap (λ (z : Event). past ++ z ∷ fs) same) here

-- so no event of a legal history is refused
legal-not_refused : (w : ℕ) (s : Scripted) (lines : List written.Event) (events : List Event) (n : ℕ) → IsLegal w s lines events → IsFirstRefused w s lines n → ⊥
legal-not_refused w s lines events n legal first =
    let here = at-place w s [] lines events first.past n first.line legal.written legal.legal first.before.written first.at in
    first.refused here.event here.is here.allowed

-- a place before the first refused is not refused
take-get : {X : Type 0} (xs : List X) (m n : ℕ) (x : X) → n < m → slice_get xs n ≡ Some x → slice_get (take m xs) n ≡ Some x
take-get [] m n x low e = absurd (cc)
take-get (y ∷ ys) zero n x low e = absurd (omega (arith, low))
take-get (y ∷ ys) (suc m) zero x low e = e
take-get (y ∷ ys) (suc m) (suc n) x low e = take-get ys m n x (omega (arith, low)) e

take-less : {X : Type 0} (xs : List X) (m n : ℕ) → n < m → take n (take m xs) ≡ take n xs
take-less [] zero n low = absurd (omega (arith, low))
take-less [] (suc m) n low = refl
take-less (x ∷ xs) zero n low = absurd (omega (arith, low))
take-less (x ∷ xs) (suc m) zero low = refl
take-less (x ∷ xs) (suc m) (suc n) low = ap (λ ys. x ∷ ys) (take-less xs m n (omega (arith, low)))

earlier-not_refused : (w : ℕ) (s : Scripted) (lines : List written.Event) (m n : ℕ) → n < m → IsFirstRefused w s lines n → IsFirstRefused w s lines m → ⊥
earlier-not_refused w s lines m n low one other =
    let before : IsLegal w s (take n (take m lines)) one.past = subst (λ (xs : List written.Event). IsLegal w s xs one.past) (sym (take-less lines m n low)) one.before in
    let first : IsFirstRefused w s (take m lines) n = record { past = one.past; before = before; line = one.line; at = take-get lines m n one.line low one.at; refused = one.refused } in
    legal-not_refused w s (take m lines) other.past n other.before first

same-place : (w : ℕ) (s : Scripted) (lines : List written.Event) (m n : ℕ) → IsFirstRefused w s lines m → IsFirstRefused w s lines n → m ≡ n
same-place w s lines m n one other = by_order (cases_lt m n)
  where
    later : (n < m) ⊎ (m ≤ n) → n ≤ m → m ≡ n
    later (inl less) low = absurd (earlier-not_refused w s lines m n less other one)
    later (inr more) low = omega (arith, more, low)

    by_order : (m < n) ⊎ (n ≤ m) → m ≡ n
    by_order (inl less) = absurd (earlier-not_refused w s lines n m less one other)
    by_order (inr more) = later (cases_lt n m) more

-- the answers to one history are the same
pub replay-is_decided : ReplayIsDecided
replay-is_decided w s lines line_of (Ok text) (Ok told) a b one other =
    let same : a.events ≡ b.events = events-same w s lines a.events b.events a.legal b.legal in
    ap Ok (a.text_is ∙ (ap (replies s) same ∙ sym b.text_is))
replay-is_decided w s lines line_of (Ok text) (Err (NotLegal line)) a b one other = absurd (legal-not_refused w s lines a.events b.place a.legal b.first)
replay-is_decided w s lines line_of (Ok text) (Err NotComplete) a b one other =
    let same : a.events ≡ b.events = events-same w s lines a.events b.events a.legal b.legal in
    absurd (b.lacking (rw (← same) a.complete))
replay-is_decided w s lines line_of (Ok text) (Err OutOfMemory) a b one other = absurd (other refl)
replay-is_decided w s lines line_of (Err (NotLegal line)) (Ok text) a b one other = absurd (legal-not_refused w s lines b.events a.place b.legal a.first)
replay-is_decided w s lines line_of (Err (NotLegal line)) (Err (NotLegal place)) a b one other =
    ap (λ (l : ℕ). Err (NotLegal l)) (a.line_is ∙ (ap line_of (same-place w s lines a.place b.place a.first b.first) ∙ sym b.line_is))
replay-is_decided w s lines line_of (Err (NotLegal line)) (Err NotComplete) a b one other = absurd (legal-not_refused w s lines b.events a.place b.legal a.first)
replay-is_decided w s lines line_of (Err (NotLegal line)) (Err OutOfMemory) a b one other = absurd (other refl)
replay-is_decided w s lines line_of (Err NotComplete) (Ok text) a b one other =
    let same : b.events ≡ a.events = events-same w s lines b.events a.events b.legal a.legal in
    absurd (a.lacking (rw (← same) b.complete))
replay-is_decided w s lines line_of (Err NotComplete) (Err (NotLegal line)) a b one other = absurd (legal-not_refused w s lines a.events b.place a.legal b.first)
replay-is_decided w s lines line_of (Err NotComplete) (Err NotComplete) a b one other = refl
replay-is_decided w s lines line_of (Err NotComplete) (Err OutOfMemory) a b one other = absurd (other refl)
replay-is_decided w s lines line_of (Err OutOfMemory) b x y one other = absurd (one refl)
