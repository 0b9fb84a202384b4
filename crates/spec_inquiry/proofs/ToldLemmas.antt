-- What was told stays: the machine of the whole history tells it too.
use Rattle.std.proofs.Common.{◌≡◌, ℕ, zero, suc, ◌+◌, ◌<◌, ◌≤◌, false, List, [], ◌∷◌, ◌++◌, append_assoc, append-nil, flat_map, length, take, Some, inl, refl, sym, ap, subst, ◌∙◌, arith}
use Rattle.std.specs.Prelude.{slice_get}
use Rattle.std.specs.List.{list_any}
use Rattle.std.specs.Option.{option_map}
use Rattle.std.proofs.lemmas.Bool.{or_from}
use Rattle.std.proofs.lemmas.List.{take-append-le}
use Rattle.std.proofs.lemmas.List.Folds.{list_any-append}
use Rattle.std.proofs.lemmas.Option.{slice_get_within}
use Rattle.mal_base.specs.declared.answer.Answer.{Answer}
use Rattle.mal_revision.specs.Posted.{Posted}
use Rattle.spec_report.specs.Replies.{ReplyBody}
use Rattle.spec_job.specs.KeyedJob.{Key}
use Rattle.spec_job.specs.Replies.{body_by, body_of}
use Rattle.spec_job.specs.SoloMachine.{SoloMachine, solo}
use Rattle.spec_job.proofs.KeptLemmas.{MachineInvariant, runnable-kept}
use Rattle.spec_job.proofs.ReplyLemmas.{told-same}
use Rattle.spec_hall.specs.Driven.{Turn, Balances, Exchanges, Slices, events_in}
use Rattle.spec_hall.specs.Events.{Event, Open}
use Rattle.spec_hall.specs.Legal.{Legal, LegalFrom}
use Rattle.spec_hall.specs.Own.{own, arrives}
use Rattle.spec_hall.proofs.RunnableLemmas.{legal-is_runnable}
use Rattle.spec_inquiry.specs.Laws.{LegalToldStays, ToldStays}
use Rattle.spec_inquiry.specs.Rounds.{Round, AreRounds, round_events}
use Rattle.spec_inquiry.proofs.EvidenceLemmas.{told-at}
use Rattle.spec_inquiry.proofs.GrowLemmas.{IsLater, history-later}
use Rattle.spec_inquiry.proofs.RoundLemmas.{inquiry-is_legal}
use Rattle.spec_inquiry.proofs.StayLemmas.{get-front, plus-none, some-same}

-- a machine after more events tells what was told
machine-tells : (s t : SoloMachine) (n : ℕ) (told : ReplyBody) → MachineInvariant s → MachineInvariant t → IsLater s t → body_of n s ≡ Some told → body_of n t ≡ Some told
machine-tells s t zero told h k later e = absurd (cc)
machine-tells s t (suc r) told h k later e =
    let at = told-at s r told e in
    let there : slice_get t.answers r ≡ Some at.0 = subst (λ (xs : List Answer). slice_get xs r ≡ Some at.0) (sym later.answers.kept) (get-front s.answers later.answers.more r at.0 at.1) in
    let within : r < length s.answers = slice_get_within s.answers r at.0 at.1 in
    let order : length s.answers ≤ length s.revisions = h.solving.order in
    let first : take (r + 1) t.revisions ≡ take (r + 1) s.revisions = ap (λ (ps : List Posted). take (r + 1) ps) later.grown.revisions ∙ take-append-le (r + 1) s.revisions later.grown.posted (omega (arith, within, order)) in
    let same : body_by s r at.0 ≡ body_by t r at.0 = told-same s t r at.0 h k (inl (later.grown.lines, later.grown.log)) (sym first) at.1 there in
    ap (option_map (body_by t r)) there ∙ ap (λ (b : ReplyBody). Some b) (sym same ∙ at.2)

-- what is legal was legal before its last events
legal_from-before : (w : ℕ) (past es later : List Event) → LegalFrom w past (es ++ later) → LegalFrom w past es
legal_from-before w past [] later h = tt
legal_from-before w past (e ∷ es) later h = (h.0, legal_from-before w (past ++ e ∷ []) es later h.1)

legal-kept : (w : ℕ) (h : List Event) (k : Key) → Legal w h → MachineInvariant (solo (own k h))
legal-kept w h k legal = runnable-kept (own k h) (legal-is_runnable w h legal k)

pub legal-told_stays : LegalToldStays
legal-told_stays w past later k n told legal stays e =
    machine-tells (solo (own k past)) (solo (own k (past ++ later))) n told
    (legal-kept w past k (legal_from-before w [] past later legal))
    (legal-kept w (past ++ later) k legal)
    (history-later k past later stays)
    e

-- no job arrives by turns
turns-bring_none : (k : Key) (ts : List Turn) → list_any (arrives k) (flat_map events_in ts) ≡ false
turns-bring_none k [] = refl
turns-bring_none k (Balances shares ∷ ts) = turns-bring_none k ts
turns-bring_none k (Exchanges i ∷ ts) = turns-bring_none k ts
turns-bring_none k (Slices i index outcome ∷ ts) = turns-bring_none k ts

-- the events after a past in which rounds were asked, by which no job arrives
record IsBehind (k : Key) (past history : List Event) : Type 0 where
  later : List Event
  is : history ≡ past ++ later
  none : list_any (arrives k) later ≡ false

rounds-behind : (k : Key) (past : List Event) (n : ℕ) (xs : List Round) (history : List Event) → AreRounds k past n xs history → IsBehind k past history
rounds-behind k past n [] history h = record { later = []; is = h ∙ sym (append-nil past); none = refl }
rounds-behind k past n (x ∷ xs) history h =
    let rest = rounds-behind k (past ++ round_events k n x) (suc n) xs history h.1 in
    record {
      later = round_events k n x ++ rest.later;
      is = rest.is ∙ append_assoc past (round_events k n x) rest.later;
      none = list_any-append (arrives k) (round_events k n x) rest.later ∙ or_from (list_any (arrives k) (round_events k n x)) (list_any (arrives k) rest.later) (turns-bring_none k x.turns) rest.none;
    }

-- the machine of the whole history tells what was told in the first of these rounds, and so in each
first-told : (k : Key) (past : List Event) (n : ℕ) (x : Round) (xs : List Round) (history : List Event) → Legal 1 history → AreRounds k past n (x ∷ xs) history → body_of n (solo (own k history)) ≡ Some x.asked.told
first-told k past n x xs history legal h =
    let now : List Event = past ++ round_events k n x in
    let rest = rounds-behind k now (suc n) xs history h.1 in
    subst (λ (es : List Event). body_of n (solo (own k es)) ≡ Some x.asked.told) (sym rest.is) (legal-told_stays 1 now rest.later k n x.asked.told (subst (Legal 1) rest.is legal) rest.none h.0.told)

rounds-told : (k : Key) (past : List Event) (n : ℕ) (xs : List Round) (history : List Event) (r : ℕ) (x : Round) → Legal 1 history → AreRounds k past n xs history → slice_get xs r ≡ Some x → body_of (n + r) (solo (own k history)) ≡ Some x.asked.told
rounds-told k past n [] history r x legal h e = absurd (cc)
rounds-told k past n (y ∷ ys) history zero x legal h e =
    subst (λ (m : ℕ). body_of m (solo (own k history)) ≡ Some x.asked.told) (plus-none n)
    (subst (λ (z : Round). body_of n (solo (own k history)) ≡ Some z.asked.told) (some-same y x e) (first-told k past n y ys history legal h))
rounds-told k past n (y ∷ ys) history (suc r) x legal h e =
    let next : suc n + r ≡ n + suc r = omega arith in
    subst (λ (m : ℕ). body_of m (solo (own k history)) ≡ Some x.asked.told) next (rounds-told k (past ++ round_events k n y) (suc n) ys history r x legal h.1 e)

pub told-stays : ToldStays
told-stays k ask rounds history r x i e =
    let number : 1 + r ≡ suc r = omega arith in
    subst (λ (m : ℕ). body_of m (solo (own k history)) ≡ Some x.asked.told) number
    (rounds-told k (Open k ask ∷ []) 1 rounds history r x (inquiry-is_legal k ask rounds history i) i.asked e)
