-- The history of an inquiry is legal, and one more round may follow.
use Rattle.std.proofs.Common.{◌≡◌, ℕ, suc, ◌+◌, List, [], ◌∷◌, ◌++◌, append_assoc, append-nil, length, flat_map, sym, ap, subst, ◌∙◌, arith}
use Rattle.std.proofs.lemmas.List.Concat.{flat_map-cons}
use Rattle.spec_job.specs.KeyedJob.{Key}
use Rattle.spec_hall.specs.Driven.{Turn, AreTurns, events_in}
use Rattle.spec_hall.specs.Events.{Event, Open, Revise}
use Rattle.spec_hall.specs.Legal.{Legal, LegalFrom}
use Rattle.spec_hall.proofs.PushLemmas.{Legal-push}
use Rattle.spec_inquiry.specs.Laws.{InquiryGrows, InquiryIsLegal}
use Rattle.spec_inquiry.specs.Rounds.{Round, IsRound, AreRounds, round_events}

legal-more : (w : ℕ) (past es : List Event) → Legal w past → LegalFrom w past es → Legal w (past ++ es)
legal-more w past [] l h = subst (Legal w) (sym (append-nil past)) l
legal-more w past (e ∷ es) l h = subst (Legal w) (append_assoc past (e ∷ []) es) (legal-more w (past ++ e ∷ []) es (Legal-push w past e l h.0) h.1)

turns-legal : (w : ℕ) (past : List Event) (ts : List Turn) → Legal w past → AreTurns w past ts → Legal w (past ++ flat_map events_in ts)
turns-legal w past [] l h = subst (Legal w) (sym (append-nil past)) l
turns-legal w past (t ∷ ts) l h =
    subst (Legal w) (append_assoc past (events_in t) (flat_map events_in ts) ∙ ap (λ (es : List Event). past ++ es) (sym (flat_map-cons events_in t ts)))
    (turns-legal w (past ++ events_in t) ts (legal-more w past (events_in t) l h.2) h.3)

-- a round leaves a legal history legal
pub round-legal : (k : Key) (past : List Event) (n : ℕ) (x : Round) → IsRound k past n x → Legal 1 past → Legal 1 (past ++ round_events k n x)
round-legal k past n x r l =
    subst (Legal 1) (append_assoc past (Revise k n x.asked.revision ∷ []) (flat_map events_in x.turns))
    (turns-legal 1 (past ++ Revise k n x.asked.revision ∷ []) x.turns (Legal-push 1 past (Revise k n x.asked.revision) l r.posted) r.turned)

pub rounds-legal : (k : Key) (past : List Event) (n : ℕ) (xs : List Round) (history : List Event) → AreRounds k past n xs history → Legal 1 past → Legal 1 history
rounds-legal k past n [] history h l = subst (Legal 1) (sym h) l
rounds-legal k past n (x ∷ xs) history h l = rounds-legal k (past ++ round_events k n x) (suc n) xs history h.1 (round-legal k past n x h.0 l)

pub inquiry-is_legal : InquiryIsLegal
inquiry-is_legal k ask rounds history i = rounds-legal k (Open k ask ∷ []) 1 rounds history i.asked (i.opened, tt)

-- rounds take one more after them
rounds-grow : (k : Key) (past : List Event) (n : ℕ) (xs : List Round) (history : List Event) (x : Round) → AreRounds k past n xs history → IsRound k history (n + length xs) x → AreRounds k past n (xs ++ x ∷ []) (history ++ round_events k (n + length xs) x)
rounds-grow k past n [] history x h r =
    let same : n + 0 ≡ n = omega arith in (
      subst (λ (m : ℕ). IsRound k past m x) same (subst (λ (p : List Event). IsRound k p (n + 0) x) h r),
      ap (λ (p : List Event). p ++ round_events k (n + 0) x) h ∙ ap (λ (m : ℕ). past ++ round_events k m x) same,
    )
rounds-grow k past n (y ∷ ys) history x h r =
    let same : n + suc (length ys) ≡ suc n + length ys = omega arith in (
      h.0,
      subst (λ (m : ℕ). AreRounds k (past ++ round_events k n y) (suc n) (ys ++ x ∷ []) (history ++ round_events k m x)) (sym same)
          (rounds-grow k (past ++ round_events k n y) (suc n) ys history x h.1 (subst (λ (m : ℕ). IsRound k history m x) same r)),
    )

pub inquiry-grows : InquiryGrows
inquiry-grows k ask rounds history x i r =
    let same : 1 + length rounds ≡ suc (length rounds) = omega arith in
    record {
      opened = i.opened;
      asked = subst (λ (m : ℕ). AreRounds k (Open k ask ∷ []) 1 (rounds ++ x ∷ []) (history ++ round_events k m x)) same (rounds-grow k (Open k ask ∷ []) 1 rounds history x i.asked (subst (λ (m : ℕ). IsRound k history m x) (sym same) r));
    }
