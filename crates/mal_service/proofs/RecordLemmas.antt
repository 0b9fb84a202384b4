-- A legal record that goes on, and what a call does to a pass.
use Rattle.std.proofs.Common.{◌≡◌, ℕ, ◌≤◌, List, [], ◌∷◌, ◌++◌, sym, ap, ◌∙◌, subst, append_assoc, append-nil}
use Rattle.std.proofs.lemmas.Grind.{flat_map-append}
use Rattle.mal_turn.specs.declared.view.View.{View}
use Rattle.mal_turn.specs.Rule.{Begins, Has}
use Rattle.mal_turn.proofs.Wholes.{extends}
use Rattle.spec_hall.specs.Calls.{Opens, Revises, Reasks, Closes, Asks, Picks, Finishes}
use Rattle.spec_hall.specs.Events.{Event}
use Rattle.spec_hall.specs.Legal.{Legal}
use Rattle.spec_hall.proofs.CallLemmas.{call-is_legal}
use Rattle.mal_service.specs.Laws.{AnswersAreLegal}
use Rattle.mal_service.specs.Passes.{Enters, HasNoted}
use Rattle.mal_service.specs.Record.{Answered, Opened, Revised, Reasked, Closed, Asked, Picked, Gave, AreAnsweredFrom, Entry, IsAnswered, IsLegal, Record, StandsFor, entry, events_of}

-- the events of a record that goes on
pub events-append : (a b : Record) → events_of (a ++ b) ≡ events_of a ++ events_of b
events-append a b = flat_map-append (λ (e : List ℕ × Entry). e.1.events) a b

pub events-push : (log : Record) (n : List ℕ) (e : Entry) → events_of (log ++ (n, e) ∷ []) ≡ events_of log ++ e.events
events-push log n e = events-append log ((n, e) ∷ []) ∙ ap (λ (es : List Event). events_of log ++ es) (append-nil e.events)

-- one call more
pub answers-push : (w : ℕ) (past : List Event) (log : Record) (n : List ℕ) (e : Entry) → AreAnsweredFrom w past log → IsAnswered w (past ++ events_of log) e.call e.events → AreAnsweredFrom w past (log ++ (n, e) ∷ [])
answers-push w past [] n e calls call = (subst (λ (h : List Event). IsAnswered w h e.call e.events) (append-nil past) call, tt)
answers-push w past (d ∷ log) n e calls call =
    (calls.0, answers-push w (past ++ d.1.events) log n e calls.1 (subst (λ (h : List Event). IsAnswered w h e.call e.events) (sym (append_assoc past d.1.events (events_of log))) call))

-- the events of a call leave a legal history legal
answered-legal : (w : ℕ) (past : List Event) (c : Answered) (es : List Event) → 1 ≤ w → w ≤ 64 → Legal w past → IsAnswered w past c es → Legal w (past ++ es)
answered-legal w past (Opened k ask answer) es some bound legal call = call-is_legal w past (Opens k ask) answer es some bound legal call
answered-legal w past (Revised k r answer) es some bound legal call = call-is_legal w past (Revises k r) answer es some bound legal call
answered-legal w past (Reasked k weight answer) es some bound legal call = call-is_legal w past (Reasks k weight) answer es some bound legal call
answered-legal w past (Closed k answer) es some bound legal call = call-is_legal w past (Closes k) answer es some bound legal call
answered-legal w past (Asked k r answer) es some bound legal call = call-is_legal w past (Asks k r) answer es some bound legal call
answered-legal w past (Picked worker answer) es some bound legal call = call-is_legal w past (Picks worker) answer es some bound legal call
answered-legal w past (Gave d answer) es some bound legal call = call-is_legal w past (Finishes d) answer es some bound legal call

-- the events of calls leave a legal history legal
answers-legal : (w : ℕ) (past : List Event) (log : Record) → 1 ≤ w → w ≤ 64 → Legal w past → AreAnsweredFrom w past log → Legal w (past ++ events_of log)
answers-legal w past [] some bound legal calls = subst (Legal w) (sym (append-nil past)) legal
answers-legal w past (e ∷ log) some bound legal calls =
    let next : Legal w (past ++ e.1.events) = answered-legal w past e.1.call e.1.events some bound legal calls.0 in
    subst (Legal w) (append_assoc past e.1.events (events_of log)) (answers-legal w (past ++ e.1.events) log some bound next calls.1)

pub answers-are_legal : AnswersAreLegal
answers-are_legal w log some bound calls = record { history = answers-legal w [] log some bound tt calls; answers = calls }

-- a legal record with one call more
pub legal-push : (w : ℕ) (log : Record) (n : List ℕ) (e : Entry) → 1 ≤ w → w ≤ 64 → IsLegal w log → IsAnswered w (events_of log) e.call e.events → IsLegal w (log ++ (n, e) ∷ [])
legal-push w log n e some bound legal call = answers-are_legal w (log ++ (n, e) ∷ []) some bound (answers-push w [] log n e legal.answers call)

module _ (w : ℕ) (some : 1 ≤ w) (bound : w ≤ 64) (past now : List Event) (c : Answered) (noted : Entry) (log : Record) where
  -- the call was made of the hall at the record's end
  noted-call : StandsFor w past log → (h : HasNoted w past c now noted) → IsAnswered w (events_of log) noted.call noted.events
  noted-call stands h =
      let here : IsAnswered w (events_of log) c h.events = subst (λ (es : List Event). IsAnswered w es c h.events) stands.1 h.answered in
      subst (λ (e : Entry). IsAnswered w (events_of log) e.call e.events) (sym h.noted_is) here

  -- what a hall stands for that was called and whose call was noted
  pub noted-stands : (n : List ℕ) → StandsFor w past log → HasNoted w past c now noted → StandsFor w now (log ++ (n, noted) ∷ [])
  noted-stands n stands h = (
    legal-push w log n noted some bound stands.0 (noted-call stands h),
    h.grown ∙ ((λ i. stands.1 i ++ (ap (λ (e : Entry). e.events) (sym h.noted_is)) i) ∙ sym (events-push log n noted)),
  )

  -- a pass took the turn, called the hall and put it back
  pub noted-enters : (v after : View Entry) → Has v.of v.of.first → Begins log v.of.all v.seen → StandsFor w past log → HasNoted w past c now noted
      → after.seen ≡ log ++ (v.of.first, noted) ∷ [] → after.of ≡ v.of → Enters w v c after
  noted-enters v after has begins stands h seen of =
      let is : after.seen ≡ log ++ (v.of.first, entry c h.events) ∷ [] = seen ∙ ap (λ (e : Entry). log ++ (v.of.first, e) ∷ []) h.noted_is in
      record {
        events = h.events;
        extends = extends v after log (entry c h.events) has begins is of;
        legal = subst (IsLegal w) (sym seen) (noted-stands v.of.first stands h).0;
      }
