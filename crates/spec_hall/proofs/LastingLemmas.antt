-- What a job's own events have that were opened in form and no other event opens again.
use Rattle.std.proofs.Common.{◌≡◌, ℕ, cond, Bool, true, false, List, [], ◌∷◌, ◌++◌, refl, sym, ◌∙◌, ap, subst}
use Rattle.std.specs.List.{list_any}
use Rattle.std.proofs.lemmas.Bool.{both_ways, or_from}
use Rattle.std.proofs.lemmas.List.Folds.{list_any-append}
use Rattle.mal_base.specs.Asks.{Terms, IsAsk}
use Rattle.spec_job.specs.Lawful.{IsLawful}
use Rattle.spec_job.specs.SoloMachine.{Own, Opened}
use Rattle.spec_job.specs.KeyedJob.{Key}
use Rattle.spec_hall.specs.Events.{Event, Open, Revise, Reask, Close, Balance, Start, Finish, Exchange, Leave, Arrive}
use Rattle.spec_hall.specs.Own.{own, own_step, adds, is_key}
use Rattle.spec_hall.specs.States.{names_of, names_step, with_key}
use Rattle.spec_hall.specs.Legal.{Allowed, Legal}
use Rattle.spec_hall.proofs.KeyLemmas.{is_key-Decides}
use Rattle.spec_hall.proofs.OrderlyLemmas.{was_named, legal-orderly}
use Rattle.spec_hall.proofs.PushLemmas.{Legal-push, own-push, names-push}
use Rattle.spec_hall.proofs.StatesLemmas.{legal_from-keeps}

-- it holds when a job is opened
abbrev pub Begins : (List Own → Type 0) → Type 0
Begins P = (ask : Terms) → IsAsk ask → P (Opened ask ∷ [])

-- an event is no opening or arrival of a job
abbrev pub NoComing : Key → Event → Type 0
NoComing k (Open j ask) = ⊥
NoComing k (Arrive j brought) = ⊥
NoComing k event = Unit {0}

-- another name that is not among names is not among them with one more
pub with-others : (k j : Key) (names : List Key) → is_key k j ≡ false → list_any (is_key k) names ≡ false → list_any (is_key k) (with_key j names) ≡ false
with-others k j names other none = by_test (list_any (is_key j) names)
  where
    by_test : (b : Bool) → list_any (is_key k) (cond b names (names ++ j ∷ [])) ≡ false
    by_test true = none
    by_test false = list_any-append (is_key k) names (j ∷ []) ∙ or_from (list_any (is_key k) names) (list_any (is_key k) (j ∷ [])) none (or_from (is_key k j) false other refl)

-- when it arrives, of what it brings
abbrev pub Comes : (List Own → Type 0) → Type 0
Comes P = (brought : List Own) → IsLawful brought → P brought

-- and stays with each event that is allowed after the job's name came, but for its openings and arrivals
abbrev pub Lasts : ℕ → Key → (List Own → Type 0) → Type 0
Lasts w k P = (past : List Event) (e : Event) → Legal w past → Allowed w past e → was_named past k ≡ true → P (own k past) → NoComing k e → P (own_step k (own k past) e)

-- a history is legal, and it holds of a job whose name came
record IsNamed (w : ℕ) (P : List Own → Type 0) (k : Key) (past : List Event) : Type 0 where
  legal : Legal w past
  has : was_named past k ≡ true → P (own k past)

module _ (w : ℕ) (k : Key) (P : List Own → Type 0) (begins : Begins P) (comes : Comes P) (lasts : Lasts w k P) where
  named-step : (past : List Event) (e : Event) → Allowed w past e → IsNamed w P k past → list_any (is_key k) (names_step (names_of past) e) ≡ true → P (own_step k (own k past) e)
  named-step past (Open j ask) may is named = by_test (was_named past k) (is_key k j) refl refl
    where
      by_test : (a b : Bool) → was_named past k ≡ a → is_key k j ≡ b → P (adds b (own k past) (Opened ask))
      by_test true true p q = absurd (both_ways (was_named past j) may.fresh (subst (λ (x : Key). was_named past x ≡ true) ((is_key-Decides k j).0 q) p))
      by_test true false p q = is.has p
      by_test false true p q = subst (λ (es : List Own). P (es ++ Opened ask ∷ [])) (sym ((legal-orderly w past is.legal).unknown k p)) (begins ask may.asked)
      by_test false false p q = absurd (both_ways (list_any (is_key k) (with_key j (names_of past))) (with-others k j (names_of past) q p) named)
  named-step past (Revise j number r) may is named = lasts past (Revise j number r) is.legal may named (is.has named) tt
  named-step past (Reask j weight) may is named = lasts past (Reask j weight) is.legal may named (is.has named) tt
  named-step past (Close j) may is named = lasts past (Close j) is.legal may named (is.has named) tt
  named-step past (Balance shares) may is named = lasts past (Balance shares) is.legal may named (is.has named) tt
  named-step past (Start j index worker) may is named = lasts past (Start j index worker) is.legal may named (is.has named) tt
  named-step past (Finish j index worker outcome) may is named = lasts past (Finish j index worker outcome) is.legal may named (is.has named) tt
  named-step past (Exchange j) may is named = lasts past (Exchange j) is.legal may named (is.has named) tt
  named-step past (Leave j) may is named = lasts past (Leave j) is.legal may named (is.has named) tt
  named-step past (Arrive j brought) may is named = by_test (is_key k j) refl
    where
      by_test : (b : Bool) → is_key k j ≡ b → P (cond b brought (own k past))
      by_test true q = comes brought may.lawful
      by_test false q = by_name (was_named past k) refl
        where
          by_name : (a : Bool) → was_named past k ≡ a → P (own k past)
          by_name true p = is.has p
          by_name false p = absurd (both_ways (list_any (is_key k) (with_key j (names_of past))) (with-others k j (names_of past) q p) named)

  named-push : (past : List Event) (e : Event) → Allowed w past e → IsNamed w P k past → IsNamed w P k (past ++ e ∷ [])
  named-push past e may is = record {
    legal = Legal-push w past e is.legal may;
    has = λ named. subst P (sym (own-push k past e)) (named-step past e may is (ap (list_any (is_key k)) (sym (names-push past e)) ∙ named));
  }

  -- so it holds of a job whose name came in a legal history
  pub legal-named : (h : List Event) → Legal w h → was_named h k ≡ true → P (own k h)
  legal-named h legal named =
      let is : IsNamed w P k h = legal_from-keeps w (IsNamed w P k) named-push [] h legal (record { legal = tt; has = λ none. absurd (cc) }) in
      is.has named
