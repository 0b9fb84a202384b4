-- A job that always asks for one worker is run by one node, so its answers are decided.
use Rattle.std.proofs.Common.{◌≡◌, ℕ, Bool, true, false, cond, List, [], ◌∷◌, ◌++◌, drop, refl, sym, ◌∙◌, ap, subst, arith}
use Rattle.std.specs.List.{list_all, list_any}
use Rattle.std.proofs.lemmas.Bool.{both_ways, or_parts}
use Rattle.std.proofs.lemmas.List.Folds.{list_any-append}
use Rattle.mal_base.specs.Asks.{Terms}
use Rattle.spec_job.specs.SoloMachine.{Own, Opened, Revised, Reasked, Closed, Started, Finished, Exchanged, SoloMachine, solo}
use Rattle.spec_job.specs.KeyedJob.{Key}
use Rattle.spec_job.specs.DemandOne.{IsSingle, AgreeAll, is_single}
use Rattle.spec_job.specs.Runnable.{IsRunnable}
use Rattle.spec_job.specs.Unknown.{is_fed}
use Rattle.spec_job.proofs.SingleLemmas.{singles-agree}
use Rattle.spec_hall.specs.Events.{Event, Open, Revise, Reask, Close, Balance, Start, Finish, Exchange, Leave, Arrive}
use Rattle.spec_hall.specs.Own.{own, own_step, adds, adds_volume, arrives, is_key, volume_in}
use Rattle.spec_hall.specs.States.{names_of, names_step, with_key}
use Rattle.spec_hall.specs.Legal.{Allowed, Legal}
use Rattle.spec_hall.specs.Laws.{LegalAsksForOne, LegalSinglesAgree, AsksForOne}
use Rattle.spec_hall.proofs.KeyLemmas.{is_key-Decides}
use Rattle.spec_hall.proofs.PushLemmas.{names-push, own-push}
use Rattle.spec_hall.proofs.StatesLemmas.{legal_from-keeps}
use Rattle.spec_hall.proofs.OrderlyLemmas.{IsOrderly, legal-orderly, orderly-push, was_named}
use Rattle.spec_hall.proofs.RunnableLemmas.{legal-is_runnable}
use Rattle.spec_hall.proofs.LastingLemmas.{with-others}
use Rattle.spec_hall.proofs.OngoingLemmas.{legal-kept}
use Rattle.spec_hall.proofs.OnceLemmas.{IsBegun, IsOnce, adds-once, adds_volume-once, balance-suits, begun-more, exchange-suits, opened-begun, opened-once}

-- a job whose name came was opened, here or where it was before
legal-begun : (w : ℕ) (h : List Event) (k : Key) → Legal w h → was_named h k ≡ true → IsBegun (own k h)
legal-begun w h k legal named = legal-kept w k IsBegun (λ ask asked. opened-begun ask) begun-more h legal named

-- a history is orderly, and a job whose name came is run by one node if it always asks for one worker
pub record IsHere (k : Key) (past : List Event) : Type 0 where
  pub orderly : IsOrderly past
  pub once : was_named past k ≡ true → IsOnce (own k past)

-- a name that is not among names is not among them with another
named-before : (k j : Key) (names : List Key) → is_key k j ≡ false → list_any (is_key k) (with_key j names) ≡ true → list_any (is_key k) names ≡ true
named-before k j names other named = by_test (list_any (is_key k) names) refl
  where
    by_test : (b : Bool) → list_any (is_key k) names ≡ b → b ≡ true
    by_test true q = refl
    by_test false q = absurd (both_ways (list_any (is_key k) (with_key j names)) (with-others k j names other q) named)

-- so it is after an event that is no arrival of the job
pub event-once : (w : ℕ) (past : List Event) (k : Key) (e : Event) → Allowed w past e → arrives k e ≡ false → IsHere k past → list_any (is_key k) (names_step (names_of past) e) ≡ true → IsOnce (own_step k (own k past) e)
event-once w past k (Open j ask) may stays here named = by_test (was_named past k) (is_key k j) refl refl
  where
    by_test : (a b : Bool) → was_named past k ≡ a → is_key k j ≡ b → IsOnce (adds b (own k past) (Opened ask))
    by_test true true p q = absurd (both_ways (was_named past j) may.fresh (subst (λ (x : Key). was_named past x ≡ true) ((is_key-Decides k j).0 q) p))
    by_test true false p q = here.once p
    by_test false true p q = subst (λ (es : List Own). IsOnce (es ++ Opened ask ∷ [])) (sym (here.orderly.unknown k p)) (opened-once ask)
    by_test false false p q = here.once (named-before k j (names_of past) q named)
event-once w past k (Revise j number r) may stays here named = adds-once (is_key k j) (own k past) (Revised r) refl (here.once named) (λ m o d s f a. refl)
event-once w past k (Reask j weight) may stays here named = adds-once (is_key k j) (own k past) (Reasked weight) refl (here.once named) (λ m o d s f a. a)
event-once w past k (Close j) may stays here named = adds-once (is_key k j) (own k past) Closed refl (here.once named) (λ m o d s f a. refl)
event-once w past k (Balance shares) may stays here named = adds_volume-once (volume_in k shares) (own k past) (here.once named) (balance-suits w past k shares may)
event-once w past k (Start j index worker) may stays here named = adds-once (is_key k j) (own k past) (Started index) refl (here.once named) (λ m o d s f a. refl)
event-once w past k (Finish j index worker outcome) may stays here named = adds-once (is_key k j) (own k past) (Finished index outcome) refl (here.once named) (λ m o d s f a. f)
event-once w past k (Exchange j) may stays here named = adds-once (is_key k j) (own k past) Exchanged refl (here.once named) (exchange-suits past k j may.0 may.1)
event-once w past k (Leave j) may stays here named = by_test (is_key k j)
  where
    by_test : (b : Bool) → IsOnce (cond b (adds_volume 0 (own k past)) (own k past))
    by_test true = adds_volume-once 0 (own k past) (here.once named) (λ o d s f a. refl)
    by_test false = here.once named
event-once w past k (Arrive j brought) may stays here named = subst (λ (b : Bool). IsOnce (cond b brought (own k past))) (sym stays) (here.once (named-before k j (names_of past) stays named))

here-push : (w : ℕ) (k : Key) (past : List Event) (e : Event) → Allowed w past e → (list_any (arrives k) past ≡ false → IsHere k past) → list_any (arrives k) (past ++ e ∷ []) ≡ false → IsHere k (past ++ e ∷ [])
here-push w k past e may before none =
    let parts = or_parts (list_any (arrives k) past) (list_any (arrives k) (e ∷ [])) (sym (list_any-append (arrives k) past (e ∷ [])) ∙ none) in
    let here : IsHere k past = before parts.0 in
    record {
      orderly = orderly-push w past e may here.orderly;
      once = λ named. subst IsOnce (sym (own-push k past e)) (event-once w past k e may (or_parts (arrives k e) false parts.1).0 here (ap (list_any (is_key k)) (sym (names-push past e)) ∙ named));
    }

legal-once : (w : ℕ) (h : List Event) (k : Key) → Legal w h → list_any (arrives k) h ≡ false → was_named h k ≡ true → IsOnce (own k h)
legal-once w h k legal none named = (legal_from-keeps w (λ past. list_any (arrives k) past ≡ false → IsHere k past) (here-push w k) [] h legal (λ q. record { orderly = legal-orderly w [] tt; once = λ n. absurd (cc) }) none).once named

-- a job that has a demand came
demand-named : (w : ℕ) (h : List Event) (k : Key) → Legal w h → (solo (own k h)).ask.demand ≡ 1 → was_named h k ≡ true
demand-named w h k legal demand = by_test (was_named h k) refl
  where
    by_test : (b : Bool) → was_named h k ≡ b → b ≡ true
    by_test true e = refl
    by_test false e =
        let none : (solo (own k h)).ask.demand ≡ 0 = ap (λ (es : List Own). (solo es).ask.demand) ((legal-orderly w h legal).unknown k e) in
        absurd (omega (arith, none, demand))

-- a job that never arrived and always asked for one worker asks for one
pub legal-asks_for_one : LegalAsksForOne
legal-asks_for_one w h k legal none demand always fed =
    let once : IsOnce (own k h) = legal-once w h k legal none (demand-named w h k legal demand) in
    let rest : list_all is_fed once.begun.rest ≡ true = ap (list_all is_fed) (sym once.begun.is) ∙ fed in
    record { demand = demand; always = always; fed = fed; single = ap (λ (es : List Own). list_all is_single (drop 1 es)) once.begun.is ∙ once.single always rest }

-- a job that always asks for one worker is run by one node
pub record IsAlone (h : List Event) (k : Key) : Type 0 where
  pub ask : Terms
  pub rest : List Own
  pub is : own k h ≡ Opened ask ∷ rest
  pub slices : (solo (own k h)).ask.slices ≡ ask.slices
  pub profile : (solo (own k h)).ask.profile ≡ ask.profile
  pub single : IsSingle ask rest

pub legal-alone : (w : ℕ) (h : List Event) (k : Key) → Legal w h → AsksForOne h k → IsAlone h k
legal-alone w h k legal asks =
    let begun : IsBegun (own k h) = legal-begun w h k legal (demand-named w h k legal asks.demand) in
    let single : list_all is_single begun.rest ≡ true = ap (λ (es : List Own). list_all is_single (drop 1 es)) (sym begun.is) ∙ asks.single in
    record { ask = begun.ask; rest = begun.rest; is = begun.is; slices = begun.slices; profile = begun.profile; single = record { runnable = subst (IsRunnable []) begun.is (legal-is_runnable w h legal k); single = single } }

-- what relates the runs of two such jobs of one budget and one profile relates their machines
pub alone-agree : (R : SoloMachine → SoloMachine → Type 0) (workers others : ℕ) (one other : List Event) (k : Key) → Legal workers one → Legal others other → AsksForOne one k → AsksForOne other k → (solo (own k one)).ask.slices ≡ (solo (own k other)).ask.slices → (solo (own k one)).ask.profile ≡ (solo (own k other)).ask.profile
    → ((ask asked : Terms) (rest others : List Own) → own k one ≡ Opened ask ∷ rest → own k other ≡ Opened asked ∷ others → ask.slices ≡ asked.slices → ask.profile ≡ asked.profile → IsSingle ask rest → IsSingle asked others → R (solo (Opened ask ∷ rest)) (solo (Opened asked ∷ others))) → R (solo (own k one)) (solo (own k other))
alone-agree R workers others one other k legal lawful asks asked budget profile runs =
    let a : IsAlone one k = legal-alone workers one k legal asks in
    let b : IsAlone other k = legal-alone others other k lawful asked in
    let slices : a.ask.slices ≡ b.ask.slices = sym a.slices ∙ (budget ∙ b.slices) in
    let same : a.ask.profile ≡ b.ask.profile = sym a.profile ∙ (profile ∙ b.profile) in
    subst (λ (es : List Own). R (solo es) (solo (own k other))) (sym a.is) (subst (λ (es : List Own). R (solo (Opened a.ask ∷ a.rest)) (solo es)) (sym b.is) (runs a.ask b.ask a.rest b.rest a.is b.is slices same a.single b.single))

pub legal-singles_agree : LegalSinglesAgree
legal-singles_agree k workers others one other more legal lawful asks asked budget profile front = alone-agree AgreeAll workers others one other k legal lawful asks asked budget profile (λ a b own-a own-b is-a is-b slices same single-a single-b.
    let begins : (solo (Opened b ∷ own-b)).revisions ≡ (solo (Opened a ∷ own-a)).revisions ++ more = ap (λ (es : List Own). (solo es).revisions) (sym is-b) ∙ (front ∙ ap (λ (es : List Own). (solo es).revisions ++ more) is-a) in
    singles-agree a b own-a own-b more slices same single-a single-b begins)
