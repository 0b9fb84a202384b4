-- A search is decided where no start runs out of memory.
use Rattle.std.proofs.Common.{◌≡◌, ℕ, suc, true, false, List, [], ◌∷◌, ◌++◌, flat_map, Some, None, refl, sym, ◌∙◌, ap, ap₂, subst, append_assoc, append-nil}
use Rattle.std.specs.List.{list_all}
use Rattle.std.proofs.lemmas.Bool.{and_parts, both_ways}
use Rattle.std.proofs.lemmas.List.Folds.{list_all-append}
use Rattle.mal_base.specs.Asks.{Terms}
use Rattle.mal_base.specs.declared.verdict.Outcome.{Outcome}
use Rattle.mal_base.specs.declared.verdict.Outcome.TheVariants.{Ran, Starved, Lost}
use Rattle.mal_revision.specs.Posted.{Posted}
use Rattle.spec_report.specs.Replies.{ReplyBody}
use Rattle.spec_course.specs.Course.{Asked, Leads, Next}
use Rattle.spec_course.specs.Course.Next.{Asks, Ends}
use Rattle.spec_job.specs.DemandOne.{had_memory}
use Rattle.spec_job.specs.KeyedJob.{Key}
use Rattle.spec_job.specs.Replies.{body_of}
use Rattle.spec_job.specs.SoloMachine.{solo}
use Rattle.spec_hall.specs.Driven.{Turn, Balances, Exchanges, Slices, AreTurns, IsIdle, events_in, loses, was_lost}
use Rattle.spec_hall.specs.Events.{Event, Open, Revise}
use Rattle.spec_hall.specs.Legal.{LegalFrom}
use Rattle.spec_hall.specs.Own.{own}
use Rattle.spec_hall.proofs.DrivenLemmas.{balances-decided, exchange-first, exchanges-decided, nodes-decided}
use Rattle.spec_run.specs.Run.{is_fed, IsFed}
use Rattle.spec_inquiry.specs.Rounds.{Round, IsRound, AreRounds, asked_in, round_events}
use Rattle.spec_inquiry.specs.Searches.{IsSearch}
use Rattle.mal_max.specs.Texts.{optimum_text}
use Rattle.mal_core.specs.Texts.{minimal_text}
use Rattle.spec_promises.specs.Decided.{MaxIsDecided, CoreIsDecided}

-- a turn that is allowed after a past, loses nothing and is fed is decided by it
both-ran : (a b : Outcome) → was_lost a ≡ false → was_lost b ≡ false → had_memory a ≡ true → had_memory b ≡ true → a ≡ b
both-ran Ran Ran p q x y = refl
both-ran Ran Starved p q x y = absurd (both_ways false refl y)
both-ran Ran Lost p q x y = absurd (both_ways true q refl)
both-ran Starved b p q x y = absurd (both_ways false refl x)
both-ran Lost b p q x y = absurd (both_ways true p refl)

turn-same : (w : ℕ) (past : List Event) (t u : Turn) → loses t ≡ false → loses u ≡ false → IsFed (events_in t) → IsFed (events_in u) → LegalFrom w past (events_in t) → LegalFrom w past (events_in u) → t ≡ u
turn-same w past (Balances one) (Balances other) kept safe fed also may might = ap Balances (balances-decided w past one other may.0 might.0)
turn-same w past (Balances one) (Exchanges k) kept safe fed also may might = absurd (may.0.due might.0.1.balance)
turn-same w past (Balances one) (Slices k index o) kept safe fed also may might = absurd (may.0.due might.0.1.balance)
turn-same w past (Exchanges k) (Balances other) kept safe fed also may might = absurd (might.0.due may.0.1.balance)
turn-same w past (Exchanges k) (Exchanges j) kept safe fed also may might = ap Exchanges (exchanges-decided past k j may.0.0 might.0.0 may.0.1 might.0.1)
turn-same w past (Exchanges k) (Slices j place o) kept safe fed also may might = absurd (exchange-first w past k j place 1 may.0.0 might.0.0 may.0.1 might.0.1)
turn-same w past (Slices k index o) (Balances other) kept safe fed also may might = absurd (might.0.due may.0.1.balance)
turn-same w past (Slices k index o) (Exchanges j) kept safe fed also may might = absurd (exchange-first w past j k index 1 might.0.0 may.0.0 might.0.1 may.0.1)
turn-same w past (Slices k index o) (Slices j place u) kept safe fed also may might =
    let node = nodes-decided w past k j index place 1 1 may.0.0 might.0.0 may.0.1 might.0.1 in
    let outcome : o ≡ u = both-ran o u kept safe (and_parts (had_memory o) true fed).0 (and_parts (had_memory u) true also).0 in
    ap (λ (i : Key). Slices i index o) node.0 ∙ ap₂ (λ (n : ℕ) (x : Outcome). Slices j n x) node.1 outcome

-- and none is allowed where nothing is due and no node may start
idle-none : (w : ℕ) (past : List Event) (t : Turn) → IsIdle past → LegalFrom w past (events_in t) → ⊥
idle-none w past (Balances shares) idle may = may.0.due idle.calm.balance
idle-none w past (Exchanges k) idle may = let both : Some may.0.0 ≡ None = sym may.0.1.first ∙ idle.calm.exchange in absurd (cc)
idle-none w past (Slices k index o) idle may = let both : Some may.0.0 ≡ None = sym may.0.1.first ∙ idle.none in absurd (cc)

-- so turns that go on until then are decided
fed-parts : (xs ys : List Event) → IsFed (xs ++ ys) → IsFed xs × IsFed ys
fed-parts xs ys e = and_parts (list_all is_fed xs) (list_all is_fed ys) (sym (list_all-append is_fed xs ys) ∙ e)

turns-same : (w : ℕ) (past : List Event) (ts us : List Turn) → IsFed (flat_map events_in ts) → IsFed (flat_map events_in us) → AreTurns w past ts → AreTurns w past us → IsIdle (past ++ flat_map events_in ts) → IsIdle (past ++ flat_map events_in us) → ts ≡ us
turns-same w past [] [] fed also may might idle still = refl
turns-same w past [] (u ∷ us) fed also may might idle still = absurd (idle-none w past u (subst IsIdle (append-nil past) idle) might.2)
turns-same w past (t ∷ ts) [] fed also may might idle still = absurd (idle-none w past t (subst IsIdle (append-nil past) still) may.2)
turns-same w past (t ∷ ts) (u ∷ us) fed also may might idle still =
    let mine = fed-parts (events_in t) (flat_map events_in ts) fed in
    let other = fed-parts (events_in u) (flat_map events_in us) also in
    let same : t ≡ u = turn-same w past t u may.1 might.1 mine.0 other.0 may.2 might.2 in
    let later : AreTurns w (past ++ events_in t) us = subst (λ (x : Turn). AreTurns w (past ++ events_in x) us) (sym same) might.3 in
    let quiet : IsIdle ((past ++ events_in t) ++ flat_map events_in ts) = subst IsIdle (sym (append_assoc past (events_in t) (flat_map events_in ts))) idle in
    let silent : IsIdle ((past ++ events_in t) ++ flat_map events_in us) = subst IsIdle (ap (λ (x : Turn). (past ++ events_in x) ++ flat_map events_in us) (sym same)) (subst IsIdle (sym (append_assoc past (events_in u) (flat_map events_in us))) still) in
    ap₂ (λ (x : Turn) (xs : List Turn). x ∷ xs) same (turns-same w (past ++ events_in t) ts us mine.1 other.1 may.3 later quiet silent)

-- a round of one question is decided
round-same : (k : Key) (past : List Event) (n : ℕ) (x y : Round) → IsRound k past n x → IsRound k past n y → x.asked.revision ≡ y.asked.revision → IsFed (flat_map events_in x.turns) → IsFed (flat_map events_in y.turns) → x ≡ y
round-same k past n x y one other question fed also =
    let posted : past ++ Revise k n y.asked.revision ∷ [] ≡ past ++ Revise k n x.asked.revision ∷ [] = ap (λ (r : Posted). past ++ Revise k n r ∷ []) (sym question) in
    let turned : AreTurns 1 (past ++ Revise k n x.asked.revision ∷ []) y.turns = subst (λ (h : List Event). AreTurns 1 h y.turns) posted other.turned in
    let idle : IsIdle ((past ++ Revise k n x.asked.revision ∷ []) ++ flat_map events_in x.turns) = subst IsIdle (sym (append_assoc past (Revise k n x.asked.revision ∷ []) (flat_map events_in x.turns))) one.idle in
    let still : IsIdle ((past ++ Revise k n x.asked.revision ∷ []) ++ flat_map events_in y.turns) = subst IsIdle (ap (λ (h : List Event). h ++ flat_map events_in y.turns) posted) (subst IsIdle (sym (append_assoc past (Revise k n y.asked.revision ∷ []) (flat_map events_in y.turns))) other.idle) in
    let turns : x.turns ≡ y.turns = turns-same 1 (past ++ Revise k n x.asked.revision ∷ []) x.turns y.turns fed also one.turned turned idle still in
    let events : past ++ round_events k n x ≡ past ++ round_events k n y = ap₂ (λ (r : Posted) (ts : List Turn). past ++ Revise k n r ∷ flat_map events_in ts) question turns in
    let both : Some x.asked.told ≡ Some y.asked.told = sym one.told ∙ (ap (λ (h : List Event). body_of n (solo (own k h))) events ∙ other.told) in
    let told : x.asked.told ≡ y.asked.told = cc in
    ap₂ (λ (a : Asked) (ts : List Turn). round a ts) (ap₂ (λ (r : Posted) (b : ReplyBody). asked r b) question told) turns
  where
    asked : Posted → ReplyBody → Asked
    asked revision told = record { revision = revision; told = told }

    round : Asked → List Turn → Round
    round asked turns = record { asked = asked; turns = turns }

-- what was fed in the end was so in each round
rounds-front : (k : Key) (past : List Event) (n : ℕ) (xs : List Round) (h : List Event) → AreRounds k past n xs h → IsFed h → IsFed past
rounds-front k past n [] h are fed = subst IsFed are fed
rounds-front k past n (x ∷ xs) h are fed = (fed-parts past (round_events k n x) (rounds-front k (past ++ round_events k n x) (suc n) xs h are.1 fed)).0

round-fed : (k : Key) (past : List Event) (n : ℕ) (x : Round) (xs : List Round) (h : List Event) → AreRounds k (past ++ round_events k n x) (suc n) xs h → IsFed h → IsFed (flat_map events_in x.turns)
round-fed k past n x xs h are fed = (fed-parts past (round_events k n x) (rounds-front k (past ++ round_events k n x) (suc n) xs h are fed)).1

-- so the questions and the outcome are
module _ (S O : Type 0) (k : Key) (step : S → ReplyBody → Next S O) where
  ends-same : (now : Next S O) (one other : O) → now ≡ Ends one → now ≡ Ends other → one ≡ other
  ends-same now one other p q = let same : Ends one ≡ Ends other = sym p ∙ q in cc

  leads-same : (past : List Event) (n : ℕ) (now : Next S O) (xs ys : List Round) (h g : List Event) (one other : O) → AreRounds k past n xs h → AreRounds k past n ys g → IsFed h → IsFed g → Leads step now (asked_in xs) (Ends one) → Leads step now (asked_in ys) (Ends other) → one ≡ other
  leads-same past n now [] [] h g one other are also fed full leads led = ends-same now one other leads led
  leads-same past n (Asks s r) [] (y ∷ ys) h g one other are also fed full leads led = absurd (cc)
  leads-same past n (Ends o) [] (y ∷ ys) h g one other are also fed full leads led = absurd led
  leads-same past n (Asks s r) (x ∷ xs) [] h g one other are also fed full leads led = absurd (cc)
  leads-same past n (Ends o) (x ∷ xs) [] h g one other are also fed full leads led = absurd leads
  leads-same past n (Ends o) (x ∷ xs) (y ∷ ys) h g one other are also fed full leads led = absurd leads
  leads-same past n (Asks s r) (x ∷ xs) (y ∷ ys) h g one other are also fed full leads led =
      let same : x ≡ y = round-same k past n x y are.0 also.0 (leads.0 ∙ sym led.0) (round-fed k past n x xs h are.1 fed) (round-fed k past n y ys g also.1 full) in
      leads-same (past ++ round_events k n x) (suc n) (step s x.asked.told) xs ys h g one other are.1 (subst (λ (z : Round). AreRounds k (past ++ round_events k n z) (suc n) ys g) (sym same) also.1) fed full leads.1 (subst (λ (z : Round). Leads step (step s z.asked.told) (asked_in ys) (Ends other)) (sym same) led.1)

-- two searches that go on alike come to one outcome
search_is_decided : (S O : Type 0) (k : Key) (ask : Terms) (step : S → ReplyBody → Next S O) (first : Next S O) (one other : O) (search : IsSearch k ask step first one) (again : IsSearch k ask step first other) → IsFed search.history → IsFed again.history → one ≡ other
search_is_decided S O k ask step first one other search again fed also =
    leads-same S O k step (Open k ask ∷ []) 1 first search.rounds again.rounds search.history again.history one other search.inquiry.asked again.inquiry.asked fed also search.leads again.leads

pub max_is_decided : MaxIsDecided
max_is_decided slices w one other found also fed full = ap optimum_text (search_is_decided _ _ _ _ _ _ one other found.search also.search fed full)

pub core_is_decided : CoreIsDecided
core_is_decided slices w one other found also fed full = ap minimal_text (search_is_decided _ _ _ _ _ _ one other found.search also.search fed full)
