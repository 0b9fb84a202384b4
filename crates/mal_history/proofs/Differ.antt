-- The words of an event tell it, so a text tells its history.
use Rattle.std.proofs.Common.{◌≡◌, ◌==◌, ℕ, Bool, true, false, cond, List, [], ◌∷◌, ◌++◌, map, flat_map, length, codes, pos, refl, sym, ap, ◌∙◌, subst, arith}
use Rattle.std.specs.List.{AllByRecursion}
use Rattle.std.proofs.lemmas.Bool.Decides.{nat_tests}
use Rattle.std.proofs.lemmas.List.Concat.{flat_map-cons}
use Rattle.mal_base.specs.Asks.{Terms, Weighed}
use Rattle.mal_base.specs.declared.verdict.Outcome.{Outcome}
use Rattle.mal_base.specs.declared.verdict.Outcome.TheVariants.{Ran, Starved, Lost}
use Rattle.mal_base.specs.Profiles.{number}
use Rattle.mal_base.specs.declared.profile.Profile.{Profile}
use Rattle.mal_base.specs.declared.profile.Profile.TheVariants.{Plain, Lean}
use Rattle.spec_text.specs.Asks.{is_first, profile_words}
use Rattle.spec_text.specs.Numbers.NumberWord.{Number}
use Rattle.spec_text.specs.Lines.{IsClean, AreClean, IsRow, AreRows}
use Rattle.spec_text.specs.Numbers.{decimal_word}
use Rattle.spec_text.proofs.Again.{texts_differ}
use Rattle.spec_text.proofs.Asked.{first-is, number-bound, same-profile}
use Rattle.spec_text.proofs.Clean.{decimals_are_clean, decimals_differ}
use Rattle.spec_text.proofs.Names.{profile-clean}
use Rattle.mal_history.specs.declared.event.Event.{Event}
use Rattle.mal_history.specs.declared.event.Event.TheVariants.{Open, Revise, Reask, Close, Balance, Start, Finish, Exchange, Leave, Arrive}
use Rattle.mal_history.specs.declared.event.Share.{Share}
use Rattle.mal_history.specs.Text.{outcome_word, share_words, event_words, version_of, header_words, history_text}
use Rattle.mal_history.specs.Differ.{IsNumber, IsShare, IsWritable, one_start, one_open, one_reask, one_leave, one_arrival, HistoriesDiffer, HaveOtherTexts}

-- the parts of a list
head-same : {X : Type 0} (x y : X) (xs ys : List X) → x ∷ xs ≡ y ∷ ys → x ≡ y
head-same x y xs ys e = cc

tail-same : {X : Type 0} (x y : X) (xs ys : List X) → x ∷ xs ≡ y ∷ ys → xs ≡ ys
tail-same x y xs ys e = cc

-- each line can be written
one-row : (word : List ℕ) (words : List (List ℕ)) → IsClean word → AreClean words → IsRow (word ∷ words)
one-row word words h k = (omega arith, (h, k))

clean-both : (xs ys : List (List ℕ)) → AreClean xs → AreClean ys → AreClean (xs ++ ys)
clean-both [] ys h k = k
clean-both (x ∷ xs) ys h k = (h.0, clean-both xs ys h.1 k)

shares-clean : (ss : List Share) → AllByRecursion IsShare ss → AreClean (flat_map share_words ss)
shares-clean [] h = tt
shares-clean (s ∷ ss) h = subst AreClean (sym (flat_map-cons share_words s ss)) (clean-both (share_words s) (flat_map share_words ss) (h.0.tenant, (h.0.job, (decimals_are_clean s.volume, tt))) (shares-clean ss h.1))

outcome-clean : (o : Outcome) → IsClean (outcome_word o)
outcome-clean Ran = (omega arith, (omega arith, (omega arith, (omega arith, tt))))
outcome-clean Starved = (omega arith, (omega arith, (omega arith, (omega arith, (omega arith, (omega arith, (omega arith, (omega arith, tt))))))))
outcome-clean Lost = (omega arith, (omega arith, (omega arith, (omega arith, (omega arith, tt)))))

event-row : (e : Event) → IsWritable e → IsRow (event_words e)
event-row (Open t j ask) h = (omega arith, ((omega arith, (omega arith, tt)), (h.0, (h.1, (decimals_are_clean ask.priority, (decimals_are_clean ask.demand, (decimals_are_clean ask.slices, profile-clean ask.profile)))))))
event-row (Revise t j n) h = (omega arith, ((omega arith, (omega arith, tt)), (h.0, (h.1, (decimals_are_clean n, tt)))))
event-row (Reask t j w) h = (omega arith, ((omega arith, (omega arith, tt)), (h.0, (h.1, (decimals_are_clean w.priority, (decimals_are_clean w.demand, tt))))))
event-row (Close t j) h = (omega arith, ((omega arith, (omega arith, tt)), (h.0, (h.1, tt))))
event-row (Balance ss) h = one-row (codes "b") (flat_map share_words ss) (omega arith, (omega arith, tt)) (shares-clean ss h)
event-row (Start t j i w) h = (omega arith, ((omega arith, (omega arith, tt)), (h.0, (h.1, (decimals_are_clean i, (decimals_are_clean w, tt))))))
event-row (Finish t j i w o) h = (omega arith, ((omega arith, (omega arith, tt)), (h.0, (h.1, (decimals_are_clean i, (decimals_are_clean w, (outcome-clean o, tt)))))))
event-row (Exchange t j) h = (omega arith, ((omega arith, (omega arith, tt)), (h.0, (h.1, tt))))
event-row (Leave t j) h = (omega arith, ((omega arith, (omega arith, tt)), (h.0, (h.1, tt))))
event-row (Arrive t j) h = (omega arith, ((omega arith, (omega arith, tt)), (h.0, (h.1, tt))))

pub event-rows : (es : List Event) → AllByRecursion IsWritable es → AreRows (map event_words es)
event-rows [] h = tt
event-rows (e ∷ es) h = (event-row e h.0, event-rows es h.1)

pub header-row : (version workers : ℕ) → IsRow (header_words version workers)
header-row version workers = (omega arith, ((omega arith, (omega arith, tt)), ((omega arith, (omega arith, (omega arith, (omega arith, tt)))), (decimals_are_clean version, (decimals_are_clean workers, tt)))))

-- an outcome is told by its word
outcomes-differ : (a b : Outcome) → outcome_word a ≡ outcome_word b → a ≡ b
outcomes-differ Ran Ran e = refl
outcomes-differ Starved Starved e = refl
outcomes-differ Lost Lost e = refl
outcomes-differ a b e = let same : length (outcome_word a) ≡ length (outcome_word b) = ap (λ (xs : List ℕ). length xs) e in absurd (omega (arith, same))

-- a profile is told by its words
profiles-differ : (p q : Profile) → profile_words p ≡ profile_words q → p ≡ q
profiles-differ p q e = by_tests (is_first p) (is_first q) refl refl e
  where
    wide : (r : Profile) → IsNumber (number r)
    wide r = omega (arith, number-bound r)

    by_tests : (a b : Bool) → is_first p ≡ a → is_first q ≡ b → cond a [] (decimal_word (number p) ∷ []) ≡ cond b [] (decimal_word (number q) ∷ []) → p ≡ q
    by_tests true true x y e = first-is p x ∙ sym (first-is q y)
    by_tests true false x y e = absurd (cc)
    by_tests false true x y e = absurd (cc)
    by_tests false false x y e =
        let same : number p ≡ number q = decimals_differ (number p) (number q) (wide p) (wide q) (head-same (decimal_word (number p)) (decimal_word (number q)) [] [] e) in
        same-profile p q (ap (λ (n : ℕ). Number (pos n)) same)

-- volumes are told by their words
share-same : (s t : Share) → s.tenant ≡ t.tenant → s.job ≡ t.job → s.volume ≡ t.volume → s ≡ t
share-same s t a b c = ap (λ (x : List ℕ). share x s.job s.volume) a ∙ (ap (λ (x : List ℕ). share t.tenant x s.volume) b ∙ ap (λ (n : ℕ). share t.tenant t.job n) c)
  where
    share : List ℕ → List ℕ → ℕ → Share
    share tenant job volume = record { tenant = tenant; job = job; volume = volume }

shares-differ : (ss ts : List Share) → AllByRecursion IsShare ss → AllByRecursion IsShare ts → flat_map share_words ss ≡ flat_map share_words ts → ss ≡ ts
shares-differ [] [] h k e = refl
shares-differ [] (t ∷ ts) h k e = let bad : [] ≡ share_words t ++ flat_map share_words ts = e ∙ flat_map-cons share_words t ts in absurd (cc)
shares-differ (s ∷ ss) [] h k e = let bad : share_words s ++ flat_map share_words ss ≡ [] = sym (flat_map-cons share_words s ss) ∙ e in absurd (cc)
shares-differ (s ∷ ss) (t ∷ ts) h k e =
    let all : share_words s ++ flat_map share_words ss ≡ share_words t ++ flat_map share_words ts = sym (flat_map-cons share_words s ss) ∙ (e ∙ flat_map-cons share_words t ts) in
    let tenant : s.tenant ≡ t.tenant = cc in
    let job : s.job ≡ t.job = cc in
    let number : decimal_word s.volume ≡ decimal_word t.volume = cc in
    let rest : flat_map share_words ss ≡ flat_map share_words ts = cc in
    let one : s ≡ t = share-same s t tenant job (decimals_differ s.volume t.volume h.0.volume k.0.volume number) in
    let more : ss ≡ ts = shares-differ ss ts h.1 k.1 rest in
    ap (λ (x : Share). x ∷ ss) one ∙ ap (λ (xs : List Share). t ∷ xs) more

-- the letter of an event
letter_of : Event → ℕ
letter_of (Open t j ask) = 111
letter_of (Revise t j n) = 114
letter_of (Reask t j w) = 113
letter_of (Close t j) = 99
letter_of (Balance ss) = 98
letter_of (Start t j i w) = 115
letter_of (Finish t j i w o) = 102
letter_of (Exchange t j) = 120
letter_of (Leave t j) = 103
letter_of (Arrive t j) = 110

-- the first byte of the first word
first_byte : List (List ℕ) → ℕ
first_byte [] = 0
first_byte ([] ∷ words) = 0
first_byte ((b ∷ bs) ∷ words) = b

letter-first : (e : Event) → first_byte (event_words e) ≡ letter_of e
unfolding letter_of first_byte
letter-first (Open t j ask) = refl
letter-first (Revise t j n) = refl
letter-first (Reask t j w) = refl
letter-first (Close t j) = refl
letter-first (Balance ss) = refl
letter-first (Start t j i w) = refl
letter-first (Finish t j i w o) = refl
letter-first (Exchange t j) = refl
letter-first (Leave t j) = refl
letter-first (Arrive t j) = refl

terms-same : (a b : Terms) → a.priority ≡ b.priority → a.demand ≡ b.demand → a.slices ≡ b.slices → a.profile ≡ b.profile → a ≡ b
terms-same a b x y z w =
    ap (λ (n : ℕ). terms n a.demand a.slices a.profile) x
    ∙ (ap (λ (n : ℕ). terms b.priority n a.slices a.profile) y ∙ (ap (λ (n : ℕ). terms b.priority b.demand n a.profile) z ∙ ap (λ (p : Profile). terms b.priority b.demand b.slices p) w))
  where
    terms : ℕ → ℕ → ℕ → Profile → Terms
    terms priority demand slices profile = record { priority = priority; demand = demand; slices = slices; profile = profile }

-- two events of one kind
open-differ : (t u j k : List ℕ) (a b : Terms) → IsNumber a.priority → IsNumber b.priority → IsNumber a.demand → IsNumber b.demand → IsNumber a.slices → IsNumber b.slices → event_words (Open t j a) ≡ event_words (Open u k b) → Open t j a ≡ Open u k b
open-differ t u j k a b p q d f s g e =
    let tenant : t ≡ u = cc in
    let job : j ≡ k = cc in
    let priority : decimal_word a.priority ≡ decimal_word b.priority = cc in
    let demand : decimal_word a.demand ≡ decimal_word b.demand = cc in
    let slices : decimal_word a.slices ≡ decimal_word b.slices = cc in
    let profile : profile_words a.profile ≡ profile_words b.profile = cc in
    let ask : a ≡ b = terms-same a b (decimals_differ a.priority b.priority p q priority) (decimals_differ a.demand b.demand d f demand) (decimals_differ a.slices b.slices s g slices) (profiles-differ a.profile b.profile profile) in
    rw (tenant, job, ask) refl

revise-differ : (t u j k : List ℕ) (m n : ℕ) → IsNumber m → IsNumber n → event_words (Revise t j m) ≡ event_words (Revise u k n) → Revise t j m ≡ Revise u k n
revise-differ t u j k m n x y e =
    let tenant : t ≡ u = cc in
    let job : j ≡ k = cc in
    let word : decimal_word m ≡ decimal_word n = cc in
    let number : m ≡ n = decimals_differ m n x y word in
    rw (tenant, job, number) refl

weight-same : (v w : Weighed) → v.priority ≡ w.priority → v.demand ≡ w.demand → v ≡ w
weight-same v w x y = ap (λ (n : ℕ). weight n v.demand) x ∙ ap (λ (n : ℕ). weight w.priority n) y
  where
    weight : ℕ → ℕ → Weighed
    weight priority demand = record { priority = priority; demand = demand }

reask-differ : (t u j k : List ℕ) (v w : Weighed) → IsNumber v.priority → IsNumber w.priority → IsNumber v.demand → IsNumber w.demand → event_words (Reask t j v) ≡ event_words (Reask u k w) → Reask t j v ≡ Reask u k w
reask-differ t u j k v w p q d f e =
    let tenant : t ≡ u = cc in
    let job : j ≡ k = cc in
    let priority : decimal_word v.priority ≡ decimal_word w.priority = cc in
    let demand : decimal_word v.demand ≡ decimal_word w.demand = cc in
    let weight : v ≡ w = weight-same v w (decimals_differ v.priority w.priority p q priority) (decimals_differ v.demand w.demand d f demand) in
    rw (tenant, job, weight) refl

close-differ : (t u j k : List ℕ) → event_words (Close t j) ≡ event_words (Close u k) → Close t j ≡ Close u k
close-differ t u j k e = let tenant : t ≡ u = cc in let job : j ≡ k = cc in rw (tenant, job) refl

exchange-differ : (t u j k : List ℕ) → event_words (Exchange t j) ≡ event_words (Exchange u k) → Exchange t j ≡ Exchange u k
exchange-differ t u j k e = let tenant : t ≡ u = cc in let job : j ≡ k = cc in rw (tenant, job) refl

leave-differ : (t u j k : List ℕ) → event_words (Leave t j) ≡ event_words (Leave u k) → Leave t j ≡ Leave u k
leave-differ t u j k e = let tenant : t ≡ u = cc in let job : j ≡ k = cc in rw (tenant, job) refl

arrive-differ : (t u j k : List ℕ) → event_words (Arrive t j) ≡ event_words (Arrive u k) → Arrive t j ≡ Arrive u k
arrive-differ t u j k e = let tenant : t ≡ u = cc in let job : j ≡ k = cc in rw (tenant, job) refl

balance-differ : (ss ts : List Share) → AllByRecursion IsShare ss → AllByRecursion IsShare ts → event_words (Balance ss) ≡ event_words (Balance ts) → Balance ss ≡ Balance ts
balance-differ ss ts h k e = let words : flat_map share_words ss ≡ flat_map share_words ts = cc in let same : ss ≡ ts = shares-differ ss ts h k words in rw same refl

start-differ : (t u j k : List ℕ) (m n v w : ℕ) → IsNumber m → IsNumber n → IsNumber v → IsNumber w → event_words (Start t j m v) ≡ event_words (Start u k n w) → Start t j m v ≡ Start u k n w
start-differ t u j k m n v w a b c d e =
    let tenant : t ≡ u = cc in
    let job : j ≡ k = cc in
    let first : decimal_word m ≡ decimal_word n = cc in
    let second : decimal_word v ≡ decimal_word w = cc in
    let index : m ≡ n = decimals_differ m n a b first in
    let worker : v ≡ w = decimals_differ v w c d second in
    rw (tenant, job, index, worker) refl

finish-differ : (t u j k : List ℕ) (m n v w : ℕ) (o p : Outcome) → IsNumber m → IsNumber n → IsNumber v → IsNumber w → event_words (Finish t j m v o) ≡ event_words (Finish u k n w p) → Finish t j m v o ≡ Finish u k n w p
finish-differ t u j k m n v w o p a b c d e =
    let tenant : t ≡ u = cc in
    let job : j ≡ k = cc in
    let first : decimal_word m ≡ decimal_word n = cc in
    let second : decimal_word v ≡ decimal_word w = cc in
    let third : outcome_word o ≡ outcome_word p = cc in
    let index : m ≡ n = decimals_differ m n a b first in
    let worker : v ≡ w = decimals_differ v w c d second in
    let outcome : o ≡ p = outcomes-differ o p third in
    rw (tenant, job, index, worker, outcome) refl

-- an event is told by its words
events-differ : (e f : Event) → IsWritable e → IsWritable f → letter_of e ≡ letter_of f → event_words e ≡ event_words f → e ≡ f
unfolding letter_of
events-differ (Open t j a) (Open u k b) h i same e = open-differ t u j k a b h.2 i.2 h.3 i.3 h.4 i.4 e
events-differ (Revise t j m) (Revise u k n) h i same e = revise-differ t u j k m n h.2 i.2 e
events-differ (Reask t j v) (Reask u k w) h i same e = reask-differ t u j k v w h.2 i.2 h.3 i.3 e
events-differ (Close t j) (Close u k) h i same e = close-differ t u j k e
events-differ (Balance ss) (Balance ts) h i same e = balance-differ ss ts h i e
events-differ (Start t j m v) (Start u k n w) h i same e = start-differ t u j k m n v w h.2 i.2 h.3 i.3 e
events-differ (Finish t j m v o) (Finish u k n w p) h i same e = finish-differ t u j k m n v w o p h.2 i.2 h.3 i.3 e
events-differ (Exchange t j) (Exchange u k) h i same e = exchange-differ t u j k e
events-differ (Leave t j) (Leave u k) h i same e = leave-differ t u j k e
events-differ (Arrive t j) (Arrive u k) h i same e = arrive-differ t u j k e
events-differ x y h i same e = absurd (omega (arith, same))

all-differ : (es fs : List Event) → AllByRecursion IsWritable es → AllByRecursion IsWritable fs → map event_words es ≡ map event_words fs → es ≡ fs
all-differ [] [] h k e = refl
all-differ [] (y ∷ ys) h k e = absurd (cc)
all-differ (x ∷ xs) [] h k e = absurd (cc)
all-differ (x ∷ xs) (y ∷ ys) h k e =
    let words : event_words x ≡ event_words y = head-same (event_words x) (event_words y) (map event_words xs) (map event_words ys) e in
    let one : x ≡ y = events-differ x y h.0 k.0 (sym (letter-first x) ∙ (ap first_byte words ∙ letter-first y)) words in
    let rest : xs ≡ ys = all-differ xs ys h.1 k.1 (tail-same (event_words x) (event_words y) (map event_words xs) (map event_words ys) e) in
    ap (λ (z : Event). z ∷ xs) one ∙ ap (λ (zs : List Event). y ∷ zs) rest

pub histories-differ : HistoriesDiffer
unfolding history_text
histories-differ workers others one other m n h k e =
    let head : List (List ℕ) = header_words (version_of one) workers in
    let other_head : List (List ℕ) = header_words (version_of other) others in
    let rows : head ∷ map event_words one ≡ other_head ∷ map event_words other = texts_differ (head ∷ map event_words one) (other_head ∷ map event_words other) (header-row (version_of one) workers, event-rows one h) (header-row (version_of other) others, event-rows other k) e in
    let header : header_words (version_of one) workers ≡ header_words (version_of other) others = head-same head other_head (map event_words one) (map event_words other) rows in
    let word : decimal_word workers ≡ decimal_word others = cc in
    record { workers_are = decimals_differ workers others m n word; events = all-differ one other h k (tail-same head other_head (map event_words one) (map event_words other) rows) }

word-clean : IsClean (codes "a") × IsClean (codes "p")
word-clean = ((omega arith, (omega arith, tt)), (omega arith, (omega arith, tt)))

start-writable : (index worker : ℕ) (o : Outcome) → IsNumber index → IsNumber worker → AllByRecursion IsWritable (one_start index worker o)
start-writable index worker o i w = ((word-clean.0, word-clean.1, i, w), ((word-clean.0, word-clean.1, i, w), tt))

open-writable : (profile : Profile) → AllByRecursion IsWritable (one_open profile)
open-writable profile = ((word-clean.0, word-clean.1, omega arith, omega arith, omega arith), tt)

reask-writable : (priority : ℕ) → IsNumber priority → AllByRecursion IsWritable (one_reask priority)
reask-writable priority n = ((word-clean.0, word-clean.1, n, omega arith), tt)

profile-of : List Event → ℕ
profile-of [] = 0
profile-of (Open t j ask ∷ es) = number ask.profile
profile-of (e ∷ es) = 0

other-profile : profile-of (one_open Plain) ≡ profile-of (one_open Lean) → ⊥
unfolding profile-of
other-profile e = let same : 1 ≡ 2 = e in absurd (omega (arith, same))

priority-of : List Event → ℕ
priority-of [] = 0
priority-of (Reask t j w ∷ es) = w.priority
priority-of (e ∷ es) = 0

other-priority : priority-of (one_reask 1) ≡ priority-of (one_reask 2) → ⊥
unfolding priority-of
other-priority e = let same : 1 ≡ 2 = e in absurd (omega (arith, same))

index-of : List Event → ℕ
index-of [] = 9
index-of (Open t j ask ∷ es) = 9
index-of (Revise t j n ∷ es) = 9
index-of (Reask t j w ∷ es) = 9
index-of (Close t j ∷ es) = 9
index-of (Balance ss ∷ es) = 9
index-of (Start t j i w ∷ es) = i
index-of (Finish t j i w o ∷ es) = i
index-of (Exchange t j ∷ es) = 9
index-of (Leave t j ∷ es) = 9
index-of (Arrive t j ∷ es) = 9

other-index : index-of (one_start 2 1 Ran) ≡ index-of (one_start 1 2 Ran) → ⊥
unfolding index-of
other-index e = let same : 2 ≡ 1 = e in absurd (omega (arith, same))

pub other-texts : HaveOtherTexts
other-texts = record {
  outcome = λ e. let same : one_start 0 1 Ran ≡ one_start 0 1 Lost = (histories-differ 2 2 (one_start 0 1 Ran) (one_start 0 1 Lost) (omega arith) (omega arith) (start-writable 0 1 Ran (omega arith) (omega arith)) (start-writable 0 1 Lost (omega arith) (omega arith)) e).events in absurd (cc);
  workers = λ e. let same : 2 ≡ 3 = (histories-differ 2 3 (one_start 0 1 Ran) (one_start 0 1 Ran) (omega arith) (omega arith) (start-writable 0 1 Ran (omega arith) (omega arith)) (start-writable 0 1 Ran (omega arith) (omega arith)) e).workers_are in absurd (omega (arith, same));
  exchanged = λ e. other-index (ap index-of (histories-differ 2 2 (one_start 2 1 Ran) (one_start 1 2 Ran) (omega arith) (omega arith) (start-writable 2 1 Ran (omega arith) (omega arith)) (start-writable 1 2 Ran (omega arith) (omega arith)) e).events);
  less = λ e. let same : one_start 0 1 Ran ≡ [] = (histories-differ 2 2 (one_start 0 1 Ran) [] (omega arith) (omega arith) (start-writable 0 1 Ran (omega arith) (omega arith)) tt e).events in absurd (cc);
  profile = λ e. other-profile (ap profile-of (histories-differ 2 2 (one_open Plain) (one_open Lean) (omega arith) (omega arith) (open-writable Plain) (open-writable Lean) e).events);
  priority = λ e. other-priority (ap priority-of (histories-differ 2 2 (one_reask 1) (one_reask 2) (omega arith) (omega arith) (reask-writable 1 (omega arith)) (reask-writable 2 (omega arith)) e).events);
  move = λ e. let same : one_leave ≡ one_arrival = (histories-differ 2 2 one_leave one_arrival (omega arith) (omega arith) (word-clean, tt) (word-clean, tt) e).events in absurd (cc);
}
