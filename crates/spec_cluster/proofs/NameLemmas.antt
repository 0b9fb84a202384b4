-- The keys and the names of a history that grows.
use Rattle.std.proofs.Common.{◌≡◌, ℕ, zero, suc, Bool, true, false, cond, ◌||◌, List, [], ◌∷◌, ◌++◌, fold, refl, sym, ◌∙◌, ap, subst}
use Rattle.std.specs.List.{list_any}
use Rattle.std.proofs.lemmas.Bool.{both_ways, false_from_ne_true, or_from, or_left, or_parts, or_right}
use Rattle.std.proofs.lemmas.List.Folds.{list_any-append}
use Rattle.std.proofs.lemmas.List.Sums.{fold-append}
use Rattle.spec_job.specs.KeyedJob.{Key}
use Rattle.spec_hall.specs.Events.{Event, Open, Revise, Reask, Close, Balance, Start, Finish, Exchange, Leave, Arrive, moves}
use Rattle.spec_hall.specs.Legal.{Allowed, Legal}
use Rattle.spec_hall.specs.Own.{arrives, is_key, leaves}
use Rattle.spec_hall.specs.States.{keys_of, keys_step, names_of, names_step, with_key}
use Rattle.spec_hall.proofs.KeyLemmas.{filter-absent, is_key-Decides}
use Rattle.spec_hall.proofs.StatesLemmas.{job_of-found, legal_from-keeps}
use Rattle.spec_cluster.specs.Clusters.{is_had, is_named, is_there}
use Rattle.spec_cluster.specs.Visits.{hall_at, opens}

-- whether an event is a job's opening or arrival
abbrev pub comes : Key → Event → Bool
comes k (Open j ask) = is_key k j
comes k (Arrive j brought) = is_key k j
comes k event = false

pub or-none : (b : Bool) → b ≡ (b || false)
or-none true = refl
or-none false = refl

or-joins : (a b c : Bool) → ((a || b) || c) ≡ (a || (b || c))
or-joins true b c = refl
or-joins false b c = refl

-- a key more
pub one-more : (k j : Key) (ks : List Key) → list_any (is_key k) (ks ++ j ∷ []) ≡ (list_any (is_key k) ks || is_key k j)
one-more k j ks = list_any-append (is_key k) ks (j ∷ []) ∙ ap (λ (b : Bool). list_any (is_key k) ks || b) (sym (or-none (is_key k j)))

-- a name more
with-more : (k j : Key) (names : List Key) → list_any (is_key k) (with_key j names) ≡ (list_any (is_key k) names || is_key k j)
with-more k j names = by_test (list_any (is_key j) names) (is_key k j) refl refl
  where
    by_test : (a b : Bool) → list_any (is_key j) names ≡ a → is_key k j ≡ b → list_any (is_key k) (cond a names (names ++ j ∷ [])) ≡ (list_any (is_key k) names || b)
    by_test false b p q = one-more k j names ∙ ap (λ (x : Bool). list_any (is_key k) names || x) q
    by_test true false p q = or-none (list_any (is_key k) names)
    by_test true true p q =
        let there : list_any (is_key k) names ≡ true = subst (λ (x : Key). list_any (is_key x) names ≡ true) (sym ((is_key-Decides k j).0 q)) p in
        there ∙ sym (or_left (list_any (is_key k) names) true there)

name-step : (k : Key) (names : List Key) (e : Event) → list_any (is_key k) (names_step names e) ≡ (list_any (is_key k) names || comes k e)
name-step k names (Open j ask) = with-more k j names
name-step k names (Revise j number r) = or-none (list_any (is_key k) names)
name-step k names (Reask j w) = or-none (list_any (is_key k) names)
name-step k names (Close j) = or-none (list_any (is_key k) names)
name-step k names (Balance shares) = or-none (list_any (is_key k) names)
name-step k names (Start j index worker) = or-none (list_any (is_key k) names)
name-step k names (Finish j index worker outcome) = or-none (list_any (is_key k) names)
name-step k names (Exchange j) = or-none (list_any (is_key k) names)
name-step k names (Leave j) = or-none (list_any (is_key k) names)
name-step k names (Arrive j brought) = with-more k j names

-- a name is among those before, or the job came
names-fold : (k : Key) (names : List Key) (es : List Event) → list_any (is_key k) (fold names_step names es) ≡ (list_any (is_key k) names || list_any (comes k) es)
names-fold k names [] = or-none (list_any (is_key k) names)
names-fold k names (e ∷ es) = names-fold k (names_step names e) es ∙ (ap (λ (b : Bool). b || list_any (comes k) es) (name-step k names e) ∙ or-joins (list_any (is_key k) names) (comes k e) (list_any (comes k) es))

pub named-append : (k : Key) (h es : List Event) → is_named k (h ++ es) ≡ (is_named k h || list_any (comes k) es)
named-append k h es = ap (list_any (is_key k)) (fold-append names_step [] h es) ∙ names-fold k (names_of h) es

-- an event that moves no job keeps the keys but for an opening
key-step : (k : Key) (ks : List Key) (e : Event) → moves e ≡ false → list_any (is_key k) (keys_step ks e) ≡ (list_any (is_key k) ks || opens k e)
key-step k ks (Open j ask) still = one-more k j ks
key-step k ks (Revise j number r) still = or-none (list_any (is_key k) ks)
key-step k ks (Reask j w) still = or-none (list_any (is_key k) ks)
key-step k ks (Close j) still = or-none (list_any (is_key k) ks)
key-step k ks (Balance shares) still = or-none (list_any (is_key k) ks)
key-step k ks (Start j index worker) still = or-none (list_any (is_key k) ks)
key-step k ks (Finish j index worker outcome) still = or-none (list_any (is_key k) ks)
key-step k ks (Exchange j) still = or-none (list_any (is_key k) ks)
key-step k ks (Leave j) still = absurd (both_ways true still refl)
key-step k ks (Arrive j brought) still = absurd (both_ways true still refl)

keys-fold : (k : Key) (ks : List Key) (es : List Event) → list_any moves es ≡ false → list_any (is_key k) (fold keys_step ks es) ≡ (list_any (is_key k) ks || list_any (opens k) es)
keys-fold k ks [] still = or-none (list_any (is_key k) ks)
keys-fold k ks (e ∷ es) still =
    let parts = or_parts (moves e) (list_any moves es) still in
    keys-fold k (keys_step ks e) es parts.1 ∙ (ap (λ (b : Bool). b || list_any (opens k) es) (key-step k ks e parts.0) ∙ or-joins (list_any (is_key k) ks) (opens k e) (list_any (opens k) es))

pub there-append : (k : Key) (h es : List Event) → list_any moves es ≡ false → is_there k (h ++ es) ≡ (is_there k h || list_any (opens k) es)
there-append k h es still = ap (list_any (is_key k)) (fold-append keys_step [] h es) ∙ keys-fold k (keys_of h) es still

-- where no job moves, it comes by its opening, and neither leaves nor arrives
still-comes : (k : Key) (e : Event) → moves e ≡ false → comes k e ≡ opens k e
still-comes k (Open j ask) still = refl
still-comes k (Revise j number r) still = refl
still-comes k (Reask j w) still = refl
still-comes k (Close j) still = refl
still-comes k (Balance shares) still = refl
still-comes k (Start j index worker) still = refl
still-comes k (Finish j index worker outcome) still = refl
still-comes k (Exchange j) still = refl
still-comes k (Leave j) still = refl
still-comes k (Arrive j brought) still = absurd (both_ways true still refl)

pub all-come : (k : Key) (es : List Event) → list_any moves es ≡ false → list_any (comes k) es ≡ list_any (opens k) es
all-come k [] still = refl
all-come k (e ∷ es) still =
    let parts = or_parts (moves e) (list_any moves es) still in
    ap (λ (b : Bool). b || list_any (comes k) es) (still-comes k e parts.0) ∙ ap (λ (b : Bool). opens k e || b) (all-come k es parts.1)

-- what none of these does that moves no job
abbrev pub IsMoving : (Event → Bool) → Type 0
IsMoving test = (e : Event) → moves e ≡ false → test e ≡ false

pub none-moves : (test : Event → Bool) → IsMoving test → (es : List Event) → list_any moves es ≡ false → list_any test es ≡ false
none-moves test is [] still = refl
none-moves test is (e ∷ es) still =
    let parts = or_parts (moves e) (list_any moves es) still in
    or_from (test e) (list_any test es) (is e parts.0) (none-moves test is es parts.1)

pub leave-moves : (k : Key) → IsMoving (leaves k)
leave-moves k (Open j ask) still = refl
leave-moves k (Revise j number r) still = refl
leave-moves k (Reask j w) still = refl
leave-moves k (Close j) still = refl
leave-moves k (Balance shares) still = refl
leave-moves k (Start j index worker) still = refl
leave-moves k (Finish j index worker outcome) still = refl
leave-moves k (Exchange j) still = refl
leave-moves k (Leave j) still = absurd (both_ways true still refl)
leave-moves k (Arrive j brought) still = refl

pub arrive-moves : (k : Key) → IsMoving (arrives k)
arrive-moves k (Open j ask) still = refl
arrive-moves k (Revise j number r) still = refl
arrive-moves k (Reask j w) still = refl
arrive-moves k (Close j) still = refl
arrive-moves k (Balance shares) still = refl
arrive-moves k (Start j index worker) still = refl
arrive-moves k (Finish j index worker outcome) still = refl
arrive-moves k (Exchange j) still = refl
arrive-moves k (Leave j) still = refl
arrive-moves k (Arrive j brought) still = absurd (both_ways true still refl)

-- an opening and an arrival are comings
pub open-comes : (k : Key) (es : List Event) → list_any (comes k) es ≡ false → list_any (opens k) es ≡ false
open-comes k [] none = refl
open-comes k (e ∷ es) none =
    let parts = or_parts (comes k e) (list_any (comes k) es) none in
    or_from (opens k e) (list_any (opens k) es) (one e parts.0) (open-comes k es parts.1)
  where
    one : (e : Event) → comes k e ≡ false → opens k e ≡ false
    one (Open j ask) q = q
    one (Revise j number r) q = refl
    one (Reask j w) q = refl
    one (Close j) q = refl
    one (Balance shares) q = refl
    one (Start j index worker) q = refl
    one (Finish j index worker outcome) q = refl
    one (Exchange j) q = refl
    one (Leave j) q = refl
    one (Arrive j brought) q = refl

arrive-comes : (k : Key) (es : List Event) → list_any (comes k) es ≡ false → list_any (arrives k) es ≡ false
arrive-comes k [] none = refl
arrive-comes k (e ∷ es) none =
    let parts = or_parts (comes k e) (list_any (comes k) es) none in
    or_from (arrives k e) (list_any (arrives k) es) (one e parts.0) (arrive-comes k es parts.1)
  where
    one : (e : Event) → comes k e ≡ false → arrives k e ≡ false
    one (Open j ask) q = refl
    one (Revise j number r) q = refl
    one (Reask j w) q = refl
    one (Close j) q = refl
    one (Balance shares) q = refl
    one (Start j index worker) q = refl
    one (Finish j index worker outcome) q = refl
    one (Exchange j) q = refl
    one (Leave j) q = refl
    one (Arrive j brought) q = q

-- one whose name did not come was not opened and did not arrive
pub unnamed-open : (k : Key) (h : List Event) → is_named k h ≡ false → list_any (opens k) h ≡ false
unnamed-open k h none = open-comes k h (sym (named-append k [] h) ∙ none)

pub unnamed-arrived : (k : Key) (h : List Event) → is_named k h ≡ false → list_any (arrives k) h ≡ false
unnamed-arrived k h none = arrive-comes k h (sym (named-append k [] h) ∙ none)

-- and is not there
key-none : (k : Key) (ks : List Key) (e : Event) → comes k e ≡ false → list_any (is_key k) ks ≡ false → list_any (is_key k) (keys_step ks e) ≡ false
key-none k ks (Open j ask) away none = one-more k j ks ∙ or_from (list_any (is_key k) ks) (is_key k j) none away
key-none k ks (Revise j number r) away none = none
key-none k ks (Reask j w) away none = none
key-none k ks (Close j) away none = none
key-none k ks (Balance shares) away none = none
key-none k ks (Start j index worker) away none = none
key-none k ks (Finish j index worker outcome) away none = none
key-none k ks (Exchange j) away none = none
key-none k ks (Leave j) away none = filter-absent k j ks none
key-none k ks (Arrive j brought) away none = one-more k j ks ∙ or_from (list_any (is_key k) ks) (is_key k j) none away

keys-none : (k : Key) (ks : List Key) (es : List Event) → list_any (comes k) es ≡ false → list_any (is_key k) ks ≡ false → list_any (is_key k) (fold keys_step ks es) ≡ false
keys-none k ks [] away none = none
keys-none k ks (e ∷ es) away none =
    let parts = or_parts (comes k e) (list_any (comes k) es) away in
    keys-none k (keys_step ks e) es parts.1 (key-none k ks e parts.0 none)

pub unnamed-there : (k : Key) (h : List Event) → is_named k h ≡ false → is_there k h ≡ false
unnamed-there k h none = keys-none k [] h (sym (named-append k [] h) ∙ none) refl

-- what a name that did not come has not, one that has it has a name
pub named-by : (k : Key) (h : List Event) (b : Bool) → (is_named k h ≡ false → b ≡ false) → b ≡ true → is_named k h ≡ true
named-by k h b none has = by_test (is_named k h) refl
  where
    by_test : (n : Bool) → is_named k h ≡ n → n ≡ true
    by_test true q = refl
    by_test false q = absurd (both_ways b (none q) has)

-- in a legal history it did not leave
leave-there : (k : Key) (past : List Event) (e : Event) (w : ℕ) → Allowed w past e → leaves k e ≡ true → is_there k past ≡ true
leave-there k past (Open j ask) w may q = absurd (both_ways false refl q)
leave-there k past (Revise j number r) w may q = absurd (both_ways false refl q)
leave-there k past (Reask j weight) w may q = absurd (both_ways false refl q)
leave-there k past (Close j) w may q = absurd (both_ways false refl q)
leave-there k past (Balance shares) w may q = absurd (both_ways false refl q)
leave-there k past (Start j index worker) w may q = absurd (both_ways false refl q)
leave-there k past (Finish j index worker outcome) w may q = absurd (both_ways false refl q)
leave-there k past (Exchange j) w may q = absurd (both_ways false refl q)
leave-there k past (Leave j) w may q = subst (λ (x : Key). is_there x past ≡ true) (sym ((is_key-Decides k j).0 q)) (job_of-found past j may.0 may.1.job).opened
leave-there k past (Arrive j brought) w may q = absurd (both_ways false refl q)

pub unnamed-left : (w : ℕ) (k : Key) (h : List Event) → Legal w h → is_named k h ≡ false → list_any (leaves k) h ≡ false
unnamed-left w k h legal = legal_from-keeps w (λ past. is_named k past ≡ false → list_any (leaves k) past ≡ false) step [] h legal (λ none. refl)
  where
    step : (past : List Event) (e : Event) → Allowed w past e → (is_named k past ≡ false → list_any (leaves k) past ≡ false) → is_named k (past ++ e ∷ []) ≡ false → list_any (leaves k) (past ++ e ∷ []) ≡ false
    step past e may rest none =
        let parts = or_parts (is_named k past) (list_any (comes k) (e ∷ [])) (sym (named-append k past (e ∷ [])) ∙ none) in
        list_any-append (leaves k) past (e ∷ []) ∙ or_from (list_any (leaves k) past) (list_any (leaves k) (e ∷ [])) (rest parts.0) (or_from (leaves k e) false (false_from_ne_true (leaves k e) (λ q. both_ways (is_there k past) (unnamed-there k past parts.0) (leave-there k past e w may q))) refl)

-- a job is had where a hall has its name
pub had-at : (k : Key) (halls : List (List Event)) (n : ℕ) → is_named k (hall_at halls n) ≡ true → is_had k halls ≡ true
had-at k [] n named = absurd (both_ways false refl named)
had-at k (h ∷ hs) zero named = or_left (is_named k h) (is_had k hs) named
had-at k (h ∷ hs) (suc n) named = or_right (is_named k h) (is_had k hs) (had-at k hs n named)

pub had-none : (k : Key) (halls : List (List Event)) → ((n : ℕ) → is_named k (hall_at halls n) ≡ false) → is_had k halls ≡ false
had-none k [] none = refl
had-none k (h ∷ hs) none = or_from (is_named k h) (is_had k hs) (none 0) (had-none k hs (λ n. none (suc n)))

pub fresh-at : (k : Key) (halls : List (List Event)) (n : ℕ) → is_had k halls ≡ false → is_named k (hall_at halls n) ≡ false
fresh-at k halls n fresh = false_from_ne_true (is_named k (hall_at halls n)) (λ q. both_ways (is_had k halls) fresh (had-at k halls n q))

-- one that is there, or was opened, is had
pub there-had : (k : Key) (halls : List (List Event)) (n : ℕ) → is_there k (hall_at halls n) ≡ true → is_had k halls ≡ true
there-had k halls n there = had-at k halls n (named-by k (hall_at halls n) (is_there k (hall_at halls n)) (unnamed-there k (hall_at halls n)) there)

pub open-had : (k : Key) (halls : List (List Event)) (n : ℕ) → list_any (opens k) (hall_at halls n) ≡ true → is_had k halls ≡ true
open-had k halls n opened = had-at k halls n (named-by k (hall_at halls n) (list_any (opens k) (hall_at halls n)) (unnamed-open k (hall_at halls n)) opened)
