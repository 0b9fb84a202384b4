-- The words of a line spell the event that they are read as, and no other.
use Rattle.std.proofs.Common.{◌≡◌, ℕ, ◌==◌, Bool, true, false, cond, ◌&&◌, List, [], ◌∷◌, codes, Result, Ok, Err, refl, sym, ap, ◌∙◌, subst, arith}
use Rattle.std.specs.Prelude.{bytes_eq}
use Rattle.std.proofs.lemmas.Bool.{and_parts}
use Rattle.std.proofs.lemmas.Bool.Decides.{nat_tests}
use Rattle.std.proofs.lemmas.Slice.Eq.{bytes_eq-Decides}
use Rattle.mal_base.specs.Limits.{limits}
use Rattle.mal_base.specs.Asks.{Terms, Weighed}
use Rattle.mal_base.specs.Names.{is_name}
use Rattle.mal_base.specs.declared.verdict.Outcome.{Outcome}
use Rattle.mal_base.specs.declared.profile.Profile.{Profile}
use Rattle.spec_dimacs.specs.Reading.{◌>>=◌}
use Rattle.mal_history.specs.declared.event.Event.{Event}
use Rattle.mal_history.specs.declared.event.Event.TheVariants.{Open, Revise, Reask, Close, Balance, Start, Finish, Exchange, Leave, Arrive}
use Rattle.mal_history.specs.declared.event.Share.{Share}
use Rattle.mal_history.specs.Text.{outcome_word}
use Rattle.mal_history.specs.Reading.{Fault, in_range, ask_of, weight_of, profile_of, outcome_of, opened, revised, reasked, closed, started, finished, exchanged, event_of_job, named_event, are_shares, shares_of, balanced, event_of}
use Rattle.mal_history.specs.Reading.Fault.{BadLine}
use Rattle.mal_history.specs.Grammar.{AreNames, SayProfile, SpellsEvent}
use Rattle.mal_history.specs.Laws.{SpelledEventIsRead}
use Rattle.mal_history.proofs.Words.{bind-ok, ok-is, says-read, read-says, names-true, asks-read, read-asks, weights-read, read-weights, profile-read, read-profile, outcome-read, read-outcome, shares-formed, shares-read, read-shares}
use Rattle.mal_history.specs.Sizes.{last_node}

-- after the names stand the words of the event
named : (version workers : ℕ) (kind tenant job : List ℕ) (words : List (List ℕ)) → AreNames tenant job → named_event version workers kind (tenant ∷ job ∷ words) ≡ event_of_job version workers kind tenant job words
named version workers kind tenant job words h = ap (λ (b : Bool). cond b (event_of_job version workers kind tenant job words) (Err BadLine)) (names-true tenant job h)

seated : (i w : ℕ) (workers : ℕ) (at by : List ℕ) (f : ℕ → ℕ → Event) → in_range 0 last_node at ≡ Ok i → in_range 1 workers by ≡ Ok w → (in_range 0 last_node at >>= λ x. in_range 1 workers by >>= λ y. Ok (f x y)) ≡ Ok (f i w)
seated i w workers at by f e g =
    ap (λ (r : Result ℕ Fault). r >>= λ x. in_range 1 workers by >>= λ y. Ok (f x y)) e ∙ ap (λ (r : Result ℕ Fault). r >>= λ y. Ok (f i y)) g

pub spelled-read : (version workers : ℕ) (words : List (List ℕ)) (e : Event) → SpellsEvent version workers words e → event_of version workers words ≡ Ok e
spelled-read version workers words (Open tenant job ask) h =
    ap (event_of version workers) h.row ∙ named version workers (codes "o") tenant job (h.priority ∷ h.demand ∷ h.slices ∷ h.profile) h.names
    ∙ ap (λ (r : Result Profile Fault). r >>= λ n. ask_of h.priority h.demand h.slices n >>= λ a. Ok (Open tenant job a)) (profile-read h.profile ask.profile h.say_profile)
    ∙ ap (λ (r : Result Terms Fault). r >>= λ a. Ok (Open tenant job a)) (asks-read h.priority h.demand h.slices ask h.says_priority h.says_demand h.says_slices)
spelled-read version workers words (Revise tenant job number) h =
    ap (event_of version workers) h.row ∙ named version workers (codes "r") tenant job (h.word ∷ []) h.names
    ∙ ap (λ (r : Result ℕ Fault). r >>= λ n. Ok (Revise tenant job n)) (says-read 1 limits.revisions h.word number h.says_number)
spelled-read version workers words (Reask tenant job weight) h =
    ap (event_of version workers) h.row ∙ named version workers (codes "q") tenant job (h.priority ∷ h.demand ∷ []) h.names
    ∙ ap (λ (v : ℕ). event_of_job v workers (codes "q") tenant job (h.priority ∷ h.demand ∷ [])) h.version_is
    ∙ ap (λ (r : Result Weighed Fault). r >>= λ w. Ok (Reask tenant job w)) (weights-read h.priority h.demand weight h.says_priority h.says_demand)
spelled-read version workers words (Close tenant job) h = ap (event_of version workers) h.0 ∙ named version workers (codes "c") tenant job [] h.1
spelled-read version workers words (Balance volumes) h =
    ap (event_of version workers) h.row
    ∙ ap (λ (b : Bool). cond b (shares_of h.behind >>= λ shares. Ok (Balance shares)) (Err BadLine)) (shares-formed h.behind volumes h.says_volumes)
    ∙ ap (λ (r : Result (List Share) Fault). r >>= λ shares. Ok (Balance shares)) (shares-read h.behind volumes h.says_volumes)
spelled-read version workers words (Start tenant job index worker) h =
    ap (event_of version workers) h.row ∙ named version workers (codes "s") tenant job (h.at ∷ h.by ∷ []) h.names
    ∙ seated index worker workers h.at h.by (Start tenant job) (says-read 0 last_node h.at index h.says_index) (says-read 1 workers h.by worker h.says_worker)
spelled-read version workers words (Finish tenant job index worker outcome) h =
    ap (event_of version workers) h.row ∙ named version workers (codes "f") tenant job (h.at ∷ h.by ∷ outcome_word outcome ∷ []) h.names
    ∙ ap (λ (r : Result Outcome Fault). r >>= λ o. in_range 0 last_node h.at >>= λ i. in_range 1 workers h.by >>= λ w. Ok (Finish tenant job i w o)) (outcome-read outcome)
    ∙ seated index worker workers h.at h.by (λ i w. Finish tenant job i w outcome) (says-read 0 last_node h.at index h.says_index) (says-read 1 workers h.by worker h.says_worker)
spelled-read version workers words (Exchange tenant job) h = ap (event_of version workers) h.0 ∙ named version workers (codes "x") tenant job [] h.1
spelled-read version workers words (Leave tenant job) h = absurd h
spelled-read version workers words (Arrive tenant job) h = absurd h

-- what is read of the words of a kind is spelled by them
open-spelled : (version workers : ℕ) (tenant job : List ℕ) (words : List (List ℕ)) (e : Event) → AreNames tenant job → opened tenant job words ≡ Ok e → SpellsEvent version workers (codes "o" ∷ tenant ∷ job ∷ words) e
open-spelled version workers tenant job [] e n h = absurd (cc)
open-spelled version workers tenant job (p ∷ []) e n h = absurd (cc)
open-spelled version workers tenant job (p ∷ d ∷ []) e n h = absurd (cc)
open-spelled version workers tenant job (p ∷ d ∷ s ∷ q) e n h =
    let profile = bind-ok (profile_of q) (λ m. ask_of p d s m >>= λ a. Ok (Open tenant job a)) e h in
    let ask = bind-ok (ask_of p d s profile.0) (λ a. Ok (Open tenant job a)) e profile.2 in
    let says = read-asks p d s profile.0 ask.0 ask.1 in
    let said : SayProfile q ask.0.profile = subst (λ (m : Profile). SayProfile q m) says.own (read-profile q profile.0 profile.1) in
    subst (λ (x : Event). SpellsEvent version workers (codes "o" ∷ tenant ∷ job ∷ p ∷ d ∷ s ∷ q) x) (ok-is (Open tenant job ask.0) e ask.2)
    (record { priority = p; demand = d; slices = s; profile = q; row = refl; names = n; says_priority = says.priority; says_demand = says.demand; says_slices = says.slices; say_profile = said })

revise-spelled : (version workers : ℕ) (tenant job : List ℕ) (words : List (List ℕ)) (e : Event) → AreNames tenant job → revised tenant job words ≡ Ok e → SpellsEvent version workers (codes "r" ∷ tenant ∷ job ∷ words) e
revise-spelled version workers tenant job [] e n h = absurd (cc)
revise-spelled version workers tenant job (w ∷ x ∷ xs) e n h = absurd (cc)
revise-spelled version workers tenant job (w ∷ []) e n h =
    let number = bind-ok (in_range 1 limits.revisions w) (λ r. Ok (Revise tenant job r)) e h in
    subst (λ (x : Event). SpellsEvent version workers (codes "r" ∷ tenant ∷ job ∷ w ∷ []) x) (ok-is (Revise tenant job number.0) e number.2)
    (record { word = w; row = refl; names = n; says_number = read-says 1 limits.revisions w number.0 number.1 })

reask-spelled : (version workers : ℕ) (tenant job : List ℕ) (words : List (List ℕ)) (e : Event) → version ≡ 2 → AreNames tenant job → reasked tenant job words ≡ Ok e → SpellsEvent version workers (codes "q" ∷ tenant ∷ job ∷ words) e
reask-spelled version workers tenant job [] e two n h = absurd (cc)
reask-spelled version workers tenant job (p ∷ []) e two n h = absurd (cc)
reask-spelled version workers tenant job (p ∷ d ∷ x ∷ xs) e two n h = absurd (cc)
reask-spelled version workers tenant job (p ∷ d ∷ []) e two n h =
    let weight = bind-ok (weight_of p d) (λ w. Ok (Reask tenant job w)) e h in
    let says = read-weights p d weight.0 weight.1 in
    subst (λ (x : Event). SpellsEvent version workers (codes "q" ∷ tenant ∷ job ∷ p ∷ d ∷ []) x) (ok-is (Reask tenant job weight.0) e weight.2)
    (record { priority = p; demand = d; row = refl; version_is = two; names = n; says_priority = says.priority; says_demand = says.demand })

close-spelled : (version workers : ℕ) (tenant job : List ℕ) (words : List (List ℕ)) (e : Event) → AreNames tenant job → closed tenant job words ≡ Ok e → SpellsEvent version workers (codes "c" ∷ tenant ∷ job ∷ words) e
close-spelled version workers tenant job [] e n h = subst (λ (x : Event). SpellsEvent version workers (codes "c" ∷ tenant ∷ job ∷ []) x) (ok-is (Close tenant job) e h) (refl, n)
close-spelled version workers tenant job (x ∷ xs) e n h = absurd (cc)

exchange-spelled : (version workers : ℕ) (tenant job : List ℕ) (words : List (List ℕ)) (e : Event) → AreNames tenant job → exchanged tenant job words ≡ Ok e → SpellsEvent version workers (codes "x" ∷ tenant ∷ job ∷ words) e
exchange-spelled version workers tenant job [] e n h = subst (λ (x : Event). SpellsEvent version workers (codes "x" ∷ tenant ∷ job ∷ []) x) (ok-is (Exchange tenant job) e h) (refl, n)
exchange-spelled version workers tenant job (x ∷ xs) e n h = absurd (cc)

start-spelled : (version workers : ℕ) (tenant job : List ℕ) (words : List (List ℕ)) (e : Event) → AreNames tenant job → started workers tenant job words ≡ Ok e → SpellsEvent version workers (codes "s" ∷ tenant ∷ job ∷ words) e
start-spelled version workers tenant job [] e n h = absurd (cc)
start-spelled version workers tenant job (a ∷ []) e n h = absurd (cc)
start-spelled version workers tenant job (a ∷ b ∷ x ∷ xs) e n h = absurd (cc)
start-spelled version workers tenant job (a ∷ b ∷ []) e n h =
    let index = bind-ok (in_range 0 last_node a) (λ i. in_range 1 workers b >>= λ w. Ok (Start tenant job i w)) e h in
    let worker = bind-ok (in_range 1 workers b) (λ w. Ok (Start tenant job index.0 w)) e index.2 in
    subst (λ (x : Event). SpellsEvent version workers (codes "s" ∷ tenant ∷ job ∷ a ∷ b ∷ []) x) (ok-is (Start tenant job index.0 worker.0) e worker.2)
    (record { at = a; by = b; row = refl; names = n; says_index = read-says 0 last_node a index.0 index.1; says_worker = read-says 1 workers b worker.0 worker.1 })

finish-spelled : (version workers : ℕ) (tenant job : List ℕ) (words : List (List ℕ)) (e : Event) → AreNames tenant job → finished workers tenant job words ≡ Ok e → SpellsEvent version workers (codes "f" ∷ tenant ∷ job ∷ words) e
finish-spelled version workers tenant job [] e n h = absurd (cc)
finish-spelled version workers tenant job (a ∷ []) e n h = absurd (cc)
finish-spelled version workers tenant job (a ∷ b ∷ []) e n h = absurd (cc)
finish-spelled version workers tenant job (a ∷ b ∷ c ∷ x ∷ xs) e n h = absurd (cc)
finish-spelled version workers tenant job (a ∷ b ∷ c ∷ []) e n h =
    let outcome = bind-ok (outcome_of c) (λ o. in_range 0 last_node a >>= λ i. in_range 1 workers b >>= λ w. Ok (Finish tenant job i w o)) e h in
    let index = bind-ok (in_range 0 last_node a) (λ i. in_range 1 workers b >>= λ w. Ok (Finish tenant job i w outcome.0)) e outcome.2 in
    let worker = bind-ok (in_range 1 workers b) (λ w. Ok (Finish tenant job index.0 w outcome.0)) e index.2 in
    subst (λ (x : Event). SpellsEvent version workers (codes "f" ∷ tenant ∷ job ∷ a ∷ b ∷ c ∷ []) x) (ok-is (Finish tenant job index.0 worker.0 outcome.0) e worker.2)
    (record { at = a; by = b; row = ap (λ (w : List ℕ). codes "f" ∷ tenant ∷ job ∷ a ∷ b ∷ w ∷ []) (read-outcome c outcome.0 outcome.1); names = n; says_index = read-says 0 last_node a index.0 index.1; says_worker = read-says 1 workers b worker.0 worker.1 })

-- by the letter of the kind
letter : (kind word : List ℕ) → bytes_eq kind word ≡ true → word ≡ kind
letter kind word e = sym ((bytes_eq-Decides kind word).0 e)

is-two : (version : ℕ) → (version == 2) ≡ true → version ≡ 2
is-two version e = grind (arith, nat_tests)

kind-spelled : (version workers : ℕ) (kind tenant job : List ℕ) (words : List (List ℕ)) (e : Event) → AreNames tenant job → event_of_job version workers kind tenant job words ≡ Ok e → SpellsEvent version workers (kind ∷ tenant ∷ job ∷ words) e
kind-spelled version workers kind tenant job words e n h =
    by_letter (bytes_eq kind (codes "o")) (bytes_eq kind (codes "r")) (bytes_eq kind (codes "q") && version == 2) (bytes_eq kind (codes "c")) (bytes_eq kind (codes "s")) (bytes_eq kind (codes "f")) (bytes_eq kind (codes "x")) refl refl refl refl refl refl refl h
  where
    spelled : (word : List ℕ) → word ≡ kind → SpellsEvent version workers (word ∷ tenant ∷ job ∷ words) e → SpellsEvent version workers (kind ∷ tenant ∷ job ∷ words) e
    spelled word q s = subst (λ (k : List ℕ). SpellsEvent version workers (k ∷ tenant ∷ job ∷ words) e) q s

    by_letter : (o r q c s f x : Bool) → bytes_eq kind (codes "o") ≡ o → bytes_eq kind (codes "r") ≡ r → (bytes_eq kind (codes "q") && version == 2) ≡ q → bytes_eq kind (codes "c") ≡ c → bytes_eq kind (codes "s") ≡ s → bytes_eq kind (codes "f") ≡ f → bytes_eq kind (codes "x") ≡ x
        → cond o (opened tenant job words) (cond r (revised tenant job words) (cond q (reasked tenant job words) (cond c (closed tenant job words) (cond s (started workers tenant job words) (cond f (finished workers tenant job words) (cond x (exchanged tenant job words) (Err BadLine))))))) ≡ Ok e
        → SpellsEvent version workers (kind ∷ tenant ∷ job ∷ words) e
    by_letter true r q c s f x q1 q2 q3 q4 q5 q6 q7 k = spelled (codes "o") (letter kind (codes "o") q1) (open-spelled version workers tenant job words e n k)
    by_letter false true q c s f x q1 q2 q3 q4 q5 q6 q7 k = spelled (codes "r") (letter kind (codes "r") q2) (revise-spelled version workers tenant job words e n k)
    by_letter false false true c s f x q1 q2 q3 q4 q5 q6 q7 k =
        let both = and_parts (bytes_eq kind (codes "q")) (version == 2) q3 in
        spelled (codes "q") (letter kind (codes "q") both.0) (reask-spelled version workers tenant job words e (is-two version both.1) n k)
    by_letter false false false true s f x q1 q2 q3 q4 q5 q6 q7 k = spelled (codes "c") (letter kind (codes "c") q4) (close-spelled version workers tenant job words e n k)
    by_letter false false false false true f x q1 q2 q3 q4 q5 q6 q7 k = spelled (codes "s") (letter kind (codes "s") q5) (start-spelled version workers tenant job words e n k)
    by_letter false false false false false true x q1 q2 q3 q4 q5 q6 q7 k = spelled (codes "f") (letter kind (codes "f") q6) (finish-spelled version workers tenant job words e n k)
    by_letter false false false false false false true q1 q2 q3 q4 q5 q6 q7 k = spelled (codes "x") (letter kind (codes "x") q7) (exchange-spelled version workers tenant job words e n k)
    by_letter false false false false false false false q1 q2 q3 q4 q5 q6 q7 k = absurd (cc)

named-spelled : (version workers : ℕ) (kind : List ℕ) (words : List (List ℕ)) (e : Event) → named_event version workers kind words ≡ Ok e → SpellsEvent version workers (kind ∷ words) e
named-spelled version workers kind [] e h = absurd (cc)
named-spelled version workers kind (a ∷ []) e h = absurd (cc)
named-spelled version workers kind (tenant ∷ job ∷ words) e h = by_names (is_name tenant && is_name job) refl h
  where
    by_names : (b : Bool) → (is_name tenant && is_name job) ≡ b → cond b (event_of_job version workers kind tenant job words) (Err BadLine) ≡ Ok e → SpellsEvent version workers (kind ∷ tenant ∷ job ∷ words) e
    by_names true t k = kind-spelled version workers kind tenant job words e (and_parts (is_name tenant) (is_name job) t) k
    by_names false t k = absurd (cc)

balance-spelled : (version workers : ℕ) (words : List (List ℕ)) (e : Event) → balanced words ≡ Ok e → SpellsEvent version workers (codes "b" ∷ words) e
balance-spelled version workers words e h = by_form (are_shares words) refl h
  where
    by_form : (b : Bool) → are_shares words ≡ b → cond b (shares_of words >>= λ shares. Ok (Balance shares)) (Err BadLine) ≡ Ok e → SpellsEvent version workers (codes "b" ∷ words) e
    by_form true t k =
        let shares = bind-ok (shares_of words) (λ shares. Ok (Balance shares)) e k in
        subst (λ (x : Event). SpellsEvent version workers (codes "b" ∷ words) x) (ok-is (Balance shares.0) e shares.2)
        (record { behind = words; row = refl; says_volumes = read-shares words shares.0 t shares.1 })
    by_form false t k = absurd (cc)

pub read-spelled : (version workers : ℕ) (words : List (List ℕ)) (e : Event) → event_of version workers words ≡ Ok e → SpellsEvent version workers words e
read-spelled version workers [] e h = absurd (cc)
read-spelled version workers (kind ∷ words) e h = by_letter (bytes_eq kind (codes "b")) refl h
  where
    by_letter : (b : Bool) → bytes_eq kind (codes "b") ≡ b → cond b (balanced words) (named_event version workers kind words) ≡ Ok e → SpellsEvent version workers (kind ∷ words) e
    by_letter true q k = subst (λ (w : List ℕ). SpellsEvent version workers (w ∷ words) e) (letter kind (codes "b") q) (balance-spelled version workers words e k)
    by_letter false q k = named-spelled version workers kind words e k

pub spelled-event : SpelledEventIsRead
spelled-event version workers words e = (spelled-read version workers words e, read-spelled version workers words e)
