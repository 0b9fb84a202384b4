-- Jobs are found by the numbers of their last comings.
use Rattle.std.proofs.Common.{◌≡◌, ℕ, zero, suc, ◌+◌, Bool, true, false, cond, not, ◌&&◌, ◌||◌, ◌==◌, List, [], ◌∷◌, ◌++◌, slice_get, Option, Some, None, option_map, is_some, is_none, refl, sym, ◌∙◌, ap, arith}
use Rattle.std.specs.List.{list_any}
use Rattle.std.proofs.lemmas.Bool.{both_ways}
use Rattle.std.proofs.lemmas.Bool.Decides.{Decides-eqb}
use Rattle.std.proofs.lemmas.List.Folds.{list_any-append}
use Rattle.spec_job.specs.KeyedJob.{Key}
use Rattle.spec_hall.specs.Events.{Event}
use Rattle.spec_hall.specs.Own.{is_key, is_text}
use Rattle.spec_hall.specs.Legal.{jobs_of}
use Rattle.spec_hall.specs.States.{comings_in, job_number, names_of, with_key}
use Rattle.spec_hall.specs.Seats.{Seat, IsSeated, place_of}
use Rattle.spec_hall.specs.Spots.{Spot, Tag, AreSpots, IsAt, tag_of, tags_of}
use Rattle.spec_hall.proofs.ComingLemmas.{IsComing, NoneComes, number-comes, number-other, number-stays}
use Rattle.spec_hall.proofs.JournalLemmas.{IsSeatAt}
use Rattle.spec_hall.proofs.KeyLemmas.{is_key-Decides, is_key-back, is_key-same, is_text-Decides}
use Rattle.spec_hall.proofs.NumberLemmas.{seat-low, seat-number, seat-of_number}
use Rattle.spec_hall.proofs.OrderlyLemmas.{legal-orderly, name-absent, was_named}
use Rattle.spec_hall.proofs.SeatLemmas.{seat_keys, seated-keys}
use Rattle.mal_seats.specs.Numbered.{IsAbove, place_numbered}
use Rattle.mal_hall.specs.HallView.{place_by}
use Rattle.mal_hall.specs.Named.{AreAlike, AreNamed, HasNoted, found, jobs_at, number_known}
use Rattle.mal_hall.specs.declared.names.Names.{Names}
use Rattle.mal_hall.proofs.KeptLemmas.{jobs_of-push}

-- all numbers are below the next one
pub seats-above : (w : ℕ) (past : List Event) (ss : List Seat) (spots : List (Option Spot)) (number : ℕ) → IsSeated w past ss → AreSpots w past (tags_of ss) spots → number ≡ comings_in past → IsAbove number ss
seats-above w past ss spots number seated are next at s there = omega (arith, seat-low w past ss spots seated are at s there, next)

-- a key has a place where it stands among those of the seats
pub place-some : (k : Key) (ss : List Seat) → list_any (is_key k) (seat_keys ss) ≡ is_some (place_of k ss)
place-some k [] = refl
place-some k (s ∷ ss) = by_test (is_key k s.job.titled.key) (place-some k ss ∙ same_some (place_of k ss))
  where
    same_some : (o : Option ℕ) → is_some o ≡ is_some (option_map suc o)
    same_some None = refl
    same_some (Some n) = refl

    by_test : (b : Bool) → list_any (is_key k) (seat_keys ss) ≡ is_some (option_map suc (place_of k ss)) → (b || list_any (is_key k) (seat_keys ss)) ≡ is_some (cond b (Some 0) (option_map suc (place_of k ss)))
    by_test true rest = refl
    by_test false rest = rest

none-at : (o : Option ℕ) → is_some o ≡ false → o ≡ None
none-at None e = refl
none-at (Some n) e = absurd (cc)

-- the first seat with a number is the first with a key, where the seats have the one exactly where they have the other
same-place : (k : Key) (number : ℕ) (ss : List Seat) → ((n : ℕ) (s : Seat) → slice_get ss n ≡ Some s → (s.job.number == number) ≡ is_key k s.job.titled.key) → place_numbered number ss ≡ place_of k ss
same-place k number [] h = refl
same-place k number (x ∷ xs) h =
    ap (λ (b : Bool). cond b (Some 0) (option_map suc (place_numbered number xs))) (h 0 x refl)
    ∙ ap (λ (o : Option ℕ). cond (is_key k x.job.titled.key) (Some 0) (option_map suc o)) (same-place k number xs (λ n s at. h (suc n) s at))

-- the place of a key is that of its number, where a job ever had the key
pub place-number : (w : ℕ) (past : List Event) (ss : List Seat) (spots : List (Option Spot)) (k : Key) → IsSeated w past ss → AreSpots w past (tags_of ss) spots → place_by (number_known k past) ss ≡ place_of k ss
place-number w past ss spots k seated are = by_name (was_named past k) refl
  where
    alike : was_named past k ≡ true → (n : ℕ) (s : Seat) → slice_get ss n ≡ Some s → (b : Bool) → is_key k s.job.titled.key ≡ b → (d : Bool) → (s.job.number == job_number k past) ≡ d → d ≡ b
    alike there n s at true p true q = refl
    alike there n s at false p false q = refl
    alike there n s at true p false q =
        let same : job_number s.job.titled.key past ≡ job_number k past = ap (λ (j : Key). job_number j past) (sym ((is_key-Decides k s.job.titled.key).0 p)) in
        absurd (both_ways (s.job.number == job_number k past) q ((Decides-eqb s.job.number (job_number k past)).1 (seat-number w past ss spots seated are n s at ∙ same)))
    alike there n s at false p true q =
        let number : s.job.number ≡ job_number k past = (Decides-eqb s.job.number (job_number k past)).0 q in
        absurd (both_ways (is_key k s.job.titled.key) p ((is_key-Decides k s.job.titled.key).1 (sym (seat-of_number w past ss spots seated are k n s there at number))))

    by_name : (b : Bool) → was_named past k ≡ b → place_by (cond b (Some (job_number k past)) None) ss ≡ place_of k ss
    by_name true e = same-place k (job_number k past) ss (λ n s at. alike e n s at (is_key k s.job.titled.key) refl (s.job.number == job_number k past) refl)
    by_name false e =
        let absent = name-absent past k (legal-orderly w past seated.legal) e in
        sym (none-at (place_of k ss) (sym (place-some k ss) ∙ (ap (list_any (is_key k)) (sym (seated-keys past ss seated.jobs)) ∙ absent)))

-- the seat at the place of a number has that number
pub numbered-some : (number : ℕ) (ss : List Seat) (at : ℕ) → place_numbered number ss ≡ Some at → (s : Seat) × (slice_get ss at ≡ Some s) × (s.job.number ≡ number)
numbered-some number [] at e = absurd (cc)
numbered-some number (x ∷ xs) at e = by_test (x.job.number == number) refl e (numbered-some number xs)
  where
    by_rest : (o : Option ℕ) → place_numbered number xs ≡ o → option_map suc o ≡ Some at → ((m : ℕ) → place_numbered number xs ≡ Some m → (s : Seat) × (slice_get xs m ≡ Some s) × (s.job.number ≡ number)) → (s : Seat) × (slice_get (x ∷ xs) at ≡ Some s) × (s.job.number ≡ number)
    by_rest None p q rest = absurd (cc)
    by_rest (Some m) p q rest =
        let same : suc m ≡ at = cc in
        let found = rest m p in
        (found.0, ap (λ (n : ℕ). slice_get (x ∷ xs) n) (sym same) ∙ found.1, found.2)

    by_test : (b : Bool) → (x.job.number == number) ≡ b → cond b (Some 0) (option_map suc (place_numbered number xs)) ≡ Some at → ((m : ℕ) → place_numbered number xs ≡ Some m → (s : Seat) × (slice_get xs m ≡ Some s) × (s.job.number ≡ number)) → (s : Seat) × (slice_get (x ∷ xs) at ≡ Some s) × (s.job.number ≡ number)
    by_test true p q rest =
        let same : 0 ≡ at = cc in
        (x, ap (λ (n : ℕ). slice_get (x ∷ xs) n) (sym same), (Decides-eqb x.job.number number).0 p)
    by_test false p q rest = by_rest (place_numbered number xs) refl q rest

-- a number without a place is that of no seat
pub numbered-none : (number : ℕ) (ss : List Seat) (n : ℕ) (s : Seat) → place_numbered number ss ≡ None → slice_get ss n ≡ Some s → s.job.number ≡ number → ⊥
numbered-none number [] n s none at same = absurd (cc)
numbered-none number (x ∷ xs) n s none at same = by_test (x.job.number == number) refl none n at (λ m e there. numbered-none number xs m s e there same)
  where
    by_rest : (o : Option ℕ) → option_map suc o ≡ None → o ≡ None
    by_rest None e = refl
    by_rest (Some m) e = absurd (cc)

    by_test : (b : Bool) → (x.job.number == number) ≡ b → cond b (Some 0) (option_map suc (place_numbered number xs)) ≡ None → (m : ℕ) → slice_get (x ∷ xs) m ≡ Some s → ((i : ℕ) → place_numbered number xs ≡ None → slice_get xs i ≡ Some s → ⊥) → ⊥
    by_test true p q m there rest = absurd (cc)
    by_test false p q zero there rest =
        let here : x ≡ s = cc in
        both_ways (x.job.number == number) p ((Decides-eqb x.job.number number).1 (ap (λ (t : Seat). t.job.number) here ∙ same))
    by_test false p q (suc m) there rest = rest m (by_rest (place_numbered number xs) q) there

-- the seat of a tag
tag-seat : (ss : List Seat) (n : ℕ) (t : Tag) → slice_get (tags_of ss) n ≡ Some t → (s : Seat) × (slice_get ss n ≡ Some s) × (tag_of s ≡ t)
tag-seat [] n t e = absurd (cc)
tag-seat (x ∷ xs) zero t e = (x, refl, cc)
tag-seat (x ∷ xs) (suc n) t e = tag-seat xs n t e

-- the number of a lease that is out has a place
pub spot-placed : (past : List Event) (ss : List Seat) (worker : ℕ) (spot : Spot) → IsAt past (tags_of ss) worker spot → place_numbered spot.job ss ≡ None → ⊥
spot-placed past ss worker spot is none =
    let found = tag-seat ss is.place is.tag is.at in
    numbered-none spot.job ss is.place found.0 none found.1 (ap (λ (t : Tag). t.number) found.2 ∙ is.job)

-- and the seat there is its job's
pub spot-sits : (ss : List Seat) (spot : Spot) (at : ℕ) → place_numbered spot.job ss ≡ Some at → (s : Seat) × IsSeatAt ss spot at s
spot-sits ss spot at e = let found = numbered-some spot.job ss at e in (found.0, record { is = found.1; number = found.2 })

-- another name than the one that comes
with-other : (j k : Key) (names : List Key) → is_key j k ≡ false → list_any (is_key j) (with_key k names) ≡ list_any (is_key j) names
with-other j k names other = by_test (list_any (is_key k) names)
  where
    behind : (b : Bool) → (b || (is_key j k || false)) ≡ b
    behind true = refl
    behind false = ap (λ (c : Bool). c || false) other

    by_test : (b : Bool) → list_any (is_key j) (cond b names (names ++ k ∷ [])) ≡ list_any (is_key j) names
    by_test true = refl
    by_test false = list_any-append (is_key j) names (k ∷ []) ∙ behind (list_any (is_key j) names)

-- what names lead to stays where no job comes
pub named-stays : (past : List Event) (e : Event) (names : Names) → NoneComes e → names_of (past ++ e ∷ []) ≡ names_of past → AreNamed past names.numbers names.tenants → AreNamed (past ++ e ∷ []) names.numbers names.tenants
named-stays past e names none same are = record {
  number = λ k. are.number k ∙ sym (ap (λ (ks : List Key). cond (list_any (is_key k) ks) (Some (job_number k (past ++ e ∷ []))) None) same ∙ ap (λ (n : ℕ). cond (was_named past k) (Some n) None) (number-stays k past e none));
  jobs = λ tenant. are.jobs tenant ∙ ap (jobs_of tenant) (sym same);
}

-- so it does where they lead where they led
pub named-alike : (past : List Event) (m n : Names) → AreAlike m n → AreNamed past m.numbers m.tenants → AreNamed past n.numbers n.tenants
named-alike past m n alike are = record { number = λ k. alike.leads k ∙ are.number k; jobs = λ tenant. alike.jobs tenant ∙ are.jobs tenant }

turned-text : (a b : List ℕ) → is_text a b ≡ is_text b a
turned-text a b = by_tests (is_text a b) refl (is_text b a) refl
  where
    by_tests : (x : Bool) → is_text a b ≡ x → (y : Bool) → is_text b a ≡ y → x ≡ y
    by_tests true p true q = refl
    by_tests false p false q = refl
    by_tests true p false q = absurd (both_ways (is_text b a) q ((is_text-Decides b a).1 (sym ((is_text-Decides a b).0 p))))
    by_tests false p true q = absurd (both_ways (is_text a b) p ((is_text-Decides a b).1 (sym ((is_text-Decides b a).0 q))))

-- the name that comes is there
with-mine : (k : Key) (names : List Key) → list_any (is_key k) (with_key k names) ≡ true
with-mine k names = by_test (list_any (is_key k) names) refl
  where
    behind : (b : Bool) → (b || (is_key k k || false)) ≡ true
    behind true = refl
    behind false = ap (λ (c : Bool). c || false) (is_key-same k)

    by_test : (b : Bool) → list_any (is_key k) names ≡ b → list_any (is_key k) (cond b names (names ++ k ∷ [])) ≡ true
    by_test true e = e
    by_test false e = list_any-append (is_key k) names (k ∷ []) ∙ behind (list_any (is_key k) names)

-- a job comes, whose name is noted
pub named-comes : (past : List Event) (e : Event) (k : Key) (number : ℕ) (m n : Names) → IsComing k e → names_of (past ++ e ∷ []) ≡ with_key k (names_of past) → number ≡ comings_in past → HasNoted number k m n → AreNamed past m.numbers m.tenants → AreNamed (past ++ e ∷ []) n.numbers n.tenants
named-comes past e k number m n comes names next noted are = record {
  number = λ j. noted.leads j ∙ (numbered j (is_key k j) refl ∙ sym (ap (λ (ks : List Key). cond (list_any (is_key j) ks) (Some (job_number j now)) None) names));
  jobs = λ tenant. counted tenant ∙ ap (jobs_of tenant) (sym names);
}
  where
    now : List Event
    now = past ++ e ∷ []

    numbered : (j : Key) (b : Bool) → is_key k j ≡ b → cond b (Some number) (found m.numbers j) ≡ cond (list_any (is_key j) (with_key k (names_of past))) (Some (job_number j now)) None
    numbered j true q =
        let same : k ≡ j = (is_key-Decides k j).0 q in
        let there : list_any (is_key j) (with_key k (names_of past)) ≡ true = ap (λ (i : Key). list_any (is_key i) (with_key k (names_of past))) (sym same) ∙ with-mine k (names_of past) in
        let mine : job_number j now ≡ number = ap (λ (i : Key). job_number i now) (sym same) ∙ (number-comes k past e comes ∙ sym next) in
        sym (ap (λ (b : Bool). cond b (Some (job_number j now)) None) there ∙ ap (λ (i : ℕ). let o : Option ℕ = Some i in o) mine)
    numbered j false q =
        let other : is_key j k ≡ false = is_key-back k j q in
        are.number j
        ∙ sym (ap (λ (b : Bool). cond b (Some (job_number j now)) None) (with-other j k (names_of past) other) ∙ ap (λ (i : ℕ). cond (was_named past j) (Some i) None) (number-other j k past e comes other))

    unknown : is_none (found m.numbers k) ≡ not (was_named past k)
    unknown = ap (λ (o : Option ℕ). is_none o) (are.number k) ∙ by_test (was_named past k)
      where
        by_test : (b : Bool) → is_none (cond b (Some (job_number k past)) None) ≡ not b
        by_test true = refl
        by_test false = refl

    no_more : (a : Bool) (i : ℕ) → i + cond (a && false) 1 0 ≡ i
    no_more true i = omega arith
    no_more false i = omega arith

    counted : (tenant : List ℕ) → jobs_at n.tenants tenant ≡ jobs_of tenant (with_key k (names_of past))
    counted tenant =
        noted.jobs tenant
        ∙ (ap (λ (b : Bool). jobs_at m.tenants tenant + cond (is_text k.tenant tenant && b) 1 0) unknown
        ∙ (ap (λ (i : ℕ). i + cond (is_text k.tenant tenant && not (was_named past k)) 1 0) (are.jobs tenant) ∙ by_test (was_named past k)))
      where
        all : (a : Bool) → (a && true) ≡ a
        all true = refl
        all false = refl

        by_test : (b : Bool) → jobs_of tenant (names_of past) + cond (is_text k.tenant tenant && not b) 1 0 ≡ jobs_of tenant (cond b (names_of past) (names_of past ++ k ∷ []))
        by_test true = no_more (is_text k.tenant tenant) (jobs_of tenant (names_of past))
        by_test false =
            ap (λ (b : Bool). jobs_of tenant (names_of past) + cond b 1 0) (all (is_text k.tenant tenant) ∙ turned-text k.tenant tenant)
            ∙ sym (jobs_of-push tenant (names_of past) k)
