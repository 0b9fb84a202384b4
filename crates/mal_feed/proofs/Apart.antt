-- Jobs of which no two have the same names.
use Rattle.std.proofs.Common.{◌≡◌, ℕ, suc, zero, Bool, true, false, not, ◌&&◌, ◌||◌, List, [], ◌∷◌, ◌++◌, drop, refl, sym, ap, ◌∙◌}
use Rattle.std.specs.Prelude.{bytes_eq}
use Rattle.std.specs.List.{list_any}
use Rattle.std.proofs.lemmas.List.Folds.{list_any-append}
use Rattle.std.proofs.lemmas.Slice.Eq.{bytes_eq-Decides}
use Rattle.spec_script.specs.Script.{ScriptedJob}
use Rattle.spec_script.specs.Reading.{is_job}
use Rattle.mal_feed.specs.Posting.{are_apart}

pub and_left : (a b : Bool) → (a && b) ≡ true → a ≡ true
and_left true b e = refl
and_left false b e = e

pub and_right : (a b : Bool) → (a && b) ≡ true → b ≡ true
and_right true b e = e
and_right false true e = refl
and_right false false e = e

or_left : (a b : Bool) → (a || b) ≡ false → a ≡ false
or_left true b e = e
or_left false b e = refl

or_right : (a b : Bool) → (a || b) ≡ false → b ≡ false
or_right true true e = e
or_right true false e = refl
or_right false b e = e

pub was_false : (b : Bool) → not b ≡ true → b ≡ false
was_false true e = sym e
was_false false e = refl

-- it does not matter which of two texts is compared with the other
eq_turned : (a b : List ℕ) → bytes_eq a b ≡ bytes_eq b a
eq_turned a b = by_tests (bytes_eq a b) (bytes_eq b a) refl refl
  where
    by_tests : (x y : Bool) → bytes_eq a b ≡ x → bytes_eq b a ≡ y → x ≡ y
    by_tests true true e f = refl
    by_tests false false e f = refl
    by_tests true false e f = let g : bytes_eq b a ≡ true = (bytes_eq-Decides b a).1 (sym ((bytes_eq-Decides a b).0 e)) in absurd (cc)
    by_tests false true e f = let g : bytes_eq a b ≡ true = (bytes_eq-Decides a b).1 (sym ((bytes_eq-Decides b a).0 f)) in absurd (cc)

job_turned : (i j : ScriptedJob) → is_job i.tenant i.name j ≡ is_job j.tenant j.name i
job_turned i j = ap (λ (b : Bool). b && bytes_eq i.name j.name) (eq_turned i.tenant j.tenant) ∙ ap (λ (b : Bool). bytes_eq j.tenant i.tenant && b) (eq_turned i.name j.name)

-- a job is the one of its names
pub is_itself : (j : ScriptedJob) → is_job j.tenant j.name j ≡ true
is_itself j = ap (λ (b : Bool). b && bytes_eq j.name j.name) ((bytes_eq-Decides j.tenant j.tenant).1 refl) ∙ (bytes_eq-Decides j.name j.name).1 refl

both : (a b : Bool) → a ≡ false → b ≡ true → (not a && b) ≡ true
both a b e f = ap (λ (x : Bool). not x && b) e ∙ f

either : (a b : Bool) → a ≡ false → b ≡ false → (a || (b || false)) ≡ false
either a b e f = ap (λ (x : Bool). x || (b || false)) e ∙ ap (λ (x : Bool). x || false) f

-- with a job of other names they stay apart
pub apart_push : (jobs : List ScriptedJob) (j : ScriptedJob) → are_apart jobs ≡ true → list_any (is_job j.tenant j.name) jobs ≡ false → are_apart (jobs ++ j ∷ []) ≡ true
apart_push [] j apart fresh = refl
apart_push (x ∷ xs) j apart fresh =
    let none = was_false (list_any (is_job x.tenant x.name) xs) (and_left (not (list_any (is_job x.tenant x.name) xs)) (are_apart xs) apart) in
    let other = job_turned x j ∙ or_left (is_job j.tenant j.name x) (list_any (is_job j.tenant j.name) xs) fresh in
    both (list_any (is_job x.tenant x.name) (xs ++ j ∷ [])) (are_apart (xs ++ j ∷ []))
    (list_any-append (is_job x.tenant x.name) xs (j ∷ []) ∙ either (list_any (is_job x.tenant x.name) xs) (is_job x.tenant x.name j) none other)
    (apart_push xs j (and_right (not (list_any (is_job x.tenant x.name) xs)) (are_apart xs) apart) (or_right (is_job j.tenant j.name x) (list_any (is_job j.tenant j.name) xs) fresh))

pub apart_drop : (n : ℕ) (jobs : List ScriptedJob) → are_apart jobs ≡ true → are_apart (drop n jobs) ≡ true
apart_drop zero jobs apart = apart
apart_drop (suc n) [] apart = refl
apart_drop (suc n) (x ∷ xs) apart = apart_drop n xs (and_right (not (list_any (is_job x.tenant x.name) xs)) (are_apart xs) apart)

-- no job after a job has its names
pub none_after : (n : ℕ) (jobs rest : List ScriptedJob) (j : ScriptedJob) → are_apart jobs ≡ true → drop n jobs ≡ j ∷ rest → list_any (is_job j.tenant j.name) rest ≡ false
none_after n jobs rest j apart e =
    was_false (list_any (is_job j.tenant j.name) rest)
    (and_left (not (list_any (is_job j.tenant j.name) rest)) (are_apart rest) (sym (ap are_apart e) ∙ apart_drop n jobs apart))
