-- The jobs that have not ended, one after another.
use Rattle.std.proofs.Common.{◌≡◌, ℕ, zero, suc, ◌+◌, ◌<◌, ◌≤◌, Bool, true, false, cond, not, ◌&&◌, ◌||◌, List, [], ◌∷◌, ◌++◌, length, drop, filter, map, slice_get, Option, Some, None, refl, sym, ap, ◌∙◌, subst, arith}
use Rattle.std.specs.Prelude.{bytes_eq, option_to_list}
use Rattle.std.specs.List.{list_any}
use Rattle.std.proofs.lemmas.List.{drop_all, drop_more}
use Rattle.std.proofs.lemmas.List.Elements.{filter-append}
use Rattle.std.proofs.lemmas.List.Folds.{list_any-append}
use Rattle.std.proofs.lemmas.Map.Views.{any-filter_same}
use Rattle.std.proofs.lemmas.Option.{slice_get_within, get_or_from_slice_get}
use Rattle.std.proofs.lemmas.Slice.Eq.{bytes_eq-Decides}
use Rattle.mal_base.specs.declared.key.Key.{Key}
use Rattle.spec_script.specs.Script.{ScriptedJob}
use Rattle.spec_script.specs.Reading.{OpenJob, is_job}
use Rattle.spec_feed.specs.Reading.{Feeding, closings, is_open_job, is_opened, key_of, opened}
use Rattle.spec_feed.specs.declared.post.FeedPost.{FeedPost}
use Rattle.spec_feed.specs.declared.post.FeedPost.TheVariants.{Closes}
use Rattle.mal_feed.specs.Posting.{HavePassed, IsFirstOpen, are_apart, unless_of, without}
use Rattle.mal_feed.proofs.Apart.{and_left, and_right, is_itself, none_after}

none_within : (xs : List ScriptedJob) (n : ℕ) → n < length xs → slice_get xs n ≡ None → ⊥
none_within [] n low e = omega arith
none_within (x ∷ xs) zero low e = absurd (cc)
none_within (x ∷ xs) (suc n) low e = none_within xs n (omega arith) e

-- what is kept by two tests
filter_both : {X : Type 0} (one p q : X → Bool) → ((x : X) → one x ≡ (p x && q x)) → (xs : List X) → filter one xs ≡ filter q (filter p xs)
filter_both one p q is [] = refl
filter_both {X = X} one p q is (x ∷ xs) =
    ap (λ (b : Bool). cond b (x ∷ filter one xs) (filter one xs)) (is x)
    ∙ ap (λ (ys : List X). cond (p x && q x) (x ∷ ys) ys) (filter_both one p q is xs)
    ∙ by_test (p x)
  where
    by_test : (a : Bool) → cond (a && q x) (x ∷ filter q (filter p xs)) (filter q (filter p xs)) ≡ filter q (cond a (x ∷ filter p xs) (filter p xs))
    by_test true = refl
    by_test false = refl

and_turned : (a b : Bool) → (a && b) ≡ (b && a)
and_turned true true = refl
and_turned true false = refl
and_turned false true = refl
and_turned false false = refl

-- whether a job is not this one
abbrev is_other : ScriptedJob → ScriptedJob → Bool
is_other j x = not (is_job j.tenant j.name x)

abbrev stays : ScriptedJob → OpenJob → Bool
stays j o = not (is_open_job j.tenant j.name o)

-- what is open without a job
opened-without : (j : ScriptedJob) (s : Feeding) → opened (without (key_of j) s) ≡ filter (stays j) (opened s)
opened-without j s = by_current s.current ∙ sym (filter-append (stays j) s.aside (option_to_list s.current))
  where
    by_current : (o : Option OpenJob) → filter (stays j) s.aside ++ option_to_list (unless_of (key_of j) o) ≡ filter (stays j) s.aside ++ filter (stays j) (option_to_list o)
    by_current None = refl
    by_current (Some o) = ap (λ (os : List OpenJob). filter (stays j) s.aside ++ os) (by_test (is_open_job j.tenant j.name o))
      where
        by_test : (b : Bool) → option_to_list (cond b None (Some o)) ≡ cond (not b) (o ∷ []) []
        by_test true = refl
        by_test false = refl

-- the job at a place is the first of those from there on
drop_at : (xs : List ScriptedJob) (n : ℕ) (j : ScriptedJob) → slice_get xs n ≡ Some j → drop n xs ≡ j ∷ drop (n + 1) xs
drop_at xs n j e =
    let low = slice_get_within xs n j e in
    drop_more xs n j low ∙ ap (λ (x : ScriptedJob). x ∷ drop (n + 1) xs) (get_or_from_slice_get xs n j j e)

slice_get_some : (xs : List ScriptedJob) (n : ℕ) → n < length xs → (j : ScriptedJob) × (slice_get xs n ≡ Some j)
slice_get_some xs n low = by_case (slice_get xs n) refl
  where
    by_case : (o : Option ScriptedJob) → slice_get xs n ≡ o → (j : ScriptedJob) × (slice_get xs n ≡ Some j)
    by_case (Some j) e = (j, e)
    by_case None e = absurd (none_within xs n low e)

-- an open job is beside the one that the lines are of, or is that one
pub opened_either : (tenant name : List ℕ) (s : Feeding) → list_any (is_open_job tenant name) (opened s) ≡ (list_any (is_open_job tenant name) s.aside || list_any (is_open_job tenant name) (option_to_list s.current))
opened_either tenant name s = list_any-append (is_open_job tenant name) s.aside (option_to_list s.current)

-- from a job on that has ended, those that are open are those after it
pub passed_one : (s : Feeding) (n : ℕ) → n < length s.begun → ((j : ScriptedJob) → slice_get s.begun n ≡ Some j → is_opened s j ≡ false) → filter (is_opened s) (drop n s.begun) ≡ filter (is_opened s) (drop (n + 1) s.begun)
passed_one s n low ended =
    let (j, e) = slice_get_some s.begun n low in
    ap (filter (is_opened s)) (drop_at s.begun n j e)
    ∙ ap (λ (b : Bool). cond b (j ∷ filter (is_opened s) (drop (n + 1) s.begun)) (filter (is_opened s) (drop (n + 1) s.begun))) (ended j e)

pub passed_all : (s : Feeding) (n : ℕ) → length s.begun ≤ n → filter (is_opened s) (drop n s.begun) ≡ []
passed_all s n all = ap (filter (is_opened s)) (drop_all n s.begun all)

-- an open job of the names of a job stays as that job does
alike : (j x : ScriptedJob) (o : OpenJob) → is_open_job x.tenant x.name o ≡ true → stays j o ≡ is_other j x
alike j x o h =
    let tenant : x.tenant ≡ o.job.tenant = (bytes_eq-Decides x.tenant o.job.tenant).0 (and_left (bytes_eq x.tenant o.job.tenant) (bytes_eq x.name o.job.name) h) in
    let name : x.name ≡ o.job.name = (bytes_eq-Decides x.name o.job.name).0 (and_right (bytes_eq x.tenant o.job.tenant) (bytes_eq x.name o.job.name) h) in
    sym (ap (λ (t : List ℕ). not (bytes_eq j.tenant t && bytes_eq j.name x.name)) tenant ∙ ap (λ (t : List ℕ). not (bytes_eq j.tenant o.job.tenant && bytes_eq j.name t)) name)

-- the others stay open
open-without : (j : ScriptedJob) (s : Feeding) (x : ScriptedJob) → is_opened (without (key_of j) s) x ≡ (is_opened s x && is_other j x)
open-without j s x =
    ap (list_any (is_open_job x.tenant x.name)) (opened-without j s)
    ∙ any-filter_same (is_open_job x.tenant x.name) (stays j) (is_other j x) (alike j x) (opened s)
    ∙ and_turned (is_other j x) (is_opened s x)

-- nothing is lost that passes
kept : (p : ScriptedJob → Bool) (j : ScriptedJob) (xs : List ScriptedJob) → list_any (is_job j.tenant j.name) xs ≡ false → filter (is_other j) (filter p xs) ≡ filter p xs
kept p j [] none = refl
kept p j (x ∷ xs) none = by_test (p x) ∙ ap (λ (ys : List ScriptedJob). cond (p x) (x ∷ ys) ys) (kept p j xs (later (is_job j.tenant j.name x) none))
  where
    later : (a : Bool) → (a || list_any (is_job j.tenant j.name) xs) ≡ false → list_any (is_job j.tenant j.name) xs ≡ false
    later true e = absurd (cc)
    later false e = e

    first : (a : Bool) → (a || list_any (is_job j.tenant j.name) xs) ≡ false → not a ≡ true
    first true e = sym e
    first false e = refl

    by_test : (b : Bool) → filter (is_other j) (cond b (x ∷ filter p xs) (filter p xs)) ≡ cond b (x ∷ filter (is_other j) (filter p xs)) (filter (is_other j) (filter p xs))
    by_test true = ap (λ (c : Bool). cond c (x ∷ filter (is_other j) (filter p xs)) (filter (is_other j) (filter p xs))) (first (is_job j.tenant j.name x) none)
    by_test false = refl

abbrev closing_at : Key → FeedPost
closing_at k = Closes k

abbrev closing : ScriptedJob → FeedPost
closing j = Closes (key_of j)

-- the jobs that are open, with the first that is found from a place on
found : (s : Feeding) (passed at : ℕ) (j : ScriptedJob) → HavePassed passed s → IsFirstOpen passed at s → slice_get s.begun at ≡ Some j → filter (is_opened s) s.begun ≡ j ∷ filter (is_opened s) (drop (at + 1) s.begun)
found s passed at j have first there =
    have ∙ first.rest
    ∙ ap (filter (is_opened s)) (drop_at s.begun at j there)
    ∙ ap (λ (b : Bool). cond b (j ∷ filter (is_opened s) (drop (at + 1) s.begun)) (filter (is_opened s) (drop (at + 1) s.begun))) (first.open_there j there)

-- without it the others are open
left : (s : Feeding) (passed at : ℕ) (j : ScriptedJob) → HavePassed passed s → IsFirstOpen passed at s → slice_get s.begun at ≡ Some j → filter (is_opened (without (key_of j) s)) s.begun ≡ filter (is_other j) (filter (is_opened s) (drop (at + 1) s.begun))
left s passed at j have first there =
    filter_both (is_opened (without (key_of j) s)) (is_opened s) (is_other j) (open-without j s) s.begun
    ∙ ap (filter (is_other j)) (found s passed at j have first there)
    ∙ ap (λ (b : Bool). cond (not b) (j ∷ filter (is_other j) (filter (is_opened s) (drop (at + 1) s.begun))) (filter (is_other j) (filter (is_opened s) (drop (at + 1) s.begun)))) (is_itself j)

-- its closing is the first, and the others are those without it
pub closes-first : (s : Feeding) (passed at : ℕ) (j : ScriptedJob) → are_apart s.begun ≡ true → HavePassed passed s → IsFirstOpen passed at s → slice_get s.begun at ≡ Some j → closings s ≡ Closes (key_of j) ∷ closings (without (key_of j) s)
closes-first s passed at j apart have first there =
    ap (map closing) (found s passed at j have first there)
    ∙ ap (λ (xs : List ScriptedJob). closing j ∷ map closing xs)
    (sym (left s passed at j have first there
    ∙ kept (is_opened s) j (drop (at + 1) s.begun) (none_after at s.begun (drop (at + 1) s.begun) j apart (drop_at s.begun at j there))))

-- and so many have passed then
pub passed-more : (s : Feeding) (passed at : ℕ) (j : ScriptedJob) → HavePassed passed s → IsFirstOpen passed at s → slice_get s.begun at ≡ Some j → HavePassed (at + 1) (without (key_of j) s)
passed-more s passed at j have first there =
    left s passed at j have first there
    ∙ sym (filter_both (is_opened (without (key_of j) s)) (is_opened s) (is_other j) (open-without j s) (drop (at + 1) s.begun))

-- the same, as the calls leave what they change
pub closing_of : (s after : Feeding) (passed at : ℕ) (j : ScriptedJob) (k : Key) → are_apart s.begun ≡ true → HavePassed passed s → IsFirstOpen passed at s → slice_get s.begun at ≡ Some j → k ≡ key_of j → after ≡ without k s → (closings s ≡ Closes k ∷ closings after) × HavePassed (at + 1) after
closing_of s after passed at j k apart have first there is e =
    let same : after ≡ without (key_of j) s = e ∙ ap (λ (x : Key). without x s) is in (
      closes-first s passed at j apart have first there
          ∙ ap (λ (x : Feeding). closing j ∷ closings x) (sym same)
          ∙ ap (λ (x : Key). closing_at x ∷ closings after) (sym is),
      subst (HavePassed (at + 1)) (sym same) (passed-more s passed at j have first there),
    )
