-- The tests of shapes find just the keys that there have to be.
use Rattle.std.proofs.Common.{◌≡◌, ◌↔◌, ℕ, suc, ◌≤◌, Bool, true, false, cond, ◌&&◌, ◌||◌, ◌==◌, List, [], ◌∷◌, ◌++◌, length, Option, Some, None, refl, sym, ap, ◌∙◌, subst, arith, append-nil, codes}
use Rattle.std.specs.Prelude.{bytes_eq, is_some}
use Rattle.std.specs.List.{AllByRecursion, IsDistinct, list_any}
use Rattle.std.specs.Option.{option_map_or}
use Rattle.std.specs.Ordering.{is_eq, match_ordering, nat_cmp}
use Rattle.std.specs.Cmp.Lexicographic.{slice_cmp}
use Rattle.std.specs.declared.cmp.Ordering.{Ordering}
use Rattle.std.specs.declared.cmp.Ordering.TheVariants.{Less, Equal, Greater}
use Rattle.std.proofs.lemmas.Bool.{and_from, and_parts, both_ways, eqb-true, eq-eqb, or_parts}
use Rattle.std.proofs.lemmas.List.Folds.{list_any-append}
use Rattle.std.proofs.lemmas.Map.Text.{is_eq-slice_cmp}
use Rattle.std.proofs.lemmas.Map.Made.{length-le_from_is_member, length-from_same_keys}
use Rattle.std.proofs.lemmas.Slice.Eq.{bytes_eq-Decides}
use Rattle.std.specs.Cmp.Lexicographic.{nat_list_eq_equiv}
use Rattle.serde_json.specs.Data.{Data, null, boolean, number, string, array, object, Members, no_members, member}
use Rattle.serde_json.specs.Events.{members_len}
use Rattle.serde_json.specs.Find.{get, get_member}
use Rattle.spec_json.specs.Shape.{has, has_ask_shape, is_job_shape, is_list, is_list_of, is_name_text, is_numbers, is_step_shape, is_whole, key_count, may_have}
use Rattle.spec_promises.specs.Keys.{keys_of, keys_in, IsAmong, IsKeyed, HasKeys, job_keys, KeysAreTested}

-- a key is among those of an object where a value is under it, and there are as many as are counted
member-there : (k : List ℕ) (ms : Members) → is_some (get_member k ms) ≡ list_any (bytes_eq k) (keys_of ms)
member-there k no_members = refl
member-there k (member l d ms) = by_order (slice_cmp nat_cmp k l) refl (member-there k ms)
  where
    by_order : (o : Ordering) → slice_cmp nat_cmp k l ≡ o → is_some (get_member k ms) ≡ list_any (bytes_eq k) (keys_of ms) → is_some (match_ordering o (get_member k ms) (Some d) (get_member k ms)) ≡ (bytes_eq k l || list_any (bytes_eq k) (keys_of ms))
    by_order Less e rest = rest ∙ ap (λ (b : Bool). b || list_any (bytes_eq k) (keys_of ms)) (sym (ap is_eq e) ∙ is_eq-slice_cmp k l)
    by_order Equal e rest = ap (λ (b : Bool). b || list_any (bytes_eq k) (keys_of ms)) (sym (ap is_eq e) ∙ is_eq-slice_cmp k l)
    by_order Greater e rest = rest ∙ ap (λ (b : Bool). b || list_any (bytes_eq k) (keys_of ms)) (sym (ap is_eq e) ∙ is_eq-slice_cmp k l)

key-there : (k : List ℕ) (d : Data) → is_some (get k d) ≡ list_any (bytes_eq k) (keys_in d)
key-there k null = refl
key-there k (boolean b) = refl
key-there k (number n) = refl
key-there k (string s) = refl
key-there k (array ds) = refl
key-there k (object ms) = member-there k ms

members-counted : (ms : Members) → members_len ms ≡ length (keys_of ms)
members-counted no_members = refl
members-counted (member k d ms) = ap suc (members-counted ms)

keys-counted : (d : Data) → key_count d ≡ length (keys_in d)
keys-counted null = refl
keys-counted (boolean b) = refl
keys-counted (number n) = refl
keys-counted (string s) = refl
keys-counted (array ds) = refl
keys-counted (object ms) = members-counted ms

keys-distinct : (d : Data) → IsKeyed d → IsDistinct bytes_eq (keys_in d)
unfolding IsDistinct
keys-distinct null h = tt
keys-distinct (boolean b) h = tt
keys-distinct (number n) h = tt
keys-distinct (string s) h = tt
keys-distinct (array ds) h = tt
keys-distinct (object ms) h = h.0

-- a value under a key that passes a test is there
has-there : (test : Data → Bool) (k : List ℕ) (d : Data) → has test k d ≡ true → IsAmong k (keys_in d)
has-there test k d h = sym (key-there k d) ∙ by_value (get k d) h
  where
    by_value : (o : Option Data) → option_map_or test o false ≡ true → is_some o ≡ true
    by_value None q = q
    by_value (Some x) q = refl

-- each of some keys is there
each-there : (keys : List (List ℕ)) (d : Data) → AllByRecursion (λ k. IsAmong k (keys_in d)) keys → (key : List ℕ) → IsAmong key keys → IsAmong key (keys_in d)
each-there [] d all key q = absurd (both_ways false refl q)
each-there (k ∷ ks) d all key q = by_test (bytes_eq key k) refl q (each-there ks d all.1 key)
  where
    by_test : (b : Bool) → bytes_eq key k ≡ b → (b || list_any (bytes_eq key) ks) ≡ true → (IsAmong key ks → IsAmong key (keys_in d)) → IsAmong key (keys_in d)
    by_test true e r rest = subst (λ (x : List ℕ). IsAmong x (keys_in d)) (sym ((bytes_eq-Decides key k).0 e)) all.0
    by_test false e r rest = rest r

-- a key that is not among some is apart from each
apart-from : (k : List ℕ) (ks : List (List ℕ)) → list_any (bytes_eq k) ks ≡ false → AllByRecursion (λ l. bytes_eq k l ≡ false) ks
apart-from k [] e = tt
apart-from k (l ∷ ls) e = let parts = or_parts (bytes_eq k l) (list_any (bytes_eq k) ls) e in (parts.0, apart-from k ls parts.1)

one-more : (k : List ℕ) (ks : List (List ℕ)) → list_any (bytes_eq k) ks ≡ false → IsDistinct bytes_eq ks → IsDistinct bytes_eq (k ∷ ks)
unfolding IsDistinct
one-more k ks e h = (apart-from k ks e, h)

no-more : IsDistinct bytes_eq []
unfolding IsDistinct
no-more = tt

-- keys that are distinct, each there, and as many as there are, are all
only-these : (keys : List (List ℕ)) (d : Data) → IsDistinct bytes_eq keys → ((key : List ℕ) → IsAmong key keys → IsAmong key (keys_in d)) → key_count d ≡ length keys → (key : List ℕ) → IsAmong key (keys_in d) → IsAmong key keys
only-these keys d apart each count key q = by_test (list_any (bytes_eq key) keys) refl
  where
    more-there : (k : List ℕ) → IsAmong k (key ∷ keys) → IsAmong k (keys_in d)
    more-there k m = by_first (bytes_eq k key) refl m
      where
        by_first : (b : Bool) → bytes_eq k key ≡ b → (b || list_any (bytes_eq k) keys) ≡ true → IsAmong k (keys_in d)
        by_first true e r = subst (λ (x : List ℕ). IsAmong x (keys_in d)) (sym ((bytes_eq-Decides k key).0 e)) q
        by_first false e r = each k r

    by_test : (b : Bool) → list_any (bytes_eq key) keys ≡ b → b ≡ true
    by_test true e = refl
    by_test false e =
        let low : length (key ∷ keys) ≤ length (keys_in d) = length-le_from_is_member nat_list_eq_equiv (key ∷ keys) (keys_in d) (one-more key keys e apart) more-there in
        absurd (omega (arith, low, keys-counted d, count))

-- keys that are distinct and all are as many
as-many : (keys : List (List ℕ)) (d : Data) → IsKeyed d → IsDistinct bytes_eq keys → ((key : List ℕ) → IsAmong key keys → IsAmong key (keys_in d)) → ((key : List ℕ) → IsAmong key (keys_in d) → IsAmong key keys) → key_count d ≡ length keys
as-many keys d h apart each only = keys-counted d ∙ length-from_same_keys nat_list_eq_equiv (keys_in d) keys (keys-distinct d h) apart (λ k. same_truth (list_any (bytes_eq k) (keys_in d)) (list_any (bytes_eq k) keys) (only k) (each k))
  where
    same_truth : (a b : Bool) → (a ≡ true → b ≡ true) → (b ≡ true → a ≡ true) → a ≡ b
    same_truth true b f g = sym (f refl)
    same_truth false true f g = g refl
    same_truth false false f g = refl

-- more keys
or-left : (a b : Bool) → a ≡ true → (a || b) ≡ true
or-left true b e = refl
or-left false b e = absurd (both_ways false refl e)

or-right : (a b : Bool) → b ≡ true → (a || b) ≡ true
or-right true b e = refl
or-right false b e = e

among-front : (key : List ℕ) (xs ys : List (List ℕ)) → IsAmong key xs → IsAmong key (xs ++ ys)
among-front key xs ys e = list_any-append (bytes_eq key) xs ys ∙ or-left (list_any (bytes_eq key) xs) (list_any (bytes_eq key) ys) e

-- a test of the number of keys and of what is there finds just these keys
counted-tested : (keys : List (List ℕ)) (d : Data) (body : Bool) (n : ℕ) → length keys ≡ n → IsDistinct bytes_eq keys → IsKeyed d → (body ≡ true → AllByRecursion (λ k. IsAmong k (keys_in d)) keys)
    → (((key_count d == n) && body) ≡ true) ↔ (HasKeys keys [] d × (body ≡ true))
counted-tested keys d body n long apart h there = (
  λ q.
      let parts = and_parts (key_count d == n) body q in
      let each = each-there keys d (there parts.1) in
      (record { each = each; only = λ key m. among-front key keys [] (only-these keys d apart each (eqb-true (key_count d) n parts.0 ∙ sym long) key m) }, parts.1),
  λ q.
      let only : (key : List ℕ) → IsAmong key (keys_in d) → IsAmong key keys = λ key m. ap (list_any (bytes_eq key)) (sym (append-nil keys)) ∙ q.0.only key m in
      and_from (key_count d == n) body (eq-eqb (key_count d) n (as-many keys d h apart q.0.each only ∙ long)) q.1,
)

-- the keys of a job, with its profile and without
abbrev profile : List ℕ
profile = codes "profile"

job-apart : IsDistinct bytes_eq job_keys
job-apart = one-more _ _ refl (one-more _ _ refl (one-more _ _ refl (one-more _ _ refl (one-more _ _ refl (one-more _ _ refl no-more)))))

full-apart : IsDistinct bytes_eq (job_keys ++ profile ∷ [])
full-apart = one-more _ _ refl (one-more _ _ refl (one-more _ _ refl (one-more _ _ refl (one-more _ _ refl (one-more _ _ refl (one-more _ _ refl no-more))))))

-- a job with its profile has just seven keys, and one without it just six
full-keys : (d : Data) → is_some (get profile d) ≡ true → HasKeys job_keys (profile ∷ []) d ↔ HasKeys (job_keys ++ profile ∷ []) [] d
full-keys d e = (
  λ has. record {
    each = λ key m. by_front key (list_any (bytes_eq key) job_keys) refl (sym (list_any-append (bytes_eq key) job_keys (profile ∷ [])) ∙ m) (has.each key);
    only = λ key m. among-front key (job_keys ++ profile ∷ []) [] (has.only key m);
  },
  λ has. record {
    each = λ key m. has.each key (among-front key job_keys (profile ∷ []) m);
    only = λ key m. ap (list_any (bytes_eq key)) (sym (append-nil (job_keys ++ profile ∷ []))) ∙ has.only key m;
  },
)
  where
    by_last : (key : List ℕ) (b : Bool) → bytes_eq key profile ≡ b → (b || false) ≡ true → IsAmong key (keys_in d)
    by_last key true q m = subst (λ (x : List ℕ). IsAmong x (keys_in d)) (sym ((bytes_eq-Decides key profile).0 q)) (sym (key-there profile d) ∙ e)
    by_last key false q m = absurd (both_ways false refl m)

    by_front : (key : List ℕ) (b : Bool) → list_any (bytes_eq key) job_keys ≡ b → (b || (bytes_eq key profile || false)) ≡ true → (IsAmong key job_keys → IsAmong key (keys_in d)) → IsAmong key (keys_in d)
    by_front key true q m each = each q
    by_front key false q m each = by_last key (bytes_eq key profile) refl m

plain-keys : (d : Data) → is_some (get profile d) ≡ false → HasKeys job_keys (profile ∷ []) d ↔ HasKeys job_keys [] d
plain-keys d e = (
  λ has. record {
    each = has.each;
    only = λ key m. among-front key job_keys [] (by_front key (list_any (bytes_eq key) job_keys) (sym (list_any-append (bytes_eq key) job_keys (profile ∷ [])) ∙ has.only key m) m);
  },
  λ has. record {
    each = has.each;
    only = λ key m. among-front key job_keys (profile ∷ []) (ap (list_any (bytes_eq key)) (sym (append-nil job_keys)) ∙ has.only key m);
  },
)
  where
    by_last : (key : List ℕ) (b : Bool) → bytes_eq key profile ≡ b → (b || false) ≡ true → IsAmong key (keys_in d) → ⊥
    by_last key true q m there = both_ways (is_some (get profile d)) e (key-there profile d ∙ subst (λ (x : List ℕ). IsAmong x (keys_in d)) ((bytes_eq-Decides key profile).0 q) there)
    by_last key false q m there = both_ways false refl m

    by_front : (key : List ℕ) (b : Bool) → (b || (bytes_eq key profile || false)) ≡ true → IsAmong key (keys_in d) → b ≡ true
    by_front key true m there = refl
    by_front key false m there = absurd (by_last key (bytes_eq key profile) refl m there)

-- what the tests find is there
document-there : (d : Data) → has is_list (codes "jobs") d ≡ true → AllByRecursion (λ k. IsAmong k (keys_in d)) (codes "jobs" ∷ [])
document-there d q = (has-there is_list (codes "jobs") d q, tt)

weight-there : (d : Data) → (has is_whole (codes "priority") d && has is_whole (codes "demand") d) ≡ true → AllByRecursion (λ k. IsAmong k (keys_in d)) (codes "priority" ∷ codes "demand" ∷ [])
weight-there d q =
    let parts = and_parts (has is_whole (codes "priority") d) (has is_whole (codes "demand") d) q in
    (has-there is_whole (codes "priority") d parts.0, (has-there is_whole (codes "demand") d parts.1, tt))

revision-there : (d : Data) → (has is_whole (codes "variables") d && (has (is_list_of is_numbers) (codes "clauses") d && has is_numbers (codes "assumptions") d)) ≡ true → AllByRecursion (λ k. IsAmong k (keys_in d)) (codes "variables" ∷ codes "clauses" ∷ codes "assumptions" ∷ [])
revision-there d q =
    let parts = and_parts (has is_whole (codes "variables") d) (has (is_list_of is_numbers) (codes "clauses") d && has is_numbers (codes "assumptions") d) q in
    let lists = and_parts (has (is_list_of is_numbers) (codes "clauses") d) (has is_numbers (codes "assumptions") d) parts.1 in
    (has-there is_whole (codes "variables") d parts.0, (has-there (is_list_of is_numbers) (codes "clauses") d lists.0, (has-there is_numbers (codes "assumptions") d lists.1, tt)))

abbrev job_body : Data → Bool
job_body d = (has_ask_shape d && has (is_list_of is_step_shape) (codes "steps") d) && (has is_name_text (codes "tenant") d && has is_name_text (codes "name") d)

job-there : (d : Data) → job_body d ≡ true → AllByRecursion (λ k. IsAmong k (keys_in d)) job_keys
job-there d q =
    let parts = and_parts (has_ask_shape d && has (is_list_of is_step_shape) (codes "steps") d) (has is_name_text (codes "tenant") d && has is_name_text (codes "name") d) q in
    let names = and_parts (has is_name_text (codes "tenant") d) (has is_name_text (codes "name") d) parts.1 in
    let frame = and_parts (has_ask_shape d) (has (is_list_of is_step_shape) (codes "steps") d) parts.0 in
    let ask = and_parts (has is_whole (codes "priority") d && has is_whole (codes "demand") d) (has is_whole (codes "slices") d && may_have is_whole profile d) frame.0 in
    let weight = and_parts (has is_whole (codes "priority") d) (has is_whole (codes "demand") d) ask.0 in
    let slices = and_parts (has is_whole (codes "slices") d) (may_have is_whole profile d) ask.1 in
    (has-there is_name_text (codes "tenant") d names.0, (has-there is_name_text (codes "name") d names.1, (has-there is_whole (codes "priority") d weight.0, (has-there is_whole (codes "demand") d weight.1, (has-there is_whole (codes "slices") d slices.0, (has-there (is_list_of is_step_shape) (codes "steps") d frame.1, tt))))))

full-there : (keys : List (List ℕ)) (d : Data) → is_some (get profile d) ≡ true → AllByRecursion (λ k. IsAmong k (keys_in d)) keys → AllByRecursion (λ k. IsAmong k (keys_in d)) (keys ++ profile ∷ [])
full-there [] d e all = (sym (key-there profile d) ∙ e, tt)
full-there (k ∷ ks) d e all = (all.0, full-there ks d e all.1)

-- the test of a job, by whether it has a profile
job-is : (d : Data) (p : Bool) → is_some (get profile d) ≡ p → is_job_shape d ≡ ((key_count d == cond p 7 6) && job_body d)
job-is d p e =
    ap (λ (b : Bool). ((key_count d == cond b 7 6) && (has_ask_shape d && has (is_list_of is_step_shape) (codes "steps") d)) && (has is_name_text (codes "tenant") d && has is_name_text (codes "name") d)) e
    ∙ regroup (key_count d == cond p 7 6) (has_ask_shape d && has (is_list_of is_step_shape) (codes "steps") d) (has is_name_text (codes "tenant") d && has is_name_text (codes "name") d)
  where
    regroup : (a b c : Bool) → ((a && b) && c) ≡ (a && (b && c))
    regroup true b c = refl
    regroup false b c = refl

job-tested : (d : Data) → IsKeyed d → (is_job_shape d ≡ true) ↔ (HasKeys job_keys (profile ∷ []) d × (job_body d ≡ true))
job-tested d h = by_profile (is_some (get profile d)) refl
  where
    by_profile : (p : Bool) → is_some (get profile d) ≡ p → (is_job_shape d ≡ true) ↔ (HasKeys job_keys (profile ∷ []) d × (job_body d ≡ true))
    by_profile true e =
        let tested = counted-tested (job_keys ++ profile ∷ []) d (job_body d) 7 refl full-apart h (λ q. full-there job_keys d e (job-there d q)) in
        (λ q. let r = tested.0 (sym (job-is d true e) ∙ q) in ((full-keys d e).1 r.0, r.1), λ r. job-is d true e ∙ tested.1 ((full-keys d e).0 r.0, r.1))
    by_profile false e =
        let tested = counted-tested job_keys d (job_body d) 6 refl job-apart h (job-there d) in
        (λ q. let r = tested.0 (sym (job-is d false e) ∙ q) in ((plain-keys d e).1 r.0, r.1), λ r. job-is d false e ∙ tested.1 ((plain-keys d e).0 r.0, r.1))

pub keys_are_tested : KeysAreTested
keys_are_tested d h = record {
  document = counted-tested (codes "jobs" ∷ []) d (has is_list (codes "jobs") d) 1 refl (one-more _ _ refl no-more) h (document-there d);
  job = job-tested d h;
  weight = counted-tested (codes "priority" ∷ codes "demand" ∷ []) d (has is_whole (codes "priority") d && has is_whole (codes "demand") d) 2 refl (one-more _ _ refl (one-more _ _ refl no-more)) h (weight-there d);
  revision = counted-tested (codes "variables" ∷ codes "clauses" ∷ codes "assumptions" ∷ []) d (has is_whole (codes "variables") d && (has (is_list_of is_numbers) (codes "clauses") d && has is_numbers (codes "assumptions") d)) 3 refl (one-more _ _ refl (one-more _ _ refl (one-more _ _ refl no-more))) h (revision-there d);
}
