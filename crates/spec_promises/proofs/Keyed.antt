-- Objects that are read have each key once.
use Rattle.std.proofs.Common.{◌≡◌, ℕ, Bool, true, false, cond, List, Option, Some, None, refl, sym, ap, ◌∙◌, subst}
use Rattle.std.specs.Prelude.{bytes_eq, option_and_then, option_map}
use Rattle.std.specs.List.{AllByRecursion, IsDistinct}
use Rattle.std.specs.Str.{is_utf8}
use Rattle.std.specs.Ordering.{is_eq, match_ordering, nat_cmp, ordering_reverse}
use Rattle.std.specs.Cmp.Lexicographic.{slice_cmp, nat_list_cmp_total}
use Rattle.std.specs.declared.cmp.Ordering.{Ordering}
use Rattle.std.specs.declared.cmp.Ordering.TheVariants.{Less, Equal, Greater}
use Rattle.std.proofs.lemmas.Map.Text.{is_eq-slice_cmp}
use Rattle.json.specs.Json as json
use Rattle.json.specs.Lex.{tokens}
use Rattle.serde_json.specs.Data.{Data, null, boolean, number, string, array, object, Items, no_items, item, Members, no_members, member, put}
use Rattle.serde_json.specs.Read.{of_json, of_items, of_members, number_of, max_depth, read}
use Rattle.spec_json.specs.Shape.{json_in}
use Rattle.spec_promises.specs.Keys.{keys_of, IsKeyed, AreKeyed, HoldKeyed, ReadIsKeyed}

abbrev compared : List ℕ → List ℕ → Ordering
compared k l = slice_cmp nat_cmp k l

-- a key is below all of these, and the keys rise
abbrev IsBelow : List ℕ → Members → Type 0
IsBelow k no_members = Unit {0}
IsBelow k (member l e ms) = (compared k l ≡ Less) × IsBelow k ms

abbrev Rise : Members → Type 0
Rise no_members = Unit {0}
Rise (member k d ms) = IsBelow k ms × Rise ms

below-more : (k l : List ℕ) (ms : Members) → compared k l ≡ Less → IsBelow l ms → IsBelow k ms
below-more k l no_members e h = tt
below-more k l (member m d ms) e h = (nat_list_cmp_total.trans k l m e h.0, below-more k l ms e h.1)

flipped : (k l : List ℕ) → compared k l ≡ Greater → compared l k ≡ Less
flipped k l e = nat_list_cmp_total.antisymm l k ∙ ap ordering_reverse e

put-below : (k l : List ℕ) (d : Data) (ms : Members) → compared l k ≡ Less → IsBelow l ms → IsBelow l (put k d ms)
put-below k l d no_members e h = (e, tt)
put-below k l d (member m x ms) e h = by_order (compared k m) (put-below k l d ms e h.1)
  where
    by_order : (o : Ordering) → IsBelow l (put k d ms) → IsBelow l (match_ordering o (member k d (member m x ms)) (member m d ms) (member m x (put k d ms)))
    by_order Less rest = (e, h)
    by_order Equal rest = h
    by_order Greater rest = (h.0, rest)

put-rises : (k : List ℕ) (d : Data) (ms : Members) → Rise ms → Rise (put k d ms)
put-rises k d no_members h = (tt, tt)
put-rises k d (member m x ms) h = by_order (compared k m) refl (put-rises k d ms h.1)
  where
    by_order : (o : Ordering) → compared k m ≡ o → Rise (put k d ms) → Rise (match_ordering o (member k d (member m x ms)) (member m d ms) (member m x (put k d ms)))
    by_order Less e rest = ((e, below-more k m ms e h.0), h)
    by_order Equal e rest = h
    by_order Greater e rest = (put-below k m d ms (flipped k m e) h.0, rest)

put-holds : (k : List ℕ) (d : Data) (ms : Members) → IsKeyed d → HoldKeyed ms → HoldKeyed (put k d ms)
put-holds k d no_members is h = (is, tt)
put-holds k d (member m x ms) is h = by_order (compared k m) (put-holds k d ms is h.1)
  where
    by_order : (o : Ordering) → HoldKeyed (put k d ms) → HoldKeyed (match_ordering o (member k d (member m x ms)) (member m d ms) (member m x (put k d ms)))
    by_order Less rest = (is, h)
    by_order Equal rest = (is, h.1)
    by_order Greater rest = (h.0, rest)

-- keys that rise are distinct
below-apart : (k : List ℕ) (ms : Members) → IsBelow k ms → AllByRecursion (λ l. bytes_eq k l ≡ false) (keys_of ms)
below-apart k no_members h = tt
below-apart k (member l d ms) h = (sym (is_eq-slice_cmp k l) ∙ ap is_eq h.0, below-apart k ms h.1)

rise-distinct : (ms : Members) → Rise ms → IsDistinct bytes_eq (keys_of ms)
unfolding IsDistinct
rise-distinct no_members h = tt
rise-distinct (member k d ms) h = (below-apart k ms h.0, rise-distinct ms h.1)

-- what an optional value makes
record IsMade {A B : Type 0} (o : Option A) (f : A → B) (y : B) : Type 0 where
  from : A
  there : o ≡ Some from
  is : f from ≡ y

made : {A B : Type 0} (o : Option A) (f : A → B) (y : B) → option_map f o ≡ Some y → IsMade o f y
made None f y e = absurd (cc)
made (Some x) f y e = record { from = x; there = refl; is = some-same (f x) y e }
  where
    some-same : {B : Type 0} (a b : B) → ◌≡◌ {A = Option B} (Some a) (Some b) → a ≡ b
    some-same a b q = cc

record IsPassed {A B : Type 0} (o : Option A) (f : A → Option B) (y : B) : Type 0 where
  from : A
  there : o ≡ Some from
  is : f from ≡ Some y

passed : {A B : Type 0} (o : Option A) (f : A → Option B) (y : B) → option_and_then f o ≡ Some y → IsPassed o f y
passed None f y e = absurd (cc)
passed (Some x) f y e = record { from = x; there = refl; is = e }

-- what is read of JSON is keyed
mutual
  json-keyed : (j : json.Json) (d : Data) → of_json j ≡ Some d → IsKeyed d
  json-keyed json.null d e = let is : null ≡ d = cc in subst IsKeyed is tt
  json-keyed (json.boolean b) d e = let is : boolean b ≡ d = cc in subst IsKeyed is tt
  json-keyed (json.number s) d e = let is = made (number_of s) number d e in subst IsKeyed is.is tt
  json-keyed (json.string s) d e = let is : string s ≡ d = cc in subst IsKeyed is tt
  json-keyed (json.array js) d e = let is = made (of_items js) array d e in subst IsKeyed is.is (items-keyed js is.from is.there)
  json-keyed (json.object ms) d e =
      let is = made (of_members ms no_members) object d e in
      let all = members-keyed ms no_members is.from is.there tt tt in
      subst IsKeyed is.is (rise-distinct is.from all.0, all.1)

  items-keyed : (js : json.Items) (ds : Items) → of_items js ≡ Some ds → AreKeyed ds
  items-keyed json.no_items ds e = let is : no_items ≡ ds = cc in subst AreKeyed is tt
  items-keyed (json.item j js) ds e =
      let first = passed (of_json j) (λ d. option_map (item d) (of_items js)) ds e in
      let rest = made (of_items js) (item first.from) ds first.is in
      subst AreKeyed rest.is (json-keyed j first.from first.there, items-keyed js rest.from rest.there)

  members-keyed : (ms : json.Members) (found all : Members) → of_members ms found ≡ Some all → Rise found → HoldKeyed found → Rise all × HoldKeyed all
  members-keyed json.no_members found all e h g = let is : found ≡ all = cc in (subst Rise is h, subst HoldKeyed is g)
  members-keyed (json.member k j ms) found all e h g =
      let first = passed (of_json j) (λ d. of_members ms (put k d found)) all e in
      members-keyed ms (put k first.from found) all first.is (put-rises k first.from found h) (put-holds k first.from found (json-keyed j first.from first.there) g)

pub read_is_keyed : ReadIsKeyed
unfolding json_in
read_is_keyed text d e = by_test (is_utf8 text) e
  where
    by_read : read text ≡ Some d → IsKeyed d
    by_read q = let is = passed (option_and_then (λ p. json.if_last p.0 p.1) (json.value max_depth (tokens text))) of_json d q in json-keyed is.from d is.is

    by_test : (b : Bool) → cond b (read text) None ≡ Some d → IsKeyed d
    by_test true q = by_read q
    by_test false q = absurd (cc)
