-- The counts of a teller, when one of them rises.
use Rattle.std.proofs.Common.{◌≡◌, ℕ, ◌+◌, ◌-◌, Bool, true, false, ◌&&◌, cond, List, Option, Some, refl, sym, ◌∙◌, ap}
use Rattle.std.specs.BTreeMap.{BTreeMap}
use Rattle.std.specs.BTreeMap as tree
use Rattle.std.specs.Cmp.Lexicographic.{slice_cmp, texts_ties}
use Rattle.std.specs.Map.{count_at}
use Rattle.std.specs.Option.{unwrap_or}
use Rattle.std.specs.declared.cmp.Ordering.{Ordering}
use Rattle.std.specs.declared.cmp.Ordering.TheVariants.{Less, Equal, Greater}
use Rattle.std.specs.Ordering.{is_eq, nat_cmp, ordering_then}
use Rattle.mal_base.specs.declared.key.Key.{Key}
use Rattle.spec_hall.specs.Own.{is_key, is_text}
use Rattle.spec_hall.proofs.KeyLemmas.{is_key-Decides, is_text-Decides}
use Rattle.mal_live.specs.Telling.{key_cmp}

-- counts by key, read at a key
abbrev pub count_in : BTreeMap Key ℕ → Key → ℕ
count_in counts k = count_at (tree.get key_cmp counts) k

-- of two orders one after the other, both say that it is equal
is_eq-then : (x y : Ordering) → is_eq (ordering_then x y) ≡ (is_eq x && is_eq y)
is_eq-then Less y = refl
is_eq-then Equal y = refl
is_eq-then Greater y = refl

-- it does not matter which of two texts is compared with the other
text-turned : (a b : List ℕ) → is_text a b ≡ is_text b a
text-turned a b = by_tests (is_text a b) (is_text b a) refl refl
  where
    by_tests : (x y : Bool) → is_text a b ≡ x → is_text b a ≡ y → x ≡ y
    by_tests true true e f = refl
    by_tests false false e f = refl
    by_tests true false e f = let g : is_text b a ≡ true = (is_text-Decides b a).1 (sym ((is_text-Decides a b).0 e)) in absurd (cc)
    by_tests false true e f = let g : is_text a b ≡ true = (is_text-Decides a b).1 (sym ((is_text-Decides b a).0 f)) in absurd (cc)

-- the order of texts finds the text that is equal
is_eq-text : (a b : List ℕ) → is_eq (slice_cmp nat_cmp a b) ≡ is_text b a
is_eq-text a b = sym (texts_ties a b) ∙ text-turned a b

-- the order of keys finds the key that is equal
is_eq-key : (a b : Key) → is_eq (key_cmp a b) ≡ is_key b a
is_eq-key a b =
    is_eq-then (slice_cmp nat_cmp a.tenant b.tenant) (slice_cmp nat_cmp a.job b.job)
    ∙ ap (λ (p : Bool). p && is_eq (slice_cmp nat_cmp a.job b.job)) (is_eq-text a.tenant b.tenant)
    ∙ ap (λ (q : Bool). is_text b.tenant a.tenant && q) (is_eq-text a.job b.job)

-- a count that is written as it was and then raised by one
pub told-once : (before mid after : BTreeMap Key ℕ) (key : Key) (count : ℕ) → count ≡ count_in before key + 1 → ((q : Key) → tree.get key_cmp mid q ≡ cond (tree.is_at (key_cmp key) q) (Some (count - 1)) (tree.get key_cmp before q)) → ((q : Key) → tree.get key_cmp after q ≡ cond (tree.is_at (key_cmp key) q) (Some count) (tree.get key_cmp mid q)) → (k : Key) → count_in after k ≡ cond (is_key k key) (count_in before k + 1) (count_in before k)
told-once before mid after key count next first second k =
    ap (λ (o : Option ℕ). unwrap_or o 0) (second k)
    ∙ ap (λ (b : Bool). unwrap_or (cond b (Some count) (tree.get key_cmp mid k)) 0) (is_eq-key key k)
    ∙ by_test (is_key k key) refl
  where
    by_test : (b : Bool) → is_key k key ≡ b → unwrap_or (cond b (Some count) (tree.get key_cmp mid k)) 0 ≡ cond b (count_in before k + 1) (count_in before k)
    by_test true e = next ∙ ap (λ (j : Key). count_in before j + 1) (sym ((is_key-Decides k key).0 e))
    by_test false e =
        ap (λ (o : Option ℕ). unwrap_or o 0) (first k)
        ∙ ap (λ (b : Bool). unwrap_or (cond b (Some (count - 1)) (tree.get key_cmp before k)) 0) (is_eq-key key k ∙ e)
