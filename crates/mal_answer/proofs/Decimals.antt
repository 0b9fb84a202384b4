-- A word that is a number in decimal digits is parsed as this number.
use Rattle.std.proofs.Common.{◌≡◌, ℕ, ◌<◌, ◌^◌, Bool, true, false, true≢false, le-leb, leb-true, List, decimal, Ok, Err, Result, inl, inr, refl, sym, ◌∙◌, ap, subst, arith}
use Rattle.std.specs.Prelude.{◌&&◌, bytes_eq, cond, nat_le, Option, Some, None}
use Rattle.std.specs.Str.Parse.{ParsesUnsigned, digits_value}
use Rattle.std.proofs.lemmas.Fmt.{decimal_injective, decimal_is_IsNumeral, parse-decimal}
use Rattle.std.proofs.lemmas.Slice.Eq.{bytes_eq-Decides}
use Rattle.mal_answer.specs.Forms.{number_by, number_if, number_in}
use Rattle.mal_answer.specs.Found.{IsDecimalOf, IsWithin}
use Rattle.mal_answer.specs.Requests.{IsNumber}

pub refused-decimal : {E : Type 0} (r : Result ℕ E) (e : E) (word : List ℕ) (n : ℕ) → n < 2 ^ 32 → word ≡ decimal n → ParsesUnsigned 32 10 word r → r ≡ Err e → ⊥
refused-decimal {E} r e word n small same parses is = differ (sym (parse-decimal 32 n word r small (omega arith) same parses) ∙ is)
  where
    differ : ◌≡◌ {A = Result ℕ E} (Ok n) (Err e) → ⊥
    differ h = cc

pub parsed-decimal : {E : Type 0} (r : Result ℕ E) (m : ℕ) (word : List ℕ) (n : ℕ) → n < 2 ^ 32 → word ≡ decimal n → ParsesUnsigned 32 10 word r → r ≡ Ok m → word ≡ decimal m
parsed-decimal {E} r m word n small same parses is = same ∙ ap decimal (one (sym (parse-decimal 32 n word r small (omega arith) same parses) ∙ is))
  where
    one : ◌≡◌ {A = Result ℕ E} (Ok n) (Ok m) → n ≡ m
    one h = cc

-- a word is a number of a range exactly where it is the number's digits
both-true : (a b c : Bool) → a ≡ true → b ≡ true → c ≡ true → (a && (b && c)) ≡ true
both-true true true true p q r = refl
both-true true true false p q r = r
both-true true false c p q r = q
both-true false b c p q r = p

all-true : (a b c : Bool) → (a && (b && c)) ≡ true → (a ≡ true) × (b ≡ true) × (c ≡ true)
all-true true true true h = (refl, refl, refl)
all-true true true false h = absurd (true≢false (sym h))
all-true true false c h = absurd (true≢false (sym h))
all-true false b c h = absurd (true≢false (sym h))

pub number-is : (least most n : ℕ) (word : List ℕ) → most < 2 ^ 32 → IsNumber least most n (Some word) → number_by least most word ≡ Some n
number-is least most n word bound h =
    let high = h.1 in
    let value : digits_value 10 word ≡ n = ap (digits_value 10) h.2 ∙ (decimal_is_IsNumeral n (omega arith)).1 in
    ap (λ (d : ℕ). number_if least most word d) value
    ∙ ap (λ (b : Bool). cond b (Some n) None) (both-true (bytes_eq word (decimal n)) (nat_le least n) (nat_le n most) ((bytes_eq-Decides word (decimal n)).1 h.2) (le-leb least n h.0) (le-leb n most h.1))

number-of-if : (least most d n : ℕ) (word : List ℕ) (b : Bool) → (bytes_eq word (decimal d) && (nat_le least d && nat_le d most)) ≡ b → cond b (Some d) None ≡ Some n → IsNumber least most n (Some word)
number-of-if least most d n word true is e =
    let same : d ≡ n = inner e in
    let all = all-true (bytes_eq word (decimal d)) (nat_le least d) (nat_le d most) is in
    subst (λ (m : ℕ). IsNumber least most m (Some word)) same (leb-true least d all.1, leb-true d most all.2, (bytes_eq-Decides word (decimal d)).0 all.0)
  where
    inner : ◌≡◌ {A = Option ℕ} (Some d) (Some n) → d ≡ n
    inner h = cc
number-of-if least most d n word false is e = absurd (differ e)
  where
    differ : ◌≡◌ {A = Option ℕ} None (Some n) → ⊥
    differ h = cc

pub is-number : (least most n : ℕ) (word : List ℕ) → number_by least most word ≡ Some n → IsNumber least most n (Some word)
is-number least most n word e = number-of-if least most (digits_value 10 word) n word _ refl e

-- the same of the value of an option
pub value-is : (least most n : ℕ) (word : Option (List ℕ)) → most < 2 ^ 32 → IsNumber least most n word → number_in least most word ≡ Some n
value-is least most n None bound h = absurd h
value-is least most n (Some word) bound h = number-is least most n word bound h

pub is-value : (least most n : ℕ) (word : Option (List ℕ)) → number_in least most word ≡ Some n → IsNumber least most n word
is-value least most n None e = cc
is-value least most n (Some word) e = is-number least most n word e

-- a word that is a number out of a range is none in it, and one that is none below 2^32 is none in a range below that
none-by : (o : Option ℕ) → ((n : ℕ) → o ≡ Some n → ⊥) → None ≡ o
none-by None never = refl
none-by (Some n) never = absurd (never n refl)

outside-number : (word : List ℕ) (m least most : ℕ) → m < 2 ^ 32 → most < 2 ^ 32 → word ≡ decimal m → IsWithin least most m None → None ≡ number_by least most word
outside-number word m least most low bound is out = none-by (number_by least most word) (λ n e.
    let h = is-number least most n word e in
    let same : m ≡ n = decimal_injective m n (omega arith) (let high = h.1 in omega arith) (sym is ∙ h.2) in
    let low = h.0 in
    let high = h.1 in
    elim out [ inl less ↦ omega arith | inr more ↦ omega arith ])

inside-number : (word : List ℕ) (m n least most : ℕ) → most < 2 ^ 32 → word ≡ decimal m → IsWithin least most m (Some n) → Some n ≡ number_by least most word
inside-number word m n least most bound is h = sym (number-is least most n word bound (rw h.2 h.0, rw h.2 h.1, rw h.2 is))

pub no-number : (word : List ℕ) (least most : ℕ) → most < 2 ^ 32 → IsDecimalOf None word → None ≡ number_by least most word
no-number word least most bound none = none-by (number_by least most word) (λ n e.
    let h = is-number least most n word e in
    let high = h.1 in
    none n (omega arith) h.2)

pub number-of : (word : List ℕ) (m least most : ℕ) (o : Option ℕ) → m < 2 ^ 32 → most < 2 ^ 32 → word ≡ decimal m → IsWithin least most m o → o ≡ number_by least most word
number-of word m least most None low bound is h = outside-number word m least most low bound is h
number-of word m least most (Some n) low bound is h = inside-number word m n least most bound is h

pub ruleset number_lemmas = (number-of, no-number)
