-- Names are clean words, and so are the words of a profile.
use Rattle.std.proofs.Common.{◌≡◌, ℕ, ◌≤◌, Bool, true, false, cond, ◌&&◌, ◌||◌, ◌==◌, List, [], ◌∷◌, length, refl, arith}
use Rattle.std.specs.Prelude.{nat_le, nat_lt}
use Rattle.std.specs.List.{AllByRecursion, list_all}
use Rattle.std.proofs.lemmas.Bool.{leb-true, ltb-true, and_parts}
use Rattle.std.proofs.lemmas.Bool.Decides.{nat_tests}
use Rattle.mal_base.specs.Names.{is_name, is_name_byte}
use Rattle.mal_base.specs.Profiles.{number}
use Rattle.mal_base.specs.declared.profile.Profile.{Profile}
use Rattle.spec_text.specs.Asks.{is_first, profile_words}
use Rattle.spec_text.specs.Lines.{IsClean, AreClean}
use Rattle.spec_text.specs.Numbers.{decimal_word}
use Rattle.spec_text.proofs.Clean.{decimals_are_clean}

name-byte : (b : ℕ) (p q r : Bool) → nat_le 97 b ≡ p → nat_le 48 b ≡ q → (b == 95) ≡ r → ((p && nat_le b 122) || (q && nat_le b 57) || r) ≡ true → 33 ≤ b
name-byte b true q r e f g h = let low : 97 ≤ b = leb-true 97 b e in omega arith
name-byte b false true r e f g h = let low : 48 ≤ b = leb-true 48 b f in omega arith
name-byte b false false true e f g h = grind (arith, nat_tests)
name-byte b false false false e f g h = absurd (cc)

name-bytes : (bytes : List ℕ) → list_all is_name_byte bytes ≡ true → AllByRecursion (λ b. 33 ≤ b) bytes
name-bytes [] h = tt
name-bytes (b ∷ bs) h =
    let both = and_parts (is_name_byte b) (list_all is_name_byte bs) h in
    (name-byte b (nat_le 97 b) (nat_le 48 b) (b == 95) refl refl refl both.0, name-bytes bs both.1)

pub name-clean : (name : List ℕ) → is_name name ≡ true → IsClean name
name-clean name h =
    let both = and_parts (nat_lt 0 (length name) && nat_le (length name) 32) (list_all is_name_byte name) h in
    (ltb-true 0 (length name) (and_parts (nat_lt 0 (length name)) (nat_le (length name) 32) both.0).0, name-bytes name both.1)

pub profile-clean : (profile : Profile) → AreClean (profile_words profile)
profile-clean profile = by_test (is_first profile)
  where
    by_test : (b : Bool) → AreClean (cond b [] (decimal_word (number profile) ∷ []))
    by_test true = tt
    by_test false = (decimals_are_clean (number profile), tt)
