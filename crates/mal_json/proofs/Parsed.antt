-- What a text is, as serde_json tells it.
use Rattle.std.proofs.Common.{◌≡◌, Bool, true, false, cond, List, Some, None, ℕ, refl, ap, ◌∙◌, IsUtf8}
use Rattle.std.specs.Str.{is_utf8}
use Rattle.std.proofs.lemmas.Str.{IsUtf8-from_is_utf8, is_utf8-from_IsUtf8}
use Rattle.serde_json.specs.Data.{Data}
use Rattle.serde_json.specs.Read.{read}
use Rattle.spec_json.specs.Shape.{json_in}

pub json_some : (text : List ℕ) (d : Data) → IsUtf8 text → read text ≡ Some d → json_in text ≡ Some d
unfolding json_in
json_some text d utf8 is = ap (λ (b : Bool). cond b (read text) None) (is_utf8-from_IsUtf8 text utf8) ∙ is

pub json_none : (text : List ℕ) → (IsUtf8 text → read text ≡ None) → json_in text ≡ None
unfolding json_in
json_none text h = by_test (is_utf8 text) refl
  where
    by_test : (b : Bool) → is_utf8 text ≡ b → cond b (read text) None ≡ None
    by_test true e = h (IsUtf8-from_is_utf8 text e)
    by_test false e = refl

pub ruleset parsed = (json_some, json_none)
