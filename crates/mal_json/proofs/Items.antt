-- The values of a list, the members of an object.
use Rattle.std.proofs.Common.{◌≡◌, Bool, true, ◌&&◌, ◌||◌, ℤ, List, [], ◌∷◌, map, length, String, Global, Option, Some, refl, sym, ap, ◌∙◌}
use Rattle.std.specs.List.{list_all, list_any}
use Rattle.std.specs.Option.{option_map_or}
use Rattle.serde_json.specs.Data.{Data, Items, Members}
use Rattle.serde_json.specs.Events.{members_len}
use Rattle.serde_json.specs.View.{items_of, items_view, members_view, view}
use Rattle.serde_json.specs.declared.value.Value.{Value}
use Rattle.serde_json.proofs.Views.{members_len-members_view}
use Rattle.spec_json.specs.Shape.{is_list, is_list_of, items_in, list_of, numbers_in, whole_in}

list_again : (ds : List Data) → list_of (items_of ds) ≡ ds
list_again [] = refl
list_again (d ∷ ds) = ap (λ (xs : List Data). d ∷ xs) (list_again ds)

pub values_of : (vs : List Value) (o : Option Items) → Some (items_view vs) ≡ o → map view vs ≡ option_map_or list_of o []
values_of vs o e = sym (list_again (map view vs)) ∙ ap (λ (x : Option Items). option_map_or list_of x []) e

pub keys_of : (es : List (String Global × Value)) (o : Option Members) → Some (members_view es) ≡ o → length es ≡ option_map_or members_len o 0
keys_of es o e = sym (members_len-members_view es) ∙ ap (λ (x : Option Members). option_map_or members_len x 0) e

pub all_of : (test : Data → Bool) (vs : List Value) (ds : List Data) → map view vs ≡ ds → list_all (λ v. test (view v)) vs ≡ list_all test ds
all_of test vs ds e = all_viewed vs ∙ ap (list_all test) e
  where
    all_viewed : (vs : List Value) → list_all (λ v. test (view v)) vs ≡ list_all test (map view vs)
    all_viewed [] = refl
    all_viewed (v ∷ vs) = ap (λ (b : Bool). test (view v) && b) (all_viewed vs)

pub list_passes : (test : Data → Bool) (vs : List Value) (d : Data) (b : Bool) → map view vs ≡ items_in d → is_list d ≡ true → b ≡ list_all (λ v. test (view v)) vs → b ≡ is_list_of test d
list_passes test vs d b e list own = own ∙ all_of test vs (items_in d) e ∙ sym (ap (λ (x : Bool). x && list_all test (items_in d)) list)

-- the numbers of a list, and of each of several lists
pub numbers_any : (test : ℤ → Bool) (vs : List Value) (ds : List Data) → map view vs ≡ ds → list_any (λ v. test (whole_in (view v))) vs ≡ list_any test (map whole_in ds)
numbers_any test vs ds e = any_viewed vs ∙ ap (λ (xs : List Data). list_any test (map whole_in xs)) e
  where
    any_viewed : (vs : List Value) → list_any (λ v. test (whole_in (view v))) vs ≡ list_any test (map whole_in (map view vs))
    any_viewed [] = refl
    any_viewed (v ∷ vs) = ap (λ (b : Bool). test (whole_in (view v)) || b) (any_viewed vs)

pub lists_any : (test : ℤ → Bool) (vs : List Value) (ds : List Data) → map view vs ≡ ds → list_any (λ v. list_any test (numbers_in (view v))) vs ≡ list_any (list_any test) (map numbers_in ds)
lists_any test vs ds e = any_viewed vs ∙ ap (λ (xs : List Data). list_any (list_any test) (map numbers_in xs)) e
  where
    any_viewed : (vs : List Value) → list_any (λ v. list_any test (numbers_in (view v))) vs ≡ list_any (list_any test) (map numbers_in (map view vs))
    any_viewed [] = refl
    any_viewed (v ∷ vs) = ap (λ (b : Bool). list_any test (numbers_in (view v)) || b) (any_viewed vs)
