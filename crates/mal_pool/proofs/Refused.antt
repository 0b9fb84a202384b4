-- Posts among which one is refused, one post further.
use Rattle.std.proofs.Common.{◌≡◌, ℕ, ◌+◌, ◌<◌, List, [], ◌∷◌, ◌++◌, length, drop, get_or, flat_map, sym, ◌∙◌, ap, subst, inl, inr}
use Rattle.std.proofs.lemmas.List.{drop_more}
use Rattle.mal_hall.specs.declared.desk.Post.{Post}
use Rattle.mal_hall.specs.Desks.{event_of}
use Rattle.mal_pool.proofs.Leavings.{posted_on-parts}
use Rattle.mal_pool.specs.Refusals.{IsOneRefused}
use Rattle.mal_pool.specs.Runs.{posted_on}
use Rattle.spec_hall.specs.Events.{Event}

-- one of the first of some posts is refused
pub refused-front : (w : ℕ) (h : List Event) (a b : List Post) → IsOneRefused w h a → IsOneRefused w h (a ++ b)
refused-front w h [] b r = absurd r
refused-front w h (p ∷ a) b (inl here) = inl here
refused-front w h (p ∷ a) b (inr later) = inr (refused-front w (h ++ event_of h p ∷ []) a b later)

-- one of the posts after others is
pub refused-behind : (w : ℕ) (h : List Event) (a b : List Post) → IsOneRefused w (posted_on h a) b → IsOneRefused w h (a ++ b)
refused-behind w h [] b r = r
refused-behind w h (p ∷ a) b r = inr (refused-behind w (h ++ event_of h p ∷ []) a b r)

-- the first of the lists of posts that are left is posted
pub more-posted : (h now goal : List Event) (all item rest : List Post) → all ≡ item ++ rest → now ≡ posted_on h item → posted_on h all ≡ goal → posted_on now rest ≡ goal
more-posted h now goal all item rest is step e = ap (λ (x : List Event). posted_on x rest) step ∙ (sym (posted_on-parts h item rest) ∙ (ap (posted_on h) (sym is) ∙ e))

-- or one of it is refused, or of a later one
pub refused-first : (w : ℕ) (h : List Event) (all item rest : List Post) → all ≡ item ++ rest → IsOneRefused w h item → IsOneRefused w h all
refused-first w h all item rest is r = subst (IsOneRefused w h) (sym is) (refused-front w h item rest r)

pub refused-later : (v w : ℕ) (h now : List Event) (all item rest : List Post) → all ≡ item ++ rest → v ≡ w → now ≡ posted_on h item → IsOneRefused v now rest → IsOneRefused w h all
refused-later v w h now all item rest is same step r =
    subst (IsOneRefused w h) (sym is) (refused-behind w h item rest (subst (λ (e : List Event). IsOneRefused w e rest) step (subst (λ (n : ℕ). IsOneRefused n now rest) same r)))

-- the posts of the lists that are left, with the first of them
pub parts-one : {A : Type 0} (f : A → List Post) (xs : List A) (i : ℕ) (d : A) → i < length xs → flat_map f (drop i xs) ≡ f (get_or xs i d) ++ flat_map f (drop (i + 1) xs)
parts-one f xs i d low = ap (flat_map f) (drop_more xs i d low)
