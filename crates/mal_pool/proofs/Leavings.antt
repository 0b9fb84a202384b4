-- Posts after posts, and that they lose no lease.
use Rattle.std.proofs.Common.{◌≡◌, ℕ, ◌+◌, ◌<◌, false, List, [], ◌∷◌, ◌++◌, length, take, get_or, Option, None, refl, sym, ◌∙◌, ap, append-nil}
use Rattle.std.specs.List.{filter_map}
use Rattle.std.proofs.lemmas.List.{take_more}
use Rattle.std.proofs.lemmas.List.Elements.{filter_map-append}
use Rattle.std.proofs.lemmas.List.Sums.{fold-append}
use Rattle.mal_hall.specs.declared.desk.Post.{Post}
use Rattle.mal_hall.specs.declared.desk.Post.TheVariants as posts
use Rattle.mal_hall.specs.Desks.{event_of}
use Rattle.mal_pool.specs.Runs.{posted_on}
use Rattle.spec_hall.specs.Events.{Event}
use Rattle.spec_run.specs.Losses.{is_loss, NoneIsLost}
use Rattle.spec_run.proofs.LossLemmas.{parts-lose-none}

-- posts after posts
pub posted_on-parts : (h : List Event) (a b : List Post) → posted_on h (a ++ b) ≡ posted_on (posted_on h a) b
posted_on-parts h a b = fold-append (λ (now : List Event) (p : Post). now ++ event_of now p ∷ []) h a b

-- posts lose no lease
event-loses : (h : List Event) (p : Post) → is_loss (event_of h p) ≡ false
event-loses h (posts.Open tenant job ask) = refl
event-loses h (posts.Revise tenant job r) = refl
event-loses h (posts.Reask tenant job weight) = refl
event-loses h (posts.Close tenant job) = refl

pub posts-lose-none : (h : List Event) (ps : List Post) → NoneIsLost h → NoneIsLost (posted_on h ps)
posts-lose-none h [] none = none
posts-lose-none h (p ∷ ps) none = posts-lose-none (h ++ event_of h p ∷ []) ps (parts-lose-none h (event_of h p ∷ []) none (rw (event-loses h p) refl))

-- where one more left nothing, no more is left
pub none-left : {X Y : Type 0} (f : X → Option Y) (xs : List X) (i : ℕ) (x : X) (ys : List Y) → i < length xs → x ≡ get_or xs i x → f x ≡ None → ys ≡ filter_map f (take i xs) → ys ≡ filter_map f (take (i + 1) xs)
none-left {X = X} {Y = Y} f xs i x ys low is none e =
    let nothing : filter_map f (x ∷ []) ≡ [] = rw none refl in
    let here : take (i + 1) xs ≡ take i xs ++ x ∷ [] = take_more xs i x low ∙ ap (λ (z : X). take i xs ++ z ∷ []) (sym is) in
    e ∙ sym (ap (filter_map f) here ∙ (filter_map-append f (take i xs) (x ∷ []) ∙ (ap (λ (zs : List Y). filter_map f (take i xs) ++ zs) nothing ∙ append-nil (filter_map f (take i xs)))))
