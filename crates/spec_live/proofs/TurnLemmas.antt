-- Turns post nothing, move nothing, lose no lease and leave a legal history legal.
use Rattle.std.proofs.Common.{◌≡◌, ℕ, false, List, [], ◌∷◌, ◌++◌, append-nil, append_assoc, flat_map, refl, sym, ◌∙◌, ap, subst}
use Rattle.std.specs.List.{list_any}
use Rattle.std.specs.Prelude.{Bool, true, ◌||◌}
use Rattle.std.proofs.lemmas.List.Concat.{flat_map-append, flat_map-cons}
use Rattle.std.proofs.lemmas.List.Folds.{list_any-append}
use Rattle.spec_feed.specs.declared.post.FeedPost.{FeedPost}
use Rattle.spec_hall.specs.Driven.{Turn, Balances, Exchanges, Slices, AreTurns, events_in}
use Rattle.spec_hall.specs.Events.{Event, moves}
use Rattle.spec_hall.specs.Legal.{Legal, LegalFrom}
use Rattle.spec_hall.proofs.PushLemmas.{Legal-push}
use Rattle.spec_run.proofs.LossLemmas.{grown-loses-none}
use Rattle.spec_run.proofs.StayLemmas.{turns-stay}
use Rattle.spec_live.specs.Live.{posted_by, posts_in}
use Rattle.spec_live.specs.Laws.{TurnsAreLegal, TurnsPostNothing}

-- what is posted in two parts
pub posts-append : (a b : List Event) → posts_in (a ++ b) ≡ posts_in a ++ posts_in b
unfolding posts_in
posts-append a b = flat_map-append posted_by a b

-- a part in which nothing is posted adds no post
pub posts-same : (a b : List Event) → posts_in b ≡ [] → posts_in (a ++ b) ≡ posts_in a
posts-same a b none = posts-append a b ∙ (ap (λ (ps : List FeedPost). posts_in a ++ ps) none ∙ append-nil (posts_in a))

-- a part in which no job moves
pub moves-same : (a b : List Event) → list_any moves b ≡ false → list_any moves (a ++ b) ≡ list_any moves a
moves-same a b still = list_any-append moves a b ∙ (ap (λ (x : Bool). list_any moves a || x) still ∙ or-false (list_any moves a))
  where
    or-false : (x : Bool) → (x || false) ≡ x
    or-false true = refl
    or-false false = refl

turns-posts : (ts : List Turn) → posts_in (flat_map events_in ts) ≡ []
unfolding posts_in
turns-posts [] = refl
turns-posts (Balances shares ∷ ts) = turns-posts ts
turns-posts (Exchanges k ∷ ts) = turns-posts ts
turns-posts (Slices k index outcome ∷ ts) = turns-posts ts

pub turns-post_nothing : TurnsPostNothing
turns-post_nothing workers past history grows = record {
  posts = ap posts_in grows.grown ∙ posts-same past (flat_map events_in grows.turns) (turns-posts grows.turns);
  moved = ap (list_any moves) grows.grown ∙ moves-same past (flat_map events_in grows.turns) (turns-stay grows.turns);
  none_lost = grown-loses-none workers past history grows;
  front = (flat_map events_in grows.turns, grows.grown);
}

-- events that are allowed one after the other leave a legal history legal
pub legal-more : (w : ℕ) (past es : List Event) → Legal w past → LegalFrom w past es → Legal w (past ++ es)
legal-more w past [] legal may = subst (Legal w) (sym (append-nil past)) legal
legal-more w past (e ∷ es) legal may = subst (Legal w) (append_assoc past (e ∷ []) es) (legal-more w (past ++ e ∷ []) es (Legal-push w past e legal may.0) may.1)

turns-legal : (w : ℕ) (past : List Event) (ts : List Turn) → Legal w past → AreTurns w past ts → Legal w (past ++ flat_map events_in ts)
turns-legal w past [] legal are = subst (Legal w) (sym (append-nil past)) legal
turns-legal w past (t ∷ ts) legal are =
    subst (Legal w) (append_assoc past (events_in t) (flat_map events_in ts) ∙ ap (λ (es : List Event). past ++ es) (sym (flat_map-cons events_in t ts)))
    (turns-legal w (past ++ events_in t) ts (legal-more w past (events_in t) legal are.2) are.3)

pub turns-are_legal : TurnsAreLegal
turns-are_legal workers past history grows legal = subst (Legal workers) (sym grows.grown) (turns-legal workers past grows.turns legal grows.allowed)
