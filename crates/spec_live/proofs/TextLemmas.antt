-- The text of a live history in two parts, and fronts.
use Rattle.std.proofs.Common.{◌≡◌, ℕ, List, [], ◌∷◌, ◌++◌, refl, sym, ◌∙◌, ap, append-nil, append_assoc}
use Rattle.std.proofs.lemmas.List.Concat.{flat_map-append}
use Rattle.mal_history.specs.Text.{event_words}
use Rattle.spec_text.specs.Lines.{line_of}
use Rattle.spec_hall.specs.Events.{Event, bare}
use Rattle.spec_live.specs.Live.{IsFront, Told, event_lines, first_line, live_text, posts_in, told_text}
use Rattle.spec_live.proofs.Order.{told_text-append}
use Rattle.spec_live.proofs.TurnLemmas.{posts-append}

-- the lines of events in two parts
pub event_lines-append : (a b : List Event) → event_lines (a ++ b) ≡ event_lines a ++ event_lines b
unfolding event_lines
event_lines-append a b = flat_map-append (λ (e : Event). line_of (event_words (bare e))) a b

-- that of one event
pub event_lines-one : (e : Event) → event_lines (e ∷ []) ≡ line_of (event_words (bare e))
unfolding event_lines
event_lines-one e = append-nil (line_of (event_words (bare e)))

-- the text of a history that goes on
pub live_text-append : (workers : ℕ) (a b : List Event) → live_text workers (a ++ b) ≡ live_text workers a ++ event_lines b
live_text-append workers a b =
    ap (λ (text : List ℕ). first_line workers ++ text) (event_lines-append a b)
    ∙ sym (append_assoc (first_line workers) (event_lines a) (event_lines b))

-- a list is a front of itself, and the empty one of each
pub front-same : {A : Type 0} (xs : List A) → IsFront xs xs
front-same xs = ([], sym (append-nil xs))

pub front-none : {A : Type 0} (xs : List A) → IsFront [] xs
front-none xs = (xs, refl)

-- a front of a front is one
pub front-more : {A : Type 0} (a b c : List A) → IsFront a b → IsFront b c → IsFront a c
front-more {A = A} a b c f g = (f.0 ++ g.0, g.1 ∙ (ap (λ (xs : List A). xs ++ g.0) f.1 ∙ append_assoc a f.0 g.0))

-- of a history with a front, the text and the posts have those of the front as theirs
pub text-front : (workers : ℕ) (past history : List Event) → IsFront past history → IsFront (live_text workers past) (live_text workers history)
text-front workers past history f = (event_lines f.0, ap (live_text workers) f.1 ∙ live_text-append workers past f.0)

pub posts-front : (past history : List Event) → IsFront past history → IsFront (posts_in past) (posts_in history)
posts-front past history f = (posts_in f.0, ap posts_in f.1 ∙ posts-append past f.0)

-- and so of what was told
pub told-front : (history : List Event) (a b : List Told) → IsFront a b → IsFront (told_text history a) (told_text history b)
told-front history a b f = (told_text history f.0, ap (told_text history) f.1 ∙ told_text-append history a f.0)
