-- What a poster has posted, one post further.
use Rattle.std.proofs.Common.{◌≡◌, ℕ, ◌+◌, ◌<◌, ◌≤◌, List, [], ◌∷◌, ◌++◌, length, map, take, get_or, Some, Ok, refl, sym, ◌∙◌, ap, subst, append-nil, append_assoc}
use Rattle.std.proofs.lemmas.List.{map-append, take_all}
use Rattle.std.proofs.lemmas.List.Concat.{flat_map-append}
use Rattle.mal_hall.specs.declared.desk.Post.{Post}
use Rattle.mal_hall.specs.Desks as desks
use Rattle.mal_hall.specs.Desks.{DeskCall}
use Rattle.mal_pool.specs.Runs.{HasPosted, IsHindered, open_post, posts_at, posts_in, behind_openings, taken}
use Rattle.mal_pool.specs.declared.posting.Hindrance.{Hindrance}
use Rattle.mal_pool.specs.declared.posting.Hindrance.TheVariants as hindrances
use Rattle.mal_posts.specs.Course.{Course}
use Rattle.mal_posts.specs.Dues.{due, left_in}
use Rattle.mal_posts.specs.declared.cursor.Left.{Left}
use Rattle.spec_hall.specs.Events.{Event}
use Rattle.spec_run.proofs.PostingLemmas.{take-one}
use Rattle.spec_script.specs.Script.{ScriptedJob}

taken-parts : (a b : List Post) → taken (a ++ b) ≡ taken a ++ taken b
taken-parts a b = map-append (λ (p : Post). desks.Posted p (Ok tt)) a b

-- calls after calls
further : (old before after x y : List DeskCall) → before ≡ old ++ x → after ≡ before ++ y → after ≡ old ++ (x ++ y)
further old before after x y b a = a ∙ (ap (λ (cs : List DeskCall). cs ++ y) b ∙ append_assoc old x y)

-- one more job is opened
pub opened-more : (js : List ScriptedJob) (i : ℕ) (j : ScriptedJob) (old before after : List DeskCall) → before ≡ old ++ taken (map open_post (take i js)) → after ≡ before ++ desks.Posted (open_post j) (Ok tt) ∷ [] → i < length js → j ≡ get_or js i j → after ≡ old ++ taken (map open_post (take (i + 1) js))
opened-more js i j old before after b a low is =
    further old before after (taken (map open_post (take i js))) (taken (open_post j ∷ [])) b a
    ∙ ap (λ (cs : List DeskCall). old ++ cs) (sym (taken-parts (map open_post (take i js)) (open_post j ∷ []))
    ∙ ap taken (sym (map-append open_post (take i js) (j ∷ [])) ∙ ap (map open_post) (sym (take-one js i j low is))))

pub opened-all : (js : List ScriptedJob) (i : ℕ) (old now : List DeskCall) → now ≡ old ++ taken (map open_post (take i js)) → length js ≤ i → now ≡ old ++ taken (map open_post js)
opened-all js i old now e all = e ∙ ap (λ (xs : List ScriptedJob). old ++ taken (map open_post xs)) (take_all i js all)

-- so far the poster of a tenant has posted all that is due no more
abbrev pub HasSoFar : List ℕ → List ScriptedJob → List Event → List DeskCall → List DeskCall → Type 0
HasSoFar tenant jobs left old now = (done : List Event) × (behind_openings tenant jobs ≡ done ++ left) × (now ≡ old ++ taken (posts_in done))

pub posted-more : (tenant : List ℕ) (jobs : List ScriptedJob) (e : Event) (from to : List Event) (old before after : List DeskCall) → HasSoFar tenant jobs from old before → from ≡ e ∷ to → after ≡ before ++ taken (posts_at e) → HasSoFar tenant jobs to old after
posted-more tenant jobs e from to old before after (done, all, b) next a = (
  done ++ e ∷ [],
  all ∙ (ap (λ (es : List Event). done ++ es) next ∙ sym (append_assoc done (e ∷ []) to)),
  further old before after (taken (posts_in done)) (taken (posts_at e)) b a
      ∙ ap (λ (cs : List DeskCall). old ++ cs) (sym (taken-parts (posts_in done) (posts_at e))
      ∙ ap taken (ap (λ (ps : List Post). posts_in done ++ ps) (sym (append-nil (posts_at e))) ∙ sym (flat_map-append posts_at done (e ∷ [])))),
)

-- after the openings all that is due are the others
pub due-others : (c : Course) → c.openings ≡ [] → due c ≡ c.others
due-others c none = ap (λ (es : List Event). es ++ c.others) none

-- a poster that is hindered before what is due
pub was-hindered : (tenant : List ℕ) (jobs : List ScriptedJob) (left : Left) (by : Hindrance) (e : Event) (from to : List Event) (old before after : List DeskCall) → HasSoFar tenant jobs from old before → from ≡ left_in jobs left → from ≡ e ∷ to → (last : List DeskCall) × IsHindered by (posts_at e) last × (after ≡ before ++ last) → (mine : List DeskCall) × (after ≡ old ++ mine) × HasPosted tenant jobs (Some (record { left = left; by = by })) mine
was-hindered tenant jobs left by e from to old before after (done, all, b) place next (last, hindered, a) = (
  taken (posts_in done) ++ last,
  further old before after (taken (posts_in done)) last b a,
  (
    done,
    last,
    all ∙ ap (λ (es : List Event). done ++ es) place,
    subst (λ (es : List Event). IsHindered by (posts_in es) last) (sym next ∙ place) (in-front by hindered),
    refl,
  ),
)
  where
    in-front : (h : Hindrance) → IsHindered h (posts_at e) last → IsHindered h (posts_in (e ∷ to)) last
    in-front (hindrances.Refused fault) (p, later, are, made) = (p, later ++ posts_in to, ap (λ (ps : List Post). ps ++ posts_in to) are, made)
    in-front (hindrances.OutOfMemory error) none = none
