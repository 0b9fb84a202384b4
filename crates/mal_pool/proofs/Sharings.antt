-- How a run by many came about.
use Rattle.std.proofs.Common.{◌≡◌, ℕ, suc, ◌<◌, Bool, List, [], ◌∷◌, ◌++◌, map, length, get_or, Option, Result, Ok, Err, IfOk, inl, inr, refl, sym, ◌∙◌, ap, subst, arith}
use Rattle.std.specs.List.{All, cons_option, filter_map}
use Rattle.std.specs.Option.{option_map}
use Rattle.std.proofs.lemmas.List.Elements.{All-cons, All-head, All-nil, All-push, All-tail}
use Rattle.mal_hall.specs.Desks.{DeskCall}
use Rattle.mal_hall.specs.HallView.{HallView}
use Rattle.mal_posts.specs.declared.cursor.Left.{Left}
use Rattle.mal_pool.specs.Gates.{Stops}
use Rattle.mal_pool.specs.Parts.{AreParts, HasPlayed}
use Rattle.mal_pool.specs.Runs.{IsSettled, open_post, taken}
use Rattle.mal_pool.specs.Sharing.{HasClosed, HasCome, IsPlayedIn, IsShared, Play}
use Rattle.mal_pool.specs.Within.{IsWithin}
use Rattle.mal_pool.specs.declared.posting.Hindered.{Hindered}
use Rattle.mal_pool.specs.declared.role.Part.{Part}
use Rattle.mal_pool.specs.declared.role.Played.{Played}
use Rattle.mal_pool.proofs.Withins.{within-back, within-same}
use Rattle.spec_hall.specs.Driven.{IsDriven}
use Rattle.spec_hall.specs.Events.{Event}
use Rattle.spec_run.specs.Complete.{script_events}
use Rattle.spec_script.specs.Script.{Scripted, ScriptedJob}

-- what stands among items that stand among others
pub within-within : {T : Type 0} (xs ys zs : List T) → IsWithin xs ys → IsWithin ys zs → IsWithin xs zs
within-within [] ys zs a b = tt
within-within (x ∷ xs) [] zs a b = absurd a
within-within (x ∷ xs) (y ∷ ys) [] a b = absurd b
within-within (x ∷ xs) (y ∷ ys) (z ∷ zs) (inl a) (inl b) = inl (a.0 ∙ b.0, within-within xs ys zs a.1 b.1)
within-within (x ∷ xs) (y ∷ ys) (z ∷ zs) (inr a) (inl b) = inr (within-within (x ∷ xs) ys zs a b.1)
within-within (x ∷ xs) (y ∷ ys) (z ∷ zs) a (inr b) = inr (within-within (x ∷ xs) (y ∷ ys) zs a b)

-- a part that began with no call has made all that its pass tells
pub played_alone : (stops : Stops) (jobs : List ScriptedJob) (part same : Part) (hindered : Option Hindered) (stopped : Bool) (before after : List DeskCall) → before ≡ [] → same ≡ part → (mine : List DeskCall) × (after ≡ before ++ mine) × HasPlayed stops jobs part hindered stopped mine → HasPlayed stops jobs same hindered stopped after
played_alone stops jobs part same hindered stopped before after none is (mine, grown, played) =
    let all : after ≡ mine = grown ∙ ap (λ (cs : List DeskCall). cs ++ mine) none in
    subst (λ (p : Part). HasPlayed stops jobs p hindered stopped after) (sym is) (subst (λ (cs : List DeskCall). HasPlayed stops jobs part hindered stopped cs) (sym all) played)

-- one pass more is joined
each-within : {X : Type 0} (f : X → List DeskCall) (xs : List X) (before now : List DeskCall) → IsWithin before now → All (λ x. IsWithin (f x) before) xs → All (λ x. IsWithin (f x) now) xs
each-within f [] before now more all = All-nil (λ x. IsWithin (f x) now)
each-within f (x ∷ xs) before now more all =
    All-cons (λ y. IsWithin (f y) now) x xs
    (within-within (f x) before now (All-head (λ y. IsWithin (f y) before) x xs all) more)
    (each-within f xs before now more (All-tail (λ y. IsWithin (f y) before) x xs all))

pub joined-next : {X : Type 0} (f : X → List DeskCall) (done : List X) (one : X) (before now : List DeskCall) → All (λ x. IsWithin (f x) before) done → IsWithin before now → IsWithin (f one) now → All (λ x. IsWithin (f x) now) (done ++ one ∷ [])
joined-next f done one before now all more other = All-push (λ x. IsWithin (f x) now) done one (each-within f done before now more all) other

-- a part that was played, as it is told
abbrev play-of : {P : Type 0} → (P → List DeskCall) → Played P → Play
play-of calls x = record { part = x.part; hindered = x.hindered; stopped = x.stopped; calls = calls x.pass }

parts-same : {P : Type 0} (calls : P → List DeskCall) (xs : List (Played P)) → map (λ (p : Play). p.part) (map (play-of calls) xs) ≡ map (λ (x : Played P). x.part) xs
parts-same calls [] = refl
parts-same calls (x ∷ xs) = ap (λ (ps : List Part). x.part ∷ ps) (parts-same calls xs)

left-same : {P : Type 0} (calls : P → List DeskCall) (xs : List (Played P)) → filter_map (λ (p : Play). option_map (λ (h : Hindered). h.left) p.hindered) (map (play-of calls) xs) ≡ filter_map (λ (x : Played P). option_map (λ (h : Hindered). h.left) x.hindered) xs
left-same calls [] = refl
left-same calls (x ∷ xs) = ap (λ (ls : List Left). cons_option (option_map (λ (h : Hindered). h.left) x.hindered) ls) (left-same calls xs)

all-played : {P : Type 0} (calls : P → List DeskCall) (stops : Stops) (jobs : List ScriptedJob) (all : List DeskCall) (xs : List (Played P)) → All (λ x. HasPlayed stops jobs x.part x.hindered x.stopped (calls x.pass)) xs → All (λ x. IsWithin (calls x.pass) all) xs → All (IsPlayedIn stops jobs all) (map (play-of calls) xs)
all-played calls stops jobs all [] played within = All-nil (IsPlayedIn stops jobs all)
all-played calls stops jobs all (x ∷ xs) played within =
    All-cons (IsPlayedIn stops jobs all) (play-of calls x) (map (play-of calls) xs)
    (record {
      played = All-head (λ y. HasPlayed stops jobs y.part y.hindered y.stopped (calls y.pass)) x xs played;
      within = All-head (λ y. IsWithin (calls y.pass) all) x xs within;
    })
    (all-played calls stops jobs all xs (All-tail (λ y. HasPlayed stops jobs y.part y.hindered y.stopped (calls y.pass)) x xs played) (All-tail (λ y. IsWithin (calls y.pass) all) x xs within))

-- a board at which all parts were played was closed, and its hall brought to its end
pub come-shared : {P : Type 0} (calls : P → List DeskCall) (leaves : P → List Event → Type 0) (stops : Stops) (w : ℕ) (s : Scripted) (xs : List (Played P)) (first pass : P) (before now : List Event) → calls pass ≡ calls first ++ taken (map open_post s.jobs) → AreParts w s.jobs (map (λ x. x.part) xs) → All (λ x. HasPlayed stops s.jobs x.part x.hindered x.stopped (calls x.pass)) xs → IsSettled w s.jobs (filter_map (λ x. option_map (λ h. h.left) x.hindered) xs) before now → HasClosed calls leaves pass (λ x. calls x.pass) xs before → HasCome calls leaves stops w s now
come-shared calls leaves stops w s xs first pass before now opened parts played settled closed = inr (
  closed.last,
  (
    before,
    (
      closed.left,
      record {
        plays = map (play-of calls) xs;
        parts = subst (AreParts w s.jobs) (sym (parts-same calls xs)) parts;
        opened =
            let posts = taken (map open_post s.jobs) in
            within-within posts (calls pass) (calls closed.last) (subst (IsWithin posts) (sym opened) (within-back (calls first) posts posts (within-same posts))) closed.mine;
        played = all-played calls stops s.jobs (calls closed.last) xs played closed.each;
        settled = subst (λ (left : List Left). IsSettled w s.jobs left before now) (sym (left-same calls xs)) settled;
      },
    ),
  ),
)

-- the same of a list of jobs that is the script's
pub come-run : {P : Type 0} (calls : P → List DeskCall) (leaves : P → List Event → Type 0) (stops : Stops) (w v : ℕ) (s : Scripted) (js ks : List ScriptedJob) (xs : List (Played P)) (first pass : P) (before now : List Event) → js ≡ s.jobs → ks ≡ s.jobs → v ≡ w → calls pass ≡ calls first ++ taken (map open_post js) → AreParts w js (map (λ x. x.part) xs) → All (λ x. HasPlayed stops js x.part x.hindered x.stopped (calls x.pass)) xs → IsSettled v ks (filter_map (λ x. option_map (λ h. h.left) x.hindered) xs) before now → HasClosed calls leaves pass (λ x. calls x.pass) xs before → HasCome calls leaves stops w s now
come-run calls leaves stops w v s js ks xs first pass before now one other size opened parts played settled closed =
    come-shared calls leaves stops w s xs first pass before now
    (subst (λ (all : List ScriptedJob). calls pass ≡ calls first ++ taken (map open_post all)) one opened)
    (subst (λ (all : List ScriptedJob). AreParts w all (map (λ x. x.part) xs)) one parts)
    (subst (λ (all : List ScriptedJob). All (λ x. HasPlayed stops all x.part x.hindered x.stopped (calls x.pass)) xs) one played)
    (subst (λ (n : ℕ). IsSettled n s.jobs (filter_map (λ x. option_map (λ h. h.left) x.hindered) xs) before now) size
    (subst (λ (all : List ScriptedJob). IsSettled v all (filter_map (λ x. option_map (λ h. h.left) x.hindered) xs) before now) other settled))
    closed

-- each part comes back from its thread
pub parts-given : {J X : Type 0} (f : J → Part) (h : X → Part) (js : List J) (xs : List X) → length xs ≡ length js → ((i : ℕ) (j : J) (x : X) → i < length js → h (get_or xs i x) ≡ f (get_or js i j)) → map h xs ≡ map f js
parts-given f h [] [] long each = refl
parts-given f h [] (x ∷ xs) long each = absurd (omega (arith, long))
parts-given f h (j ∷ js) [] long each = absurd (omega (arith, long))
parts-given f h (j ∷ js) (x ∷ xs) long each =
    ap (λ (p : Part). p ∷ map h xs) (each 0 j x (omega arith))
    ∙ ap (λ (ps : List Part). f j ∷ ps) (parts-given f h js xs (omega (arith, long)) (λ i k y low. each (suc i) k y (omega (arith, low))))

-- a run by one thread
pub come_alone : {P E : Type 0} (calls : P → List DeskCall) (leaves : P → List Event → Type 0) (stops : Stops) (w : ℕ) (s : Scripted) (r : Result HallView E) → IfOk r (λ h. IsDriven w (script_events s) h.events) → IfOk r (λ h. HasCome calls leaves stops w s h.events)
come_alone calls leaves stops w s (Ok h) driven = inl driven
come_alone calls leaves stops w s (Err e) driven = tt

-- how a run came is told of calls that are known otherwise
pub come_known : {P Q E : Type 0} (f : P → Q) (calls : P → List DeskCall) (leaves : P → List Event → Type 0) (known : Q → List DeskCall) (left : Q → List Event → Type 0) (stops : Stops) (w : ℕ) (s : Scripted) (r : Result HallView E) → ((p : P) → known (f p) ≡ calls p) → ((p : P) (es : List Event) → leaves p es → left (f p) es) → IfOk r (λ h. HasCome calls leaves stops w s h.events) → IfOk r (λ h. HasCome known left stops w s h.events)
come_known f calls leaves known left stops w s (Err e) same hands come = tt
come_known f calls leaves known left stops w s (Ok h) same hands (inl driven) = inl driven
come_known f calls leaves known left stops w s (Ok h) same hands (inr (pass, (before, (was, shared)))) =
    inr (f pass, (before, (hands pass before was, subst (λ (all : List DeskCall). IsShared stops w s.jobs all before h.events) (sym (same pass)) shared)))
