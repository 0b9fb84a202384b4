use Rattle.std.proofs.Common.{◌≡◌, ℕ, zero, suc, ◌-◌, Bool, true, false, cond, if◌then◌else◌, List, [], ◌∷◌, ◌++◌, length, map, slice_get, Option, Some, None, refl, sym, ◌∙◌, ap, subst, arith, append-nil}
use Rattle.std.specs.Prelude.{All}
use Rattle.std.specs.List.{list_any}
use Rattle.std.specs.Option.{option_map_or}
use Rattle.std.proofs.lemmas.Bool.{both_ways, or_parts}
use Rattle.std.proofs.lemmas.List.Folds.{list_any-append}
use Rattle.std.proofs.lemmas.List.Elements.{All-nil, All-head, All-tail, All-weaker, All-push}
use Rattle.std.proofs.lemmas.Option.{get_or_from_slice_get}
use Rattle.mal_revision.specs.Posted.{Posted}
use Rattle.spec_job.specs.SoloMachine.{Own, Opened, Revised, Reasked, Closed, Volume, Started, Finished, Exchanged, SoloMachine, solo, solo_step}
use Rattle.spec_job.specs.KeyedJob.{Key, KeyedJob}
use Rattle.spec_job.proofs.StepLemmas.{start-keeps, finish-keeps}
use Rattle.spec_hall.specs.Events.{Event, Open, Revise, Reask, Close, Balance, Start, Finish, Exchange, Leave, Arrive, bare, moves}
use Rattle.spec_hall.specs.Own.{own, own_step, adds, is_key, leaves}
use Rattle.spec_hall.specs.States.{keys_of, states, titled}
use Rattle.spec_hall.specs.Legal.{Allowed, MayRevise}
use Rattle.spec_hall.specs.Dressed.{LegalIsDressed, dressed, revisions_of, no_revision}
use Rattle.spec_hall.specs.Seats.{Seat, IsSeated, jobs_in}
use Rattle.spec_hall.proofs.KeyLemmas.{is_key-same}
use Rattle.spec_hall.proofs.PushLemmas.{own-push, solo-push, own_step-keeps, keys-push}
use Rattle.spec_hall.proofs.VolumeLemmas.{revise-keeps}
use Rattle.spec_hall.proofs.StatesLemmas.{IsFound, keys-stay, job_of-found, job_of-states, legal_from-keeps}

-- a list of revisions with more after them
record Grows (xs ys : List Posted) : Type 0 where
  more : List Posted
  is : ys ≡ xs ++ more

grows-same : (xs ys : List Posted) → ys ≡ xs → Grows xs ys
grows-same xs ys e = record { more = []; is = e ∙ sym (append-nil xs) }

-- an own event leaves the revisions or adds one
step-grows : (s : SoloMachine) (o : Own) → Grows s.revisions (solo_step s o).revisions
step-grows s (Opened ask) = grows-same s.revisions s.revisions refl
step-grows s (Revised r) = record { more = r ∷ []; is = (revise-keeps s r).revisions }
step-grows s (Reasked w) = grows-same s.revisions s.revisions refl
step-grows s Closed = grows-same s.revisions s.revisions refl
step-grows s (Volume v) = grows-same s.revisions s.revisions refl
step-grows s (Started i) = grows-same s.revisions (solo_step s (Started i)).revisions (start-keeps s i).revisions
step-grows s (Finished i o) = grows-same s.revisions (solo_step s (Finished i o)).revisions (finish-keeps s i o).revisions
step-grows s Exchanged = grows-same s.revisions s.revisions refl

push-grows : (es : List Own) (o : Own) → Grows (solo es).revisions (solo (es ++ o ∷ [])).revisions
push-grows es o = subst (λ (s : SoloMachine). Grows (solo es).revisions s.revisions) (sym (solo-push es o)) (step-grows (solo es) o)

-- an event that moves no job is no arrival and no leave
no-arrival : (j : Key) (e : Event) (brought : List Own) → moves e ≡ false → e ≡ Arrive j brought → ⊥
no-arrival j e brought still is = both_ways (moves e) still (ap moves is)

no-leave : (k : Key) (e : Event) → moves e ≡ false → leaves k e ≡ false
no-leave k (Open j ask) still = refl
no-leave k (Revise j number r) still = refl
no-leave k (Reask j w) still = refl
no-leave k (Close j) still = refl
no-leave k (Balance shares) still = refl
no-leave k (Start j index worker) still = refl
no-leave k (Finish j index worker outcome) still = refl
no-leave k (Exchange j) still = refl
no-leave k (Leave j) still = absurd (cc)
no-leave k (Arrive j brought) still = refl

event-grows : (j : Key) (es : List Own) (e : Event) → moves e ≡ false → Grows (solo es).revisions (solo (own_step j es e)).revisions
event-grows j es e still = own_step-keeps (λ os. Grows (solo es).revisions (solo os).revisions) j es e (grows-same (solo es).revisions (solo es).revisions refl) (push-grows es) (λ brought is. absurd (no-arrival j e brought still is))

-- the revisions under a key are those of its machine, where it was opened
revisions-states : (past : List Event) (k : Key) → revisions_of k (states past) ≡ (if list_any (is_key k) (keys_of past) then (solo (own k past)).revisions else [])
revisions-states past k = ap (λ (o : Option KeyedJob). option_map_or (λ (t : KeyedJob). t.state.revisions) o []) (job_of-states past k) ∙ by_test (list_any (is_key k) (keys_of past))
  where
    by_test : (b : Bool) → option_map_or (λ (t : KeyedJob). t.state.revisions) (cond b (Some (titled past k)) None) [] ≡ cond b (solo (own k past)).revisions []
    by_test true = refl
    by_test false = refl

grows-opened : (b c : Bool) (xs ys : List Posted) → (b ≡ true → c ≡ true) → Grows xs ys → Grows (cond b xs []) (cond c ys [])
grows-opened false c xs ys stay g = record { more = cond c ys []; is = refl }
grows-opened true true xs ys stay g = g
grows-opened true false xs ys stay g = let q : false ≡ true = stay refl in absurd (cc)

revisions-grow : (past : List Event) (e : Event) (k : Key) → moves e ≡ false → Grows (revisions_of k (states past)) (revisions_of k (states (past ++ e ∷ [])))
revisions-grow past e k still =
    let stay : list_any (is_key k) (keys_of past) ≡ true → list_any (is_key k) (keys_of (past ++ e ∷ [])) ≡ true = λ h. ap (list_any (is_key k)) (keys-push past e) ∙ keys-stay k (keys_of past) e (no-leave k e still) h in
    let machine : Grows (solo (own k past)).revisions (solo (own k (past ++ e ∷ []))).revisions = subst (λ (os : List Own). Grows (solo (own k past)).revisions (solo os).revisions) (sym (own-push k past e)) (event-grows k (own k past) e still) in
    let both = grows-opened (list_any (is_key k) (keys_of past)) (list_any (is_key k) (keys_of (past ++ e ∷ []))) (solo (own k past)).revisions (solo (own k (past ++ e ∷ []))).revisions stay machine in
    record { more = both.more; is = revisions-states (past ++ e ∷ []) k ∙ (both.is ∙ ap (λ (xs : List Posted). xs ++ both.more) (sym (revisions-states past k))) }

-- a revision that was posted stands among its job's revisions
abbrev IsHeld : List Event → Event → Type 0
IsHeld past (Open k ask) = Unit {0}
IsHeld past (Revise k number r) = slice_get (revisions_of k (states past)) (number - 1) ≡ Some r
IsHeld past (Reask k w) = Unit {0}
IsHeld past (Close k) = Unit {0}
IsHeld past (Balance shares) = Unit {0}
IsHeld past (Start k index worker) = Unit {0}
IsHeld past (Finish k index worker outcome) = Unit {0}
IsHeld past (Exchange k) = Unit {0}
IsHeld past (Leave k) = ⊥
IsHeld past (Arrive k brought) = ⊥

slice_get-more : (xs ys : List Posted) (n : ℕ) (x : Posted) → slice_get xs n ≡ Some x → slice_get (xs ++ ys) n ≡ Some x
slice_get-more [] ys n x e = absurd (cc)
slice_get-more (y ∷ xs) ys zero x e = e
slice_get-more (y ∷ xs) ys (suc n) x e = slice_get-more xs ys n x e

slice_get-end : (xs : List Posted) (x : Posted) → slice_get (xs ++ x ∷ []) (length xs) ≡ Some x
slice_get-end [] x = refl
slice_get-end (y ∷ xs) x = slice_get-end xs x

-- it stays there
held-stays : (past : List Event) (e x : Event) → moves e ≡ false → IsHeld past x → IsHeld (past ++ e ∷ []) x
held-stays past e (Open k ask) still h = tt
held-stays past e (Revise k number r) still h =
    let g = revisions-grow past e k still in
    ap (λ (xs : List Posted). slice_get xs (number - 1)) g.is ∙ slice_get-more (revisions_of k (states past)) g.more (number - 1) r h
held-stays past e (Reask k w) still h = tt
held-stays past e (Close k) still h = tt
held-stays past e (Balance shares) still h = tt
held-stays past e (Start k index worker) still h = tt
held-stays past e (Finish k index worker outcome) still h = tt
held-stays past e (Exchange k) still h = tt
held-stays past e (Leave k) still h = absurd h
held-stays past e (Arrive k brought) still h = absurd h

-- a revision that comes is held
revise-held : (past : List Event) (k : Key) (number : ℕ) (r : Posted) (t : KeyedJob) → MayRevise past k number r t → IsHeld (past ++ Revise k number r ∷ []) (Revise k number r)
revise-held past k number r t may =
    let found : IsFound past k t = job_of-found past k t may.job in
    let s : SoloMachine = solo (own k past) in
    let same : length t.state.revisions ≡ length s.revisions = ap (λ (x : KeyedJob). length x.state.revisions) (sym found.machine) in
    let place : number - 1 ≡ length s.revisions = omega (arith, may.next, same) in
    let mine : own k (past ++ Revise k number r ∷ []) ≡ own k past ++ Revised r ∷ [] = own-push k past (Revise k number r) ∙ ap (λ (b : Bool). adds b (own k past) (Revised r)) (is_key-same k) in
    let machine : (solo (own k (past ++ Revise k number r ∷ []))).revisions ≡ s.revisions ++ r ∷ [] = ap (λ (es : List Own). (solo es).revisions) mine ∙ (ap (λ (x : SoloMachine). x.revisions) (solo-push (own k past) (Revised r)) ∙ (revise-keeps s r).revisions) in
    let opened : list_any (is_key k) (keys_of (past ++ Revise k number r ∷ [])) ≡ true = ap (list_any (is_key k)) (keys-push past (Revise k number r)) ∙ found.opened in
    let all : revisions_of k (states (past ++ Revise k number r ∷ [])) ≡ s.revisions ++ r ∷ [] = revisions-states (past ++ Revise k number r ∷ []) k ∙ (ap (λ (b : Bool). cond b (solo (own k (past ++ Revise k number r ∷ []))).revisions []) opened ∙ machine) in
    ap (λ (xs : List Posted). slice_get xs (number - 1)) all ∙ (ap (slice_get (s.revisions ++ r ∷ [])) place ∙ slice_get-end s.revisions r)

allowed-held : (w : ℕ) (past : List Event) (e : Event) → Allowed w past e → moves e ≡ false → IsHeld (past ++ e ∷ []) e
allowed-held w past (Open k ask) may still = tt
allowed-held w past (Revise k number r) may still = revise-held past k number r may.0 may.1
allowed-held w past (Reask k weight) may still = tt
allowed-held w past (Close k) may still = tt
allowed-held w past (Balance shares) may still = tt
allowed-held w past (Start k index worker) may still = tt
allowed-held w past (Finish k index worker outcome) may still = tt
allowed-held w past (Exchange k) may still = tt
allowed-held w past (Leave k) may still = absurd (cc)
allowed-held w past (Arrive k brought) may still = absurd (cc)

-- a history in which no job moves holds its revisions
abbrev HoldsAll : List Event → Type 0
HoldsAll past = list_any moves past ≡ false → All (IsHeld past) past

held-push : (w : ℕ) (past : List Event) (e : Event) → Allowed w past e → HoldsAll past → HoldsAll (past ++ e ∷ [])
held-push w past e may h none =
    let parts = or_parts (list_any moves past) (list_any moves (e ∷ [])) (sym (list_any-append moves past (e ∷ [])) ∙ none) in
    let still : moves e ≡ false = (or_parts (moves e) false parts.1).0 in
    All-push (IsHeld (past ++ e ∷ [])) past e (All-weaker (IsHeld past) (IsHeld (past ++ e ∷ [])) (λ x. held-stays past e x still) past (h parts.0)) (allowed-held w past e may still)

-- an event that is held is read off what is written down
event-dressed : (past : List Event) (e : Event) → IsHeld past e → dressed (states past) (bare e) ≡ e
event-dressed past (Open k ask) h = refl
event-dressed past (Revise k number r) h = ap (Revise k number) (get_or_from_slice_get (revisions_of k (states past)) (number - 1) r no_revision h)
event-dressed past (Reask k w) h = refl
event-dressed past (Close k) h = refl
event-dressed past (Balance shares) h = refl
event-dressed past (Start k index worker) h = refl
event-dressed past (Finish k index worker outcome) h = refl
event-dressed past (Exchange k) h = refl
event-dressed past (Leave k) h = absurd h
event-dressed past (Arrive k brought) h = absurd h

events-dressed : (past es : List Event) → All (IsHeld past) es → map (dressed (states past)) (map bare es) ≡ es
events-dressed past [] h = refl
events-dressed past (e ∷ es) h =
    ap (λ (x : Event). x ∷ map (dressed (states past)) (map bare es)) (event-dressed past e (All-head (IsHeld past) e es h))
    ∙ ap (λ (xs : List Event). e ∷ xs) (events-dressed past es (All-tail (IsHeld past) e es h))

-- a legal history in which no job moves is what is written down with the jobs' revisions
pub legal-is_dressed : LegalIsDressed
legal-is_dressed w h legal none = events-dressed h h (legal_from-keeps w HoldsAll (held-push w) [] h legal (λ q. All-nil (IsHeld [])) none)

-- so is that of a hall whose jobs are in their seats
pub seated-dressed : (w : ℕ) (h : List Event) (ss : List Seat) → IsSeated w h ss → list_any moves h ≡ false → map (dressed (jobs_in ss)) (map bare h) ≡ h
seated-dressed w h ss seated none = ap (λ (jobs : List KeyedJob). map (dressed jobs) (map bare h)) (sym seated.jobs) ∙ legal-is_dressed w h seated.legal none
