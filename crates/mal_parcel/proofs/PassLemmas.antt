-- Lawful own events, one after another: what may come where, and what each leaves of a machine's slices and answers.
use Rattle.std.proofs.Common.{◌≡◌, ℕ, zero, suc, ◌<◌, ◌≤◌, Bool, true, false, List, [], ◌∷◌, ◌++◌, length, drop, get_or, replicate, Option, Some, None, refl, sym, ◌∙◌, ap, subst, arith, append_assoc, append-nil}
use Rattle.std.specs.Prelude.{flat_map, is_some, slice_get, slice_set}
use Rattle.std.proofs.lemmas.List.{drop_at}
use Rattle.std.proofs.lemmas.List.Concat.{flat_map-append}
use Rattle.mal_base.specs.declared.answer.Answer.{Answer}
use Rattle.mal_base.specs.declared.answer.Answer.TheVariants.{Satisfied}
use Rattle.mal_base.specs.declared.verdict.Outcome.TheVariants.{Ran, Starved, Lost}
use Rattle.spec_job.specs.Counts.{is_opening}
use Rattle.spec_job.specs.Lawful.{MayPass, AllPass, IsLawful}
use Rattle.spec_job.specs.Models.{KeepsAnswers, SolvesRevision, variables_through}
use Rattle.spec_job.specs.Runnable.{IsRunnable}
use Rattle.spec_job.specs.Slices.{KeepsSlices}
use Rattle.spec_job.specs.SoloMachine.{Own, Opened, Revised, Reasked, Closed, Volume, Started, Finished, Exchanged, Lease, NodeSlot, Slice, SoloMachine, solo, solo_step, place_at, first_empty, remembered, finished_ran, finished_home, finished_lease, finished}
use Rattle.spec_job.proofs.FinishLemmas.{slice_of, ran_home, by-ran, by-starved, by-lease, conclude-leaves, finished-leaves, settled-leaves, starve-leaves}
use Rattle.spec_job.proofs.KeptLemmas.{runnable-kept}
use Rattle.spec_job.proofs.LawfulLemmas.{lawful-runnable}
use Rattle.spec_job.proofs.PlacesLemmas.{out-within}
use Rattle.spec_job.proofs.PushLemmas.{solo-push}
use Rattle.spec_job.proofs.RefutingLemmas.{runnable-answers_solve}
use Rattle.spec_job.proofs.SlicesLemmas.{slices-stay}
use Rattle.spec_job.proofs.StayLemmas.{answers-stay, push-stays}
use Rattle.mal_parcel.specs.Replaying.{is_ran}

-- an event may come where it stands
pass-at : (past os : List Own) (o : Own) (later : List Own) → AllPass past (os ++ o ∷ later) → MayPass (solo (past ++ os)) o
pass-at past [] o later all = subst (λ (es : List Own). MayPass (solo es) o) (sym (append-nil past)) all.0
pass-at past (x ∷ xs) o later all = subst (λ (es : List Own). MayPass (solo es) o) (append_assoc past (x ∷ []) xs) (pass-at (past ++ x ∷ []) xs o later all.1)

pub lawful-passes : (past : List Own) (o : Own) (later : List Own) → is_opening o ≡ false → IsLawful (past ++ o ∷ later) → MayPass (solo past) o
lawful-passes [] (Opened ask) later e lawful = absurd (cc)
lawful-passes [] (Revised r) later e lawful = absurd lawful
lawful-passes [] (Reasked w) later e lawful = absurd lawful
lawful-passes [] Closed later e lawful = absurd lawful
lawful-passes [] (Volume v) later e lawful = absurd lawful
lawful-passes [] (Started i) later e lawful = absurd lawful
lawful-passes [] (Finished i outcome) later e lawful = absurd lawful
lawful-passes [] Exchanged later e lawful = absurd lawful
lawful-passes (Opened ask ∷ past) o later e lawful = pass-at (Opened ask ∷ []) past o later lawful.1
lawful-passes (Revised r ∷ past) o later e lawful = absurd lawful
lawful-passes (Reasked w ∷ past) o later e lawful = absurd lawful
lawful-passes (Closed ∷ past) o later e lawful = absurd lawful
lawful-passes (Volume v ∷ past) o later e lawful = absurd lawful
lawful-passes (Started i ∷ past) o later e lawful = absurd lawful
lawful-passes (Finished i outcome ∷ past) o later e lawful = absurd lawful
lawful-passes (Exchanged ∷ past) o later e lawful = absurd lawful

-- after an opening none comes again
never-opened : (s : SoloMachine) (o : Own) → MayPass s o → is_opening o ≡ false
never-opened s (Opened ask) may = absurd may
never-opened s (Revised r) may = refl
never-opened s (Reasked w) may = refl
never-opened s Closed may = refl
never-opened s (Volume v) may = refl
never-opened s (Started i) may = refl
never-opened s (Finished i outcome) may = refl
never-opened s Exchanged may = refl

pub never-again : (past : List Own) (o : Own) (later : List Own) → 1 ≤ length past → IsLawful (past ++ o ∷ later) → is_opening o ≡ false
never-again [] o later some lawful = absurd (omega (arith, some))
never-again (Opened ask ∷ past) o later some lawful = never-opened (solo (Opened ask ∷ past)) o (pass-at (Opened ask ∷ []) past o later lawful.1)
never-again (Revised r ∷ past) o later some lawful = absurd lawful
never-again (Reasked w ∷ past) o later some lawful = absurd lawful
never-again (Closed ∷ past) o later some lawful = absurd lawful
never-again (Volume v ∷ past) o later some lawful = absurd lawful
never-again (Started i ∷ past) o later some lawful = absurd lawful
never-again (Finished i outcome ∷ past) o later some lawful = absurd lawful
never-again (Exchanged ∷ past) o later some lawful = absurd lawful

-- the first own events may happen where all may
runnable-front : (past xs ys : List Own) → IsRunnable past (xs ++ ys) → IsRunnable past xs
runnable-front past [] ys may = tt
runnable-front past (x ∷ xs) ys may = (may.0, runnable-front (past ++ x ∷ []) xs ys may.1)

-- so may those up to one of them
pub runnable-past : (past : List Own) (o : Own) (later : List Own) → IsLawful (past ++ o ∷ later) → IsRunnable [] past
runnable-past past o later lawful = runnable-front [] past (o ∷ later) (lawful-runnable (past ++ o ∷ later) lawful)

pub runnable-through : (past : List Own) (o : Own) (later : List Own) → IsLawful (past ++ o ∷ later) → IsRunnable [] (past ++ o ∷ [])
runnable-through past o later lawful = runnable-front [] (past ++ o ∷ []) later (subst (λ (es : List Own). IsRunnable [] es) (sym (append_assoc past (o ∷ []) later)) (lawful-runnable (past ++ o ∷ later) lawful))

-- a start that is out
pub lease-out : (out : Option Lease) → is_some out ≡ true → (l : Lease) × (out ≡ Some l)
lease-out None e = absurd (cc)
lease-out (Some l) e = (l, refl)

-- is of one of 64 places
pub out-low : (past : List Own) (i : ℕ) → IsRunnable [] past → is_some (place_at (solo past) i).out ≡ true → i ≤ 63
out-low past i may e =
    let lease = lease-out (place_at (solo past) i).out e in
    let within : i < length (solo past).places = out-within (solo past).places i lease.0 lease.1 in
    let few : length (solo past).places ≤ 64 = (runnable-kept past may).solving.count in
    omega arith

-- a slice that was run is remembered
pub ran-slices : (s : SoloMachine) (i : ℕ) (l : Lease) → (place_at s i).out ≡ Some l → (solo_step s (Finished i Ran)).slices ≡ s.slices ++ remembered s l (slice_of s i (place_at s i) l) ∷ []
ran-slices s i l out = subst (λ (x : Option Lease). (finished s i p x Ran).slices ≡ s.slices ++ remembered s l (slice_of s i p l) ∷ []) (sym out) (settled-leaves IsThere (λ t answers k. k) (λ t spent starved k. k) (first_empty (finished_ran s i p l).log) (finished_ran s i p l)
    (by-ran IsThere s i p l (λ late. refl) (λ now. conclude-leaves IsThere (λ t answers k. k) (λ t spent starved k. k) (slice_of s i p l).node.verdict (slice_of s i p l).node (ran_home s i p l) refl)))
  where
    p : NodeSlot
    p = place_at s i

    IsThere : SoloMachine → Type 0
    IsThere t = t.slices ≡ s.slices ++ remembered s l (slice_of s i p l) ∷ []

-- every other event runs none
pub other-slices : (s : SoloMachine) (o : Own) → is_ran o ≡ false → (solo_step s o).slices ≡ s.slices
other-slices s (Opened ask) e = refl
other-slices s (Revised r) e = settled-leaves (λ t. t.slices ≡ s.slices) (λ t answers k. k) (λ t spent starved k. k) (first_empty s.log) (record s { revisions = s.revisions ++ r ∷ [] }) refl
other-slices s (Reasked w) e = refl
other-slices s Closed e = refl
other-slices s (Volume v) e = refl
other-slices s (Started i) e = refl
other-slices s (Finished i Ran) e = absurd (cc)
other-slices s (Finished i Starved) e =
    by-lease (λ t. t.slices ≡ s.slices) s i (place_at s i) (place_at s i).out Starved refl
    (λ l q. settled-leaves (λ t. t.slices ≡ s.slices) (λ t answers k. k) (λ t spent starved k. k) (first_empty (finished_lease s i (place_at s i) l Starved).log) (finished_lease s i (place_at s i) l Starved) (by-starved (λ t. t.slices ≡ s.slices) s i (place_at s i) l (λ late. refl) (λ now. starve-leaves (λ t. t.slices ≡ s.slices) (λ t answers k. k) (λ t spent starved k. k) (finished_home s i (place_at s i)) refl)))
other-slices s (Finished i Lost) e =
    by-lease (λ t. t.slices ≡ s.slices) s i (place_at s i) (place_at s i).out Lost refl
    (λ l q. settled-leaves (λ t. t.slices ≡ s.slices) (λ t answers k. k) (λ t spent starved k. k) (first_empty s.log) (finished_home s i (place_at s i)) refl)
other-slices s Exchanged e = refl

-- a finish posts nothing
finish-revisions : (s : SoloMachine) (i : ℕ) → (solo_step s (Finished i Ran)).revisions ≡ s.revisions
finish-revisions s i = finished-leaves (λ t. t.revisions ≡ s.revisions) (λ t answers k. k) (λ t spent starved k. k) s i (place_at s i) (place_at s i).out Ran refl (λ l e. refl) refl

-- the model that a slice answers has a value for each variable by then
pub ran-whole : (past : List Own) (i : ℕ) (later : List Own) (model : List Bool) → IsLawful (past ++ Finished i Ran ∷ later) → slice_get (solo (past ++ Finished i Ran ∷ [])).answers (length (solo past).answers) ≡ Some (Satisfied model) → length model ≡ variables_through (solo past).revisions (length (solo past).answers)
ran-whole past i later model lawful e =
    let solves : SolvesRevision (solo (past ++ Finished i Ran ∷ [])).revisions (length (solo past).answers) model = runnable-answers_solve (past ++ Finished i Ran ∷ []) (runnable-through past (Finished i Ran) later lawful) (length (solo past).answers) model e in
    let same : (solo (past ++ Finished i Ran ∷ [])).revisions ≡ (solo past).revisions = ap (λ (t : SoloMachine). t.revisions) (solo-push past (Finished i Ran)) ∙ finish-revisions (solo past) i in
    solves.whole ∙ ap (λ (rs : _). variables_through rs (length (solo past).answers)) same

-- what is left after a front, and after a longer one
left-next : {X : Type 0} (f : X → List ℕ) (xs new more ys all : List X) → ys ≡ xs ++ new → all ≡ ys ++ more → flat_map f (drop (length xs) all) ≡ flat_map f new ++ flat_map f (drop (length ys) all)
left-next {X} f xs new more ys all e is =
    let behind : drop (length ys) all ≡ more = ap (λ (zs : List X). drop (length ys) zs) is ∙ drop_at ys more (length ys) refl in
    let whole : all ≡ xs ++ (new ++ more) = is ∙ (ap (λ (zs : List X). zs ++ more) e ∙ append_assoc xs new more) in
    let front : drop (length xs) all ≡ new ++ more = ap (λ (zs : List X). drop (length xs) zs) whole ∙ drop_at xs (new ++ more) (length xs) refl in
    ap (λ (zs : List X). flat_map f zs) front ∙ (flat_map-append f new more ∙ ap (λ (zs : List X). flat_map f new ++ flat_map f zs) (sym behind))

module _ (past : List Own) (o : Own) (later : List Own) where
  -- the machine before and after the event, and after them all
  abbrev before : SoloMachine
  before = solo past

  abbrev after : SoloMachine
  after = solo (past ++ o ∷ [])

  abbrev whole : SoloMachine
  whole = solo (past ++ o ∷ later)

  slices-kept : KeepsSlices after whole
  slices-kept = subst (λ (es : List Own). KeepsSlices after (solo es)) (append_assoc past (o ∷ []) later) (slices-stay (past ++ o ∷ []) later)

  pub answers-kept : KeepsAnswers after whole
  answers-kept = subst (λ (es : List Own). KeepsAnswers after (solo es)) (append_assoc past (o ∷ []) later) (answers-stay (past ++ o ∷ []) later)

  -- the slices left, by those of the event
  pub slices-next : (f : Slice → List ℕ) (new : List Slice) → (solo_step before o).slices ≡ before.slices ++ new → flat_map f (drop (length before.slices) whole.slices) ≡ flat_map f new ++ flat_map f (drop (length after.slices) whole.slices)
  slices-next f new e = left-next f before.slices new slices-kept.more after.slices whole.slices (ap (λ (t : SoloMachine). t.slices) (solo-push past o) ∙ e) slices-kept.kept

  -- the answers left, by those of the event
  pub answers-next : (f : Answer → List ℕ) → flat_map f (drop (length before.answers) whole.answers) ≡ flat_map f (drop (length before.answers) after.answers) ++ flat_map f (drop (length after.answers) whole.answers)
  answers-next f =
      let came : KeepsAnswers before after = push-stays past o in
      let new : drop (length before.answers) after.answers ≡ came.more = ap (λ (xs : List Answer). drop (length before.answers) xs) came.kept ∙ drop_at before.answers came.more (length before.answers) refl in
      left-next f before.answers (drop (length before.answers) after.answers) answers-kept.more after.answers whole.answers (came.kept ∙ ap (λ (xs : List Answer). before.answers ++ xs) (sym new)) answers-kept.kept

-- a number that stands everywhere
pub set-same : (z n i : ℕ) → slice_set (replicate n z) i z ≡ replicate n z
set-same z zero i = refl
set-same z (suc n) zero = refl
set-same z (suc n) (suc i) = ap (λ (ns : List ℕ). z ∷ ns) (set-same z n i)

pub get-same : (z n i : ℕ) → get_or (replicate n z) i z ≡ z
get-same z zero i = refl
get-same z (suc n) zero = refl
get-same z (suc n) (suc i) = get-same z n i
