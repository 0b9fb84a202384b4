-- The slices of a job that one node runs are those of its course.
use Rattle.std.proofs.Common.{◌≡◌, ℕ, suc, ◌+◌, ◌<◌, ◌≤◌, Bool, true, false, cond, ◌==◌, List, [], ◌∷◌, ◌++◌, length, get_or, Option, Some, None, refl, sym, ◌∙◌, ap, subst, arith}
use Rattle.std.specs.Prelude.{slice_set}
use Rattle.std.proofs.lemmas.Bool.{le-ltb}
use Rattle.mal_base.specs.declared.profile.Profile.{Profile}
use Rattle.mal_base.specs.declared.answer.Answer.TheVariants.{Spent}
use Rattle.mal_base.specs.declared.answer.Answer.{Answer}
use Rattle.mal_base.specs.declared.verdict.Verdict.{Verdict}
use Rattle.mal_base.specs.declared.verdict.Verdict.TheVariants.{Satisfiable, Unsatisfiable}
use Rattle.mal_revision.specs.Posted.{Posted}
use Rattle.spec_node.specs.State.{Node}
use Rattle.spec_search.specs.Slice.{Sliced}
use Rattle.spec_job.specs.Journal.{JournalEntry, replay, loads_in}
use Rattle.spec_job.specs.SoloMachine.{Lease, NodeSlot, vacant, SoloMachine, place_at, with_place, answered, conclude, is_late, remembered, finished_ran, finished_home}
use Rattle.spec_job.proofs.SolvingLemmas.{IsSolvingSolo}
use Rattle.spec_job.proofs.CourseLemmas.{Course, concluded, next_adds, ran_on, course, GoesOn, WentOn}
use Rattle.spec_job.proofs.AlongLemmas.{course_of, lease_from, IsOpen, IsAlong, IsAloneSolo, IsThere, alone-set, set-first}
use Rattle.spec_job.proofs.FinishLemmas.{conclude-leaves}

-- what a verdict makes of the machine it makes of the course
conclude-course : (v : Option Verdict) (n : Node) (s : SoloMachine) → course_of (conclude v n s) ≡ concluded v n s.ask.slices (course_of s)
conclude-course None n s = by_test (s.spent + 1 == s.ask.slices)
  where
    c : Course
    c = course_of s

    by_test : (b : Bool) → course_of (cond b (answered s (Spent s.ask.slices)) (record s { spent = s.spent + 1 })) ≡ cond b (record c { answers = c.answers ++ Spent s.ask.slices ∷ []; spent = 0 }) (record c { spent = c.spent + 1 })
    by_test true = refl
    by_test false = refl
conclude-course (Some Satisfiable) n s = refl
conclude-course (Some (Unsatisfiable goal)) n s = refl

-- a slice of the one node that goes on with its course
module _ (profile : Profile) (slices n : ℕ) (s : SoloMachine) (k : IsSolvingSolo s) (h : IsAlong profile slices s n) (stand : IsOpen s (course profile slices s.revisions n)) (live : length (course profile slices s.revisions n).answers < length s.revisions) where
  abbrev c : Course
  c = course profile slices s.revisions n

  abbrev p : NodeSlot
  p = place_at s 0

  abbrev adds : List JournalEntry
  adds = next_adds s.revisions c

  abbrev lease : Lease
  lease = lease_from s.revisions c

  abbrev q : NodeSlot
  q = record p { entries = p.entries ++ adds; out = None }

  abbrev ran : Sliced
  ran = replay s.ask.profile 0 (p.entries ++ adds)

  abbrev home : SoloMachine
  home = record (with_place s 0 q) { log = s.log ++ ran.lines; slices = s.slices ++ remembered s lease ran ∷ []; ran = s.ran + 1 }

  abbrev t : SoloMachine
  t = conclude ran.node.verdict ran.node home

  -- an answer leaves the rest
  unanswered : (P : SoloMachine → Type 0) → ((m : SoloMachine) (answers : List Answer) → P m → P (record m { answers = m.answers ++ answers; spent = 0; starved = 0 })) → ((m : SoloMachine) (spent starved : ℕ) → P m → P (record m { spent = spent; starved = starved })) → P home → P t
  unanswered P more counted at = conclude-leaves P more counted ran.node.verdict ran.node home at

  revised : s.revisions ≡ t.revisions
  revised = unanswered (λ m. s.revisions ≡ m.revisions) (λ m more e. e) (λ m spent starved e. e) refl

  on : GoesOn s.revisions c
  on = record {
    live = live;
    loaded = subst (λ (x : Course). loads_in x.entries ≤ length s.revisions) stand.same (k.ready 0 (omega arith)).posted;
    open_yet = stand.none;
  }

  here : get_or (slice_set s.places 0 q) 0 vacant ≡ q
  here = set-first s.places q h.alone.some

  at-home : course_of home ≡ record { entries = p.entries ++ adds; log = s.log ++ ran.lines; answers = s.answers; spent = s.spent }
  at-home = ap (λ (x : NodeSlot). record { entries = x.entries; log = s.log ++ ran.lines; answers = s.answers; spent = s.spent }) here

  same : course_of t ≡ course profile slices s.revisions (suc n)
  same = conclude-course ran.node.verdict ran.node home ∙ (ap (λ (x : ℕ). concluded ran.node.verdict ran.node x (course_of home)) h.alone.budget ∙ (ap (concluded ran.node.verdict ran.node slices) at-home ∙ (ap (λ (x : Profile). ran_on x slices adds (course_of s)) h.alone.solvers ∙ ap (ran_on profile slices adds) stand.same)))

  there : IsThere profile slices t (suc n)
  there = record {
    alone = unanswered (IsAloneSolo profile slices) (λ m more a. a) (λ m spent starved a. a) (alone-set profile slices s q h.alone);
    went = subst (λ (rs : List Posted). WentOn profile slices rs (suc n)) revised (h.went, on);
    same = subst (λ (rs : List Posted). course_of t ≡ course profile slices rs (suc n)) revised same;
    idle = unanswered (λ m. (place_at m 0).out ≡ None) (λ m more e. e) (λ m spent starved e. e) (ap (λ (x : NodeSlot). x.out) here);
  }

  in-time : is_late s lease ≡ false
  in-time =
      let equal : length s.answers ≡ length c.answers = ap (λ (x : Course). length x.answers) stand.same in
      le-ltb (length c.answers) (length s.answers) (omega arith)

  ran-there : IsThere profile slices (finished_ran s 0 (place_at s 0) lease) (suc n)
  ran-there = subst (λ (b : Bool). IsThere profile slices (cond b home t) (suc n)) (sym in-time) there

-- so does a slice of its start that is out
pub lease-there : (profile : Profile) (slices n : ℕ) (s : SoloMachine) (l : Lease) → (place_at s 0).out ≡ Some l → IsSolvingSolo s → IsAlong profile slices s n → IsOpen s (course profile slices s.revisions n) → IsThere profile slices (finished_ran s 0 (place_at s 0) l) (suc n)
lease-there profile slices n s l out k h stand =
    let goes = stand.leased l out in
    subst (λ (x : Lease). IsThere profile slices (finished_ran s 0 (place_at s 0) x) (suc n)) (sym goes.1) (ran-there profile slices n s k h stand goes.0)

-- a start that comes to nothing leaves the course
pub home-there : (profile : Profile) (slices n : ℕ) (s : SoloMachine) → IsAlong profile slices s n → IsOpen s (course profile slices s.revisions n) → IsThere profile slices (finished_home s 0 (place_at s 0)) n
home-there profile slices n s h stand =
    let q : NodeSlot = record (place_at s 0) { out = None } in
    let here : get_or (slice_set s.places 0 q) 0 vacant ≡ q = set-first s.places q h.alone.some in
    record {
      alone = alone-set profile slices s q h.alone;
      went = h.went;
      same = ap (λ (x : NodeSlot). record { entries = x.entries; log = s.log; answers = s.answers; spent = s.spent }) here ∙ stand.same;
      idle = ap (λ (x : NodeSlot). x.out) here;
    }
