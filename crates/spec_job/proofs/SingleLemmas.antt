-- A job that one node runs follows its course, so its answers are decided.
use Rattle.std.proofs.Common.{◌≡◌, ℕ, zero, suc, ◌+◌, ◌-◌, ◌<◌, ◌≤◌, Bool, true, false, ◌&&◌, nat_lt, nat_le, ◌*◌, List, [], ◌∷◌, ◌++◌, length, replicate, Option, Some, None, inl, inr, ◌⊎◌, refl, sym, ◌∙◌, ap, subst, arith, length-append}
use Rattle.std.specs.List.{list_all}
use Rattle.std.proofs.lemmas.Bool.{and_parts, ltb-true, leb-true, lt-leb, false≢true}
use Rattle.std.proofs.lemmas.List.{length-replicate}
use Rattle.mal_base.specs.declared.profile.Profile.{Profile}
use Rattle.mal_base.specs.Asks.{Terms, reasked}
use Rattle.mal_base.specs.declared.answer.Answer.TheVariants.{Refuted}
use Rattle.mal_base.specs.declared.verdict.Outcome.{Outcome}
use Rattle.mal_base.specs.declared.verdict.Outcome.TheVariants.{Ran, Starved, Lost}
use Rattle.mal_revision.specs.Posted.{Posted}
use Rattle.spec_job.specs.SoloMachine.{Own, Opened, Revised, Reasked, Closed, Volume, Started, Finished, Exchanged, Lease, NodeSlot, SoloMachine, solo, solo_step, place_at, is_live, startable, first_empty, settled_by, settled, finished_lease, finished}
use Rattle.spec_job.specs.Journal.{JournalEntry, loads_in}
use Rattle.spec_job.specs.Runnable.{MayHappen, IsRunnable}
use Rattle.spec_job.specs.DemandOne.{is_single, had_memory, IsSingle, Agree, AgreeAll, NoneIsDue, SinglesAgree}
use Rattle.spec_job.proofs.PushLemmas.{events-keep}
use Rattle.spec_job.proofs.PlacesLemmas.{get-vacant}
use Rattle.spec_job.proofs.SolvingLemmas.{IsSolvingSolo, live-parts}
use Rattle.spec_job.proofs.KeptLemmas.{MachineInvariant, step-kept, opened-kept}
use Rattle.spec_job.proofs.CourseLemmas.{Course, course, WentOn, adds-more, course-more, went-more}
use Rattle.spec_job.proofs.AgreeLemmas.{ComeFrom, courses-agree, le-or_lt, IsFront, courses-logs}
use Rattle.spec_job.proofs.AlongLemmas.{course_of, lease_from, IsOpen, IsSettled, IsAlong, come-itself, come-more, IsThere, there-settled, started-along}
use Rattle.spec_job.proofs.SliceLemmas.{lease-there, home-there}
use Rattle.spec_job.proofs.ReplyLemmas.{replies-agree}

-- a machine has run some slices of its course
abbrev pub IsOnCourse : Profile → ℕ → SoloMachine → Type 0
IsOnCourse profile slices s = (n : ℕ) × IsAlong profile slices s n

-- a machine has run no more than one slice more of its course than so many
abbrev pub GoesOneOn : Profile → ℕ → ℕ → SoloMachine → Type 0
GoesOneOn profile slices n s = (m : ℕ) × (m ≤ suc n) × IsAlong profile slices s m

-- a further revision
open-revised : (s : SoloMachine) (c : Course) (r : Posted) → IsSolvingSolo s → IsOpen s c → IsOpen (record s { revisions = s.revisions ++ r ∷ [] }) c
open-revised s c r k h = record { none = h.none; same = h.same; leased = λ l e. later l (h.leased l e) }
  where
    long : length (s.revisions ++ r ∷ []) ≡ length s.revisions + 1
    long = length-append s.revisions (r ∷ [])

    later : (l : Lease) → (length c.answers < length s.revisions) × (l ≡ lease_from s.revisions c) → (length c.answers < length (s.revisions ++ r ∷ [])) × (l ≡ lease_from (s.revisions ++ r ∷ []) c)
    later l (live, is) =
        let loaded = subst (λ (x : Course). loads_in x.entries ≤ length s.revisions) h.same (k.ready 0 (omega arith)).posted in
        (omega (arith, live, long), is ∙ sym (ap (λ (es : List JournalEntry). record { revision = length c.answers; adds = es }) (adds-more s.revisions (r ∷ []) c live loaded)))

settled-revised : (s : SoloMachine) (c : Course) (goal : ℕ) (r : Posted) → IsSettled s c goal → IsSettled (settled_by (Some goal) (record s { revisions = s.revisions ++ r ∷ [] })) c goal
settled-revised s c goal r h = record { found = h.found; log = h.log; idle = h.idle; all = all; come = come-more c s.answers (length (s.revisions ++ r ∷ []) - length s.answers) goal h.found h.come }
  where
    more : ℕ
    more = length (s.revisions ++ r ∷ []) - length s.answers

    all : length (s.answers ++ replicate more (Refuted goal)) ≡ length (s.revisions ++ r ∷ [])
    all =
        let long : length (s.answers ++ replicate more (Refuted goal)) ≡ length s.answers + length (replicate more (Refuted goal)) = length-append s.answers (replicate more (Refuted goal)) in
        let count : length (replicate more (Refuted goal)) ≡ more = length-replicate more (Refuted goal) in
        let next : length (s.revisions ++ r ∷ []) ≡ length s.revisions + 1 = length-append s.revisions (r ∷ []) in
        let before : length s.answers ≡ length s.revisions = h.all in
        omega arith

revised-along : (profile : Profile) (slices n : ℕ) (s : SoloMachine) (r : Posted) → IsSolvingSolo s → IsAlong profile slices s n → IsAlong profile slices (solo_step s (Revised r)) n
revised-along profile slices n s r k h = by_stand h.stands
  where
    t : SoloMachine
    t = record s { revisions = s.revisions ++ r ∷ [] }

    c : Course
    c = course profile slices s.revisions n

    same : course profile slices t.revisions n ≡ c
    same = course-more profile slices s.revisions (r ∷ []) n h.went

    with-stand : (o : Option ℕ) → IsOpen (settled_by o t) c ⊎ ((goal : ℕ) × IsSettled (settled_by o t) c goal) → IsAlong profile slices (settled_by o t) n
    with-stand None x = record { alone = h.alone; went = went-more profile slices s.revisions (r ∷ []) n h.went; stands = subst (λ (d : Course). IsOpen t d ⊎ ((goal : ℕ) × IsSettled t d goal)) (sym same) x }
    with-stand (Some g) x = record { alone = h.alone; went = went-more profile slices s.revisions (r ∷ []) n h.went; stands = subst (λ (d : Course). IsOpen (settled_by (Some g) t) d ⊎ ((goal : ℕ) × IsSettled (settled_by (Some g) t) d goal)) (sym same) x }

    by_stand : IsOpen s c ⊎ ((goal : ℕ) × IsSettled s c goal) → IsAlong profile slices (settled_by (first_empty s.log) t) n
    by_stand (inl x) =
        let none : first_empty s.log ≡ None = subst (λ (d : Course). first_empty d.log ≡ None) (sym x.same) x.none in
        subst (λ (o : Option ℕ). IsAlong profile slices (settled_by o t) n) (sym none) (with-stand None (inl (open-revised s c r k x)))
    by_stand (inr (goal, x)) =
        let found : first_empty s.log ≡ Some goal = ap first_empty x.log ∙ x.found in
        subst (λ (o : Option ℕ). IsAlong profile slices (settled_by o t) n) (sym found) (with-stand (Some goal) (inr (goal, settled-revised s c goal r x)))

-- a start is one of the first place
started-on : (profile : Profile) (slices n i : ℕ) (s : SoloMachine) → startable s i ≡ true → IsAlong profile slices s n → IsAlong profile slices (solo_step s (Started i)) n
started-on profile slices n zero s may h = started-along profile slices n s (live-parts s 0 may) h
started-on profile slices n (suc i) s may h =
    let low : suc i < s.volume = ltb-true (suc i) s.volume (and_parts (is_live s) (nat_lt (suc i) s.volume) (and_parts (is_live s && nat_lt (suc i) s.volume) _ may).0).1 in
    let one : s.volume ≤ 1 = h.alone.low in
    absurd (omega arith)

-- a finish of the start that is out
finished-open : (profile : Profile) (slices n : ℕ) (s : SoloMachine) (l : Lease) (o : Outcome) → had_memory o ≡ true → (place_at s 0).out ≡ Some l → IsSolvingSolo s → IsAlong profile slices s n → IsOpen s (course profile slices s.revisions n) → (m : ℕ) × (m ≤ suc n) × IsThere profile slices (finished_lease s 0 (place_at s 0) l o) m
finished-open profile slices n s l Ran m out k h x = (suc n, omega arith, lease-there profile slices n s l out k h x)
finished-open profile slices n s l Starved m out k h x = absurd (false≢true m)
finished-open profile slices n s l Lost m out k h x = (n, omega arith, home-there profile slices n s h x)

there-on : (profile : Profile) (slices n : ℕ) (t : SoloMachine) → length (settled t).answers ≤ length t.revisions → (m : ℕ) × (m ≤ suc n) × IsThere profile slices t m → GoesOneOn profile slices n (settled t)
there-on profile slices n t order (m, low, x) = (m, low, there-settled profile slices m t (first_empty t.log) refl order x)

finished-on : (profile : Profile) (slices n : ℕ) (s : SoloMachine) (out : Option Lease) (o : Outcome) → had_memory o ≡ true → (place_at s 0).out ≡ out → IsSolvingSolo s → IsSolvingSolo (finished s 0 (place_at s 0) out o) → IsAlong profile slices s n → GoesOneOn profile slices n (finished s 0 (place_at s 0) out o)
finished-on profile slices n s None o m e k after h = (n, omega arith, h)
finished-on profile slices n s (Some l) o m e k after h = by_stand h.stands
  where
    c : Course
    c = course profile slices s.revisions n

    t : SoloMachine
    t = finished_lease s 0 (place_at s 0) l o

    settled-order : (g : Option ℕ) (u : SoloMachine) → length (settled_by g u).answers ≤ length (settled_by g u).revisions → length (settled_by g u).answers ≤ length u.revisions
    settled-order None u q = q
    settled-order (Some goal) u q = q

    by_stand : IsOpen s c ⊎ ((goal : ℕ) × IsSettled s c goal) → GoesOneOn profile slices n (settled t)
    by_stand (inl x) = there-on profile slices n t (settled-order (first_empty t.log) t after.order) (finished-open profile slices n s l o m e k h x)
    by_stand (inr (goal, x)) = absurd (let bad : None ≡ Some l = sym x.idle ∙ e in cc)

finish-on : (profile : Profile) (slices n i : ℕ) (s : SoloMachine) (o : Outcome) → had_memory o ≡ true → IsSolvingSolo s → IsSolvingSolo (solo_step s (Finished i o)) → IsAlong profile slices s n → GoesOneOn profile slices n (solo_step s (Finished i o))
finish-on profile slices n zero s o m k after h = finished-on profile slices n s (place_at s 0).out o m refl k after h
finish-on profile slices n (suc i) s o m k after h = subst (λ (out : Option Lease). GoesOneOn profile slices n (finished s (suc i) (place_at s (suc i)) out o)) (sym (h.alone.others i)) (n, omega arith, h)

-- each event of a job that one node runs
pub step-on : (profile : Profile) (slices n : ℕ) (s : SoloMachine) (o : Own) → MayHappen s o → is_single o ≡ true → MachineInvariant s → MachineInvariant (solo_step s o) → IsAlong profile slices s n → GoesOneOn profile slices n (solo_step s o)
step-on profile slices n s (Opened ask) may single k after h = absurd (false≢true single)
step-on profile slices n s (Revised r) may single k after h = (n, omega arith, revised-along profile slices n s r k.solving h)
step-on profile slices n s (Reasked w) may single k after h = (n, omega arith, record { alone = record { budget = h.alone.budget; solvers = h.alone.solvers; low = h.alone.low; unexported = h.alone.unexported; some = h.alone.some; others = h.alone.others }; went = h.went; stands = same-stand h.stands })
  where
    same-stand : IsOpen s (course profile slices s.revisions n) ⊎ ((goal : ℕ) × IsSettled s (course profile slices s.revisions n) goal) → IsOpen (record s { ask = reasked s.ask w }) (course profile slices s.revisions n) ⊎ ((goal : ℕ) × IsSettled (record s { ask = reasked s.ask w }) (course profile slices s.revisions n) goal)
    same-stand (inl x) = inl (record { none = x.none; same = x.same; leased = x.leased })
    same-stand (inr (goal, x)) = inr (goal, record { found = x.found; log = x.log; idle = x.idle; all = x.all; come = x.come })
step-on profile slices n s Closed may single k after h = (n, omega arith, record { alone = h.alone; went = h.went; stands = same-stand h.stands })
  where
    same-stand : IsOpen s (course profile slices s.revisions n) ⊎ ((goal : ℕ) × IsSettled s (course profile slices s.revisions n) goal) → IsOpen (record s { closed = true }) (course profile slices s.revisions n) ⊎ ((goal : ℕ) × IsSettled (record s { closed = true }) (course profile slices s.revisions n) goal)
    same-stand (inl x) = inl (record { none = x.none; same = x.same; leased = x.leased })
    same-stand (inr (goal, x)) = inr (goal, record { found = x.found; log = x.log; idle = x.idle; all = x.all; come = x.come })
step-on profile slices n s (Volume v) may single k after h = (n, omega arith, record { alone = record { budget = h.alone.budget; solvers = h.alone.solvers; low = leb-true v 1 single; unexported = h.alone.unexported; some = h.alone.some; others = h.alone.others }; went = h.went; stands = same-stand h.stands })
  where
    same-stand : IsOpen s (course profile slices s.revisions n) ⊎ ((goal : ℕ) × IsSettled s (course profile slices s.revisions n) goal) → IsOpen (record s { volume = v }) (course profile slices s.revisions n) ⊎ ((goal : ℕ) × IsSettled (record s { volume = v }) (course profile slices s.revisions n) goal)
    same-stand (inl x) = inl (record { none = x.none; same = x.same; leased = x.leased })
    same-stand (inr (goal, x)) = inr (goal, record { found = x.found; log = x.log; idle = x.idle; all = x.all; come = x.come })
step-on profile slices n s (Started i) may single k after h = (n, omega arith, started-on profile slices n i s may h)
step-on profile slices n s (Finished i o) may single k after h = finish-on profile slices n i s o single k.solving after.solving h
step-on profile slices n s Exchanged may single k after h = absurd (false≢true single)

-- a machine on its course, and what is kept of any machine
pub record IsFollowing (profile : Profile) (slices : ℕ) (s : SoloMachine) : Type 0 where
  pub kept : MachineInvariant s
  pub on : IsOnCourse profile slices s

events-follow : (profile : Profile) (slices : ℕ) (past events : List Own) → IsRunnable past events → list_all is_single events ≡ true → IsFollowing profile slices (solo past) → IsFollowing profile slices (solo (past ++ events))
events-follow profile slices past events may single h = events-keep (IsFollowing profile slices) (λ before os. IsRunnable before os × (list_all is_single os ≡ true)) (λ before o os q k.
    let parts = and_parts (is_single o) (list_all is_single os) q.1 in
    let after : MachineInvariant (solo_step (solo before) o) = step-kept (solo before) o q.0.0 k.kept in
    let on : GoesOneOn profile slices k.on.0 (solo_step (solo before) o) = step-on profile slices k.on.0 (solo before) o q.0.0 parts.0 k.kept after k.on.1 in
    (record { kept = after; on = (on.0, on.2) }, (q.0.1, parts.1))) past events (may, single) h

pub opened-follows : (ask : Terms) → IsFollowing ask.profile ask.slices (solo (Opened ask ∷ []))
opened-follows ask = record {
  kept = opened-kept ask;
  on = (
    0,
    record {
      alone = record { budget = refl; solvers = refl; low = omega arith; unexported = refl; some = omega arith; others = λ i. ap (λ (p : NodeSlot). p.out) (get-vacant 64 (suc i)) };
      went = tt;
      stands = inl (record { none = refl; same = refl; leased = λ l e. absurd (cc) });
    },
  );
}

single-follows : (ask : Terms) (own : List Own) → IsSingle ask own → IsFollowing ask.profile ask.slices (solo (Opened ask ∷ own))
single-follows ask own h = events-follow ask.profile ask.slices (Opened ask ∷ []) own h.runnable.1 h.single (opened-follows ask)

pub come-along : (profile : Profile) (slices n : ℕ) (s : SoloMachine) → IsAlong profile slices s n → ComeFrom (course profile slices s.revisions n) s.answers
come-along profile slices n s h = by_stand h.stands
  where
    by_stand : IsOpen s (course profile slices s.revisions n) ⊎ ((goal : ℕ) × IsSettled s (course profile slices s.revisions n) goal) → ComeFrom (course profile slices s.revisions n) s.answers
    by_stand (inl x) = subst (λ (c : Course). ComeFrom c s.answers) x.same (come-itself (course_of s))
    by_stand (inr (goal, x)) = x.come

-- two machines on their courses with one budget, where the revisions of one begin with those of the other
on-agree : (profile : Profile) (slices : ℕ) (s t : SoloMachine) (more : List Posted) → t.revisions ≡ s.revisions ++ more → IsOnCourse profile slices s → IsOnCourse profile slices t → Agree s.answers t.answers
on-agree profile slices s t more e (n, h) (m, k) = courses-agree profile slices (s.revisions ++ more) n m s.answers t.answers (went-more profile slices s.revisions more n h.went) (subst (λ (rs : List Posted). WentOn profile slices rs m) e k.went) (subst (λ (c : Course). ComeFrom c s.answers) (sym (course-more profile slices s.revisions more n h.went)) (come-along profile slices n s h)) (subst (λ (rs : List Posted). ComeFrom (course profile slices rs m) t.answers) e (come-along profile slices m t k)) (le-or_lt n m)

-- the log of one begins with that of the other
pub log-along : (profile : Profile) (slices n : ℕ) (s : SoloMachine) → IsAlong profile slices s n → s.log ≡ (course profile slices s.revisions n).log
log-along profile slices n s h = by_stand h.stands
  where
    by_stand : IsOpen s (course profile slices s.revisions n) ⊎ ((goal : ℕ) × IsSettled s (course profile slices s.revisions n) goal) → s.log ≡ (course profile slices s.revisions n).log
    by_stand (inl x) = ap (λ (c : Course). c.log) x.same
    by_stand (inr (goal, x)) = x.log

on-logs : (profile : Profile) (slices : ℕ) (s t : SoloMachine) (more : List Posted) → t.revisions ≡ s.revisions ++ more → IsOnCourse profile slices s → IsOnCourse profile slices t → IsFront s.log t.log ⊎ IsFront t.log s.log
on-logs profile slices s t more e (n, h) (m, k) = courses-logs profile slices (s.revisions ++ more) n m s.log t.log (log-along profile slices n s h ∙ ap (λ (c : Course). c.log) (sym (course-more profile slices s.revisions more n h.went))) (log-along profile slices m t k ∙ ap (λ (rs : List Posted). (course profile slices rs m).log) e) (le-or_lt n m)

following-agree : (profile : Profile) (slices : ℕ) (s t : SoloMachine) (more : List Posted) → t.revisions ≡ s.revisions ++ more → IsFollowing profile slices s → IsFollowing profile slices t → AgreeAll s t
following-agree profile slices s t more e h k =
    let agree : Agree s.answers t.answers = on-agree profile slices s t more e h.on k.on in
    record { answers = agree; replies = replies-agree s t more e (h.on.1.alone.solvers ∙ sym k.on.1.alone.solvers) h.kept k.kept (on-logs profile slices s t more e h.on k.on) agree }

pub singles-agree : SinglesAgree
singles-agree ask asked own others more budget solvers one other front = following-agree ask.profile ask.slices (solo (Opened ask ∷ own)) (solo (Opened asked ∷ others)) more front (single-follows ask own one) (subst (λ (p : Profile). IsFollowing p ask.slices (solo (Opened asked ∷ others))) (sym solvers) (subst (λ (k : ℕ). IsFollowing asked.profile k (solo (Opened asked ∷ others))) (sym budget) (single-follows asked others other)))

pub none-is_due : NoneIsDue
none-is_due s low =
    let small : nat_le 2 s.volume ≡ false = lt-leb 2 s.volume (omega arith) in
    ap (λ (b : Bool). b && nat_le (2 * s.volume) s.ran) small
