-- What a job that one node runs answers to a revision is decided by the revisions up to it.
use Rattle.std.proofs.Common.{◌≡◌, ℕ, zero, suc, ◌+◌, ◌-◌, ◌<◌, ◌≤◌, true, List, [], ◌∷◌, ◌++◌, length, min, take, drop, get_or, Option, Some, inl, inr, ◌⊎◌, refl, sym, ◌∙◌, ap, subst, arith, append_assoc, append-nil, length-append}
use Rattle.std.specs.Prelude.{slice_get}
use Rattle.std.specs.List.{list_all}
use Rattle.std.proofs.lemmas.Bool.{and_parts, cases_lt}
use Rattle.std.proofs.lemmas.List.{length-take, take-append-drop, take-append-le}
use Rattle.std.proofs.lemmas.Option.{slice_get_within, slice_get-get_or}
use Rattle.mal_base.specs.declared.profile.Profile.{Profile}
use Rattle.mal_base.specs.Asks.{Terms}
use Rattle.mal_base.specs.NumberedClause.{Line}
use Rattle.mal_base.specs.declared.answer.Answer.{Answer}
use Rattle.mal_base.specs.declared.answer.Answer.TheVariants.{OutOfStarts}
use Rattle.mal_base.specs.declared.verdict.Outcome.{Outcome}
use Rattle.mal_revision.specs.Posted.{Posted}
use Rattle.spec_report.specs.Replies.{reply_text}
use Rattle.spec_search.specs.Slice.{Sliced}
use Rattle.spec_job.specs.DemandOne.{is_single, IsSingle, Agree}
use Rattle.spec_job.specs.DemandOneUpTo.{AgreeOn, SinglesAgreeUpTo}
use Rattle.spec_job.specs.Journal.{Run, replay, loads_in, loads_of}
use Rattle.spec_job.specs.Models.{KeepsAnswers}
use Rattle.spec_job.specs.Replies.{body_by, reply}
use Rattle.spec_job.specs.Runnable.{MayHappen, IsRunnable}
use Rattle.spec_job.specs.SoloMachine.{Own, Opened, Revised, Reasked, Closed, Volume, Started, Finished, Exchanged, Lease, NodeSlot, SoloMachine, solo, solo_step, place_at, first_empty, settled_by, clauses_in, finished_home, finished}
use Rattle.spec_job.specs.KeyedJob.{Key}
use Rattle.spec_job.proofs.PushLemmas.{events-keep}
use Rattle.spec_job.proofs.AgreeLemmas.{ComeFrom, courses-agree, le-or_lt, IsFront, courses-logs}
use Rattle.spec_job.proofs.AlongLemmas.{IsAlong}
use Rattle.spec_job.proofs.CourseLemmas.{Course, course, concluded-leaves, next_adds, GoesOn, WentOn, course-more}
use Rattle.spec_job.proofs.FinishLemmas.{slice_of, settled-leaves, finished-leaves}
use Rattle.spec_job.proofs.ElementLemmas.{get-front}
use Rattle.spec_job.proofs.KeptLemmas.{MachineInvariant, step-kept}
use Rattle.spec_job.proofs.LoadedLemmas.{loads_in-append, loads_in-loads}
use Rattle.spec_job.proofs.ReplyLemmas.{told-same, reply-at}
use Rattle.spec_job.proofs.SingleLemmas.{IsOnCourse, GoesOneOn, IsFollowing, step-on, opened-follows, come-along, log-along}
use Rattle.spec_job.proofs.StayLemmas.{stays-self, stays-on, step-stays}

-- a machine grows: lines and revisions come after those that there are
record HasGrown (s t : SoloMachine) : Type 0 where
  pub lines : List Line
  pub log : t.log ≡ s.log ++ lines
  pub more : List Posted
  pub revisions : t.revisions ≡ s.revisions ++ more

unchanged : (s t : SoloMachine) → t.log ≡ s.log → t.revisions ≡ s.revisions → HasGrown s t
unchanged s t l r = record { lines = []; log = l ∙ sym (append-nil s.log); more = []; revisions = r ∙ sym (append-nil s.revisions) }

told-grown : (s h : SoloMachine) (answers : List Answer) → HasGrown s h → HasGrown s (record h { answers = h.answers ++ answers; spent = 0; starved = 0 })
told-grown s h answers k = record { lines = k.lines; log = k.log; more = k.more; revisions = k.revisions }

counted-grown : (s h : SoloMachine) (spent starved : ℕ) → HasGrown s h → HasGrown s (record h { spent = spent; starved = starved })
counted-grown s h spent starved k = record { lines = k.lines; log = k.log; more = k.more; revisions = k.revisions }

settled-grown : (s h : SoloMachine) (o : Option ℕ) → HasGrown s h → HasGrown s (settled_by o h)
settled-grown s h o k = settled-leaves (HasGrown s) (told-grown s) (counted-grown s) o h k

finished-grown : (s : SoloMachine) (i : ℕ) (p : NodeSlot) (out : Option Lease) (o : Outcome) → HasGrown s (finished s i p out o)
finished-grown s i p out o = finished-leaves (HasGrown s) (told-grown s) (counted-grown s) s i p out o (unchanged s s refl refl) (λ l e. record { lines = (slice_of s i p l).lines; log = refl; more = []; revisions = sym (append-nil s.revisions) }) (unchanged s (finished_home s i p) refl refl)

step-grown : (s : SoloMachine) (o : Own) → HasGrown s (solo_step s o)
step-grown s (Opened ask) = unchanged s (solo_step s (Opened ask)) refl refl
step-grown s (Revised r) = settled-grown s (record s { revisions = s.revisions ++ r ∷ [] }) (first_empty s.log) (record { lines = []; log = sym (append-nil s.log); more = r ∷ []; revisions = refl })
step-grown s (Reasked w) = unchanged s (solo_step s (Reasked w)) refl refl
step-grown s Closed = unchanged s (solo_step s Closed) refl refl
step-grown s (Volume v) = unchanged s (solo_step s (Volume v)) refl refl
step-grown s (Started i) = unchanged s (solo_step s (Started i)) refl refl
step-grown s (Finished i o) = finished-grown s i (place_at s i) (place_at s i).out o
step-grown s Exchanged = unchanged s (solo_step s Exchanged) refl refl

-- a course: its answers become more, and the node has loaded one revision more than have answers at the most
module _ (profile : Profile) (slices : ℕ) (revisions : List Posted) (n : ℕ) where
  abbrev c : Course
  c = course profile slices revisions n

  abbrev ran : Sliced
  ran = replay profile 0 (c.entries ++ next_adds revisions c)

  abbrev before : Course
  before = record c { entries = c.entries ++ next_adds revisions c; log = c.log ++ ran.lines }

  pub more-answers : length (course profile slices revisions n).answers ≤ length (course profile slices revisions (suc n)).answers
  more-answers = concluded-leaves (λ d. length c.answers ≤ length d.answers) (λ d a low. omega (arith, low, length-append d.answers (a ∷ []))) (λ d spent low. low) ran.node.verdict ran.node slices before (omega arith)

  pub next-loads : loads_in (course profile slices revisions n).entries ≤ length (course profile slices revisions n).answers + 1 → loads_in (course profile slices revisions (suc n)).entries ≤ length (course profile slices revisions (suc n)).answers + 1
  next-loads low =
      let k : ℕ = loads_in c.entries in
      let m : ℕ = length c.answers + 1 - k in
      let new : List Posted = take m (drop k revisions) in
      let first : ℕ = clauses_in (take k revisions) + 1 in
      let all : loads_in (c.entries ++ next_adds revisions c) ≡ k + loads_in (next_adds revisions c) = loads_in-append c.entries (next_adds revisions c) in
      let adds : loads_in (next_adds revisions c) ≡ loads_in (loads_of first new) + 0 = loads_in-append (loads_of first new) (Run ∷ []) in
      let count : loads_in (loads_of first new) ≡ length new = loads_in-loads first new in
      let taken : length new ≡ min m (length (drop k revisions)) = length-take m (drop k revisions) in
      let same : loads_in (course profile slices revisions (suc n)).entries ≡ loads_in (c.entries ++ next_adds revisions c) = concluded-leaves (λ d. loads_in d.entries ≡ loads_in before.entries) (λ d a same. same) (λ d spent same. same) ran.node.verdict ran.node slices before refl in
      omega (arith, low, all, adds, count, taken, same, more-answers)

course-loads : (profile : Profile) (slices : ℕ) (revisions : List Posted) (n : ℕ) → loads_in (course profile slices revisions n).entries ≤ length (course profile slices revisions n).answers + 1
course-loads profile slices revisions zero = omega arith
course-loads profile slices revisions (suc n) = next-loads profile slices revisions n (course-loads profile slices revisions n)

answers-mono : (profile : Profile) (slices : ℕ) (revisions : List Posted) (j n : ℕ) → j ≤ n → length (course profile slices revisions j).answers ≤ length (course profile slices revisions n).answers
answers-mono profile slices revisions zero zero low = omega arith
answers-mono profile slices revisions (suc j) zero low = absurd (omega (arith, low))
answers-mono profile slices revisions j (suc n) low = by_order (cases_lt j (suc n)) (λ less. answers-mono profile slices revisions j n (omega (arith, less)))
  where
    by_order : (j < suc n) ⊎ (suc n ≤ j) → (j < suc n → length (course profile slices revisions j).answers ≤ length (course profile slices revisions n).answers) → length (course profile slices revisions j).answers ≤ length (course profile slices revisions (suc n)).answers
    by_order (inl less) rest = let more : length (course profile slices revisions n).answers ≤ length (course profile slices revisions (suc n)).answers = more-answers profile slices revisions n in omega (arith, more, rest less)
    by_order (inr high) rest = let same : j ≡ suc n = omega (arith, high, low) in subst (λ (k : ℕ). length (course profile slices revisions j).answers ≤ length (course profile slices revisions k).answers) same (omega arith)

went-down : (profile : Profile) (slices : ℕ) (revisions : List Posted) (j n : ℕ) → j ≤ n → WentOn profile slices revisions n → WentOn profile slices revisions j
went-down profile slices revisions zero n low w = tt
went-down profile slices revisions (suc j) zero low w = absurd (omega (arith, low))
went-down profile slices revisions (suc j) (suc n) low w = by_order (cases_lt (suc j) (suc n)) (λ less. went-down profile slices revisions (suc j) n (omega (arith, less)) w.0)
  where
    by_order : (suc j < suc n) ⊎ (suc n ≤ suc j) → (suc j < suc n → WentOn profile slices revisions (suc j)) → WentOn profile slices revisions (suc j)
    by_order (inl less) rest = rest less
    by_order (inr high) rest = let same : n ≡ j = omega (arith, high, low) in subst (λ (k : ℕ). WentOn profile slices revisions (suc k)) same w

-- a course goes on by the revisions up to one that it has not answered before its last slice
abbrev HasLeft : Profile → ℕ → List Posted → ℕ → ℕ → Type 0
HasLeft profile slices revisions r zero = Unit {0}
HasLeft profile slices revisions r (suc n) = length (course profile slices revisions n).answers ≤ r

left-before : (profile : Profile) (slices : ℕ) (revisions : List Posted) (r n : ℕ) → length (course profile slices revisions n).answers ≤ r → HasLeft profile slices revisions r n
left-before profile slices revisions r zero low = tt
left-before profile slices revisions r (suc k) low = let more : length (course profile slices revisions k).answers ≤ length (course profile slices revisions (suc k)).answers = more-answers profile slices revisions k in omega (arith, more, low)

front-on : (profile : Profile) (slices : ℕ) (front rest : List Posted) (r n : ℕ) → length front ≡ r + 1 → length (course profile slices (front ++ rest) n).answers ≤ r → GoesOn (front ++ rest) (course profile slices (front ++ rest) n) → WentOn profile slices front n → GoesOn front (course profile slices front n)
front-on profile slices front rest r n size low on went =
    let same : course profile slices (front ++ rest) n ≡ course profile slices front n = course-more profile slices front rest n went in
    let loads : loads_in (course profile slices (front ++ rest) n).entries ≤ length (course profile slices (front ++ rest) n).answers + 1 = course-loads profile slices (front ++ rest) n in
    subst (λ (c : Course). GoesOn front c) same (record { live = omega (arith, size, low); loaded = omega (arith, size, low, loads); open_yet = on.open_yet })

went-front : (profile : Profile) (slices : ℕ) (front rest : List Posted) (r n : ℕ) → length front ≡ r + 1 → WentOn profile slices (front ++ rest) n → HasLeft profile slices (front ++ rest) r n → WentOn profile slices front n
went-front profile slices front rest r zero size w left = tt
went-front profile slices front rest r (suc n) size w left =
    let went : WentOn profile slices front n = went-front profile slices front rest r n size w.0 (left-before profile slices (front ++ rest) r n left) in
    (went, front-on profile slices front rest r n size left w.1 went)

-- a machine as it was just after it answered a revision
pub record WasAnswered (profile : Profile) (slices r : ℕ) (s : SoloMachine) : Type 0 where
  pub was : SoloMachine
  pub ran : ℕ
  pub kept : MachineInvariant was
  pub along : IsAlong profile slices was ran
  pub went : WentOn profile slices (take (r + 1) was.revisions) ran
  pub answered_then : r < length was.answers
  pub stay : KeepsAnswers was s
  pub lines : List Line
  pub log : s.log ≡ was.log ++ lines
  pub same : take (r + 1) s.revisions ≡ take (r + 1) was.revisions

-- a revision has no answer yet, or it was answered so
abbrev Stands : Profile → ℕ → ℕ → SoloMachine → Type 0
Stands profile slices r s = (length s.answers ≤ r) ⊎ WasAnswered profile slices r s

come-short : (c : Course) (answers : List Answer) → ComeFrom c answers → length c.answers ≤ length answers
come-short c answers h = by_order (cases_lt (length answers) (length c.answers))
  where
    by_order : (length answers < length c.answers) ⊎ (length c.answers ≤ length answers) → length c.answers ≤ length answers
    by_order (inr low) = low
    by_order (inl high) =
        let at : slice_get c.answers (length answers) ≡ Some (get_or c.answers (length answers) OutOfStarts) = slice_get-get_or c.answers (length answers) OutOfStarts high in
        let there : length answers < length answers = slice_get_within answers (length answers) (get_or c.answers (length answers) OutOfStarts) (h.kept (length answers) (get_or c.answers (length answers) OutOfStarts) at) in
        absurd (omega (arith, there))

-- the course before the last slice has answered no more than the machine before the event
left-after : (profile : Profile) (slices r n m : ℕ) (s t : SoloMachine) → (more : List Posted) → t.revisions ≡ s.revisions ++ more → m ≤ suc n → IsAlong profile slices s n → length s.answers ≤ r → HasLeft profile slices t.revisions r m
left-after profile slices r n zero s t more e low along few = tt
left-after profile slices r n (suc j) s t more e low along few =
    let went : WentOn profile slices s.revisions j = went-down profile slices s.revisions j n (omega (arith, low)) along.went in
    let same : course profile slices t.revisions j ≡ course profile slices s.revisions j = ap (λ (rs : List Posted). course profile slices rs j) e ∙ course-more profile slices s.revisions more j went in
    let mono : length (course profile slices s.revisions j).answers ≤ length (course profile slices s.revisions n).answers = answers-mono profile slices s.revisions j n (omega (arith, low)) in
    let short : length (course profile slices s.revisions n).answers ≤ length s.answers = come-short (course profile slices s.revisions n) s.answers (come-along profile slices n s along) in
    subst (λ (c : Course). length c.answers ≤ r) (sym same) (omega (arith, mono, short, few))

front-size : (r : ℕ) (ps : List Posted) → r < length ps → length (take (r + 1) ps) ≡ r + 1
front-size r ps low = let taken : length (take (r + 1) ps) ≡ min (r + 1) (length ps) = length-take (r + 1) ps in omega (arith, taken, low)

step-stands : (profile : Profile) (slices r n : ℕ) (s : SoloMachine) (o : Own) → MayHappen s o → is_single o ≡ true → MachineInvariant s → IsAlong profile slices s n → Stands profile slices r s → Stands profile slices r (solo_step s o)
step-stands profile slices r n s o may single kept along (inr w) =
    let grown : HasGrown s (solo_step s o) = step-grown s o in
    let stayed : length w.was.answers ≤ length s.answers = omega (arith, ap (λ (xs : List Answer). length xs) w.stay.kept, length-append w.was.answers w.stay.more) in
    let order : length s.answers ≤ length s.revisions = kept.solving.order in
    inr (record {
      was = w.was;
      ran = w.ran;
      kept = w.kept;
      along = w.along;
      went = w.went;
      answered_then = w.answered_then;
      stay = stays-on w.was s (solo_step s o) w.stay (step-stays s o);
      lines = w.lines ++ grown.lines;
      log = grown.log ∙ (ap (λ (ls : List Line). ls ++ grown.lines) w.log ∙ append_assoc w.was.log w.lines grown.lines);
      same = ap (λ (ps : List Posted). take (r + 1) ps) grown.revisions ∙ (take-append-le (r + 1) s.revisions grown.more (omega (arith, stayed, order, w.answered_then)) ∙ w.same);
    })
step-stands profile slices r n s o may single kept along (inl few) = by_order (cases_lt r (length t.answers))
  where
    t : SoloMachine
    t = solo_step s o

    after : MachineInvariant t
    after = step-kept s o may kept

    on : GoesOneOn profile slices n t
    on = step-on profile slices n s o may single kept after along

    grown : HasGrown s t
    grown = step-grown s o

    answered-now : r < length t.answers → WasAnswered profile slices r t
    answered-now high =
        let order : length t.answers ≤ length t.revisions = after.solving.order in
        let all : take (r + 1) t.revisions ++ drop (r + 1) t.revisions ≡ t.revisions = take-append-drop (r + 1) t.revisions in
        let left : HasLeft profile slices t.revisions r on.0 = left-after profile slices r n on.0 s t grown.more grown.revisions on.1 along few in
        record {
          was = t;
          ran = on.0;
          kept = after;
          along = on.2;
          went = went-front profile slices (take (r + 1) t.revisions) (drop (r + 1) t.revisions) r on.0 (front-size r t.revisions (omega (arith, high, order))) (subst (λ (ps : List Posted). WentOn profile slices ps on.0) (sym all) on.2.went) (subst (λ (ps : List Posted). HasLeft profile slices ps r on.0) (sym all) left);
          answered_then = high;
          stay = stays-self t;
          lines = [];
          log = sym (append-nil t.log);
          same = refl;
        }

    by_order : (r < length t.answers) ⊎ (length t.answers ≤ r) → Stands profile slices r t
    by_order (inl high) = inr (answered-now high)
    by_order (inr low) = inl low

-- of a whole run
record IsTraced (profile : Profile) (slices r : ℕ) (s : SoloMachine) : Type 0 where
  pub kept : MachineInvariant s
  pub on : IsOnCourse profile slices s
  pub stands : Stands profile slices r s

events-traced : (profile : Profile) (slices r : ℕ) (past events : List Own) → IsRunnable past events → list_all is_single events ≡ true → IsTraced profile slices r (solo past) → IsTraced profile slices r (solo (past ++ events))
events-traced profile slices r past events may single h = events-keep (IsTraced profile slices r) (λ before os. IsRunnable before os × (list_all is_single os ≡ true)) (λ before o os q k.
    let parts = and_parts (is_single o) (list_all is_single os) q.1 in
    let after : MachineInvariant (solo_step (solo before) o) = step-kept (solo before) o q.0.0 k.kept in
    let on : GoesOneOn profile slices k.on.0 (solo_step (solo before) o) = step-on profile slices k.on.0 (solo before) o q.0.0 parts.0 k.kept after k.on.1 in
    (record { kept = after; on = (on.0, on.2); stands = step-stands profile slices r k.on.0 (solo before) o q.0.0 parts.0 k.kept k.on.1 k.stands }, (q.0.1, parts.1))) past events (may, single) h

single-traced : (ask : Terms) (own : List Own) (r : ℕ) → IsSingle ask own → IsTraced ask.profile ask.slices r (solo (Opened ask ∷ own))
single-traced ask own r h =
    let opened : IsFollowing ask.profile ask.slices (solo (Opened ask ∷ [])) = opened-follows ask in
    events-traced ask.profile ask.slices r (Opened ask ∷ []) own h.runnable.1 h.single (record { kept = opened.kept; on = opened.on; stands = inl (omega arith) })

-- two machines just after they answered a revision, where the revisions up to it are the same
module _ (profile : Profile) (slices r : ℕ) (s t : SoloMachine) (v : WasAnswered profile slices r s) (w : WasAnswered profile slices r t) (alike : take (r + 1) s.revisions ≡ take (r + 1) t.revisions) where
  abbrev front : List Posted
  front = take (r + 1) v.was.revisions

  fronts : take (r + 1) w.was.revisions ≡ front
  fronts = sym w.same ∙ (sym alike ∙ v.same)

  course-v : course profile slices v.was.revisions v.ran ≡ course profile slices front v.ran
  course-v = ap (λ (ps : List Posted). course profile slices ps v.ran) (sym (take-append-drop (r + 1) v.was.revisions)) ∙ course-more profile slices front (drop (r + 1) v.was.revisions) v.ran v.went

  course-w : course profile slices w.was.revisions w.ran ≡ course profile slices front w.ran
  course-w = ap (λ (ps : List Posted). course profile slices ps w.ran) (sym (take-append-drop (r + 1) w.was.revisions)) ∙ (course-more profile slices (take (r + 1) w.was.revisions) (drop (r + 1) w.was.revisions) w.ran w.went ∙ ap (λ (ps : List Posted). course profile slices ps w.ran) fronts)

  pub were-agreed : Agree v.was.answers w.was.answers
  were-agreed = courses-agree profile slices front v.ran w.ran v.was.answers w.was.answers v.went (subst (λ (ps : List Posted). WentOn profile slices ps w.ran) fronts w.went) (subst (λ (c : Course). ComeFrom c v.was.answers) course-v (come-along profile slices v.ran v.was v.along)) (subst (λ (c : Course). ComeFrom c w.was.answers) course-w (come-along profile slices w.ran w.was w.along)) (le-or_lt v.ran w.ran)

  pub were-fronts : IsFront v.was.log w.was.log ⊎ IsFront w.was.log v.was.log
  were-fronts = courses-logs profile slices front v.ran w.ran v.was.log w.was.log (log-along profile slices v.ran v.was v.along ∙ ap (λ (c : Course). c.log) course-v) (log-along profile slices w.ran w.was w.along ∙ ap (λ (c : Course). c.log) course-w) (le-or_lt v.ran w.ran)

-- the answer that it gave then is the one that it has
answer-then : (profile : Profile) (slices r : ℕ) (s : SoloMachine) (v : WasAnswered profile slices r s) (a : Answer) → slice_get s.answers r ≡ Some a → slice_get v.was.answers r ≡ Some a
answer-then profile slices r s v a e =
    let x : Answer = get_or v.was.answers r OutOfStarts in
    let at : slice_get v.was.answers r ≡ Some x = slice_get-get_or v.was.answers r OutOfStarts v.answered_then in
    let now : slice_get s.answers r ≡ Some x = ap (λ (xs : List Answer). slice_get xs r) v.stay.kept ∙ get-front v.was.answers v.stay.more r x at in
    let same : x ≡ a = cc in
    subst (λ (y : Answer). slice_get v.was.answers r ≡ Some y) same at

was-answered : (profile : Profile) (slices r : ℕ) (s : SoloMachine) (a : Answer) → Stands profile slices r s → slice_get s.answers r ≡ Some a → WasAnswered profile slices r s
was-answered profile slices r s a (inl few) e = let within : r < length s.answers = slice_get_within s.answers r a e in absurd (omega (arith, few, within))
was-answered profile slices r s a (inr w) e = w

-- what was told then is what is told now
told-then : (profile : Profile) (slices r : ℕ) (s : SoloMachine) (v : WasAnswered profile slices r s) (a : Answer) → MachineInvariant s → slice_get s.answers r ≡ Some a → body_by s r a ≡ body_by v.was r a
told-then profile slices r s v a kept e = sym (told-same v.was s r a v.kept kept (inl (v.lines, v.log)) (sym v.same) (answer-then profile slices r s v a e) e)

traced-agree : (profile : Profile) (slices r : ℕ) (s t : SoloMachine) → IsTraced profile slices r s → IsTraced profile slices r t → take (r + 1) s.revisions ≡ take (r + 1) t.revisions → AgreeOn r s t
traced-agree profile slices r s t h k alike = record { answers = answers; replies = λ key a b e f. replies key a b (subst (λ (n : ℕ). reply key n s ≡ Some a) next e) (subst (λ (n : ℕ). reply key n t ≡ Some b) next f) }
  where
    next : r + 1 ≡ suc r
    next = omega arith

    answers : (a b : Answer) → slice_get s.answers r ≡ Some a → slice_get t.answers r ≡ Some b → a ≡ b
    answers a b e f =
        let v : WasAnswered profile slices r s = was-answered profile slices r s a h.stands e in
        let w : WasAnswered profile slices r t = was-answered profile slices r t b k.stands f in
        were-agreed profile slices r s t v w alike r a b (answer-then profile slices r s v a e) (answer-then profile slices r t w b f)

    by_answers : (key : Key) (a b : List ℕ) → (x : Answer) × (slice_get s.answers r ≡ Some x) × (reply_text key.tenant key.job (suc r) s.ask.profile (body_by s r x) ≡ a) → (y : Answer) × (slice_get t.answers r ≡ Some y) × (reply_text key.tenant key.job (suc r) t.ask.profile (body_by t r y) ≡ b) → a ≡ b
    by_answers key a b (x, p, i) (y, q, j) =
        let v : WasAnswered profile slices r s = was-answered profile slices r s x h.stands p in
        let w : WasAnswered profile slices r t = was-answered profile slices r t y k.stands q in
        let same : x ≡ y = answers x y p q in
        let theirs : slice_get w.was.answers r ≡ Some x = subst (λ (z : Answer). slice_get w.was.answers r ≡ Some z) (sym same) (answer-then profile slices r t w y q) in
        let between : body_by v.was r x ≡ body_by w.was r x = told-same v.was w.was r x v.kept w.kept (were-fronts profile slices r s t v w alike) (sym v.same ∙ (alike ∙ w.same)) (answer-then profile slices r s v x p) theirs in
        let all : body_by s r x ≡ body_by t r y = told-then profile slices r s v x h.kept p ∙ (between ∙ (ap (body_by w.was r) same ∙ sym (told-then profile slices r t w y k.kept q))) in
        sym i ∙ (ap (reply_text key.tenant key.job (suc r) s.ask.profile) all ∙ (ap (λ (p : Profile). reply_text key.tenant key.job (suc r) p (body_by t r y)) (h.on.1.alone.solvers ∙ sym k.on.1.alone.solvers) ∙ j))

    replies : (key : Key) (a b : List ℕ) → reply key (suc r) s ≡ Some a → reply key (suc r) t ≡ Some b → a ≡ b
    replies key a b e f = by_answers key a b (reply-at key s r a e) (reply-at key t r b f)

pub singles-agree_up_to : SinglesAgreeUpTo
singles-agree_up_to ask asked own others r budget solvers one other alike = traced-agree ask.profile ask.slices r (solo (Opened ask ∷ own)) (solo (Opened asked ∷ others)) (single-traced ask own r one) (subst (λ (p : Profile). IsTraced p ask.slices r (solo (Opened asked ∷ others))) (sym solvers) (subst (λ (k : ℕ). IsTraced asked.profile k r (solo (Opened asked ∷ others))) (sym budget) (single-traced asked others r other))) alike
