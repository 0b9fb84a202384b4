-- The course of a job that one node runs: slice after slice, whatever own events lie between them.
use Rattle.std.proofs.Common.{◌≡◌, ℕ, zero, suc, ◌+◌, ◌-◌, ◌<◌, ◌≤◌, Bool, true, false, cond, ◌==◌, List, [], ◌∷◌, ◌++◌, length, take, drop, Option, Some, None, refl, sym, ◌∙◌, ap, subst, arith, append_assoc, append-nil, length-append}
use Rattle.std.specs.Prelude.{slice_get}
use Rattle.std.proofs.lemmas.List.{take-append-le}
use Rattle.mal_base.specs.declared.profile.Profile.{Profile}
use Rattle.mal_base.specs.NumberedClause.{Line}
use Rattle.mal_base.specs.declared.answer.Answer.{Answer}
use Rattle.mal_base.specs.declared.answer.Answer.TheVariants.{Satisfied, Refuted, Spent}
use Rattle.mal_base.specs.declared.verdict.Verdict.{Verdict}
use Rattle.mal_base.specs.declared.verdict.Verdict.TheVariants.{Satisfiable, Unsatisfiable}
use Rattle.mal_revision.specs.Posted.{Posted}
use Rattle.spec_node.specs.State.{Node}
use Rattle.spec_node.specs.Model.{model_of}
use Rattle.spec_search.specs.Slice.{Sliced}
use Rattle.spec_job.specs.Journal.{JournalEntry, Run, replay, loads_in, loads_of}
use Rattle.spec_job.specs.SoloMachine.{clauses_in, first_empty}
use Rattle.spec_job.proofs.ElementLemmas.{get-front}

-- how far a node has come: its journal, the log, the answers before an empty clause gives more, and the slices spent
pub record Course : Type 0 where
  pub entries : List JournalEntry
  pub log : List Line
  pub answers : List Answer
  pub spent : ℕ

abbrev pub with_answer : Course → Answer → Course
with_answer c a = record c { answers = c.answers ++ a ∷ []; spent = 0 }

abbrev pub concluded : Option Verdict → Node → ℕ → Course → Course
concluded None n slices c = cond (c.spent + 1 == slices) (with_answer c (Spent slices)) (record c { spent = c.spent + 1 })
concluded (Some Satisfiable) n slices c = with_answer c (Satisfied (model_of n))
concluded (Some (Unsatisfiable goal)) n slices c = with_answer c (Refuted goal)

-- what the next start adds
abbrev pub next_adds : List Posted → Course → List JournalEntry
next_adds revisions c = let n = loads_in c.entries in loads_of (clauses_in (take n revisions) + 1) (take (length c.answers + 1 - n) (drop n revisions)) ++ Run ∷ []

abbrev pub ran_on : Profile → ℕ → List JournalEntry → Course → Course
ran_on profile slices adds c = let ran = replay profile 0 (c.entries ++ adds) in concluded ran.node.verdict ran.node slices (record c { entries = c.entries ++ adds; log = c.log ++ ran.lines })

-- one more slice
abbrev pub next : Profile → ℕ → List Posted → Course → Course
next profile slices revisions c = ran_on profile slices (next_adds revisions c) c

-- the course after so many slices
abbrev pub course : Profile → ℕ → List Posted → ℕ → Course
course profile slices revisions zero = record { entries = []; log = []; answers = []; spent = 0 }
course profile slices revisions (suc n) = next profile slices revisions (course profile slices revisions n)

-- a course goes on: a revision is open, the node has loaded no more than were posted, and no empty clause was derived
pub record GoesOn (revisions : List Posted) (c : Course) : Type 0 where
  pub live : length c.answers < length revisions
  pub loaded : loads_in c.entries ≤ length revisions
  pub open_yet : first_empty c.log ≡ None

-- each of so many slices went on
abbrev pub WentOn : Profile → ℕ → List Posted → ℕ → Type 0
WentOn profile slices revisions zero = Unit {0}
WentOn profile slices revisions (suc n) = WentOn profile slices revisions n × GoesOn revisions (course profile slices revisions n)

drop-append : (n : ℕ) (xs ys : List Posted) → n ≤ length xs → drop n (xs ++ ys) ≡ drop n xs ++ ys
drop-append zero xs ys low = refl
drop-append (suc n) [] ys low = absurd (omega arith)
drop-append (suc n) (x ∷ xs) ys low = drop-append n xs ys (omega arith)

length-dropped : (n : ℕ) (xs : List Posted) → length (drop n xs) + n ≡ length xs + (n - length xs)
length-dropped zero xs = omega arith
length-dropped (suc n) [] = omega arith
length-dropped (suc n) (x ∷ xs) = let rest : length (drop n xs) + n ≡ length xs + (n - length xs) = length-dropped n xs in omega arith

-- further revisions change nothing of what an open one is run on
pub adds-more : (revisions more : List Posted) (c : Course) → length c.answers < length revisions → loads_in c.entries ≤ length revisions → next_adds (revisions ++ more) c ≡ next_adds revisions c
adds-more revisions more c live loaded =
    let n : ℕ = loads_in c.entries in
    let m : ℕ = length c.answers + 1 - n in
    let front : take n (revisions ++ more) ≡ take n revisions = take-append-le n revisions more loaded in
    let size : length (drop n revisions) + n ≡ length revisions + (n - length revisions) = length-dropped n revisions in
    let back : take m (drop n (revisions ++ more)) ≡ take m (drop n revisions) = ap (λ (ps : List Posted). take m ps) (drop-append n revisions more loaded) ∙ take-append-le m (drop n revisions) more (omega arith) in
    ap (λ (ps : List Posted). loads_of (clauses_in ps + 1) (take m (drop n (revisions ++ more))) ++ Run ∷ []) front ∙ ap (λ (ps : List Posted). loads_of (clauses_in (take n revisions) + 1) ps ++ Run ∷ []) back

pub course-more : (profile : Profile) (slices : ℕ) (revisions more : List Posted) (n : ℕ) → WentOn profile slices revisions n → course profile slices (revisions ++ more) n ≡ course profile slices revisions n
course-more profile slices revisions more zero w = refl
course-more profile slices revisions more (suc n) w =
    let c : Course = course profile slices revisions n in
    let on : GoesOn revisions c = w.1 in
    ap (next profile slices (revisions ++ more)) (course-more profile slices revisions more n w.0) ∙ ap (λ (adds : List JournalEntry). ran_on profile slices adds c) (adds-more revisions more c on.live on.loaded)

on-more : (revisions more : List Posted) (c : Course) → GoesOn revisions c → GoesOn (revisions ++ more) c
on-more revisions more c h =
    let sum : length (revisions ++ more) ≡ length revisions + length more = length-append revisions more in
    record { live = omega (arith, h.live); loaded = omega (arith, h.loaded); open_yet = h.open_yet }

pub went-more : (profile : Profile) (slices : ℕ) (revisions more : List Posted) (n : ℕ) → WentOn profile slices revisions n → WentOn profile slices (revisions ++ more) n
went-more profile slices revisions more zero w = tt
went-more profile slices revisions more (suc n) w = (went-more profile slices revisions more n w.0, subst (λ (c : Course). GoesOn (revisions ++ more) c) (sym (course-more profile slices revisions more n w.0)) (on-more revisions more (course profile slices revisions n) w.1))

-- so many slices later
abbrev pub beyond : ℕ → ℕ → ℕ
beyond zero n = n
beyond (suc k) n = suc (beyond k n)

beyond-sum : (k n : ℕ) → beyond k n ≡ k + n
beyond-sum zero n = omega arith
beyond-sum (suc k) n = let rest : beyond k n ≡ k + n = beyond-sum k n in omega arith

pub beyond-gap : (n m : ℕ) → n ≤ m → m ≡ beyond (m - n) n
beyond-gap n m low = let sum : beyond (m - n) n ≡ (m - n) + n = beyond-sum (m - n) n in omega arith

-- a course goes on before each later slice
pub went-before : (profile : Profile) (slices : ℕ) (revisions : List Posted) (n k : ℕ) → WentOn profile slices revisions (beyond (suc k) n) → GoesOn revisions (course profile slices revisions n)
went-before profile slices revisions n zero w = w.1
went-before profile slices revisions n (suc k) w = went-before profile slices revisions n k w.0

-- what holds of a course however its answers become more, and however its slices spent are counted
pub concluded-leaves : (P : Course → Type 0) → ((c : Course) (a : Answer) → P c → P (with_answer c a)) → ((c : Course) (spent : ℕ) → P c → P (record c { spent = spent })) → (v : Option Verdict) (n : Node) (slices : ℕ) (c : Course) → P c → P (concluded v n slices c)
concluded-leaves P more counted None n slices c h = by_test (c.spent + 1 == slices)
  where
    by_test : (b : Bool) → P (cond b (with_answer c (Spent slices)) (record c { spent = c.spent + 1 }))
    by_test true = more c (Spent slices) h
    by_test false = counted c (c.spent + 1) h
concluded-leaves P more counted (Some Satisfiable) n slices c h = more c (Satisfied (model_of n)) h
concluded-leaves P more counted (Some (Unsatisfiable goal)) n slices c h = more c (Refuted goal) h

-- answers and lines stay
pub course-answers : (profile : Profile) (slices : ℕ) (revisions : List Posted) (n k r : ℕ) (a : Answer) → slice_get (course profile slices revisions n).answers r ≡ Some a → slice_get (course profile slices revisions (beyond k n)).answers r ≡ Some a
course-answers profile slices revisions n zero r a e = e
course-answers profile slices revisions n (suc k) r a e =
    let c : Course = course profile slices revisions (beyond k n) in
    let ran : Sliced = replay profile 0 (c.entries ++ next_adds revisions c) in
    concluded-leaves (λ d. slice_get d.answers r ≡ Some a) (λ d b e. get-front d.answers (b ∷ []) r a e) (λ d spent e. e) ran.node.verdict ran.node slices (record c { entries = c.entries ++ next_adds revisions c; log = c.log ++ ran.lines }) (course-answers profile slices revisions n k r a e)

pub course-log : (profile : Profile) (slices : ℕ) (revisions : List Posted) (n k : ℕ) → (lines : List Line) × ((course profile slices revisions (beyond k n)).log ≡ (course profile slices revisions n).log ++ lines)
course-log profile slices revisions n zero = ([], sym (append-nil (course profile slices revisions n).log))
course-log profile slices revisions n (suc k) = by_rest (course-log profile slices revisions n k)
  where
    c : Course
    c = course profile slices revisions (beyond k n)

    ran : Sliced
    ran = replay profile 0 (c.entries ++ next_adds revisions c)

    by_rest : (lines : List Line) × (c.log ≡ (course profile slices revisions n).log ++ lines) → (lines : List Line) × ((next profile slices revisions c).log ≡ (course profile slices revisions n).log ++ lines)
    by_rest (lines, e) = (lines ++ ran.lines, concluded-leaves (λ d. d.log ≡ c.log ++ ran.lines) (λ d a same. same) (λ d spent same. same) ran.node.verdict ran.node slices (record c { entries = c.entries ++ next_adds revisions c; log = c.log ++ ran.lines }) refl ∙ (ap (λ (ls : List Line). ls ++ ran.lines) e ∙ append_assoc (course profile slices revisions n).log lines ran.lines))
