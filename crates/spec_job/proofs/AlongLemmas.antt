-- Where a job that one node runs stands on its course, and its starts.
use Rattle.std.proofs.Common.{◌≡◌, ℕ, zero, suc, ◌+◌, ◌-◌, ◌<◌, ◌≤◌, List, [], ◌∷◌, ◌++◌, length, map, drop, get_or, replicate, Option, Some, None, inl, inr, ◌⊎◌, refl, sym, ◌∙◌, ap, subst, arith, length-append}
use Rattle.std.specs.Prelude.{slice_get, slice_set}
use Rattle.std.proofs.lemmas.List.{length-replicate, length-set}
use Rattle.mal_base.specs.declared.profile.Profile.{Profile}
use Rattle.mal_base.specs.Asks.{Terms}
use Rattle.mal_base.specs.declared.answer.Answer.{Answer}
use Rattle.mal_base.specs.declared.answer.Answer.TheVariants.{Refuted}
use Rattle.mal_base.specs.NumberedClause.{NumberedClause}
use Rattle.mal_revision.specs.Posted.{Posted}
use Rattle.spec_job.specs.Journal.{JournalEntry, Import, Run, imports_in}
use Rattle.spec_job.specs.SoloMachine.{Started, Lease, NodeSlot, vacant, SoloMachine, solo_step, place_at, missing_loads, first_empty, settled_by}
use Rattle.spec_job.proofs.ElementLemmas.{get-repeated, get-front}
use Rattle.spec_job.proofs.PlacesLemmas.{set-here}
use Rattle.spec_job.proofs.SolvingLemmas.{lease_of}
use Rattle.spec_job.proofs.CourseLemmas.{Course, next_adds, course, WentOn}
use Rattle.spec_job.proofs.AgreeLemmas.{ComeFrom}

-- where a machine stands
abbrev pub course_of : SoloMachine → Course
course_of s = record { entries = (place_at s 0).entries; log = s.log; answers = s.answers; spent = s.spent }

-- a start of the one node
abbrev pub lease_from : List Posted → Course → Lease
lease_from revisions c = record { revision = length c.answers; adds = next_adds revisions c }

-- the one node may still run: it stands at its course, and a start that is out goes on with it
pub record IsOpen (s : SoloMachine) (c : Course) : Type 0 where
  pub none : first_empty c.log ≡ None
  pub same : course_of s ≡ c
  pub leased : (l : Lease) → (place_at s 0).out ≡ Some l → (length c.answers < length s.revisions) × (l ≡ lease_from s.revisions c)

-- an empty clause has answered every revision
pub record IsSettled (s : SoloMachine) (c : Course) (goal : ℕ) : Type 0 where
  pub found : first_empty c.log ≡ Some goal
  pub log : s.log ≡ c.log
  pub idle : (place_at s 0).out ≡ None
  pub all : length s.answers ≡ length s.revisions
  pub come : ComeFrom c s.answers

-- a job that one node runs alone: its terms, its volume, nothing is told, and no place but the first is out
pub record IsAlone (profile : Profile) (slices : ℕ) (ask : Terms) (volume : ℕ) (broadcasts : List (List NumberedClause)) (places : List NodeSlot) : Type 0 where
  pub budget : ask.slices ≡ slices
  pub solvers : ask.profile ≡ profile
  pub low : volume ≤ 1
  pub unexported : broadcasts ≡ []
  pub some : 1 ≤ length places
  pub others : (i : ℕ) → (get_or places (suc i) vacant).out ≡ None

abbrev pub IsAloneSolo : Profile → ℕ → SoloMachine → Type 0
IsAloneSolo profile slices s = IsAlone profile slices s.ask s.volume s.broadcasts s.places

-- a machine whose one node has run so many slices of its course
pub record IsAlong (profile : Profile) (slices : ℕ) (s : SoloMachine) (n : ℕ) : Type 0 where
  pub alone : IsAloneSolo profile slices s
  pub went : WentOn profile slices s.revisions n
  pub stands : IsOpen s (course profile slices s.revisions n) ⊎ ((goal : ℕ) × IsSettled s (course profile slices s.revisions n) goal)

-- answers of a course, and those of an empty clause after them
pub come-itself : (c : Course) → ComeFrom c c.answers
come-itself c = record { kept = λ r a e. e; given = λ r a e. inl e }

pub come-more : (c : Course) (answers : List Answer) (k goal : ℕ) → first_empty c.log ≡ Some goal → ComeFrom c answers → ComeFrom c (answers ++ replicate k (Refuted goal))
come-more c answers k goal found h = record {
  kept = λ r a e. get-front answers (replicate k (Refuted goal)) r a (h.kept r a e);
  given = λ r a e. by_place r a (get-repeated answers k (Refuted goal) a r e);
}
  where
    by_place : (r : ℕ) (a : Answer) → ((length answers ≤ r) × (Refuted goal ≡ a)) ⊎ (slice_get answers r ≡ Some a) → (slice_get c.answers r ≡ Some a) ⊎ ((g : ℕ) × (first_empty c.log ≡ Some g) × (a ≡ Refuted g))
    by_place r a (inl p) = inr (goal, found, sym p.1)
    by_place r a (inr p) = h.given r a p

no-imports : (k : ℕ) (tolds : List (List NumberedClause)) → tolds ≡ [] → map Import (drop k tolds) ≡ []
no-imports zero [] e = refl
no-imports (suc k) [] e = refl
no-imports zero (t ∷ ts) e = absurd (cc)
no-imports (suc k) (t ∷ ts) e = absurd (cc)

lease-with : SoloMachine → List JournalEntry → Lease
lease-with s es = record { revision = length s.answers; adds = missing_loads s (place_at s 0) ++ (es ++ Run ∷ []) }

start-next : (s : SoloMachine) (c : Course) → s.broadcasts ≡ [] → course_of s ≡ c → lease_of s 0 ≡ lease_from s.revisions c
unfolding lease-with
start-next s c unexported same = ap (lease-with s) (no-imports (imports_in (place_at s 0).entries) s.broadcasts unexported) ∙ ap (lease_from s.revisions) same

-- the machine stands at the end of a slice, before what an empty clause answers
pub record IsThere (profile : Profile) (slices : ℕ) (t : SoloMachine) (n : ℕ) : Type 0 where
  pub alone : IsAloneSolo profile slices t
  pub went : WentOn profile slices t.revisions n
  pub same : course_of t ≡ course profile slices t.revisions n
  pub idle : (place_at t 0).out ≡ None

pub there-settled : (profile : Profile) (slices n : ℕ) (t : SoloMachine) (o : Option ℕ) → first_empty t.log ≡ o → length (settled_by o t).answers ≤ length t.revisions → IsThere profile slices t n → IsAlong profile slices (settled_by o t) n
there-settled profile slices n t None e order h = record {
  alone = h.alone;
  went = h.went;
  stands = inl (record { none = subst (λ (c : Course). first_empty c.log ≡ None) h.same e; same = h.same; leased = λ l out. absurd (let bad : None ≡ Some l = sym h.idle ∙ out in cc) });
}
there-settled profile slices n t (Some goal) e order h = record {
  alone = h.alone;
  went = h.went;
  stands = inr (goal, record { found = found; log = ap (λ (c : Course). c.log) h.same; idle = h.idle; all = all; come = come-more (course profile slices t.revisions n) t.answers more goal found (subst (λ (c : Course). ComeFrom c t.answers) h.same (come-itself (course_of t))) });
}
  where
    more : ℕ
    more = length t.revisions - length t.answers

    found : first_empty (course profile slices t.revisions n).log ≡ Some goal
    found = subst (λ (c : Course). first_empty c.log ≡ Some goal) h.same e

    all : length (t.answers ++ replicate more (Refuted goal)) ≡ length t.revisions
    all =
        let long : length (t.answers ++ replicate more (Refuted goal)) ≡ length t.answers + length (replicate more (Refuted goal)) = length-append t.answers (replicate more (Refuted goal)) in
        let count : length (replicate more (Refuted goal)) ≡ more = length-replicate more (Refuted goal) in
        let most : length (t.answers ++ replicate more (Refuted goal)) ≤ length t.revisions = order in
        omega arith

-- the place of the one node is set, and the others stay
set-others : (ps : List NodeSlot) (q : NodeSlot) (i : ℕ) → get_or (slice_set ps 0 q) (suc i) vacant ≡ get_or ps (suc i) vacant
set-others [] q i = refl
set-others (p ∷ ps) q i = refl

pub alone-set : (profile : Profile) (slices : ℕ) (s : SoloMachine) (q : NodeSlot) → IsAloneSolo profile slices s → IsAlone profile slices s.ask s.volume s.broadcasts (slice_set s.places 0 q)
alone-set profile slices s q h = record {
  budget = h.budget;
  solvers = h.solvers;
  low = h.low;
  unexported = h.unexported;
  some = subst (λ (n : ℕ). 1 ≤ n) (sym (length-set s.places 0 q)) h.some;
  others = λ i. ap (λ (p : NodeSlot). p.out) (set-others s.places q i) ∙ h.others i;
}

pub set-first : (ps : List NodeSlot) (q : NodeSlot) → 1 ≤ length ps → get_or (slice_set ps 0 q) 0 vacant ≡ q
set-first ps q h = set-here ps 0 q (omega arith)

-- a start of the one node
pub started-along : (profile : Profile) (slices n : ℕ) (s : SoloMachine) → length s.answers < length s.revisions → IsAlong profile slices s n → IsAlong profile slices (solo_step s (Started 0)) n
started-along profile slices n s live h = record {
  alone = alone-set profile slices s q h.alone;
  went = h.went;
  stands = by_stand h.stands;
}
  where
    c : Course
    c = course profile slices s.revisions n

    q : NodeSlot
    q = record (place_at s 0) { out = Some (lease_of s 0); starts = (place_at s 0).starts + 1 }

    here : get_or (slice_set s.places 0 q) 0 vacant ≡ q
    here = set-first s.places q h.alone.some

    open-started : IsOpen s c → IsOpen (solo_step s (Started 0)) c
    open-started k = record {
      none = k.none;
      same = ap (λ (p : NodeSlot). record { entries = p.entries; log = s.log; answers = s.answers; spent = s.spent }) here ∙ k.same;
      leased = λ l e.
          let out : Some (lease_of s 0) ≡ Some l = sym (ap (λ (p : NodeSlot). p.out) here) ∙ e in
          let same : lease_of s 0 ≡ l = cc in
          (subst (λ (x : Course). length x.answers < length s.revisions) k.same live, sym same ∙ start-next s c h.alone.unexported k.same);
    }

    by_stand : IsOpen s c ⊎ ((goal : ℕ) × IsSettled s c goal) → IsOpen (solo_step s (Started 0)) c ⊎ ((goal : ℕ) × IsSettled (solo_step s (Started 0)) c goal)
    by_stand (inl k) = inl (open-started k)
    by_stand (inr (goal, k)) = absurd (let all : length s.answers ≡ length s.revisions = k.all in omega arith)
