-- Revisions after the first that only assume.
use Rattle.std.proofs.Common.{◌≡◌, ℕ, zero, suc, ◌+◌, ◌≤◌, List, [], ◌∷◌, ◌++◌, append-nil, length, map, max, take, fold, Option, Some, refl, sym, ap, ap₂, subst, ◌∙◌, arith}
use Rattle.std.specs.Prelude.{All, slice_get}
use Rattle.std.specs.Option.{option_map}
use Rattle.std.proofs.lemmas.List.Concat.{flat_map-cons}
use Rattle.std.proofs.lemmas.List.Elements.{All-nil, All-cons, All-head, All-tail}
use Rattle.std.proofs.lemmas.List.Sums.{sum_by-cons}
use Rattle.std.proofs.lemmas.Option.{slice_get-map, slice_get_within}
use Rattle.mal_base.specs.Formulas.{literals_of}
use Rattle.mal_revision.specs.Posted.{Posted}
use Rattle.spec_job.specs.Models.{clauses_of, clauses_through, variables_of}
use Rattle.spec_job.specs.SoloMachine.{clauses_in, literals_in}
use Rattle.spec_report.specs.Replies.{ReplyBody}
use Rattle.spec_course.specs.Course.{Asked, Next, Leads}
use Rattle.spec_course.specs.Course.Next.{Asks, Ends}
use Rattle.spec_course.specs.Supported.{IsSupported}
use Rattle.spec_inquiry.specs.Evidence.{IsEvidence, OnlyAssumes, BeginWith}
use Rattle.spec_inquiry.specs.Laws.{AssumingMayAsk, FirstHasAll, InquiryIsSupported}
use Rattle.spec_inquiry.specs.Rounds.{Round, asked_in, revisions_in}
use Rattle.spec_inquiry.specs.Searches.{AsksOnly, StepAssumes}
use Rattle.spec_inquiry.proofs.StayLemmas.{told-is_evident}

max-same : (v : ℕ) → max v v ≡ v
max-same v = omega arith

max-none : (v : ℕ) → max 0 v ≡ v
max-none v = omega arith

-- revisions that only assume bring neither variables nor clauses
assumed-variables : (v : ℕ) (ps : List Posted) (r : ℕ) → All (OnlyAssumes v) ps → fold (λ (n : ℕ) (p : Posted). max n p.variables) v (take r ps) ≡ v
assumed-variables v [] zero h = refl
assumed-variables v [] (suc r) h = refl
assumed-variables v (p ∷ ps) zero h = refl
assumed-variables v (p ∷ ps) (suc r) h =
    let first : OnlyAssumes v p = All-head (OnlyAssumes v) p ps h in
    ap (λ (n : ℕ). fold (λ (m : ℕ) (q : Posted). max m q.variables) n (take r ps)) (ap (max v) first.has_variables ∙ max-same v) ∙ assumed-variables v ps r (All-tail (OnlyAssumes v) p ps h)

assumed-clauses : (v : ℕ) (ps : List Posted) (r : ℕ) → All (OnlyAssumes v) ps → clauses_of (take r ps) ≡ []
assumed-clauses v [] zero h = refl
assumed-clauses v [] (suc r) h = refl
assumed-clauses v (p ∷ ps) zero h = refl
assumed-clauses v (p ∷ ps) (suc r) h =
    flat_map-cons (λ (q : Posted). q.clauses) p (take r ps)
    ∙ ap₂ (λ (xs ys : List (Option (List ℕ))). xs ++ ys) (All-head (OnlyAssumes v) p ps h).has_none (assumed-clauses v ps r (All-tail (OnlyAssumes v) p ps h))

pub first-has_all : FirstHasAll
first-has_all v cs [] r b low = absurd (omega (arith, low))
first-has_all v cs (p ∷ ps) r b low = (
  ap (λ (n : ℕ). variables_of (take n (p ∷ ps))) (more r) ∙ (ap (λ (n : ℕ). fold (λ (m : ℕ) (q : Posted). max m q.variables) n (take r ps)) (max-none p.variables ∙ b.0) ∙ assumed-variables v ps r b.2),
  ap (λ (n : ℕ). clauses_of (take n (p ∷ ps))) (more r) ∙ (flat_map-cons (λ (q : Posted). q.clauses) p (take r ps) ∙ (ap₂ (λ (xs ys : List (Option (List ℕ))). xs ++ ys) b.1 (assumed-clauses v ps r b.2) ∙ append-nil cs)),
)
  where
    more : (n : ℕ) → n + 1 ≡ suc n
    more n = omega arith

-- nor do they take room
assumed-few : (v : ℕ) (ps : List Posted) → All (OnlyAssumes v) ps → clauses_in ps ≡ 0
assumed-few v [] h = refl
assumed-few v (p ∷ ps) h =
    sum_by-cons (λ (q : Posted). length q.clauses) p ps
    ∙ ap₂ (λ (a b : ℕ). a + b) (ap (λ (cs : List (Option (List ℕ))). length cs) (All-head (OnlyAssumes v) p ps h).has_none) (assumed-few v ps (All-tail (OnlyAssumes v) p ps h))

assumed-short : (v : ℕ) (ps : List Posted) → All (OnlyAssumes v) ps → literals_in ps ≡ 0
assumed-short v [] h = refl
assumed-short v (p ∷ ps) h =
    sum_by-cons (λ (q : Posted). literals_of q.clauses) p ps
    ∙ ap₂ (λ (a b : ℕ). a + b) (ap literals_of (All-head (OnlyAssumes v) p ps h).has_none) (assumed-short v ps (All-tail (OnlyAssumes v) p ps h))

first-clauses : (v : ℕ) (cs : List (Option (List ℕ))) (ps : List Posted) → BeginWith v cs ps → clauses_in ps ≤ length cs
first-clauses v cs [] b = omega arith
first-clauses v cs (p ∷ ps) b =
    let all = sum_by-cons (λ (q : Posted). length q.clauses) p ps in
    let first : length p.clauses ≡ length cs = ap (λ (xs : List (Option (List ℕ))). length xs) b.1 in
    let rest = assumed-few v ps b.2 in
    omega (arith, all, first, rest)

first-literals : (v : ℕ) (cs : List (Option (List ℕ))) (ps : List Posted) → BeginWith v cs ps → literals_in ps ≤ literals_of cs
first-literals v cs [] b = omega arith
first-literals v cs (p ∷ ps) b =
    let all = sum_by-cons (λ (q : Posted). literals_of q.clauses) p ps in
    let first : literals_of p.clauses ≡ literals_of cs = ap literals_of b.1 in
    let rest = assumed-short v ps b.2 in
    omega (arith, all, first, rest)

pub assuming-may_ask : AssumingMayAsk
assuming-may_ask v cs rs p b only few clauses literals =
    let none : length p.clauses ≡ 0 = ap (λ (xs : List (Option (List ℕ))). length xs) only.has_none in
    let short : literals_of p.clauses ≡ 0 = ap literals_of only.has_none in
    record {
      room = few;
      clause_room = omega (arith, first-clauses v cs rs b, none, clauses);
      literal_room = omega (arith, first-literals v cs rs b, short, literals);
    }

-- where each question after the first only assumes, so do the revisions of a course
abbrev pub CourseOnlyAssumes : {S O : Type 0} → (S → ReplyBody → Next S O) → Type 0
CourseOnlyAssumes {S} {O} step =
    (v : ℕ) → StepAssumes v step
    → (now : Next S O) (asked : List Asked) (end : Next S O) → AsksOnly v now → Leads step now asked end
    → All (OnlyAssumes v) (map (λ x. x.revision) asked)

course-only : {S O : Type 0} (step : S → ReplyBody → Next S O) → CourseOnlyAssumes step
course-only step v only now [] end h l = All-nil (OnlyAssumes v)
course-only step v only (Ends o) (x ∷ xs) end h l = absurd l
course-only step v only (Asks s r) (x ∷ xs) end h l =
    All-cons (OnlyAssumes v) x.revision (map (λ (y : Asked). y.revision) xs) (subst (OnlyAssumes v) (sym l.0) h) (course-only step v only (step s x.told) xs end (only s x.told) l.1)

abbrev pub CourseBegins : {S O : Type 0} → (S → ReplyBody → Next S O) → Type 0
CourseBegins {S} {O} step =
    (v : ℕ) (cs : List (Option (List ℕ))) (s : S) (r : Posted) (rounds : List Round) (end : Next S O)
    → r.variables ≡ v → r.clauses ≡ cs → StepAssumes v step
    → Leads step (Asks s r) (asked_in rounds) end → BeginWith v cs (revisions_in rounds)

asked-revisions : (xs : List Round) → map (λ (x : Asked). x.revision) (asked_in xs) ≡ revisions_in xs
asked-revisions [] = refl
asked-revisions (x ∷ xs) = ap (λ (ps : List Posted). x.asked.revision ∷ ps) (asked-revisions xs)

pub course-begins : {S O : Type 0} (step : S → ReplyBody → Next S O) → CourseBegins step
course-begins step v cs s r [] end e f only l = tt
course-begins step v cs s r (x ∷ xs) end e f only l = (
  ap (λ (p : Posted). p.variables) l.0 ∙ e,
  ap (λ (p : Posted). p.clauses) l.0 ∙ f,
  subst (All (OnlyAssumes v)) (asked-revisions xs) (course-only step v only (step s x.asked.told) (asked_in xs) end (only s x.asked.told) l.1),
)

-- what holds of each place holds of all
all-asked : (P : Asked → Type 0) (rounds : List Round) → ((r : ℕ) (x : Round) → slice_get rounds r ≡ Some x → P x.asked) → All P (asked_in rounds)
all-asked P [] h = All-nil P
all-asked P (x ∷ xs) h = All-cons P x.asked (asked_in xs) (h 0 x refl) (all-asked P xs (λ r y e. h (suc r) y e))

pub inquiry-is_supported : InquiryIsSupported
inquiry-is_supported k ask rounds history v cs i b = all-asked (λ x. IsSupported v cs x.revision.assumptions x.told) rounds each
  where
    each : (r : ℕ) (x : Round) → slice_get rounds r ≡ Some x → IsSupported v cs x.asked.revision.assumptions x.asked.told
    each r x e =
        let evidence : IsEvidence (revisions_in rounds) r x.asked.told = told-is_evident k ask rounds history r x i e in
        let there : slice_get (revisions_in rounds) r ≡ Some x.asked.revision = slice_get-map (λ (y : Round). y.asked.revision) rounds r ∙ ap (option_map (λ (y : Round). y.asked.revision)) e in
        let same : evidence.revision ≡ x.asked.revision = some-same evidence.revision x.asked.revision (sym evidence.posted ∙ there) in
        let all = first-has_all v cs (revisions_in rounds) r b (slice_get_within (revisions_in rounds) r x.asked.revision there) in
        let first : IsSupported v (clauses_through (revisions_in rounds) r) evidence.revision.assumptions x.asked.told = subst (λ (n : ℕ). IsSupported n (clauses_through (revisions_in rounds) r) evidence.revision.assumptions x.asked.told) all.0 evidence.supported in
        let second : IsSupported v cs evidence.revision.assumptions x.asked.told = subst (λ (ds : List (Option (List ℕ))). IsSupported v ds evidence.revision.assumptions x.asked.told) all.1 first in
        subst (λ (p : Posted). IsSupported v cs p.assumptions x.asked.told) same second
      where
        some-same : (p q : Posted) → ◌≡◌ {A = Option Posted} (Some p) (Some q) → p ≡ q
        some-same p q e = cc
