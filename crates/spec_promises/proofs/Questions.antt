-- The refutations that searches for an optimum and for a minimal core end with are taken.
use Rattle.std.proofs.Common.{◌≡◌, ℕ, suc, ◌<◌, Bool, true, false, cond, ◌==◌, ◌&&◌, List, [], ◌∷◌, ◌++◌, length, Option, Some, None, refl, ◌∙◌, ap, subst, arith}
use Rattle.std.specs.Prelude.{Contains, slice_get}
use Rattle.std.specs.List.{AllByRecursion, list_all}
use Rattle.std.proofs.lemmas.List.{length-map}
use Rattle.std.proofs.lemmas.List.Elements.{All-contains}
use Rattle.std.proofs.lemmas.Option.{slice_get_within}
use Rattle.mal_base.specs.Asks.{Terms}
use Rattle.mal_base.specs.Clauses.{rises}
use Rattle.mal_base.specs.Formulas.{is_clause_of, is_within, is_within_limits}
use Rattle.mal_base.specs.NumberedClause.{Line}
use Rattle.mal_base.proofs.Sorting.{and-left, and-right}
use Rattle.mal_revision.specs.Posted.{Posted, is_posted}
use Rattle.spec_report.specs.Replies.{ReplyBody, Model, Proof, AllSpent, AllStarved}
use Rattle.spec_course.specs.Course.{Asked, Leads, Next}
use Rattle.spec_course.specs.Course.Next.{Asks, Ends}
use Rattle.spec_job.specs.KeyedJob.{Key}
use Rattle.spec_job.specs.Models.{clauses_through}
use Rattle.spec_job.specs.Replies.{body_of}
use Rattle.spec_job.specs.SoloMachine.{solo}
use Rattle.spec_hall.specs.Events.{Event}
use Rattle.spec_hall.specs.Own.{own}
use Rattle.spec_inquiry.specs.Evidence.{BeginWith}
use Rattle.spec_inquiry.specs.Rounds.{Round, IsInquiry, asked_in, revisions_in}
use Rattle.spec_inquiry.specs.Searches.{AsksOnly, StepAssumes}
use Rattle.spec_inquiry.proofs.FirstLemmas.{course-begins, first-has_all}
use Rattle.spec_inquiry.proofs.OpenLemmas.{inquiry-is_open}
use Rattle.spec_inquiry.proofs.RoundLemmas.{inquiry-is_legal}
use Rattle.spec_inquiry.proofs.ToldLemmas.{told-stays}
use Rattle.spec_max.specs.Optimum as max
use Rattle.spec_max.specs.Right as maxes
use Rattle.spec_max.specs.Right.{IsServed}
use Rattle.spec_max.proofs.SolutionLemmas.{cheaper-posted, opening-posted, solution-few}
use Rattle.spec_core.specs.Core as core
use Rattle.spec_core.specs.Right as right
use Rattle.spec_promises.specs.Taken.{AreReadable, CoreIsTaken, IsRefuted, IsTakenCore, IsTakenOptimum, MaxIsTaken, counted, formula_through}
use Rattle.spec_promises.proofs.Halls.{Known, legal-refuted}
use Rattle.spec_promises.proofs.Served.{some-within}
use Rattle.spec_promises.proofs.Taken.{refuted_is_taken}

-- where a proof is told, its lines are read again after so many clauses
ToldReadable : ℕ → ReplyBody → Type 0
ToldReadable m (Model model) = Unit {0}
ToldReadable m (Proof failed lines) = AreReadable m lines
ToldReadable m (AllSpent n) = Unit {0}
ToldReadable m AllStarved = Unit {0}

-- so it is with what is told in the rounds of an inquiry whose first revision has all clauses
round-readable : Known → (k : Key) (ask : Terms) (rounds : List Round) (h : List Event) (v : ℕ) (cs : List (Option (List ℕ))) → IsInquiry k ask rounds h → BeginWith v cs (revisions_in rounds) → (r : ℕ) (x : Round) → slice_get rounds r ≡ Some x → (told : ReplyBody) → x.asked.told ≡ told → ToldReadable (length cs) told
unfolding ToldReadable
round-readable laws k ask rounds h v cs is begins r x at (Model model) e = tt
round-readable laws k ask rounds h v cs is begins r x at (Proof failed lines) e =
    let told : body_of (suc r) (solo (own k h)) ≡ Some (Proof failed lines) = told-stays k ask rounds h r x is at ∙ ap (λ (b : ReplyBody). Some b) e in
    let refuted : IsRefuted (formula_through (solo (own k h)).revisions r) failed lines = legal-refuted laws 1 r h k failed lines (omega arith) (omega arith) (inquiry-is_legal k ask rounds h is) told in
    let posted : (solo (own k h)).revisions ≡ revisions_in rounds = (inquiry-is_open k ask rounds h is).posted in
    let inside : r < length rounds = slice_get_within rounds r x at in
    let count : length (revisions_in rounds) ≡ length rounds = length-map rounds (λ (y : Round). y.asked.revision) in
    let all : clauses_through (revisions_in rounds) r ≡ cs = (first-has_all v cs (revisions_in rounds) r begins (omega (arith, inside, count))).1 in
    subst (λ (n : ℕ). AreReadable n lines) (ap (λ (ps : List Posted). length (clauses_through ps r)) posted ∙ ap length all) refuted.readable
round-readable laws k ask rounds h v cs is begins r x at (AllSpent n) e = tt
round-readable laws k ask rounds h v cs is begins r x at AllStarved e = tt

each-round : (P : ReplyBody → Type 0) (rounds : List Round) → ((r : ℕ) (x : Round) → slice_get rounds r ≡ Some x → P x.asked.told) → AllByRecursion (λ x. P x.told) (asked_in rounds)
each-round P [] f = tt
each-round P (x ∷ xs) f = (f 0 x refl, each-round P xs (λ r y at. f (suc r) y at))

-- what each step keeps holds in the end
module _ (S O : Type 0) (step : S → ReplyBody → Next S O) (Holds : Next S O → Type 0) (P : ReplyBody → Type 0) (keeps : (s : S) (r : Posted) (told : ReplyBody) → Holds (Asks s r) → P told → Holds (step s told)) where
  course-holds : (now : Next S O) (asked : List Asked) (end : Next S O) → Holds now → AllByRecursion (λ (x : Asked). P x.told) asked → Leads step now asked end → Holds end
  course-holds now [] end h all leads = subst Holds leads h
  course-holds (Ends o) (x ∷ xs) end h all leads = absurd leads
  course-holds (Asks s r) (x ∷ xs) end h all leads = course-holds (step s x.told) xs end (keeps s r x.told h all.0) all.1 leads.1

-- ---- an optimum

OptimumReadable : ℕ → max.Optimum → Type 0
OptimumReadable m (max.Best found lines) = AreReadable m lines
OptimumReadable m (max.NoModel lines) = AreReadable m lines
OptimumReadable m (max.Unknown best cause) = Unit {0}

MaxReadable : ℕ → Next (Option max.Solution) max.Optimum → Type 0
MaxReadable m (Asks best r) = Unit {0}
MaxReadable m (Ends o) = OptimumReadable m o

improved-readable : (m : ℕ) (w : max.Instance) (found : max.Solution) → MaxReadable m (max.improved w found)
unfolding MaxReadable OptimumReadable
improved-readable m w found = by_cost (found.cost == 0)
  where
    by_cost : (b : Bool) → MaxReadable m (cond b (Ends (max.Best found [])) (Asks (Some found) (max.cheaper w found.cost)))
    by_cost true = tt
    by_cost false = tt

concluded-readable : (m : ℕ) (best : Option max.Solution) (lines : List Line) → AreReadable m lines → MaxReadable m (Ends (max.concluded best lines))
unfolding MaxReadable OptimumReadable
concluded-readable m None lines h = h
concluded-readable m (Some best) lines h = h

max-step : (m : ℕ) (w : max.Instance) (best : Option max.Solution) (r : Posted) (told : ReplyBody) → MaxReadable m (Asks best r) → ToldReadable m told → MaxReadable m (max.step w best told)
unfolding MaxReadable OptimumReadable ToldReadable
max-step m w best r (Model model) h k = improved-readable m w (max.solution_in w model)
max-step m w best r (Proof failed lines) h k = concluded-readable m best lines k
max-step m w best r (AllSpent n) h k = tt
max-step m w best r AllStarved h k = tt

max-assumes : (w : max.Instance) → StepAssumes (max.variables_in w) (max.step w)
max-assumes w best (Model model) = by_cost ((max.solution_in w model).cost == 0)
  where
    by_cost : (b : Bool) → AsksOnly (max.variables_in w) (cond b (Ends (max.Best (max.solution_in w model) [])) (Asks (Some (max.solution_in w model)) (max.cheaper w (max.solution_in w model).cost)))
    by_cost true = tt
    by_cost false = record { has_variables = refl; has_none = refl }
max-assumes w best (Proof failed lines) = tt
max-assumes w best (AllSpent n) = tt
max-assumes w best AllStarved = tt

-- a literal that a question may assume is of its variables
assumed-within : (p : Posted) → is_posted p ≡ true → is_within p.variables p.assumptions ≡ true
assumed-within p h = and-right (rises p.assumptions) _ (and-right (is_within_limits p.variables p.clauses && list_all (is_clause_of p.variables) p.clauses) _ h)

optimum-taken : Known → (w : max.Instance) (o : max.Optimum) → IsServed w → maxes.IsRight w o → OptimumReadable (length (max.clauses_in w)) o → IsTakenOptimum w o
unfolding OptimumReadable
optimum-taken laws w (max.Best found lines) s is h = λ some. refuted_is_taken laws.read (counted w) (max.costs_less w found.cost ∷ []) lines (record {
  formed = and-left _ _ (opening-posted w s);
  rising = refl;
  within = assumed-within (max.cheaper w found.cost) (cheaper-posted w found.cost s some (solution-few w found is.solution));
  readable = h;
  refuted = is.refuted some;
})
optimum-taken laws w (max.NoModel lines) s is h = refuted_is_taken laws.read (counted w) [] lines (record {
  formed = and-left _ _ (opening-posted w s);
  rising = refl;
  within = refl;
  readable = h;
  refuted = is.refuted;
})
optimum-taken laws w (max.Unknown best cause) s is h = tt

pub max_is_taken : Known → MaxIsTaken
unfolding MaxReadable
max_is_taken laws slices w o s found =
    let u = found.search in
    let begins : BeginWith (max.variables_in w) (max.clauses_in w) (revisions_in u.rounds) = course-begins (max.step w) (max.variables_in w) (max.clauses_in w) None (max.opening w) u.rounds (Ends o) refl refl (max-assumes w) u.leads in
    let told = each-round (ToldReadable (length (max.clauses_in w))) u.rounds (λ r x at. round-readable laws _ _ u.rounds u.history (max.variables_in w) (max.clauses_in w) u.inquiry begins r x at x.asked.told refl) in
    let end : MaxReadable (length (max.clauses_in w)) (Ends o) = course-holds _ _ (max.step w) (MaxReadable (length (max.clauses_in w))) (ToldReadable (length (max.clauses_in w))) (max-step (length (max.clauses_in w)) w) (max.first w) (asked_in u.rounds) (Ends o) tt told u.leads in
    optimum-taken laws w o s found.right end

-- ---- a minimal core

MinimalReadable : ℕ → core.Minimal → Type 0
MinimalReadable m (core.Core c) = AreReadable m c.lines
MinimalReadable m (core.Satisfiable model) = Unit {0}
MinimalReadable m (core.Unknown cause) = Unit {0}

CoreReadable : ℕ → Next (Option core.Narrowed) core.Minimal → Type 0
CoreReadable m (Asks None r) = Unit {0}
CoreReadable m (Asks (Some c) r) = AreReadable m c.lines
CoreReadable m (Ends o) = MinimalReadable m o

going-readable : (m : ℕ) (w : core.Instance) (c : core.Narrowed) → AreReadable m c.lines → CoreReadable m (core.going w c)
unfolding CoreReadable MinimalReadable
going-readable m w c h = by_count (length c.models == length c.core)
  where
    by_count : (b : Bool) → CoreReadable m (cond b (Ends (core.Core c)) (Asks (Some c) (core.without_next w c)))
    by_count true = h
    by_count false = h

core-step : (m : ℕ) (w : core.Instance) (c : Option core.Narrowed) (r : Posted) (told : ReplyBody) → CoreReadable m (Asks c r) → ToldReadable m told → CoreReadable m (core.step w c told)
unfolding CoreReadable MinimalReadable ToldReadable
core-step m w None r (Model model) h k = tt
core-step m w (Some c) r (Model model) h k = going-readable m w (record { core = c.core; lines = c.lines; models = c.models ++ model ∷ [] }) h
core-step m w c r (Proof failed lines) h k = going-readable m w (record { core = failed; lines = lines; models = core.models_of c }) k
core-step m w c r (AllSpent n) h k = tt
core-step m w c r AllStarved h k = tt

going-only : (w : core.Instance) (c : core.Narrowed) → AsksOnly w.formula.variables (core.going w c)
going-only w c = by_count (length c.models == length c.core)
  where
    by_count : (b : Bool) → AsksOnly w.formula.variables (cond b (Ends (core.Core c)) (Asks (Some c) (core.without_next w c)))
    by_count true = tt
    by_count false = record { has_variables = refl; has_none = refl }

core-assumes : (w : core.Instance) → StepAssumes w.formula.variables (core.step w)
core-assumes w None (Model model) = tt
core-assumes w (Some c) (Model model) = going-only w (record { core = c.core; lines = c.lines; models = c.models ++ model ∷ [] })
core-assumes w c (Proof failed lines) = going-only w (record { core = failed; lines = lines; models = core.models_of c })
core-assumes w c (AllSpent n) = tt
core-assumes w c AllStarved = tt

core-taken : Known → (w : core.Instance) (o : core.Minimal) → right.IsServed w → right.IsRight w o → MinimalReadable (length w.formula.clauses) o → IsTakenCore w o
unfolding MinimalReadable
core-taken laws w (core.Core c) s is h = refuted_is_taken laws.read w.formula c.core c.lines (record {
  formed = s.formed;
  rising = is.narrowed.rising;
  within = some-within w.formula.variables c.core w.assumptions (λ x k. All-contains (Contains w.assumptions) c.core x is.narrowed.given k) s.within;
  readable = h;
  refuted = is.narrowed.refuted;
})
core-taken laws w (core.Satisfiable model) s is h = tt
core-taken laws w (core.Unknown cause) s is h = tt

pub core_is_taken : Known → CoreIsTaken
unfolding CoreReadable
core_is_taken laws slices w m s found =
    let u = found.search in
    let begins : BeginWith w.formula.variables w.formula.clauses (revisions_in u.rounds) = course-begins (core.step w) w.formula.variables w.formula.clauses None (core.opening w) u.rounds (Ends m) refl refl (core-assumes w) u.leads in
    let told = each-round (ToldReadable (length w.formula.clauses)) u.rounds (λ r x at. round-readable laws _ _ u.rounds u.history w.formula.variables w.formula.clauses u.inquiry begins r x at x.asked.told refl) in
    let end : CoreReadable (length w.formula.clauses) (Ends m) = course-holds _ _ (core.step w) (CoreReadable (length w.formula.clauses)) (ToldReadable (length w.formula.clauses)) (core-step (length w.formula.clauses) w) (core.first w) (asked_in u.rounds) (Ends m) tt told u.leads in
    core-taken laws w m s found.right end
