-- A search for a minimal core: its questions, and its end.
use Rattle.std.proofs.Common.{◌≡◌, ℕ, ◌<◌, ◌≤◌, Bool, true, false, cond, ◌&&◌, ◌==◌, nat_le, List, [], ◌∷◌, ◌++◌, length, Option, Some, None, refl, ap, subst, arith}
use Rattle.std.specs.List.{list_all}
use Rattle.std.proofs.lemmas.Bool.{and_parts, leb-true, ne_eqb}
use Rattle.std.proofs.lemmas.List.Elements.{All-nil}
use Rattle.mal_base.specs.Limits.{limits}
use Rattle.mal_base.specs.NumberedClause.{Line}
use Rattle.mal_base.specs.Formulas.{is_clause_of, is_within_limits, literals_of}
use Rattle.mal_revision.specs.Posted.{is_posted}
use Rattle.spec_report.specs.Replies.{Model, Proof, AllSpent, AllStarved}
use Rattle.spec_course.specs.Course.{Asked, Next, Leads}
use Rattle.spec_course.specs.Course.Next.{Asks, Ends}
use Rattle.spec_course.specs.Supported.{IsSupported, AreSupported}
use Rattle.spec_core.specs.Core.{Instance, Narrowed, Minimal, Core, opening, without_next, going, models_of, step, first}
use Rattle.spec_core.specs.Laws.{IsQuestion}
use Rattle.spec_core.specs.Right.{IsServed}
use Rattle.spec_core.proofs.SearchLemmas.{search-asks, search-is-right, unknown-is-told}
use Rattle.spec_job.specs.KeyedJob.{Key}
use Rattle.spec_inquiry.specs.Rounds.{asked_in}
use Rattle.spec_inquiry.specs.Searches.{AsksOnly, HasRoom, IsSearch, Proofs, StepAssumes, one_solver}
use Rattle.spec_inquiry.proofs.SearchLemmas.{search-supported}
use Rattle.mal_core.specs.Found.{IsFound, key}
use Rattle.mal_core.specs.Seen.{LeadsTo, core_by, narrowed_by, without}
use Rattle.mal_core.specs.declared.outcome.Narrowing.{Narrowing}
use Rattle.mal_inquiry.specs.Searching.{IsFoundIn}
use Rattle.mal_job.specs.Findings.{told_by}
use Rattle.mal_job.specs.declared.finding.Finding.{Finding}

-- each question after the first only assumes
going-only : (w : Instance) (c : Narrowed) → AsksOnly w.formula.variables (going w c)
going-only w c = by_count (length c.models == length c.core)
  where
    by_count : (b : Bool) → AsksOnly w.formula.variables (cond b (Ends (Core c)) (Asks (Some c) (without_next w c)))
    by_count true = tt
    by_count false = record { has_variables = refl; has_none = refl }

step-only : (w : Instance) → StepAssumes w.formula.variables (step w)
step-only w None (Model model) = tt
step-only w (Some c) (Model model) = going-only w (record { core = c.core; lines = c.lines; models = c.models ++ model ∷ [] })
step-only w c (Proof failed lines) = going-only w (record { core = failed; lines = lines; models = models_of c })
step-only w c (AllSpent n) = tt
step-only w c AllStarved = tt

-- the first question and those that follow may be posted
pub opening-posted : (w : Instance) → IsServed w → is_posted (opening w) ≡ true
opening-posted w s = (search-asks w [] None (opening w) s (All-nil (λ (x : Asked). IsSupported w.formula.variables w.formula.clauses x.revision.assumptions x.told)) refl).posted

next-question : (w : Instance) (c : Narrowed) (asked : List Asked) → IsServed w → (length c.models ≡ length c.core → ⊥) → AreSupported w.formula.variables w.formula.clauses asked → Leads (step w) (first w) asked (going w c) → IsQuestion w (length asked) (Some c) (without_next w c)
next-question w c asked s differ supported leads =
    let other : (length c.models == length c.core) ≡ false = ne_eqb (length c.models) (length c.core) differ in
    search-asks w asked (Some c) (without_next w c) s supported (subst (λ (b : Bool). Leads (step w) (first w) asked (cond b (Ends (Core c)) (Asks (Some c) (without_next w c)))) other leads)

pub next-left : (w : Instance) (c : Narrowing) → IsServed w → (length c.models.items ≡ length c.core.items → ⊥) → LeadsTo w (λ proofs. going w (core_by proofs c)) → length c.models.items < length c.core.items
next-left w c s differ l = (next-question w (core_by l.proofs c) l.asked s differ l.supported l.leads).asked.next

pub next-posted : (w : Instance) (c : Narrowing) → IsServed w → (length c.models.items ≡ length c.core.items → ⊥) → LeadsTo w (λ proofs. going w (core_by proofs c)) → is_posted (without w.formula.variables c) ≡ true
next-posted w c s differ l = (next-question w (core_by l.proofs c) l.asked s differ l.supported l.leads).posted

-- what is found in a search leads to what follows
pub found-leads : (w : Instance) (state : Option Narrowing) (number : ℕ) (found : Finding) → IsFoundIn (step w) None (opening w) (λ proofs. narrowed_by proofs state) number found → LeadsTo w (λ proofs. step w (narrowed_by proofs state) (told_by (proofs number) found))
found-leads w state number found f = record { proofs = f.proofs; asked = f.asked; supported = f.supported; leads = f.leads }

-- and to whatever is the same
pub leads-same : (w : Instance) (f g : Proofs → Next (Option Narrowed) Minimal) → ((proofs : Proofs) → f proofs ≡ g proofs) → LeadsTo w f → LeadsTo w g
leads-same w f g e l = record { proofs = l.proofs; asked = l.asked; supported = l.supported; leads = subst (Leads (step w) (first w) l.asked) (e l.proofs) l.leads }

-- a core with these models
pub going-models : (w : Instance) (core : List ℕ) (lines : List Line) (some more : List (List Bool)) → some ≡ more → going w (record { core = core; lines = lines; models = some }) ≡ going w (record { core = core; lines = lines; models = more })
going-models w core lines some more e = ap (λ (models : List (List Bool)). going w (record { core = core; lines = lines; models = models })) e

-- a job has room for all questions: no question comes after more than there are assumptions
pub search-room : (w : Instance) → IsServed w → HasRoom (step w) None (opening w)
search-room w s =
    let v : ℕ = w.formula.variables in
    let cs : List (Option (List ℕ)) = w.formula.clauses in
    let within = and_parts (is_within_limits v cs) (list_all (is_clause_of v) cs) s.formed in
    let two = and_parts (nat_le v limits.variables && nat_le (length cs) limits.clauses) (nat_le (literals_of cs) limits.literals) within.0 in
    let one = and_parts (nat_le v limits.variables) (nat_le (length cs) limits.clauses) two.0 in
    record {
      assumes = step-only w;
      clauses = leb-true (length cs) limits.clauses one.1;
      literals = leb-true (literals_of cs) limits.literals two.1;
      few = λ asked c r supported leads. fewer (length asked) (length w.assumptions) (search-asks w asked c r s supported leads).few s.few;
    }
  where
    fewer : (n most : ℕ) → n ≤ most → most ≤ limits.assumptions → n < limits.revisions
    fewer n most low high = omega (arith, low, high)

-- where it ends, what is asked for is found
search-found : (slices : ℕ) (w : Instance) (m : Minimal) → IsServed w → IsSearch key (one_solver slices) (step w) (first w) m → IsFound slices w m
search-found slices w m s u = record {
  search = u;
  right = (search-is-right w (asked_in u.rounds) m s supported u.leads).0;
  told = λ before last cause e. unknown-is-told w before last m cause (subst (λ (asked : List Asked). Leads (step w) (first w) asked (Ends m)) e u.leads);
}
  where
    supported : AreSupported w.formula.variables w.formula.clauses (asked_in u.rounds)
    supported = search-supported key (one_solver slices) (step w) None (opening w) u.rounds u.history (Ends m) (step-only w) u.inquiry u.leads

pub named-found : (slices : ℕ) (w : Instance) (m : Minimal) (k : Key) → k ≡ key → IsServed w → IsSearch k (one_solver slices) (step w) (first w) m → IsFound slices w m
named-found slices w m k e s u = search-found slices w m s (subst (λ (j : Key). IsSearch j (one_solver slices) (step w) (first w) m) e u)
