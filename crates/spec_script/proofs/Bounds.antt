-- What is spelled is within the limits.
use Rattle.std.proofs.Common.{ℕ, ◌<◌, ◌≤◌, List, [], ◌∷◌, ◌++◌, length, sym, subst, arith, length-append}
use Rattle.std.specs.List.{AllByRecursion}
use Rattle.std.proofs.lemmas.Grind.{flat_map-append}
use Rattle.mal_base.specs.Asks.{Weighed}
use Rattle.mal_revision.specs.Posted.{Posted}
use Rattle.mal_base.specs.declared.limits.Limits.{Limits}
use Rattle.spec_script.specs.Script.{ScriptedJob, Scripted, revisions, revisions_in, revisions_at}
use Rattle.spec_script.specs.declared.step.Step.{Step}
use Rattle.spec_script.specs.declared.step.Step.TheVariants.{Revise, Reask}
use Rattle.spec_script.specs.Reading.{Reading, OpenJob, unread, begun, with_job}
use Rattle.spec_script.specs.Grammar.{StepLines, Revision, Weight, Part, Tenant, Job, StepAll, MakeAll, Spells}
use Rattle.spec_script.specs.Within.{IsWithin}

-- a script as it is after some lines
abbrev pub script_of : Reading → Scripted
script_of s = record { jobs = s.jobs }

one-more : (m : ℕ) (steps : List Step) (r : Posted) → length (revisions_in steps) < m → length (revisions_in (steps ++ Revise r ∷ [])) ≤ m
one-more m steps r low = subst (λ (rs : List Posted). length rs ≤ m) (sym (flat_map-append revisions_at steps (Revise r ∷ []))) (omega (arith, length-append (revisions_in steps) (r ∷ [])))

no-more : (m : ℕ) (steps : List Step) (w : Weighed) → length (revisions_in steps) ≤ m → length (revisions_in (steps ++ Reask w ∷ [])) ≤ m
no-more m steps w low = subst (λ (rs : List Posted). length rs ≤ m) (sym (flat_map-append revisions_at steps (Reask w ∷ []))) (omega (arith, length-append (revisions_in steps) []))

stepped-within : (limits : Limits) (steps : List StepLines) (o after : OpenJob) → length (revisions o.job) ≤ limits.revisions → StepAll limits o steps after → length (revisions after.job) ≤ limits.revisions
stepped-within limits [] o after low is = subst (λ (x : OpenJob). length (revisions x.job) ≤ limits.revisions) is low
stepped-within limits (Revision r ∷ steps) o after low (next, first, others) =
    stepped-within limits steps next after (subst (λ (x : OpenJob). length (revisions x.job) ≤ limits.revisions) (sym first.revised) (one-more limits.revisions o.job.steps _ first.room)) others
stepped-within limits (Weight p d ∷ steps) o after low (next, first, others) =
    stepped-within limits steps next after (subst (λ (x : OpenJob). length (revisions x.job) ≤ limits.revisions) (sym first.reasked) (no-more limits.revisions o.job.steps first.weight low)) others

all-more : (P : ScriptedJob → Type 0) (js : List ScriptedJob) (j : ScriptedJob) → AllByRecursion P js → P j → AllByRecursion P (js ++ j ∷ [])
all-more P [] j all own = (own, tt)
all-more P (i ∷ js) j all own = (all.0, all-more P js j all.1 own)

made-within : (limits : Limits) (parts : List Part) (s after : Reading) → IsWithin limits (script_of s) → MakeAll limits s parts after → IsWithin limits (script_of after)
made-within limits [] s after low is = subst (λ (x : Reading). IsWithin limits (script_of x)) is low
made-within limits (Tenant name ∷ parts) s after low (next, h, others) =
    made-within limits parts next after (subst (λ (x : Reading). IsWithin limits (script_of x)) (sym h.left) low) others
made-within limits (Job j ∷ parts) s after low (next, is, others) =
    let room : length s.jobs < limits.jobs = is.admitted.few in
    let few : length (revisions is.ended.job) ≤ limits.revisions = stepped-within limits j.steps (begun is.tenant j.name is.ask) is.ended (omega arith) is.stepped in
    let more : IsWithin limits (script_of (with_job s is.ended.job)) = record { jobs = omega (arith, length-append s.jobs (is.ended.job ∷ [])); revisions = all-more (λ j. length (revisions j) ≤ limits.revisions) s.jobs is.ended.job low.revisions few } in
    made-within limits parts next after (subst (λ (x : Reading). IsWithin limits (script_of x)) (sym is.left) more) others

pub spelled-within : (limits : Limits) (text : List ℕ) (s : Scripted) → Spells limits text s → IsWithin limits s
spelled-within limits text s is =
    subst (λ (x : List ScriptedJob). IsWithin limits (record { jobs = x })) (sym is.jobs) (made-within limits is.parts unread is.after (record { jobs = omega arith; revisions = tt }) is.made)
