-- The revisions of a job, step by step.
use Rattle.std.proofs.Common.{◌≡◌, ℕ, zero, suc, ◌+◌, ◌<◌, List, [], ◌∷◌, length, drop, get_or, sym, ◌∙◌, ap, subst, arith, length-append}
use Rattle.std.specs.Prelude.{◌↔◌, slice_get}
use Rattle.std.proofs.lemmas.List.{drop_more}
use Rattle.mal_pool.specs.Testing.{HasContents, HasStep, HasSteps}
use Rattle.mal_revision.specs.Posted.{Posted}
use Rattle.spec_hall.specs.Dressed.{revisions_of}
use Rattle.spec_hall.specs.Events.{Event}
use Rattle.spec_hall.specs.States.{states}
use Rattle.spec_run.specs.Complete.{key_of_job}
use Rattle.spec_script.specs.Script.{ScriptedJob, revisions_at, revisions_in}
use Rattle.spec_script.specs.declared.step.Step.{Step}
use Rattle.spec_script.specs.declared.step.Step.TheVariants.{Revise, Reask}

-- what steps post is had by place where it is had step by step, and the other way round
by-place : (rs : List Posted) (at : ℕ) (ss : List Step) → HasSteps rs at ss → (i : ℕ) → i < length (revisions_in ss) → slice_get rs (at + i) ≡ slice_get (revisions_in ss) i
by-place rs at [] has i low = absurd (omega arith)
by-place rs at (Revise r ∷ ss) has zero low = ap (slice_get rs) (omega arith) ∙ has.0
by-place rs at (Revise r ∷ ss) has (suc i) low = ap (slice_get rs) (omega arith) ∙ by-place rs (at + 1) ss has.1 i (omega arith)
by-place rs at (Reask w ∷ ss) has i low = ap (slice_get rs) (omega arith) ∙ by-place rs (at + 0) ss has.1 i low

by-step : (rs : List Posted) (at : ℕ) (ss : List Step) → ((i : ℕ) → i < length (revisions_in ss) → slice_get rs (at + i) ≡ slice_get (revisions_in ss) i) → HasSteps rs at ss
by-step rs at [] have = tt
by-step rs at (Revise r ∷ ss) have = (
  ap (slice_get rs) (omega arith) ∙ have zero (omega arith),
  by-step rs (at + 1) ss (λ i low. ap (slice_get rs) (omega arith) ∙ have (suc i) (omega arith)),
)
by-step rs at (Reask w ∷ ss) have = (tt, by-step rs (at + 0) ss (λ i low. ap (slice_get rs) (omega arith) ∙ have i low))

-- a job of a hall has the contents of a script's where it has those of its steps, and the other way round
pub steps-contents : (h : List Event) (j : ScriptedJob) (ss : List Step) → ss ≡ j.steps → HasSteps (revisions_of (key_of_job j) (states h)) 0 ss → HasContents h j
steps-contents h j ss is has = λ i low.
    ap (slice_get (revisions_of (key_of_job j) (states h))) (omega arith) ∙ by-place (revisions_of (key_of_job j) (states h)) 0 j.steps (subst (HasSteps (revisions_of (key_of_job j) (states h)) 0) is has) i low

pub contents-steps : (h : List Event) (j : ScriptedJob) (ss : List Step) → ss ≡ j.steps → HasContents h j → HasSteps (revisions_of (key_of_job j) (states h)) 0 ss
contents-steps h j ss is have =
    let rs : List Posted = revisions_of (key_of_job j) (states h) in
    subst (HasSteps rs 0) (sym is) (by-step rs 0 j.steps (λ i low. ap (slice_get rs) (omega arith) ∙ have i low))

-- the steps from a place on, one step further
next-is : (ss : List Step) (i : ℕ) (s : Step) → i < length ss → s ≡ get_or ss i s → drop i ss ≡ s ∷ drop (i + 1) ss
next-is ss i s low is = drop_more ss i s low ∙ ap (λ (x : Step). x ∷ drop (i + 1) ss) (sym is)

pub steps-more : (rs : List Posted) (ss : List Step) (i at after : ℕ) (s : Step) (W : Type 0) → i < length ss → s ≡ get_or ss i s → after ≡ at + length (revisions_at s) → HasStep rs at s → W ↔ HasSteps rs at (drop i ss) → W ↔ HasSteps rs after (drop (i + 1) ss)
steps-more rs ss i at after s W low is count here same = (
  λ w. subst (λ (n : ℕ). HasSteps rs n (drop (i + 1) ss)) (sym count) (subst (HasSteps rs at) (next-is ss i s low is) (same.0 w)).1,
  λ has. same.1 (subst (HasSteps rs at) (sym (next-is ss i s low is)) (here, subst (λ (n : ℕ). HasSteps rs n (drop (i + 1) ss)) count has)),
)

pub step-at : (rs : List Posted) (ss : List Step) (i at : ℕ) (s : Step) → i < length ss → s ≡ get_or ss i s → HasSteps rs at (drop i ss) → HasStep rs at s
step-at rs ss i at s low is has = (subst (HasSteps rs at) (next-is ss i s low is) has).0

pub few-more : (ss : List Step) (i at after all : ℕ) (s : Step) → i < length ss → s ≡ get_or ss i s → after ≡ at + length (revisions_at s) → at + length (revisions_in (drop i ss)) ≡ all → after + length (revisions_in (drop (i + 1) ss)) ≡ all
few-more ss i at after all s low is count few =
    let here : length (revisions_in (drop i ss)) ≡ length (revisions_at s) + length (revisions_in (drop (i + 1) ss)) = ap (λ (x : List Step). length (revisions_in x)) (next-is ss i s low is) ∙ length-append (revisions_at s) (revisions_in (drop (i + 1) ss)) in
    omega (arith, count, few, here)
