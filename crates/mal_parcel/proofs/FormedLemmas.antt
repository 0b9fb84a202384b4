-- The script of a lawful job is in form.
use Rattle.std.proofs.Common.{◌≡◌, ℕ, ◌+◌, ◌≤◌, Bool, true, false, List, [], ◌∷◌, ◌++◌, length, refl, sym, ap, subst, ◌∙◌, arith, append_assoc, append-nil, length-append}
use Rattle.std.specs.Prelude.{◌&&◌}
use Rattle.std.specs.List.{flat_map, list_all}
use Rattle.std.proofs.lemmas.Bool.{le-leb}
use Rattle.std.proofs.lemmas.Grind.{flat_map-append}
use Rattle.std.proofs.lemmas.List.Sums.{fold_push}
use Rattle.mal_base.specs.Limits.{limits}
use Rattle.mal_base.specs.Asks.{Weighed, IsWeight}
use Rattle.mal_base.specs.Formulas.{literals_of}
use Rattle.mal_base.specs.Names.{is_name}
use Rattle.mal_revision.specs.Posted.{Posted}
use Rattle.spec_job.specs.Keeps.{KeepsTerms}
use Rattle.spec_job.specs.KeyedJob.{Key}
use Rattle.spec_job.specs.Lawful.{AllPass, IsLawful, MayPass}
use Rattle.spec_job.specs.SoloMachine.{Own, Opened, Revised, Reasked, Closed, Volume, Started, Finished, Exchanged, SoloMachine, solo, solo_step, clauses_in, literals_in, first_empty}
use Rattle.spec_job.proofs.LoadedLemmas.{clauses_in-push}
use Rattle.spec_job.proofs.PushLemmas.{solo-push}
use Rattle.spec_job.proofs.StepLemmas.{finish-keeps, settled-keeps}
use Rattle.spec_script.specs.Formed.{IsScript, is_step, is_weight}
use Rattle.spec_script.specs.Script.{revisions_in}
use Rattle.spec_script.specs.declared.step.Step.{Step}
use Rattle.spec_script.specs.declared.step.Step.TheVariants.{Revise, Reask}
use Rattle.spec_parcel.specs.Packed.{script_of, steps_at}

-- a machine has the revisions of these steps, which are in form and within the limits
record IsPosting (s : SoloMachine) (steps : List Step) : Type 0 where
  pub revisions : s.revisions ≡ revisions_in steps
  pub few : length s.revisions ≤ limits.revisions
  pub formed : list_all is_step steps ≡ true
  pub clauses : clauses_in s.revisions ≤ limits.clauses
  pub literals : literals_in s.revisions ≤ limits.literals

-- an event that posts nothing
posts-nothing : (s t : SoloMachine) (steps : List Step) → t.revisions ≡ s.revisions → IsPosting s steps → IsPosting t (steps ++ [])
posts-nothing s t steps e k = subst (λ (ss : List Step). IsPosting t ss) (sym (append-nil steps)) (record {
  revisions = e ∙ k.revisions;
  few = subst (λ (rs : List Posted). length rs ≤ limits.revisions) (sym e) k.few;
  formed = k.formed;
  clauses = subst (λ (rs : List Posted). clauses_in rs ≤ limits.clauses) (sym e) k.clauses;
  literals = subst (λ (rs : List Posted). literals_in rs ≤ limits.literals) (sym e) k.literals;
})

-- one step more in form
formed-more : (steps : List Step) (one : Step) → list_all is_step steps ≡ true → is_step one ≡ true → list_all is_step (steps ++ one ∷ []) ≡ true
formed-more [] one a b = rw b refl
formed-more (x ∷ xs) one a b = by_test (is_step x) a (λ e. formed-more xs one e b)
  where
    by_test : (t : Bool) → (t && list_all is_step xs) ≡ true → (list_all is_step xs ≡ true → list_all is_step (xs ++ one ∷ []) ≡ true) → (t && list_all is_step (xs ++ one ∷ [])) ≡ true
    by_test true e more = more e
    by_test false e more = absurd cc

literals-push : (rs : List Posted) (r : Posted) → literals_in (rs ++ r ∷ []) ≡ literals_in rs + literals_of r.clauses
literals-push rs r = fold_push (λ (a : ℕ) (x : Posted). a + literals_of x.clauses) 0 rs r

revisions-push : (steps : List Step) (r : Posted) → revisions_in (steps ++ Revise r ∷ []) ≡ revisions_in steps ++ r ∷ []
revisions-push steps r = flat_map-append _ steps (Revise r ∷ [])

weight-formed : (w : Weighed) → IsWeight w → is_weight w ≡ true
weight-formed w k = rw (le-leb 1 w.priority k.some_priority, le-leb w.priority limits.priority k.priority_bound, le-leb 1 w.demand k.some_demand, le-leb w.demand limits.demand k.demand_bound) refl

-- one own event more
posts-step : (s : SoloMachine) (o : Own) (steps : List Step) → MayPass s o → IsPosting s steps → IsPosting (solo_step s o) (steps ++ steps_at o)
posts-step s (Opened ask) steps may k = absurd may
posts-step s (Revised r) steps may k =
    let h : SoloMachine = record s { revisions = s.revisions ++ r ∷ [] } in
    let same : KeepsTerms h h = record { ask = refl; volume = refl; revisions = refl; closed = refl } in
    let e : (solo_step s (Revised r)).revisions ≡ s.revisions ++ r ∷ [] = (settled-keeps (first_empty s.log) h h same).revisions in
    let long : length (s.revisions ++ r ∷ []) ≡ length s.revisions + 1 = length-append s.revisions (r ∷ []) in
    let few = may.few in
    record {
      revisions = e ∙ (ap (λ (rs : List Posted). rs ++ r ∷ []) k.revisions ∙ sym (revisions-push steps r));
      few = subst (λ (rs : List Posted). length rs ≤ limits.revisions) (sym e) (omega (arith, long, few));
      formed = formed-more steps (Revise r) k.formed may.posted;
      clauses = subst (λ (rs : List Posted). clauses_in rs ≤ limits.clauses) (sym e) (omega (arith, clauses_in-push s.revisions r, may.clauses));
      literals = subst (λ (rs : List Posted). literals_in rs ≤ limits.literals) (sym e) (omega (arith, literals-push s.revisions r, may.literals));
    }
posts-step s (Reasked w) steps may k = record {
  revisions = k.revisions ∙ sym (flat_map-append _ steps (Reask w ∷ []) ∙ append-nil (revisions_in steps));
  few = k.few;
  formed = formed-more steps (Reask w) k.formed (weight-formed w may.weighed);
  clauses = k.clauses;
  literals = k.literals;
}
posts-step s Closed steps may k = posts-nothing s (solo_step s Closed) steps refl k
posts-step s (Volume v) steps may k = posts-nothing s (solo_step s (Volume v)) steps refl k
posts-step s (Started i) steps may k = posts-nothing s (solo_step s (Started i)) steps refl k
posts-step s (Finished i outcome) steps may k = posts-nothing s (solo_step s (Finished i outcome)) steps (finish-keeps s i outcome).revisions k
posts-step s Exchanged steps may k = posts-nothing s (solo_step s Exchanged) steps refl k

-- and all that follow
posts-all : (past os : List Own) (steps : List Step) → AllPass past os → IsPosting (solo past) steps → IsPosting (solo (past ++ os)) (steps ++ flat_map steps_at os)
posts-all past [] steps all k = subst (λ (es : List Own). IsPosting (solo es) (steps ++ [])) (sym (append-nil past)) (subst (λ (ss : List Step). IsPosting (solo past) ss) (sym (append-nil steps)) k)
posts-all past (o ∷ os) steps all k =
    let here : IsPosting (solo (past ++ o ∷ [])) (steps ++ steps_at o) = subst (λ (s : SoloMachine). IsPosting s (steps ++ steps_at o)) (sym (solo-push past o)) (posts-step (solo past) o steps all.0 k) in
    let rest = posts-all (past ++ o ∷ []) os (steps ++ steps_at o) all.1 here in
    subst (λ (es : List Own). IsPosting (solo es) (steps ++ (steps_at o ++ flat_map steps_at os))) (append_assoc past (o ∷ []) os) (subst (λ (ss : List Step). IsPosting (solo ((past ++ o ∷ []) ++ os)) ss) (append_assoc steps (steps_at o) (flat_map steps_at os)) rest)

-- the script of a lawful job, whose names are names, is in form and within the limits that are served
pub script-formed : (k : Key) (own : List Own) → is_name k.tenant ≡ true → is_name k.job ≡ true → IsLawful own → IsScript limits (script_of k own)
script-formed k [] tenant job lawful = absurd lawful
script-formed k (Opened ask ∷ os) tenant job lawful =
    let none : IsPosting (solo (Opened ask ∷ [])) [] = record { revisions = refl; few = omega arith; formed = refl; clauses = omega arith; literals = omega arith } in
    let p : IsPosting (solo (Opened ask ∷ os)) (flat_map steps_at os) = posts-all (Opened ask ∷ []) os [] lawful.1 none in (
      record {
        formed = record {
          tenant = tenant;
          name = job;
          ask = lawful.0;
          few = subst (λ (rs : List Posted). length rs ≤ limits.revisions) p.revisions p.few;
          formed = p.formed;
          clauses = subst (λ (rs : List Posted). clauses_in rs ≤ limits.clauses) p.revisions p.clauses;
          literals = subst (λ (rs : List Posted). literals_in rs ≤ limits.literals) p.revisions p.literals;
        };
        new = refl;
        room = refl;
        tenants = omega arith;
      },
      tt,
    )
script-formed k (Revised r ∷ os) tenant job lawful = absurd lawful
script-formed k (Reasked w ∷ os) tenant job lawful = absurd lawful
script-formed k (Closed ∷ os) tenant job lawful = absurd lawful
script-formed k (Volume v ∷ os) tenant job lawful = absurd lawful
script-formed k (Started i ∷ os) tenant job lawful = absurd lawful
script-formed k (Finished i outcome ∷ os) tenant job lawful = absurd lawful
script-formed k (Exchanged ∷ os) tenant job lawful = absurd lawful
