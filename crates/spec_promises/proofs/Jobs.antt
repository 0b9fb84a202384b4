-- What a job of a script did by the end: it has the script's ask and revisions, and all its answers.
use Rattle.std.proofs.Common.{◌≡◌, ℕ, ◌<◌, ◌≤◌, Bool, true, false, cond, ◌||◌, List, [], ◌∷◌, ◌++◌, fold, length, map, refl, sym, ◌∙◌, ap, subst, arith, append_assoc, append-nil}
use Rattle.std.specs.Prelude.{slice_get, Some}
use Rattle.std.specs.List.{list_any}
use Rattle.std.proofs.lemmas.Bool.{both_ways, lt-ltb}
use Rattle.mal_base.specs.Asks.{Terms}
use Rattle.mal_base.specs.Limits.{limits}
use Rattle.mal_revision.specs.Posted.{Posted}
use Rattle.spec_job.specs.KeyedJob.{Key}
use Rattle.spec_job.specs.SoloMachine.{Own, Opened, Revised, Reasked, Closed, Volume, Started, Finished, Exchanged, SoloMachine, is_live, solo, solo_step, unopened}
use Rattle.spec_job.proofs.StepLemmas.{finish-keeps, start-keeps}
use Rattle.spec_hall.specs.Events.{Event, moves}
use Rattle.spec_hall.specs.Legal.{Legal}
use Rattle.spec_hall.specs.Own.{is_key, own}
use Rattle.spec_hall.specs.States.{keys_of, live_of, live_ones, lives, states, titled}
use Rattle.spec_hall.proofs.KeyLemmas.{is_key-Decides}
use Rattle.spec_hall.proofs.OrderlyLemmas.{legal-orderly}
use Rattle.spec_hall.proofs.RunnableLemmas.{legal-answers_follow}
use Rattle.spec_hall.proofs.VolumeLemmas.{revise-keeps}
use Rattle.spec_run.specs.Complete.{IsComplete, key_of_job}
use Rattle.spec_script.specs.Formed.{IsScript}
use Rattle.spec_script.specs.Script.{ScriptedJob, Scripted, revisions, revisions_in}
use Rattle.spec_script.specs.declared.step.Step.{Step}
use Rattle.spec_script.specs.declared.step.Step.TheVariants as steps
use Rattle.spec_cluster.specs.Clusters.{is_named, is_there}
use Rattle.spec_cluster.proofs.NameLemmas.{all-come, named-append, there-append}
use Rattle.spec_cluster.proofs.PostedLemmas.{one-of_key}
use Rattle.spec_cluster.proofs.SaidLemmas.{complete-said, is_said, own_of, said, says}

-- two machines ask alike and have the same revisions
pub record AskAlike (s t : SoloMachine) : Type 0 where
  pub ask : s.ask ≡ t.ask
  pub revisions : s.revisions ≡ t.revisions

alike-said : (s t : SoloMachine) (o : Own) → is_said o ≡ true → AskAlike s t → AskAlike (solo_step s o) (solo_step t o)
alike-said s t (Opened ask) q a = record { ask = refl; revisions = a.revisions }
alike-said s t (Revised r) q a = record {
  ask = (revise-keeps s r).ask ∙ (a.ask ∙ sym (revise-keeps t r).ask);
  revisions = (revise-keeps s r).revisions ∙ (ap (λ (rs : List Posted). rs ++ r ∷ []) a.revisions ∙ sym (revise-keeps t r).revisions);
}
alike-said s t (Reasked w) q a = record { ask = ap (λ (terms : Terms). (solo_step (record s { ask = terms }) (Reasked w)).ask) a.ask; revisions = a.revisions }
alike-said s t Closed q a = record { ask = a.ask; revisions = a.revisions }
alike-said s t (Volume v) q a = absurd (both_ways false refl q)
alike-said s t (Started i) q a = absurd (both_ways false refl q)
alike-said s t (Finished i outcome) q a = absurd (both_ways false refl q)
alike-said s t Exchanged q a = absurd (both_ways false refl q)

alike-quiet : (s t : SoloMachine) (o : Own) → is_said o ≡ false → AskAlike s t → AskAlike (solo_step s o) t
alike-quiet s t (Opened ask) q a = absurd (both_ways true q refl)
alike-quiet s t (Revised r) q a = absurd (both_ways true q refl)
alike-quiet s t (Reasked w) q a = absurd (both_ways true q refl)
alike-quiet s t Closed q a = absurd (both_ways true q refl)
alike-quiet s t (Volume v) q a = record { ask = a.ask; revisions = a.revisions }
alike-quiet s t (Started i) q a = record { ask = (start-keeps s i).ask ∙ a.ask; revisions = (start-keeps s i).revisions ∙ a.revisions }
alike-quiet s t (Finished i outcome) q a = record { ask = (finish-keeps s i outcome).ask ∙ a.ask; revisions = (finish-keeps s i outcome).revisions ∙ a.revisions }
alike-quiet s t Exchanged q a = record { ask = a.ask; revisions = a.revisions }

fold-alike : (os : List Own) (s t : SoloMachine) → AskAlike s t → AskAlike (fold solo_step s os) (fold solo_step t (said os))
fold-alike [] s t a = a
fold-alike (o ∷ os) s t a = by_test (is_said o) refl (λ x y h. fold-alike os x y h)
  where
    by_test : (b : Bool) → is_said o ≡ b → ((x y : SoloMachine) → AskAlike x y → AskAlike (fold solo_step x os) (fold solo_step y (said os))) → AskAlike (fold solo_step (solo_step s o) os) (fold solo_step t (cond b (o ∷ said os) (said os)))
    by_test true q rest = rest (solo_step s o) (solo_step t o) (alike-said s t o q a)
    by_test false q rest = rest (solo_step s o) t (alike-quiet s t o q a)

-- so a machine asks as what was posted says
pub solo-alike : (os want : List Own) → said os ≡ want → AskAlike (solo os) (solo want)
solo-alike os want is = subst (λ (xs : List Own). AskAlike (solo os) (solo xs)) is (fold-alike os unopened unopened (record { ask = refl; revisions = refl }))

-- which keeps the budget and the profile of the opening, and has the script's revisions
record SaysSteps (s t : SoloMachine) (ss : List Step) : Type 0 where
  slices : t.ask.slices ≡ s.ask.slices
  profile : t.ask.profile ≡ s.ask.profile
  revisions : t.revisions ≡ s.revisions ++ revisions_in ss

says-steps : (ss : List Step) (s : SoloMachine) → SaysSteps s (fold solo_step s (map own_of ss ++ Closed ∷ [])) ss
says-steps [] s = record { slices = refl; profile = refl; revisions = sym (append-nil s.revisions) }
says-steps (steps.Revise r ∷ ss) s =
    let rest : SaysSteps (solo_step s (Revised r)) (fold solo_step (solo_step s (Revised r)) (map own_of ss ++ Closed ∷ [])) ss = says-steps ss (solo_step s (Revised r)) in
    record {
      slices = rest.slices ∙ ap (λ (a : Terms). a.slices) (revise-keeps s r).ask;
      profile = rest.profile ∙ ap (λ (a : Terms). a.profile) (revise-keeps s r).ask;
      revisions = rest.revisions ∙ (ap (λ (rs : List Posted). rs ++ revisions_in ss) (revise-keeps s r).revisions ∙ append_assoc s.revisions (r ∷ []) (revisions_in ss));
    }
says-steps (steps.Reask w ∷ ss) s =
    let rest : SaysSteps (solo_step s (Reasked w)) (fold solo_step (solo_step s (Reasked w)) (map own_of ss ++ Closed ∷ [])) ss = says-steps ss (solo_step s (Reasked w)) in
    record { slices = rest.slices; profile = rest.profile; revisions = rest.revisions }

-- what a job did by the end
pub record Did (os : List Own) (j : ScriptedJob) : Type 0 where
  pub posts : said os ≡ says j
  pub slices : (solo os).ask.slices ≡ j.ask.slices
  pub profile : (solo os).ask.profile ≡ j.ask.profile
  pub revised : (solo os).revisions ≡ revisions j
  pub answered : length (solo os).answers ≡ length (revisions j)

pub did : (os : List Own) (j : ScriptedJob) → said os ≡ says j → length (solo os).answers ≡ length (solo os).revisions → Did os j
did os j is long =
    let alike : AskAlike (solo os) (solo (says j)) = solo-alike os (says j) is in
    let says-all : SaysSteps (solo_step unopened (Opened j.ask)) (solo (says j)) j.steps = says-steps j.steps (solo_step unopened (Opened j.ask)) in
    record {
      posts = is;
      slices = ap (λ (a : Terms). a.slices) alike.ask ∙ says-all.slices;
      profile = ap (λ (a : Terms). a.profile) alike.ask ∙ says-all.profile;
      revised = alike.revisions ∙ says-all.revisions;
      answered = long ∙ ap length (alike.revisions ∙ says-all.revisions);
    }

-- where no job of a history is live, one that is there has all its answers
none-live : (h : List Event) (k : Key) (ks : List Key) → lives (map (titled h) ks) ≡ [] → list_any (is_key k) ks ≡ true → is_live (solo (own k h)) ≡ false
none-live h k [] none there = absurd (both_ways false refl there)
none-live h k (x ∷ xs) none there = by_live (is_live (solo (own x h))) refl none (is_key k x) refl there (none-live h k xs)
  where
    by_live : (b : Bool) → is_live (solo (own x h)) ≡ b → map live_of (cond b (titled h x ∷ live_ones (map (titled h) xs)) (live_ones (map (titled h) xs))) ≡ [] → (c : Bool) → is_key k x ≡ c → (c || list_any (is_key k) xs) ≡ true → (lives (map (titled h) xs) ≡ [] → list_any (is_key k) xs ≡ true → is_live (solo (own k h)) ≡ false) → is_live (solo (own k h)) ≡ false
    by_live true p e c q f rest = absurd (cc)
    by_live false p e true q f rest = ap (λ (y : Key). is_live (solo (own y h))) ((is_key-Decides k x).0 q) ∙ p
    by_live false p e false q f rest = rest e f

pub all-answered : (w : ℕ) (h : List Event) (k : Key) → Legal w h → lives (states h) ≡ [] → is_there k h ≡ true → length (solo (own k h)).answers ≡ length (solo (own k h)).revisions
all-answered w h k legal none there =
    same (length (solo (own k h)).answers) (length (solo (own k h)).revisions) (legal-answers_follow w h legal k) (λ less. both_ways (is_live (solo (own k h))) (none-live h k (keys_of h) none there) (lt-ltb (length (solo (own k h)).answers) (length (solo (own k h)).revisions) less))
  where
    same : (a b : ℕ) → a ≤ b → (a < b → ⊥) → a ≡ b
    same a b p q = omega (arith, p, q)

-- a job of a run in one hall is there
run-there : (w : ℕ) (h : List Event) (k : Key) (j : ScriptedJob) → Legal w h → list_any moves h ≡ false → said (own k h) ≡ says j → is_there k h ≡ true
run-there w h k j legal still is =
    let named : is_named k h ≡ true = by_name (is_named k h) refl in
    there-append k [] h still ∙ (sym (all-come k h still) ∙ (sym (named-append k [] h) ∙ named))
  where
    nothing : said [] ≡ says j → ⊥
    nothing q = cc

    by_name : (b : Bool) → is_named k h ≡ b → b ≡ true
    by_name true q = refl
    by_name false q = absurd (nothing (ap said (sym ((legal-orderly w h legal).unknown k q)) ∙ is))

-- so it is with each job of a script whose history is legal and complete
pub run-did : (w i : ℕ) (s : Scripted) (h : List Event) (j : ScriptedJob) → IsScript limits s → Legal w h → IsComplete s h → slice_get s.jobs i ≡ Some j → Did (own (key_of_job j) h) j
run-did w i s h j formed legal complete at =
    let mine : said (own (key_of_job j) h) ≡ says j = complete-said s h (key_of_job j) j complete.stay (complete.posts j.tenant) (one-of_key s i j formed at) in
    did (own (key_of_job j) h) j mine (all-answered w h (key_of_job j) legal complete.answered (run-there w h (key_of_job j) j legal complete.stay mine))
