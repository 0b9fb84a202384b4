-- The replies to a job that always asks for one worker.
use Rattle.std.proofs.Common.{◌≡◌, ℕ, zero, suc, ◌+◌, Bool, true, false, cond, ◌&&◌, ◌==◌, List, [], ◌∷◌, ◌++◌, fold, length, map, flat_map, refl, sym, ◌∙◌, ap, ap₂, arith, append_assoc, append-nil}
use Rattle.std.specs.Prelude.{slice_get, Option, Some, None, is_some}
use Rattle.std.specs.List.{list_all, list_any}
use Rattle.std.specs.Option.{option_map}
use Rattle.std.proofs.lemmas.Bool.{and_from, and_parts, both_ways, eqb-true, or_parts}
use Rattle.std.proofs.lemmas.List.Folds.{list_all-append}
use Rattle.mal_base.specs.Asks.{Terms}
use Rattle.mal_base.specs.Limits.{limits}
use Rattle.mal_base.specs.declared.answer.Answer.{Answer}
use Rattle.mal_revision.specs.Posted.{Posted}
use Rattle.spec_job.specs.DemandOne.{AgreeAll, asks_for_one}
use Rattle.spec_job.specs.KeyedJob.{Key}
use Rattle.spec_job.specs.Replies.{body_by, reply}
use Rattle.spec_job.specs.SoloMachine.{Own, Opened, Revised, Reasked, Closed, Volume, Started, Finished, Exchanged, SoloMachine, solo, solo_step, unopened}
use Rattle.spec_job.specs.Unknown.{is_fed}
use Rattle.spec_job.proofs.StepLemmas.{finish-keeps, start-keeps}
use Rattle.spec_hall.specs.Events.{Event, Open, Revise, Reask, Close, Balance, Start, Finish, Exchange, Leave, Arrive, moves}
use Rattle.spec_hall.specs.Laws.{AsksForOne}
use Rattle.spec_hall.specs.Legal.{Legal}
use Rattle.spec_hall.specs.Own.{adds, arrives, is_key, own, own_step, volume_in}
use Rattle.spec_hall.proofs.PushLemmas.{adds-keeps, adds_volume-keeps}
use Rattle.spec_hall.proofs.SingleLemmas.{legal-asks_for_one, legal-singles_agree}
use Rattle.spec_hall.proofs.VolumeLemmas.{revise-keeps}
use Rattle.spec_run.specs.Complete.{IsComplete, key_of_job}
use Rattle.spec_run.specs.Run.{is_fed as event_fed, job_replies, replies, replies_from, text_or_none}
use Rattle.spec_script.specs.Formed.{IsScript}
use Rattle.spec_script.specs.Script.{ScriptedJob, Scripted, revisions}
use Rattle.spec_script.specs.declared.step.Step.{Step}
use Rattle.spec_script.specs.declared.step.Step.TheVariants as steps
use Rattle.spec_cluster.specs.Run.{is_for_one, step_for_one}
use Rattle.spec_cluster.proofs.NameLemmas.{arrive-moves, none-moves}
use Rattle.spec_cluster.proofs.SaidLemmas.{is_said, own_of, said, says, steps_of}
use Rattle.spec_promises.specs.Singles.{SinglesRunAlike, SingleReplaysAreAlike, SingleRunsAreAlike}
use Rattle.spec_promises.proofs.Jobs.{AskAlike, Did, run-did, solo-alike}

-- each own event leaves the demand at 1 where what was posted does
one-quiet : (o : Own) → is_said o ≡ false → asks_for_one o ≡ true
one-quiet (Opened ask) q = absurd (both_ways true q refl)
one-quiet (Revised r) q = refl
one-quiet (Reasked w) q = absurd (both_ways true q refl)
one-quiet Closed q = refl
one-quiet (Volume v) q = refl
one-quiet (Started i) q = refl
one-quiet (Finished i outcome) q = refl
one-quiet Exchanged q = refl

said-one : (os : List Own) → list_all asks_for_one (said os) ≡ true → list_all asks_for_one os ≡ true
said-one [] all = refl
said-one (o ∷ os) all = by_test (is_said o) refl all (said-one os)
  where
    by_test : (b : Bool) → is_said o ≡ b → list_all asks_for_one (cond b (o ∷ said os) (said os)) ≡ true → (list_all asks_for_one (said os) ≡ true → list_all asks_for_one os ≡ true) → (asks_for_one o && list_all asks_for_one os) ≡ true
    by_test true q h rest = let parts = and_parts (asks_for_one o) (list_all asks_for_one (said os)) h in and_from (asks_for_one o) (list_all asks_for_one os) parts.0 (rest parts.1)
    by_test false q h rest = and_from (asks_for_one o) (list_all asks_for_one os) (one-quiet o q) (rest h)

-- a job that always asks for one says so
steps-one : (ss : List Step) → list_all step_for_one ss ≡ true → list_all asks_for_one (map own_of ss ++ Closed ∷ []) ≡ true
steps-one [] all = refl
steps-one (steps.Revise r ∷ ss) all = steps-one ss all
steps-one (steps.Reask w ∷ ss) all = let parts = and_parts (w.demand == 1) (list_all step_for_one ss) all in and_from (w.demand == 1) (list_all asks_for_one (map own_of ss ++ Closed ∷ [])) parts.0 (steps-one ss parts.1)

says-one : (j : ScriptedJob) → is_for_one j ≡ true → list_all asks_for_one (says j) ≡ true
says-one j one = let parts = and_parts (j.ask.demand == 1) (list_all step_for_one j.steps) one in and_from (j.ask.demand == 1) (list_all asks_for_one (steps_of j)) parts.0 (steps-one j.steps parts.1)

demand-step : (s : SoloMachine) (o : Own) → asks_for_one o ≡ true → s.ask.demand ≡ 1 → (solo_step s o).ask.demand ≡ 1
demand-step s (Opened ask) q d = eqb-true ask.demand 1 q
demand-step s (Revised r) q d = ap (λ (a : Terms). a.demand) (revise-keeps s r).ask ∙ d
demand-step s (Reasked w) q d = eqb-true w.demand 1 q
demand-step s Closed q d = d
demand-step s (Volume v) q d = d
demand-step s (Started i) q d = ap (λ (a : Terms). a.demand) (start-keeps s i).ask ∙ d
demand-step s (Finished i outcome) q d = ap (λ (a : Terms). a.demand) (finish-keeps s i outcome).ask ∙ d
demand-step s Exchanged q d = d

demand-fold : (os : List Own) (s : SoloMachine) → list_all asks_for_one os ≡ true → s.ask.demand ≡ 1 → (fold solo_step s os).ask.demand ≡ 1
demand-fold [] s all d = d
demand-fold (o ∷ os) s all d = let parts = and_parts (asks_for_one o) (list_all asks_for_one os) all in demand-fold os (solo_step s o) parts.1 (demand-step s o parts.0 d)

says-demand : (j : ScriptedJob) → is_for_one j ≡ true → (solo (says j)).ask.demand ≡ 1
says-demand j one =
    let parts = and_parts (j.ask.demand == 1) (list_all asks_for_one (steps_of j)) (says-one j one) in
    demand-fold (steps_of j) (solo_step unopened (Opened j.ask)) parts.1 (eqb-true j.ask.demand 1 parts.0)

-- so the job of a run asks for one
did-one : (w : ℕ) (h : List Event) (j : ScriptedJob) → Legal w h → list_any moves h ≡ false → Did (own (key_of_job j) h) j → is_for_one j ≡ true → list_all is_fed (own (key_of_job j) h) ≡ true → AsksForOne h (key_of_job j)
did-one w h j legal still did one fed =
    let alike : AskAlike (solo (own (key_of_job j) h)) (solo (says j)) = solo-alike (own (key_of_job j) h) (says j) did.posts in
    legal-asks_for_one w h (key_of_job j) legal (none-moves (arrives (key_of_job j)) (arrive-moves (key_of_job j)) h still)
    (ap (λ (a : Terms). a.demand) alike.ask ∙ says-demand j one)
    (said-one (own (key_of_job j) h) (ap (list_all asks_for_one) did.posts ∙ says-one j one)) fed

-- machines that agree and have as many answers reply alike
same-places : (xs ys : List Answer) → length xs ≡ length ys → (m : ℕ) → is_some (slice_get xs m) ≡ is_some (slice_get ys m)
same-places [] [] q m = refl
same-places [] (y ∷ ys) q m = absurd (omega (arith, q))
same-places (x ∷ xs) [] q m = absurd (omega (arith, q))
same-places (x ∷ xs) (y ∷ ys) q zero = refl
same-places (x ∷ xs) (y ∷ ys) q (suc m) = same-places xs ys (omega (arith, q)) m

mapped : {X Y : Type 0} (f : X → Y) (o : Option X) → is_some (option_map f o) ≡ is_some o
mapped f None = refl
mapped f (Some x) = refl

reply-some : (k : Key) (m : ℕ) (s : SoloMachine) → is_some (reply k (suc m) s) ≡ is_some (slice_get s.answers m)
reply-some k m s = mapped _ (option_map (body_by s m) (slice_get s.answers m)) ∙ mapped (body_by s m) (slice_get s.answers m)

alike-replies : (k : Key) (s t : SoloMachine) → AgreeAll s t → length s.answers ≡ length t.answers → (r : ℕ) → reply k r s ≡ reply k r t
alike-replies k s t agree long zero = refl
alike-replies k s t agree long (suc m) = by_replies (reply k (suc m) s) (reply k (suc m) t) refl refl
  where
    same : is_some (reply k (suc m) s) ≡ is_some (reply k (suc m) t)
    same = reply-some k m s ∙ (same-places s.answers t.answers long m ∙ sym (reply-some k m t))

    by_replies : (x y : Option (List ℕ)) → reply k (suc m) s ≡ x → reply k (suc m) t ≡ y → x ≡ y
    by_replies None None p q = refl
    by_replies None (Some b) p q = absurd (both_ways false refl (sym (ap (λ (o : Option (List ℕ)). is_some o) p) ∙ (same ∙ ap (λ (o : Option (List ℕ)). is_some o) q)))
    by_replies (Some a) None p q = absurd (both_ways false refl (sym (ap (λ (o : Option (List ℕ)). is_some o) q) ∙ (sym same ∙ ap (λ (o : Option (List ℕ)). is_some o) p)))
    by_replies (Some a) (Some b) p q = ap (λ (x : List ℕ). Some x) (agree.replies k (suc m) a b p q)

replies-same : (k : Key) (s t : SoloMachine) → ((r : ℕ) → reply k r s ≡ reply k r t) → (n : ℕ) (ps : List Posted) → replies_from k n s ps ≡ replies_from k n t ps
replies-same k s t same n [] = refl
replies-same k s t same n (p ∷ ps) = ap₂ (λ (o : Option (List ℕ)) (xs : List ℕ). text_or_none o ++ xs) (same n) (replies-same k s t same (n + 1) ps)

-- in two histories of one script
both-alike : (workers others i : ℕ) (s : Scripted) (one other : List Event) (j : ScriptedJob) → IsScript limits s → Legal workers one → IsComplete s one → Legal others other → IsComplete s other → slice_get s.jobs i ≡ Some j → is_for_one j ≡ true → list_all is_fed (own (key_of_job j) one) ≡ true → list_all is_fed (own (key_of_job j) other) ≡ true → job_replies one j ≡ job_replies other j
both-alike workers others i s one other j formed legal complete lawful whole at single fed also =
    let k : Key = key_of_job j in
    let mine : Did (own k one) j = run-did workers i s one j formed legal complete at in
    let yours : Did (own k other) j = run-did others i s other j formed lawful whole at in
    let agree : AgreeAll (solo (own k one)) (solo (own k other)) =
    legal-singles_agree k workers others one other [] legal lawful (did-one workers one j legal complete.stay mine single fed) (did-one others other j lawful whole.stay yours single also)
    (mine.slices ∙ sym yours.slices) (mine.profile ∙ sym yours.profile) (yours.revised ∙ (sym mine.revised ∙ sym (append-nil (solo (own k one)).revisions))) in
    replies-same k (solo (own k one)) (solo (own k other)) (alike-replies k (solo (own k one)) (solo (own k other)) agree (mine.answered ∙ sym yours.answered)) 1 (revisions j)

pub singles_run_alike : SinglesRunAlike
singles_run_alike workers others i s one other log_one log_other out_one out_other j formed run ran at single fed also =
    both-alike workers others i s one other j formed run.legal run.complete ran.legal ran.complete at single fed also

-- where no start of a history ran out of memory, none of a job's did
pushed-fed : (os : List Own) (o : Own) → is_fed o ≡ true → list_all is_fed os ≡ true → list_all is_fed (os ++ o ∷ []) ≡ true
pushed-fed os o q all = list_all-append is_fed os (o ∷ []) ∙ and_from (list_all is_fed os) (is_fed o && true) all (and_from (is_fed o) true q refl)

adds-fed : (mine : Bool) (os : List Own) (o : Own) → is_fed o ≡ true → list_all is_fed os ≡ true → list_all is_fed (adds mine os o) ≡ true
adds-fed mine os o q all = adds-keeps (λ xs. list_all is_fed xs ≡ true) mine os o all (λ m. pushed-fed os o q all)

event-fed : (k : Key) (os : List Own) (e : Event) → moves e ≡ false → event_fed e ≡ true → list_all is_fed os ≡ true → list_all is_fed (own_step k os e) ≡ true
event-fed k os (Open i ask) still q all = adds-fed (is_key k i) os (Opened ask) refl all
event-fed k os (Revise i n r) still q all = adds-fed (is_key k i) os (Revised r) refl all
event-fed k os (Reask i w) still q all = adds-fed (is_key k i) os (Reasked w) refl all
event-fed k os (Close i) still q all = adds-fed (is_key k i) os Closed refl all
event-fed k os (Balance shares) still q all = adds_volume-keeps (λ xs. list_all is_fed xs ≡ true) (volume_in k shares) os all (pushed-fed os (Volume (volume_in k shares)) refl all)
event-fed k os (Start i index worker) still q all = adds-fed (is_key k i) os (Started index) refl all
event-fed k os (Finish i index worker outcome) still q all = adds-fed (is_key k i) os (Finished index outcome) q all
event-fed k os (Exchange i) still q all = adds-fed (is_key k i) os Exchanged refl all
event-fed k os (Leave i) still q all = absurd (both_ways true still refl)
event-fed k os (Arrive i brought) still q all = absurd (both_ways true still refl)

events-fed : (k : Key) (es : List Event) (os : List Own) → list_any moves es ≡ false → list_all event_fed es ≡ true → list_all is_fed os ≡ true → list_all is_fed (fold (own_step k) os es) ≡ true
events-fed k [] os still q all = all
events-fed k (e ∷ es) os still q all =
    let quiet = or_parts (moves e) (list_any moves es) still in
    let parts = and_parts (event_fed e) (list_all event_fed es) q in
    events-fed k es (own_step k os e) quiet.1 parts.1 (event-fed k os e quiet.0 parts.0 all)

-- job by job
jobs-alike : (front js : List ScriptedJob) (one other : List Event) → ((i : ℕ) (j : ScriptedJob) → slice_get (front ++ js) i ≡ Some j → is_for_one j ≡ true → job_replies one j ≡ job_replies other j) → list_all is_for_one js ≡ true → flat_map (job_replies one) js ≡ flat_map (job_replies other) js
jobs-alike front [] one other same all = refl
jobs-alike front (j ∷ js) one other same all =
    let parts = and_parts (is_for_one j) (list_all is_for_one js) all in
    ap₂ (λ (x xs : List ℕ). x ++ xs) (same (length front) j (at front) parts.0)
    (jobs-alike (front ++ j ∷ []) js one other (λ i x q. same i x (sym (ap (λ (xs : List ScriptedJob). slice_get xs i) (append_assoc front (j ∷ []) js)) ∙ q)) parts.1)
  where
    at : (xs : List ScriptedJob) → slice_get (xs ++ j ∷ js) (length xs) ≡ Some j
    at [] = refl
    at (x ∷ xs) = at xs

all-alike : (workers others : ℕ) (s : Scripted) (one other : List Event) → IsScript limits s → Legal workers one → IsComplete s one → Legal others other → IsComplete s other → list_all is_for_one s.jobs ≡ true → list_all event_fed one ≡ true → list_all event_fed other ≡ true → replies s one ≡ replies s other
unfolding replies
all-alike workers others s one other formed legal complete lawful whole all fed also =
    jobs-alike [] s.jobs one other (λ i j at single. both-alike workers others i s one other j formed legal complete lawful whole at single (events-fed (key_of_job j) one [] complete.stay fed refl) (events-fed (key_of_job j) other [] whole.stay also refl)) all

pub single_runs_are_alike : SingleRunsAreAlike
single_runs_are_alike workers others s one other log_one log_other out_one out_other formed run ran all fed also =
    run.out_text ∙ (all-alike workers others s one other formed run.legal run.complete ran.legal ran.complete all fed also ∙ sym ran.out_text)

pub single_replays_are_alike : SingleReplaysAreAlike
single_replays_are_alike workers others s lines_one lines_other one other formed replied again all fed also =
    replied.text_is ∙ (all-alike workers others s replied.events again.events formed replied.legal.legal replied.complete again.legal.legal again.complete all fed also ∙ sym again.text_is)
