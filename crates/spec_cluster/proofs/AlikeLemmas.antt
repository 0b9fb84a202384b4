-- A job that always asks for one worker is replied to in a cluster as in one hall.
use Rattle.std.proofs.Common.{◌≡◌, ℕ, zero, suc, ◌+◌, ◌%◌, ◌<◌, ◌≤◌, Bool, true, false, cond, not, ◌&&◌, ◌||◌, ◌==◌, List, [], ◌∷◌, ◌++◌, fold, length, map, slice_get, Option, Some, None, is_some, refl, sym, ◌∙◌, ap, subst, arith, append-nil}
use Rattle.std.specs.List.{list_all, list_any}
use Rattle.std.specs.Option.{option_map}
use Rattle.std.proofs.lemmas.Bool.{and_from, and_parts, both_ways, eqb-true, lt-ltb, or_parts}
use Rattle.mal_base.specs.Asks.{Terms}
use Rattle.mal_base.specs.declared.answer.Answer.{Answer}
use Rattle.mal_revision.specs.Posted.{Posted}
use Rattle.spec_node.specs.Load.{counted}
use Rattle.spec_job.specs.DemandOne.{AgreeAll, asks_for_one}
use Rattle.spec_job.specs.KeyedJob.{Key}
use Rattle.spec_job.specs.Replies.{body_by, reply}
use Rattle.spec_job.specs.SoloMachine.{Own, Opened, Revised, Reasked, Closed, Volume, Started, Finished, Exchanged, SoloMachine, is_live, solo, solo_step, unopened}
use Rattle.spec_job.proofs.StepLemmas.{finish-keeps, start-keeps}
use Rattle.spec_hall.specs.Events.{Event, moves}
use Rattle.spec_hall.specs.Laws.{AsksForOne}
use Rattle.spec_hall.specs.Legal.{Legal}
use Rattle.spec_hall.specs.Own.{arrives, is_key, own}
use Rattle.spec_hall.specs.States.{keys_of, live_of, live_ones, lives, states, titled}
use Rattle.spec_hall.proofs.KeyLemmas.{is_key-Decides}
use Rattle.spec_hall.proofs.OrderlyLemmas.{legal-orderly}
use Rattle.spec_hall.proofs.RunnableLemmas.{legal-answers_follow}
use Rattle.spec_hall.proofs.SingleLemmas.{legal-asks_for_one}
use Rattle.spec_hall.proofs.VolumeLemmas.{revise-keeps}
use Rattle.spec_run.specs.Complete.{key_of_job}
use Rattle.spec_run.specs.Run.{job_replies, replies_from, text_or_none}
use Rattle.spec_script.specs.Script.{ScriptedJob, Scripted, revisions}
use Rattle.spec_script.specs.declared.step.Step.{Step}
use Rattle.spec_script.specs.declared.step.Step.TheVariants as steps
use Rattle.spec_cluster.specs.Clusters.{Cluster, home, is_named, is_there}
use Rattle.spec_cluster.specs.Laws.{SinglesReplyAlike}
use Rattle.spec_cluster.specs.Rounds.{AreRounds, is_live as some_live}
use Rattle.spec_cluster.specs.Run.{is_for_one, moved_replies, posted, step_for_one}
use Rattle.spec_cluster.specs.Visits.{all_of, hall_at}
use Rattle.spec_cluster.proofs.HallLemmas.{IsHome, home-found}
use Rattle.spec_cluster.proofs.NameLemmas.{all-come, arrive-moves, named-append, none-moves, there-append, unnamed-there, named-by}
use Rattle.spec_cluster.proofs.PostedLemmas.{IsDealt, apart-of_key, dealt-one, dealt_at, of_key, one-of_key, posted-halls, posted-named, posted_at}
use Rattle.spec_cluster.proofs.SaidLemmas.{AllSay, Says, all-say, complete-said, is_said, own_of, said, says, says-said, script-own, steps_of}
use Rattle.spec_cluster.proofs.SingleMoveLemmas.{singles-agree}
use Rattle.spec_cluster.proofs.StayedLemmas.{own-is_all}
use Rattle.spec_cluster.proofs.ThereLemmas.{jobs-are_there, rounds-leave}

-- two machines ask alike and have the same revisions
record AskAlike (s t : SoloMachine) : Type 0 where
  ask : s.ask ≡ t.ask
  revisions : s.revisions ≡ t.revisions

alike-said : (s t : SoloMachine) (o : Own) → is_said o ≡ true → AskAlike s t → AskAlike (solo_step s o) (solo_step t o)
alike-said s t (Opened ask) q a = record { ask = refl; revisions = a.revisions }
alike-said s t (Revised r) q a = record {
  ask = (revise-keeps s r).ask ∙ (a.ask ∙ sym (revise-keeps t r).ask);
  revisions = (revise-keeps s r).revisions ∙ (ap (λ (rs : List Posted). rs ++ r ∷ []) a.revisions ∙ sym (revise-keeps t r).revisions);
}
alike-said s t (Reasked w) q a = record { ask = ap (λ (terms : Terms). (solo_step (record s { ask = terms }) (Reasked w)).ask) a.ask; revisions = a.revisions }
alike-said s t Closed q a = record { ask = a.ask; revisions = a.revisions }
alike-said s t (Volume v) q a = absurd (both_ways false refl q)
alike-said s t (Started i) q a = absurd (both_ways false refl q)
alike-said s t (Finished i outcome) q a = absurd (both_ways false refl q)
alike-said s t Exchanged q a = absurd (both_ways false refl q)

alike-quiet : (s t : SoloMachine) (o : Own) → is_said o ≡ false → AskAlike s t → AskAlike (solo_step s o) t
alike-quiet s t (Opened ask) q a = absurd (both_ways true q refl)
alike-quiet s t (Revised r) q a = absurd (both_ways true q refl)
alike-quiet s t (Reasked w) q a = absurd (both_ways true q refl)
alike-quiet s t Closed q a = absurd (both_ways true q refl)
alike-quiet s t (Volume v) q a = record { ask = a.ask; revisions = a.revisions }
alike-quiet s t (Started i) q a = record { ask = (start-keeps s i).ask ∙ a.ask; revisions = (start-keeps s i).revisions ∙ a.revisions }
alike-quiet s t (Finished i outcome) q a = record { ask = (finish-keeps s i outcome).ask ∙ a.ask; revisions = (finish-keeps s i outcome).revisions ∙ a.revisions }
alike-quiet s t Exchanged q a = record { ask = a.ask; revisions = a.revisions }

fold-alike : (os : List Own) (s t : SoloMachine) → AskAlike s t → AskAlike (fold solo_step s os) (fold solo_step t (said os))
fold-alike [] s t a = a
fold-alike (o ∷ os) s t a = by_test (is_said o) refl (λ x y h. fold-alike os x y h)
  where
    by_test : (b : Bool) → is_said o ≡ b → ((x y : SoloMachine) → AskAlike x y → AskAlike (fold solo_step x os) (fold solo_step y (said os))) → AskAlike (fold solo_step (solo_step s o) os) (fold solo_step t (cond b (o ∷ said os) (said os)))
    by_test true q rest = rest (solo_step s o) (solo_step t o) (alike-said s t o q a)
    by_test false q rest = rest (solo_step s o) t (alike-quiet s t o q a)

-- so a machine asks as what was posted says
solo-alike : (os want : List Own) → said os ≡ want → AskAlike (solo os) (solo want)
solo-alike os want is = subst (λ (xs : List Own). AskAlike (solo os) (solo xs)) is (fold-alike os unopened unopened (record { ask = refl; revisions = refl }))

-- each own event leaves the demand at 1 where what was posted does
one-quiet : (o : Own) → is_said o ≡ false → asks_for_one o ≡ true
one-quiet (Opened ask) q = absurd (both_ways true q refl)
one-quiet (Revised r) q = refl
one-quiet (Reasked w) q = absurd (both_ways true q refl)
one-quiet Closed q = refl
one-quiet (Volume v) q = refl
one-quiet (Started i) q = refl
one-quiet (Finished i outcome) q = refl
one-quiet Exchanged q = refl

said-one : (os : List Own) → list_all asks_for_one (said os) ≡ true → list_all asks_for_one os ≡ true
said-one [] all = refl
said-one (o ∷ os) all = by_test (is_said o) refl all (said-one os)
  where
    by_test : (b : Bool) → is_said o ≡ b → list_all asks_for_one (cond b (o ∷ said os) (said os)) ≡ true → (list_all asks_for_one (said os) ≡ true → list_all asks_for_one os ≡ true) → (asks_for_one o && list_all asks_for_one os) ≡ true
    by_test true q h rest = let parts = and_parts (asks_for_one o) (list_all asks_for_one (said os)) h in and_from (asks_for_one o) (list_all asks_for_one os) parts.0 (rest parts.1)
    by_test false q h rest = and_from (asks_for_one o) (list_all asks_for_one os) (one-quiet o q) (rest h)

-- a job that always asks for one says so
steps-one : (ss : List Step) → list_all step_for_one ss ≡ true → list_all asks_for_one (map own_of ss ++ Closed ∷ []) ≡ true
steps-one [] all = refl
steps-one (steps.Revise r ∷ ss) all = steps-one ss all
steps-one (steps.Reask w ∷ ss) all = let parts = and_parts (w.demand == 1) (list_all step_for_one ss) all in and_from (w.demand == 1) (list_all asks_for_one (map own_of ss ++ Closed ∷ [])) parts.0 (steps-one ss parts.1)

says-one : (j : ScriptedJob) → is_for_one j ≡ true → list_all asks_for_one (says j) ≡ true
says-one j one = let parts = and_parts (j.ask.demand == 1) (list_all step_for_one j.steps) one in and_from (j.ask.demand == 1) (list_all asks_for_one (steps_of j)) parts.0 (steps-one j.steps parts.1)

demand-step : (s : SoloMachine) (o : Own) → asks_for_one o ≡ true → s.ask.demand ≡ 1 → (solo_step s o).ask.demand ≡ 1
demand-step s (Opened ask) q d = eqb-true ask.demand 1 q
demand-step s (Revised r) q d = ap (λ (a : Terms). a.demand) (revise-keeps s r).ask ∙ d
demand-step s (Reasked w) q d = eqb-true w.demand 1 q
demand-step s Closed q d = d
demand-step s (Volume v) q d = d
demand-step s (Started i) q d = ap (λ (a : Terms). a.demand) (start-keeps s i).ask ∙ d
demand-step s (Finished i outcome) q d = ap (λ (a : Terms). a.demand) (finish-keeps s i outcome).ask ∙ d
demand-step s Exchanged q d = d

demand-fold : (os : List Own) (s : SoloMachine) → list_all asks_for_one os ≡ true → s.ask.demand ≡ 1 → (fold solo_step s os).ask.demand ≡ 1
demand-fold [] s all d = d
demand-fold (o ∷ os) s all d = let parts = and_parts (asks_for_one o) (list_all asks_for_one os) all in demand-fold os (solo_step s o) parts.1 (demand-step s o parts.0 d)

says-demand : (j : ScriptedJob) → is_for_one j ≡ true → (solo (says j)).ask.demand ≡ 1
says-demand j one =
    let parts = and_parts (j.ask.demand == 1) (list_all asks_for_one (steps_of j)) (says-one j one) in
    demand-fold (steps_of j) (solo_step unopened (Opened j.ask)) parts.1 (eqb-true j.ask.demand 1 parts.0)

-- what two histories of such a job have
record AsksOne (os : List Own) (j : ScriptedJob) : Type 0 where
  demand : (solo os).ask.demand ≡ 1
  always : list_all asks_for_one os ≡ true
  alike : AskAlike (solo os) (solo (says j))

asks-one : (os : List Own) (j : ScriptedJob) → is_for_one j ≡ true → said os ≡ says j → AsksOne os j
asks-one os j one is =
    let alike : AskAlike (solo os) (solo (says j)) = solo-alike os (says j) is in
    record {
      demand = ap (λ (a : Terms). a.demand) alike.ask ∙ says-demand j one;
      always = said-one os (ap (list_all asks_for_one) is ∙ says-one j one);
      alike = alike;
    }

-- machines that agree and have as many answers reply alike
same-places : (xs ys : List Answer) → length xs ≡ length ys → (m : ℕ) → is_some (slice_get xs m) ≡ is_some (slice_get ys m)
same-places [] [] q m = refl
same-places [] (y ∷ ys) q m = absurd (omega (arith, q))
same-places (x ∷ xs) [] q m = absurd (omega (arith, q))
same-places (x ∷ xs) (y ∷ ys) q zero = refl
same-places (x ∷ xs) (y ∷ ys) q (suc m) = same-places xs ys (omega (arith, q)) m

none-is : {X : Type 0} (o : Option X) → is_some o ≡ false → o ≡ None
none-is None q = refl
none-is (Some x) q = absurd (both_ways true q refl)

mapped : {X Y : Type 0} (f : X → Y) (o : Option X) → is_some (option_map f o) ≡ is_some o
mapped f None = refl
mapped f (Some x) = refl

reply-some : (k : Key) (m : ℕ) (s : SoloMachine) → is_some (reply k (suc m) s) ≡ is_some (slice_get s.answers m)
reply-some k m s = mapped _ (option_map (body_by s m) (slice_get s.answers m)) ∙ mapped (body_by s m) (slice_get s.answers m)

alike-replies : (k : Key) (s t : SoloMachine) → AgreeAll s t → length s.answers ≡ length t.answers → (r : ℕ) → reply k r s ≡ reply k r t
alike-replies k s t agree long zero = refl
alike-replies k s t agree long (suc m) = by_replies (reply k (suc m) s) (reply k (suc m) t) refl refl
  where
    same : is_some (reply k (suc m) s) ≡ is_some (reply k (suc m) t)
    same = reply-some k m s ∙ (same-places s.answers t.answers long m ∙ sym (reply-some k m t))

    by_replies : (x y : Option (List ℕ)) → reply k (suc m) s ≡ x → reply k (suc m) t ≡ y → x ≡ y
    by_replies None None p q = refl
    by_replies None (Some b) p q = absurd (both_ways false refl (sym (ap (λ (o : Option (List ℕ)). is_some o) p) ∙ (same ∙ ap (λ (o : Option (List ℕ)). is_some o) q)))
    by_replies (Some a) None p q = absurd (both_ways false refl (sym (ap (λ (o : Option (List ℕ)). is_some o) q) ∙ (sym same ∙ ap (λ (o : Option (List ℕ)). is_some o) p)))
    by_replies (Some a) (Some b) p q = ap (λ (x : List ℕ). Some x) (agree.replies k (suc m) a b p q)

replies-same : (k : Key) (s t : SoloMachine) → ((r : ℕ) → reply k r s ≡ reply k r t) → (n : ℕ) (ps : List Posted) → replies_from k n s ps ≡ replies_from k n t ps
replies-same k s t same n [] = refl
replies-same k s t same n (p ∷ ps) = ap (λ (o : Option (List ℕ)). text_or_none o ++ replies_from k (n + 1) s ps) (same n) ∙ ap (λ (xs : List ℕ). text_or_none (reply k n t) ++ xs) (replies-same k s t same (n + 1) ps)

-- where no job of a history is live, one that is there has all its answers
none-live : (h : List Event) (k : Key) (ks : List Key) → lives (map (titled h) ks) ≡ [] → list_any (is_key k) ks ≡ true → is_live (solo (own k h)) ≡ false
none-live h k [] none there = absurd (both_ways false refl there)
none-live h k (x ∷ xs) none there = by_live (is_live (solo (own x h))) refl none (is_key k x) refl there (none-live h k xs)
  where
    by_live : (b : Bool) → is_live (solo (own x h)) ≡ b → map live_of (cond b (titled h x ∷ live_ones (map (titled h) xs)) (live_ones (map (titled h) xs))) ≡ [] → (c : Bool) → is_key k x ≡ c → (c || list_any (is_key k) xs) ≡ true → (lives (map (titled h) xs) ≡ [] → list_any (is_key k) xs ≡ true → is_live (solo (own k h)) ≡ false) → is_live (solo (own k h)) ≡ false
    by_live true p e c q f rest = absurd (cc)
    by_live false p e true q f rest = ap (λ (y : Key). is_live (solo (own y h))) ((is_key-Decides k x).0 q) ∙ p
    by_live false p e false q f rest = rest e f

all-answered : (w : ℕ) (h : List Event) (k : Key) → Legal w h → lives (states h) ≡ [] → is_there k h ≡ true → length (solo (own k h)).answers ≡ length (solo (own k h)).revisions
all-answered w h k legal none there =
    same (length (solo (own k h)).answers) (length (solo (own k h)).revisions) (legal-answers_follow w h legal k) (λ less. both_ways (is_live (solo (own k h))) (none-live h k (keys_of h) none there) (lt-ltb (length (solo (own k h)).answers) (length (solo (own k h)).revisions) less))
  where
    same : (a b : ℕ) → a ≤ b → (a < b → ⊥) → a ≡ b
    same a b p q = omega (arith, p, q)

-- in the end no hall has a live job
over-at : (hs : List (List Event)) → list_any (λ h. not (length (lives (states h)) == 0)) hs ≡ false → (n : ℕ) → lives (states (hall_at hs n)) ≡ []
over-at [] none n = refl
over-at (h ∷ hs) none zero = empty (lives (states h)) (or_parts (not (length (lives (states h)) == 0)) (list_any (λ x. not (length (lives (states x)) == 0)) hs) none).0
  where
    empty : {X : Type 0} (xs : List X) → not (length xs == 0) ≡ false → xs ≡ []
    empty [] q = refl
    empty {X} (x ∷ xs) q = absurd (not-zero (length xs) (zero-of (length (x ∷ xs) == 0) q))
      where
        zero-of : (b : Bool) → not b ≡ false → b ≡ true
        zero-of true e = refl
        zero-of false e = absurd (both_ways true e refl)

        not-zero : (m : ℕ) → (suc m == 0) ≡ true → ⊥
        not-zero m e = let z : suc m ≡ 0 = eqb-true (suc m) 0 e in omega (arith, z)
over-at (h ∷ hs) none (suc n) = over-at hs (or_parts (not (length (lives (states h)) == 0)) (list_any (λ x. not (length (lives (states x)) == 0)) hs) none).1 n

rounds-over : (every : ℕ) (c : Cluster) (rounds : List Cluster) (end : Cluster) → AreRounds every c rounds end → some_live end ≡ false
rounds-over every c [] end are = ap some_live are.0 ∙ are.1
rounds-over every c (next ∷ rest) end are = rounds-over every next rest end are.2

-- each hall says of a job at first what it says
first-say : (halls : ℕ) (s : Scripted) (k : Key) (j : ScriptedJob) → of_key k s.jobs ≡ j ∷ [] → (ns : List ℕ) (m : ℕ) → Says k (says j) (hall_at (map (posted_at halls s) ns) m)
first-say halls s k j one [] m named = absurd (both_ways false refl named)
first-say halls s k j one (n ∷ ns) zero named = by_test (is.place % halls == n) (is.is n)
  where
    is : IsDealt k halls 0 s.jobs j
    is = dealt-one k halls 0 s.jobs j one

    by_test : (b : Bool) → of_key k (dealt_at halls s n) ≡ cond b (j ∷ []) [] → said (own k (posted_at halls s n)) ≡ says j
    by_test true q = ap said (script-own k (dealt_at halls s n) j q) ∙ says-said j
    by_test false q = absurd (both_ways (is_named k (posted_at halls s n)) (posted-named k halls n s ∙ apart-of_key k (dealt_at halls s n) q) named)
first-say halls s k j one (n ∷ ns) (suc m) named = first-say halls s k j one ns m named

posted-say : (halls workers : ℕ) (s : Scripted) (k : Key) (j : ScriptedJob) → of_key k s.jobs ≡ j ∷ [] → AllSay k (says j) (posted halls workers s)
posted-say halls workers s k j one n = subst (λ (hs : List (List Event)). Says k (says j) (hall_at hs n)) (sym (posted-halls halls workers s)) (first-say halls s k j one (counted 0 halls) n)

-- a job of a run in one hall is there
run-there : (w : ℕ) (h : List Event) (k : Key) (j : ScriptedJob) → Legal w h → list_any moves h ≡ false → said (own k h) ≡ says j → is_there k h ≡ true
run-there w h k j legal still is =
    let named : is_named k h ≡ true = by_name (is_named k h) refl in
    there-append k [] h still ∙ (sym (all-come k h still) ∙ (sym (named-append k [] h) ∙ named))
  where
    nothing : said [] ≡ says j → ⊥
    nothing q = cc

    by_name : (b : Bool) → is_named k h ≡ b → b ≡ true
    by_name true q = refl
    by_name false q = absurd (nothing (ap said (sym ((legal-orderly w h legal).unknown k q)) ∙ is))

pub singles-reply_alike : SinglesReplyAlike
singles-reply_alike halls workers every others i s rounds end log out history log_other out_other j formed cluster run at one fed also = by_home (home k end.halls) refl there
  where
    k : Key
    k = key_of_job j

    only : of_key k s.jobs ≡ j ∷ []
    only = one-of_key s i j formed at

    there : is_some (home k end.halls) ≡ true
    there = jobs-are_there halls workers every i s rounds end j formed cluster.rounds_are cluster.cluster at

    say : AllSay k (says j) end
    say = rounds-leave (AllSay k (says j)) (all-say k (says j)) every (posted halls workers s) rounds end cluster.rounds_are (posted-say halls workers s k j only)

    -- in the one hall
    mine : said (own k history) ≡ says j
    mine = complete-said s history k j run.complete.stay (run.complete.posts k.tenant) only

    asks : AsksOne (own k history) j
    asks = asks-one (own k history) j one mine

    single : AsksForOne history k
    single = legal-asks_for_one others history k run.legal (none-moves (arrives k) (arrive-moves k) history run.complete.stay) asks.demand asks.always also

    answered : length (solo (own k history)).answers ≡ length (solo (own k history)).revisions
    answered = all-answered others history k run.legal run.complete.answered (run-there others history k j run.legal run.complete.stay mine)

    by_hall : (n : ℕ) → IsHome k end.halls n → moved_replies end j ≡ job_replies history j
    by_hall n is = replies-same k (solo did) (solo (own k history)) (alike-replies k (solo did) (solo (own k history)) agree long) 1 (revisions j)
      where
        did : List Own
        did = all_of k end.halls end.moves

        own-is : own k (hall_at end.halls n) ≡ did
        own-is = own-is_all end k n cluster.cluster is.there

        here : said did ≡ says j
        here = ap said (sym own-is) ∙ say n (named-by k (hall_at end.halls n) (is_there k (hall_at end.halls n)) (unnamed-there k (hall_at end.halls n)) is.there)

        asked : AsksOne did j
        asked = asks-one did j one here

        revisions-are : (solo (own k history)).revisions ≡ (solo did).revisions ++ []
        revisions-are = asks.alike.revisions ∙ (sym asked.alike.revisions ∙ sym (append-nil (solo did).revisions))

        agree : AgreeAll (solo did) (solo (own k history))
        agree = singles-agree end k others history [] cluster.cluster (record { demand = asked.demand; always = asked.always; fed = fed }) run.legal single
            (ap (λ (a : Terms). a.slices) (asked.alike.ask ∙ sym asks.alike.ask)) (ap (λ (a : Terms). a.profile) (asked.alike.ask ∙ sym asks.alike.ask)) revisions-are

        done : length (solo did).answers ≡ length (solo did).revisions
        done = subst (λ (os : List Own). length (solo os).answers ≡ length (solo os).revisions) own-is
            (all-answered end.workers (hall_at end.halls n) k (cluster.cluster.legal n) (over-at end.halls (rounds-over every (posted halls workers s) rounds end cluster.rounds_are) n) is.there)

        long : length (solo did).answers ≡ length (solo (own k history)).answers
        long = done ∙ (ap length (asked.alike.revisions ∙ sym asks.alike.revisions) ∙ sym answered)

    by_home : (o : Option ℕ) → home k end.halls ≡ o → is_some o ≡ true → moved_replies end j ≡ job_replies history j
    by_home None q some = absurd (both_ways false refl some)
    by_home (Some n) q some = by_hall n (home-found k end.halls n q)
