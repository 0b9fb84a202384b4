-- A script that is run in a cluster.
use Rattle.std.proofs.Common.{◌≡◌, ℕ, zero, suc, ◌+◌, ◌<◌, ◌≤◌, List, [], ◌∷◌, ◌++◌, length, map, take, drop, get_or, flat_map, Ok, refl, sym, ◌∙◌, ap, ap₂, subst, arith, append_assoc, append-nil}
use Rattle.std.specs.List.{All}
use Rattle.std.proofs.lemmas.List.{drop_all, map-append, take_all}
use Rattle.std.proofs.lemmas.List.Elements.{All-head, All-tail}
use Rattle.std.proofs.lemmas.Option.{slice_get-get_or}
use Rattle.mal_history.specs.Text.{history_text}
use Rattle.mal_hall.specs.HallView.{HallView}
use Rattle.spec_job.specs.KeyedJob.{Key}
use Rattle.spec_job.specs.Replies.{reply}
use Rattle.spec_job.specs.SoloMachine.{SoloMachine}
use Rattle.spec_hall.specs.Events.{Event, bare}
use Rattle.spec_script.specs.Formed.{IsScript}
use Rattle.spec_script.specs.Grammar.{Spells}
use Rattle.mal_base.specs.Limits.{limits}
use Rattle.spec_script.specs.Script.{ScriptedJob, Scripted, revisions}
use Rattle.spec_run.specs.Complete.{script_events}
use Rattle.spec_run.specs.Run.{replies_from, text_or_none}
use Rattle.spec_cluster.specs.Clusters.{Cluster, IsCluster}
use Rattle.spec_cluster.specs.Run.{IsClusterRun, cluster_replies, dealt, dealt_from, moved_replies, posted}
use Rattle.spec_cluster.proofs.AlikeLemmas.{singles-reply_alike}
use Rattle.spec_cluster.proofs.DealtLemmas.{dealt-is_script}
use Rattle.spec_cluster.proofs.PostedLemmas.{posted-is_cluster}
use Rattle.spec_cluster.proofs.RoundLemmas.{rounds-keep}
use Rattle.spec_cluster.proofs.StayedLemmas.{all-is_evident}
use Rattle.spec_cluster.proofs.ThereLemmas.{jobs-are_there}
use Rattle.mal_cluster.specs.Kept.{IsKept, cluster_of, histories}
use Rattle.mal_answer.proofs.ScriptLemmas.{cluster-refused}
use Rattle.mal_answer.specs.Answers.{IsAnswerTo, logged}
use Rattle.mal_answer.specs.Commands.{IsClusterRunOf, clustering}
use Rattle.mal_answer.specs.declared.answer.Texts.{Texts}
use Rattle.mal_cli.specs.Clusters.{AreThere, HasDriven, dealt_to}

-- what a run of a script gives is given for the text that spells it
pub cluster-answered : (halls workers every : ℕ) (text : List ℕ) (s : Scripted) (t : Texts) → Spells limits text s → IsClusterRunOf halls workers every s (logged t.log.items) t.out.items → IsAnswerTo (clustering halls workers every) text (Ok t)
cluster-answered halls workers every text s t spelled run = (s, spelled, run)

pub ruleset cluster_lemmas = (cluster-answered, cluster-refused)

-- the next number
add-one : (n : ℕ) → n + 1 ≡ suc n
add-one n = omega arith

-- a list from a place on begins with what is there
next : {X : Type 0} (xs : List X) (n : ℕ) → n < length xs → (x : X) × (drop n xs ≡ x ∷ drop (suc n) xs)
next [] n low = absurd (omega (arith, low))
next (x ∷ xs) zero low = (x, refl)
next (x ∷ xs) (suc n) low = next xs n (omega (arith, low))

-- what is dealt to a hall when all jobs were gone over is a script
pub dealt-all : (halls n i : ℕ) (s : Scripted) (js got : List ScriptedJob) → IsScript limits s → js ≡ s.jobs → length js ≤ i → got ++ dealt_from halls n i (drop i js) ≡ dealt_from halls n 0 js → IsScript limits (record { jobs = got })
dealt-all halls n i s js got formed are high is =
    let none : dealt_from halls n i (drop i js) ≡ [] = ap (dealt_from halls n i) (drop_all i js high) in
    let all : got ≡ dealt_from halls n 0 s.jobs = sym (append-nil got) ∙ (ap (λ (xs : List ScriptedJob). got ++ xs) (sym none) ∙ (is ∙ ap (dealt_from halls n 0) are)) in
    subst (λ (xs : List ScriptedJob). IsScript limits (record { jobs = xs })) (sym all) (dealt-is_script halls n s formed)

-- the scripts of the halls of the first so many places
abbrev pub first_dealt : ℕ → Scripted → ℕ → List Scripted
first_dealt halls s zero = []
first_dealt halls s (suc n) = first_dealt halls s n ++ dealt_to halls n s ∷ []

-- these are all, where all places are among them; of halls there are 8 at most
all-dealt : (halls : ℕ) (s : Scripted) → halls ≤ 8 → first_dealt halls s halls ≡ dealt halls s
all-dealt zero s few = refl
all-dealt (suc zero) s few = refl
all-dealt (suc (suc zero)) s few = refl
all-dealt (suc (suc (suc zero))) s few = refl
all-dealt (suc (suc (suc (suc zero)))) s few = refl
all-dealt (suc (suc (suc (suc (suc zero))))) s few = refl
all-dealt (suc (suc (suc (suc (suc (suc zero)))))) s few = refl
all-dealt (suc (suc (suc (suc (suc (suc (suc zero))))))) s few = refl
all-dealt (suc (suc (suc (suc (suc (suc (suc (suc zero)))))))) s few = refl
all-dealt (suc (suc (suc (suc (suc (suc (suc (suc (suc n))))))))) s few = absurd (omega (arith, few))

-- one hall more got its jobs
pub dealt-next : (halls n : ℕ) (s : Scripted) (hs : List HallView) (h : HallView) → histories hs ≡ map script_events (first_dealt halls s n) → h.events ≡ script_events (dealt_to halls n s) → histories (hs ++ h ∷ []) ≡ map script_events (first_dealt halls s (n + 1))
dealt-next halls n s hs h are events =
    map-append (λ (v : HallView). v.events) hs (h ∷ [])
    ∙ (ap₂ (λ (es : List (List Event)) (e : List Event). es ++ e ∷ []) are events
    ∙ (sym (map-append script_events (first_dealt halls s n) (dealt_to halls n s ∷ [])) ∙ ap (λ (m : ℕ). map script_events (first_dealt halls s m)) (sym (add-one n))))

-- halls that all got their jobs are the cluster that is to be made
pub posted-all : (halls workers n : ℕ) (s : Scripted) (hs : List HallView) → n ≡ halls → halls ≤ 8 → histories hs ≡ map script_events (first_dealt halls s n) → cluster_of workers hs [] ≡ posted halls workers s
posted-all halls workers n s hs all few are =
    ap (λ (es : List (List Event)). (let c : Cluster = record { workers = workers; halls = es; moves = [] } in c))
    (are ∙ (ap (λ (m : ℕ). map script_events (first_dealt halls s m)) all ∙ ap (map script_events) (all-dealt halls s few)))

-- and they are a cluster
pub posted-kept : (halls workers : ℕ) (s : Scripted) (hs : List HallView) → 2 ≤ halls → halls ≤ 8 → 1 ≤ workers → workers ≤ 64 → IsScript limits s → All (λ h. h.workers ≡ workers) hs → cluster_of workers hs [] ≡ posted halls workers s → IsKept workers hs []
posted-kept halls workers s hs two eight some bound formed each are = record { each = each; cluster = subst IsCluster (sym are) (posted-is_cluster halls workers s two eight some bound formed) }

-- the replies to the revisions of a job from a place on: that to the one there, and those after it
replied-next : (j : ScriptedJob) (k : Key) (s : SoloMachine) (n : ℕ) → n < length (revisions j) → replies_from k (n + 1) s (drop n (revisions j)) ≡ text_or_none (reply k (n + 1) s) ++ replies_from k (n + 1 + 1) s (drop (n + 1) (revisions j))
replied-next j k s n low =
    ap (replies_from k (n + 1) s) (next (revisions j) n low).1
    ∙ ap (λ (m : ℕ). text_or_none (reply k (n + 1) s) ++ replies_from k (n + 1 + 1) s (drop m (revisions j))) (sym (add-one n))

-- so what is left to put gives the same, when one reply more was put
pub put-next : (j : ScriptedJob) (k : Key) (s : SoloMachine) (n : ℕ) (old text all : List ℕ) → n < length (revisions j) → old ++ replies_from k (n + 1) s (drop n (revisions j)) ≡ all → text ≡ old ++ text_or_none (reply k (n + 1) s) → text ++ replies_from k (n + 1 + 1) s (drop (n + 1) (revisions j)) ≡ all
put-next j k s n old text all low is more =
    let rest : List ℕ = replies_from k (n + 1 + 1) s (drop (n + 1) (revisions j)) in
    ap (λ (x : List ℕ). x ++ rest) more ∙ (append_assoc old (text_or_none (reply k (n + 1) s)) rest ∙ (ap (λ (x : List ℕ). old ++ x) (sym (replied-next j k s n low)) ∙ is))

-- the replies to all jobs are those to the script
pub replied-all : (s : Scripted) (c : Cluster) (js : List ScriptedJob) (i : ℕ) (text : List ℕ) → js ≡ s.jobs → text ≡ flat_map (moved_replies c) (take i js) → length js ≤ i → text ≡ cluster_replies s c
unfolding cluster_replies
replied-all s c js i text are is high = is ∙ ap (flat_map (moved_replies c)) (take_all i js high ∙ are)

-- rounds lead from a cluster that got the jobs of a script to one
driven-is : (halls workers every : ℕ) (s : Scripted) (before end : Cluster) → 2 ≤ halls → halls ≤ 8 → 1 ≤ workers → workers ≤ 64 → IsScript limits s → before ≡ posted halls workers s → HasDriven every before end → IsCluster end
driven-is halls workers every s before end two eight some bound formed are driven =
    rounds-keep.rounds every before end driven.0 (subst IsCluster (sym are) (posted-is_cluster halls workers s two eight some bound formed)) driven.1

-- in which each job of the script is in some hall
pub driven-there : (halls workers every : ℕ) (s : Scripted) (before end : Cluster) → 2 ≤ halls → halls ≤ 8 → 1 ≤ workers → workers ≤ 64 → IsScript limits s → before ≡ posted halls workers s → HasDriven every before end → AreThere s end
driven-there halls workers every s before end two eight some bound formed are driven =
    let is : IsCluster end = driven-is halls workers every s before end two eight some bound formed are driven in
    let went : HasDriven every (posted halls workers s) end = subst (λ (c : Cluster). HasDriven every c end) are driven in
    λ i d low. jobs-are_there halls workers every i s went.0 end (get_or s.jobs i d) formed went.1 is (slice_get-get_or s.jobs i d low)

-- the texts of the halls are those of their histories
logged-is : (workers : ℕ) (hs : List HallView) → All (λ h. h.workers ≡ workers) hs → logged hs ≡ flat_map (λ h. history_text workers (map bare h)) (histories hs)
logged-is workers [] each = refl
logged-is workers (h ∷ hs) each =
    ap (λ (w : ℕ). history_text w (map bare h.events) ++ logged hs) (All-head (λ (v : HallView). v.workers ≡ workers) h hs each)
    ∙ ap (λ (x : List ℕ). history_text workers (map bare h.events) ++ x) (logged-is workers hs (All-tail (λ (v : HallView). v.workers ≡ workers) h hs each))

-- what was run in a cluster
pub cluster-run : (halls workers every : ℕ) (s : Scripted) (before end : Cluster) (hs : List HallView) (out : List ℕ) → 2 ≤ halls → halls ≤ 8 → 1 ≤ workers → workers ≤ 64 → IsScript limits s → before ≡ posted halls workers s → HasDriven every before end → out ≡ cluster_replies s end → histories hs ≡ end.halls → All (λ h. h.workers ≡ end.workers) hs → IsClusterRunOf halls workers every s (logged hs) out
cluster-run halls workers every s before end hs out two eight some bound formed are driven told histories_are each = record {
  rounds = went.0;
  end = end;
  run = run;
  singles = λ others i j history log other ran at one fed also. singles-reply_alike halls workers every others i s went.0 end (logged hs) out history log other j formed run ran at one fed also;
}
  where
    is : IsCluster end
    is = driven-is halls workers every s before end two eight some bound formed are driven

    went : HasDriven every (posted halls workers s) end
    went = subst (λ (c : Cluster). HasDriven every c end) are driven

    run : IsClusterRun halls workers every s went.0 end (logged hs) out
    run = record {
      rounds_are = went.1;
      cluster = is;
      log_text = logged-is end.workers hs each ∙ ap (λ (es : List (List Event)). flat_map (λ h. history_text end.workers (map bare h)) es) histories_are;
      out_text = told;
      evident = λ k. all-is_evident end k is;
    }
