-- Each revision of a script is replied to.
use Rattle.std.proofs.Common.{◌≡◌, ℕ, zero, suc, ◌+◌, ◌<◌, ◌≤◌, List, [], ◌∷◌, ◌++◌, length, map, flat_map, refl, sym, ◌∙◌, ap, ap₂, arith, append_assoc, append-nil}
use Rattle.std.specs.Prelude.{slice_get, Option, Some}
use Rattle.std.specs.Option.{option_map}
use Rattle.std.proofs.lemmas.List.{map-append}
use Rattle.std.proofs.lemmas.List.Concat.{flat_map-append}
use Rattle.mal_base.specs.Limits.{limits}
use Rattle.mal_base.specs.declared.answer.Answer.{Answer}
use Rattle.mal_base.specs.declared.profile.Profile.{Profile}
use Rattle.mal_revision.specs.Posted.{Posted}
use Rattle.spec_job.specs.Replies.{body_by, reply}
use Rattle.spec_job.specs.SoloMachine.{Own, SoloMachine, solo}
use Rattle.spec_report.specs.Replies.{ReplyBody, reply_text}
use Rattle.spec_hall.specs.Events.{Event}
use Rattle.spec_hall.specs.Legal.{Legal}
use Rattle.spec_hall.specs.Own.{own}
use Rattle.spec_run.specs.Complete.{IsComplete, key_of_job}
use Rattle.spec_run.specs.Run.{job_replies, replies, replies_from, text_or_none}
use Rattle.spec_script.specs.Formed.{IsScript}
use Rattle.spec_script.specs.Script.{ScriptedJob, Scripted, revisions}
use Rattle.spec_cluster.specs.Run.{cluster_replies, moved_replies}
use Rattle.spec_promises.specs.Tells.{Reply, text_of_reply, text_of_replies}
use Rattle.spec_promises.specs.Replied.{Heading, heading, headings_from, headings_of, RepliesToAll, RunRepliesToAll, ReplayRepliesToAll, ClusterRepliesToAll}
use Rattle.spec_cluster.specs.Visits.{all_of}
use Rattle.spec_promises.proofs.Jobs.{Did, run-did}
use Rattle.spec_promises.proofs.Moved.{cluster-did}

-- a text is replies with these headings
record AreReplies (hs : List Heading) (text : List ℕ) : Type 0 where
  told : List Reply
  text_is : text ≡ text_of_replies told
  each : map heading told ≡ hs

none-replies : AreReplies [] []
none-replies = record { told = []; text_is = refl; each = refl }

both-replies : (hs is : List Heading) (x y : List ℕ) → AreReplies hs x → AreReplies is y → AreReplies (hs ++ is) (x ++ y)
both-replies hs is x y a b = record {
  told = a.told ++ b.told;
  text_is = ap₂ (λ (u v : List ℕ). u ++ v) a.text_is b.text_is ∙ sym (flat_map-append text_of_reply a.told b.told);
  each = map-append heading a.told b.told ∙ ap₂ (λ (u v : List Heading). u ++ v) a.each b.each;
}

-- the answer at a place that there is
record IsAt {A : Type 0} (xs : List A) (m : ℕ) : Type 0 where
  item : A
  at : slice_get xs m ≡ Some item

item-at : {A : Type 0} (xs : List A) (m : ℕ) → m < length xs → IsAt xs m
item-at [] m low = absurd (omega (arith, low))
item-at (x ∷ xs) zero low = record { item = x; at = refl }
item-at (x ∷ xs) (suc m) low = let rest = item-at xs m (omega (arith, low)) in record { item = rest.item; at = rest.at }

-- the heading of the reply to a revision of a job
abbrev head_of : ScriptedJob → ℕ → Heading
head_of j r = record { tenant = j.tenant; job = j.name; number = r; profile = j.ask.profile }

-- a machine that has an answer replies to its revision
reply-made : (j : ScriptedJob) (s : SoloMachine) (m r : ℕ) → s.ask.profile ≡ j.ask.profile → r ≡ suc m → IsAt s.answers m → AreReplies (head_of j r ∷ []) (text_or_none (reply (key_of_job j) r s))
reply-made j s m r same is answer = record {
  told = record { tenant = j.tenant; job = j.name; number = r; profile = j.ask.profile; told = body } ∷ [];
  text_is =
      ap (λ (n : ℕ). text_or_none (reply (key_of_job j) n s)) is
      ∙ (ap (λ (o : Option Answer). text_or_none (option_map (reply_text j.tenant j.name (suc m) s.ask.profile) (option_map (body_by s m) o))) answer.at
      ∙ (ap₂ (λ (n : ℕ) (p : Profile). reply_text j.tenant j.name n p body) (sym is) same ∙ sym (append-nil (reply_text j.tenant j.name r j.ask.profile body))));
  each = refl;
}
  where
    body : ReplyBody
    body = body_by s m answer.item

-- so one with so many answers replies to as many revisions
made : (j : ScriptedJob) (s : SoloMachine) → s.ask.profile ≡ j.ask.profile → (ps : List Posted) (m r : ℕ) → r ≡ suc m → m + length ps ≤ length s.answers → AreReplies (headings_from j r ps) (replies_from (key_of_job j) r s ps)
made j s same [] m r is enough = none-replies
made j s same (p ∷ ps) m r is enough =
    both-replies (head_of j r ∷ []) (headings_from j (r + 1) ps) (text_or_none (reply (key_of_job j) r s)) (replies_from (key_of_job j) (r + 1) s ps)
    (reply-made j s m r same is (item-at s.answers m (omega (arith, enough))))
    (made j s same ps (suc m) (r + 1) (omega (arith, is)) (omega (arith, enough)))

job-made : (j : ScriptedJob) (os : List Own) → Did os j → AreReplies (headings_of j) (replies_from (key_of_job j) 1 (solo os) (revisions j))
job-made j os did = made j (solo os) did.profile (revisions j) 0 1 refl (enough (length (revisions j)) (length (solo os).answers) did.answered)
  where
    enough : (a b : ℕ) → b ≡ a → 0 + a ≤ b
    enough a b e = omega (arith, e)

-- job by job
jobs-made : (front js : List ScriptedJob) (text_of : ScriptedJob → List ℕ) → ((i : ℕ) (j : ScriptedJob) → slice_get (front ++ js) i ≡ Some j → AreReplies (headings_of j) (text_of j)) → AreReplies (flat_map headings_of js) (flat_map text_of js)
jobs-made front [] text_of each = none-replies
jobs-made front (j ∷ js) text_of each =
    both-replies (headings_of j) (flat_map headings_of js) (text_of j) (flat_map text_of js)
    (each (length front) j (at front))
    (jobs-made (front ++ j ∷ []) js text_of (λ i x q. each i x (sym (ap (λ (xs : List ScriptedJob). slice_get xs i) (append_assoc front (j ∷ []) js)) ∙ q)))
  where
    at : (xs : List ScriptedJob) → slice_get (xs ++ j ∷ js) (length xs) ≡ Some j
    at [] = refl
    at (x ∷ xs) = at xs

all-made : (s : Scripted) (out : List ℕ) (text_of : ScriptedJob → List ℕ) → out ≡ flat_map text_of s.jobs → ((i : ℕ) (j : ScriptedJob) → slice_get s.jobs i ≡ Some j → AreReplies (headings_of j) (text_of j)) → RepliesToAll s out
all-made s out text_of is each = let all = jobs-made [] s.jobs text_of each in record { told = all.told; text = is ∙ all.text_is; each = all.each }

run-made : (workers : ℕ) (s : Scripted) (h : List Event) (out : List ℕ) → IsScript limits s → Legal workers h → IsComplete s h → out ≡ replies s h → RepliesToAll s out
unfolding replies
run-made workers s h out formed legal complete is = all-made s out (job_replies h) is (λ i j at. job-made j (own (key_of_job j) h) (run-did workers i s h j formed legal complete at))

pub run_replies_to_all : RunRepliesToAll
run_replies_to_all workers s history log out formed run = run-made workers s history out formed run.legal run.complete run.out_text

pub replay_replies_to_all : ReplayRepliesToAll
replay_replies_to_all workers s lines text formed replied = run-made workers s replied.events text formed replied.legal.legal replied.complete replied.text_is

pub cluster_replies_to_all : ClusterRepliesToAll
unfolding cluster_replies
cluster_replies_to_all halls workers every s rounds end log out formed run = all-made s out (moved_replies end) run.out_text (λ i j at. job-made j (all_of (key_of_job j) end.halls end.moves) (cluster-did halls workers every i s rounds end j formed run.rounds_are run.cluster at))
