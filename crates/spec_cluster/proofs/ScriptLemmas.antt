-- What a script posts is legal.
use Rattle.std.proofs.Common.{◌≡◌, ℕ, suc, ◌+◌, ◌-◌, ◌<◌, List, [], ◌∷◌, ◌++◌, length, flat_map, take, drop, get_or, refl, sym, ◌∙◌, ap, subst, arith, append_assoc, append-nil, length-drop}
use Rattle.std.proofs.lemmas.List.{drop_more, map-append}
use Rattle.std.proofs.lemmas.Grind.{flat_map-append}
use Rattle.mal_revision.specs.Posted.{Posted}
use Rattle.spec_job.specs.KeyedJob.{Key}
use Rattle.spec_hall.specs.Events.{Event, Open, Revise, Reask, Close}
use Rattle.spec_hall.specs.Legal.{Legal}
use Rattle.spec_hall.specs.States.{titled}
use Rattle.spec_hall.proofs.PushLemmas.{Legal-push}
use Rattle.spec_run.specs.Complete.{job_events, key_of_job, open_events, script_events, step_events}
use Rattle.spec_run.specs.Posting.{IsOpen}
use Rattle.spec_run.proofs.OpenLemmas.{IsPart, next-is_open, next-may_open, open-found, open-may_reask, opened-names, part-of, reasked-is_open, revised-is_open}
use Rattle.spec_run.proofs.PostingLemmas.{next-may_revise, next-weighed, revision-more, take-one}
use Rattle.spec_script.specs.Formed.{IsJob, IsScript, MayAllFollow, MayFollow}
use Rattle.mal_base.specs.declared.limits.Limits.{Limits}
use Rattle.mal_base.specs.Limits.{limits}
use Rattle.spec_script.specs.Script.{ScriptedJob, Scripted, revisions_at, revisions_in}
use Rattle.spec_script.specs.declared.step.Step.{Step}
use Rattle.spec_script.specs.declared.step.Step.TheVariants as steps

-- jobs that may follow each other, one after another
follow-push : (limits : Limits) (done xs : List ScriptedJob) (j : ScriptedJob) → MayAllFollow limits done xs → MayFollow limits (done ++ xs) j → MayAllFollow limits done (xs ++ j ∷ [])
follow-push limits done [] j follow may = (subst (λ (ds : List ScriptedJob). MayFollow limits ds j) (append-nil done) may, tt)
follow-push limits done (x ∷ xs) j follow may = (follow.0, follow-push limits (done ++ x ∷ []) xs j follow.1 (subst (λ (ds : List ScriptedJob). MayFollow limits ds j) (sym (append_assoc done (x ∷ []) xs)) may))

-- an item of a list, by what is left from its place on
record IsItem {X : Type 0} (xs : List X) (i : ℕ) (x : X) (rest : List X) : Type 0 where
  low : i < length xs
  is : x ≡ get_or xs i x
  more : drop (i + 1) xs ≡ rest

item-of : {X : Type 0} (xs : List X) (i : ℕ) (x : X) (rest : List X) → drop i xs ≡ x ∷ rest → IsItem xs i x rest
item-of {X} xs i x rest e = record { low = low; is = both.0; more = both.1 }
  where
    some : (a b c : ℕ) → a ≡ b - i → a ≡ c + 1 → i < b
    some a b c p q = omega arith

    low : i < length xs
    low = some (length (drop i xs)) (length xs) (length rest) (length-drop i xs) (ap length e ∙ one (length rest))
      where
        one : (n : ℕ) → suc n ≡ n + 1
        one n = omega arith

    parts : (a b : X) (xs ys : List X) → a ∷ xs ≡ b ∷ ys → (a ≡ b) × (xs ≡ ys)
    parts a b xs ys q = (cc, cc)

    both : (x ≡ get_or xs i x) × (drop (i + 1) xs ≡ rest)
    both = let p = parts x (get_or xs i x) rest (drop (i + 1) xs) (sym e ∙ drop_more xs i x low) in (p.0, sym p.1)

module _ (w : ℕ) where
  -- the openings
  opened-legal : (before after : List ScriptedJob) → MayAllFollow limits [] before → MayAllFollow limits before after → Legal w (open_events before) → Legal w (open_events (before ++ after))
  opened-legal before [] front follow legal = subst (λ (js : List ScriptedJob). Legal w (open_events js)) (sym (append-nil before)) legal
  opened-legal before (j ∷ js) front follow legal =
      let may = next-may_open (open_events before) before j (opened-names limits [] before front) follow.0 in
      let more : Legal w (open_events (before ++ j ∷ [])) = subst (Legal w) (sym (map-append (λ i. Open (key_of_job i) i.ask) before (j ∷ []))) (Legal-push w (open_events before) (Open (key_of_job j) j.ask) legal may) in
      subst (λ (is : List ScriptedJob). Legal w (open_events is)) (append_assoc before (j ∷ []) js) (opened-legal (before ++ j ∷ []) js (follow-push limits [] before j front follow.0) follow.1 more)

  -- a history is legal, and a job of it is open
  record IsGoing (k : Key) (h : List Event) : Type 0 where
    legal : Legal w h
    revisions : List Posted
    opened : IsOpen k revisions h

  -- the steps of a job
  stepped-legal : (j : ScriptedJob) (h : List Event) (i : ℕ) (rest : List Step) → IsJob limits j → drop i j.steps ≡ rest → IsOpen (key_of_job j) (revisions_in (take i j.steps)) h → Legal w h → IsGoing (key_of_job j) (h ++ step_events (key_of_job j) (length (revisions_in (take i j.steps)) + 1) rest)
  stepped-legal j h i [] formed e opened legal = subst (IsGoing (key_of_job j)) (sym (append-nil h)) (record { legal = legal; revisions = revisions_in (take i j.steps); opened = opened })
  stepped-legal j h i (steps.Revise r ∷ rest) formed e opened legal =
      let k = key_of_job j in
      let front = revisions_in (take i j.steps) in
      let n = length front + 1 in
      let item = item-of j.steps i (steps.Revise r) rest e in
      let may = next-may_revise j h i n r formed opened item.low item.is refl in
      let more : revisions_in (take (i + 1) j.steps) ≡ front ++ r ∷ [] = revision-more j.steps i r item.low item.is in
      let count : length (revisions_in (take (i + 1) j.steps)) ≡ n = ap length more ∙ length-push front r in
      let next = stepped-legal j (h ++ Revise k n r ∷ []) (i + 1) rest formed item.more (subst (λ (rs : List Posted). IsOpen k rs (h ++ Revise k n r ∷ [])) (sym more) (revised-is_open k front h n r opened)) (Legal-push w h (Revise k n r) legal (titled h k, may)) in
      subst (IsGoing k) (append_assoc h (Revise k n r ∷ []) (step_events k (n + 1) rest)) (subst (λ (m : ℕ). IsGoing k ((h ++ Revise k n r ∷ []) ++ step_events k (m + 1) rest)) count next)
    where
      length-push : (rs : List Posted) (p : Posted) → length (rs ++ p ∷ []) ≡ length rs + 1
      length-push [] p = refl
      length-push (x ∷ xs) p = let rest = length-push xs p in omega (arith, rest)
  stepped-legal j h i (steps.Reask weight ∷ rest) formed e opened legal =
      let k = key_of_job j in
      let front = revisions_in (take i j.steps) in
      let n = length front + 1 in
      let item = item-of j.steps i (steps.Reask weight) rest e in
      let may = open-may_reask k front h weight opened (next-weighed j i weight formed item.low item.is) in
      let same : revisions_in (take (i + 1) j.steps) ≡ front = ap revisions_in (take-one j.steps i (steps.Reask weight) item.low item.is) ∙ (flat_map-append revisions_at (take i j.steps) (steps.Reask weight ∷ []) ∙ append-nil front) in
      let next = stepped-legal j (h ++ Reask k weight ∷ []) (i + 1) rest formed item.more (subst (λ (rs : List Posted). IsOpen k rs (h ++ Reask k weight ∷ [])) (sym same) (reasked-is_open k front h weight opened)) (Legal-push w h (Reask k weight) legal (titled h k, may)) in
      subst (IsGoing k) (append_assoc h (Reask k weight ∷ []) (step_events k n rest)) (subst (λ (rs : List Posted). IsGoing k ((h ++ Reask k weight ∷ []) ++ step_events k (length rs + 1) rest)) same next)

  -- and its closing
  job-legal : (j : ScriptedJob) (h : List Event) → IsJob limits j → IsOpen (key_of_job j) [] h → Legal w h → Legal w (h ++ job_events j)
  job-legal j h formed opened legal =
      let k = key_of_job j in
      let going : IsGoing k (h ++ step_events k 1 j.steps) = stepped-legal j h 0 j.steps formed refl opened legal in
      let now = h ++ step_events k 1 j.steps in
      subst (Legal w) (append_assoc h (step_events k 1 j.steps) (Close k ∷ [])) (Legal-push w now (Close k) going.legal (titled now k, record { job = open-found k going.revisions now going.opened; open_still = going.opened.unclosed }))

  -- so all that a script posts is
  jobs-legal : (js before after : List ScriptedJob) → js ≡ before ++ after → MayAllFollow limits [] js → MayAllFollow limits before after → Legal w (open_events js ++ flat_map job_events before) → Legal w (open_events js ++ flat_map job_events (before ++ after))
  jobs-legal js before [] e follow rest legal = subst (λ (is : List ScriptedJob). Legal w (open_events js ++ flat_map job_events is)) (sym (append-nil before)) legal
  jobs-legal js before (j ∷ after) e follow rest legal =
      let part : IsPart before j after = part-of limits before j after (subst (MayAllFollow limits []) e follow) in
      let opened : IsOpen (key_of_job j) [] (open_events js ++ flat_map job_events before) = subst (λ (is : List ScriptedJob). IsOpen (key_of_job j) [] (open_events is ++ flat_map job_events before)) (sym e) (next-is_open before j after part) in
      let here : Legal w ((open_events js ++ flat_map job_events before) ++ job_events j) = job-legal j (open_events js ++ flat_map job_events before) rest.0.formed opened legal in
      let all : (open_events js ++ flat_map job_events before) ++ job_events j ≡ open_events js ++ flat_map job_events (before ++ j ∷ []) = append_assoc (open_events js) (flat_map job_events before) (job_events j) ∙ ap (λ (es : List Event). open_events js ++ es) (ap (λ (es : List Event). flat_map job_events before ++ es) (sym (append-nil (job_events j))) ∙ sym (flat_map-append job_events before (j ∷ []))) in
      subst (λ (is : List ScriptedJob). Legal w (open_events js ++ flat_map job_events is)) (append_assoc before (j ∷ []) after) (jobs-legal js (before ++ j ∷ []) after (e ∙ sym (append_assoc before (j ∷ []) after)) follow rest.1 (subst (Legal w) all here))

  pub script-legal : (s : Scripted) → IsScript limits s → Legal w (script_events s)
  script-legal s formed = jobs-legal s.jobs [] s.jobs refl formed formed (subst (Legal w) (sym (append-nil (open_events s.jobs))) (opened-legal [] s.jobs tt formed tt))
