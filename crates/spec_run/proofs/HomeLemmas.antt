-- What a script posts hands no lease out.
use Rattle.std.proofs.Common.{◌≡◌, ℕ, ◌+◌, List, [], ◌∷◌, flat_map, fold, refl, ◌∙◌}
use Rattle.std.proofs.lemmas.List.Sums.{fold-append}
use Rattle.spec_job.specs.KeyedJob.{Key}
use Rattle.spec_hall.specs.Events.{Close}
use Rattle.spec_hall.specs.States.{LeaseOut, leases, leases_step}
use Rattle.spec_run.specs.Complete.{key_of_job, job_events, open_events, step_events, script_events}
use Rattle.spec_script.specs.Script.{ScriptedJob, Scripted}
use Rattle.spec_script.specs.declared.step.Step.{Step}
use Rattle.spec_script.specs.declared.step.Step.TheVariants as steps

opened-home : (js : List ScriptedJob) (out : List LeaseOut) → fold leases_step out (open_events js) ≡ out
opened-home [] out = refl
opened-home (j ∷ js) out = opened-home js out

stepped-home : (k : Key) (n : ℕ) (ss : List Step) (out : List LeaseOut) → fold leases_step out (step_events k n ss) ≡ out
stepped-home k n [] out = refl
stepped-home k n (steps.Revise r ∷ ss) out = stepped-home k (n + 1) ss out
stepped-home k n (steps.Reask w ∷ ss) out = stepped-home k n ss out

job-home : (j : ScriptedJob) (out : List LeaseOut) → fold leases_step out (job_events j) ≡ out
job-home j out =
    fold-append leases_step out (step_events (key_of_job j) 1 j.steps) (Close (key_of_job j) ∷ [])
    ∙ stepped-home (key_of_job j) 1 j.steps out

posted-home : (js : List ScriptedJob) (out : List LeaseOut) → fold leases_step out (flat_map job_events js) ≡ out
posted-home [] out = refl
posted-home (j ∷ js) out =
    fold-append leases_step out (job_events j) (flat_map job_events js)
    ∙ (posted-home js (fold leases_step out (job_events j)) ∙ job-home j out)

-- nothing is out once a script was posted
pub script-home : (s : Scripted) → leases (script_events s) ≡ []
script-home s =
    fold-append leases_step [] (open_events s.jobs) (flat_map job_events s.jobs)
    ∙ (posted-home s.jobs (fold leases_step [] (open_events s.jobs)) ∙ opened-home s.jobs [])
