use Rattle.std.proofs.Common.{◌≡◌, ℕ, List, [], Option, subst, sym, refl, append-nil, Some, None, Ok}
use Rattle.spec_job.specs.KeyedJob.{Key, KeyedJob}
use Rattle.mal_job.specs.Replying.{TellsReply}
use Rattle.std.specs.declared.alloc.Global.{Global}
use Rattle.std.specs.declared.vec.Vec.{Vec}
use Rattle.spec_hall.specs.Calls.{IsAsking}
use Rattle.spec_hall.specs.Dressed.{keyed}
use Rattle.spec_hall.specs.Events.{Event}
use Rattle.spec_hall.specs.Legal.{job_of}
use Rattle.spec_hall.specs.States.{states}
use Rattle.mal_hall.specs.Offered.{replied}
use Rattle.mal_hall.proofs.HallLemmas.{found-alone}
use Rattle.mal_hall.proofs.hall.Hall.reply.Goals as goal

-- a text that is the reply of the job's machine
asked : (past : List Event) (k : Key) (r : ℕ) (o : Option (Vec ℕ Global)) (t : KeyedJob) → job_of k (states past) ≡ Some t → TellsReply k r o t.state → IsAsking past k r (replied (Ok o)) []
asked past k r (Some text) t job told = (t, job, sym told, refl)
asked past k r None t job told = (t, job, sym told, refl)

pub returns-in_default-clause-no_job : goal.returns-in_default-clause-no_job
returns-in_default-clause-no_job c = λ _. rw c.in_default.is at c.job_named.ensures.found

pub returns-in_default-clause-call : goal.returns-in_default-clause-call
returns-in_default-clause-call c = record { events = []; grown = sym (append-nil _); call = (rw c.in_default.is at c.job_named.ensures.found, refl) }

pub returns-in-Ok-clause-reply : goal.returns-in-Ok-clause-reply
returns-in-Ok-clause-reply c =
    let key = rw c.in-Some.is at c.job_named.ensures.key in
    let state = c.in-Some.job.now.titled.state in
    (c.in-Some.job.now.titled, rw c.in-Some.is at c.job_named.ensures.found, subst (λ (k : Key). TellsReply k c.args.r c.in-Ok.text state) key c.in-Ok.ensures)

pub returns-in-Ok-clause-alone : goal.returns-in-Ok-clause-alone
returns-in-Ok-clause-alone c =
    let key = rw c.in-Some.is at c.job_named.ensures.key in
    let state = c.in-Some.job.now.titled.state in
    found-alone c.args.self.now.events (keyed c.args.tenant.now c.args.job.now) c.in-Some.job.now.titled (TellsReply (keyed c.args.tenant.now c.args.job.now) c.args.r c.in-Ok.text) (rw c.in-Some.is at c.job_named.ensures.found) (subst (λ (k : Key). TellsReply k c.args.r c.in-Ok.text state) key c.in-Ok.ensures)

pub returns-in-Ok-clause-call : goal.returns-in-Ok-clause-call
returns-in-Ok-clause-call c =
    let key = rw c.in-Some.is at c.job_named.ensures.key in
    let state = c.in-Some.job.now.titled.state in
    let told = subst (λ (k : Key). TellsReply k c.args.r c.in-Ok.text state) key c.in-Ok.ensures in
    record { events = []; grown = sym (append-nil _); call = asked c.args.self.now.events (keyed c.args.tenant.now c.args.job.now) c.args.r c.in-Ok.text c.in-Some.job.now.titled (rw c.in-Some.is at c.job_named.ensures.found) told }

pub returns-in-Err-clause-out_of_memory : goal.returns-in-Err-clause-out_of_memory
returns-in-Err-clause-out_of_memory c = λ _. (c.in-Some.job.now.titled, rw c.in-Some.is at c.job_named.ensures.found)

pub returns-in-Err-clause-call : goal.returns-in-Err-clause-call
returns-in-Err-clause-call c = record { events = []; grown = sym (append-nil _); call = (c.in-Some.job.now.titled, rw c.in-Some.is at c.job_named.ensures.found, refl) }
