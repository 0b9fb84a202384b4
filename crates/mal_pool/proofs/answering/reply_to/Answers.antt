use Rattle.std.proofs.Common.{sym, ◌∙◌, Some, None}
use Rattle.spec_run.specs.Complete.{key_of_job}
use Rattle.mal_pool.proofs.PoolLemmas.{reply-is}
use Rattle.mal_pool.proofs.answering.reply_to.Goals as goal

pub returns-in-Ok-Some : goal.returns-in-Ok-Some
returns-in-Ok-Some c =
    let told = rw c.in-Ok-Some.field-0-is at c.in-Ok-Some.ensures.reply in
    let e = rw (c.tenant.ensures, c.name.ensures) at told in
    sym (reply-is (key_of_job c.args.job.now) c.args.revision c.args.hall.now.events e.0 (Some c.in-Ok-Some.text.items) e.1 e.2)

pub returns-in-Ok-None : goal.returns-in-Ok-None
returns-in-Ok-None c =
    let told = rw c.in-Ok-None.field-0-is at c.in-Ok-None.ensures.reply in
    let e = rw (c.tenant.ensures, c.name.ensures) at told in
    c.new.ensures.items ∙ sym (reply-is (key_of_job c.args.job.now) c.args.revision c.args.hall.now.events e.0 None e.1 e.2)
