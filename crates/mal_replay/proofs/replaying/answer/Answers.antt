use Rattle.mal_replay.proofs.EnterLemmas.{has-run, is-complete, lacks-posts, not-passed, replied}
use Rattle.mal_replay.proofs.replaying.answer.Goals as goal

pub replies_of-requires : goal.replies_of-requires
replies_of-requires g c =
    let have = (rw c.events.ensures at c.in-Ok-true.ensures).0 c.in-Ok-true.field-0-test in
    let complete = is-complete c.args.script.now c.args.history.now c.args.hall.now c.jobs.ensures.formed c.requires c.history.ensures.legal (c.is_answered.ensures.0 c.if-not-is_answered.false) (c.is_home.ensures.value.0 c.if-not-is_home.false) have in
    (c.type_bounds.sync-R, has-run c.args.script.now c.args.hall.now c.history.ensures.legal complete)

pub returns-in-Ok-clause-ok : goal.returns-in-Ok-clause-ok
returns-in-Ok-clause-ok g c =
    let have = (rw c.events.ensures at c.in-Ok-true.ensures).0 c.in-Ok-true.field-0-test in
    let complete = is-complete c.args.script.now c.args.history.now c.args.hall.now c.jobs.ensures.formed c.requires c.history.ensures.legal (c.is_answered.ensures.0 c.if-not-is_answered.false) (c.is_home.ensures.value.0 c.if-not-is_home.false) have in
    replied c.args.script.now c.args.history.now c.args.hall.now c.in-Ok.text.items c.requires c.history.ensures.legal complete c.in-Ok.ensures

pub returns-in-Ok-false-clause-err : goal.returns-in-Ok-false-clause-err
returns-in-Ok-false-clause-err g c =
    let posts = rw c.events.ensures at c.in-Ok-false.ensures in
    lacks-posts c.args.script.now c.args.history.now c.args.hall.now c.requires c.history.ensures.legal (not-passed c.in-Ok-false.field-0 posts c.in-Ok-false.field-0-test)
