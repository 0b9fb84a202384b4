use Rattle.mal_parts.proofs.Tellings.{look-shows}
use Rattle.spec_live.proofs.TextLemmas.{front-same}
use Rattle.mal_parts.proofs.writing.tell_next.Goals as goal

pub returns-in-Ok-clause-told : goal.returns-in-Ok-clause-told
returns-in-Ok-clause-told g c log out told =
    let looked = c.look-pass.ensures in
    let shows = look-shows (g.D.LiveDesk.workers c.args.desk.now) told.0 (g.D.LiveDesk.seen c.args.pass) (g.D.LiveDesk.seen c.look-pass.result.0) c.args.telling.now.teller c.key-key.result c.again.result c.again-2.result c.in-Some.revision c.written-written.result c.look-pass.result.1 c.in-Ok.seen c.in-Ok.is c.again.ensures c.again-2.ensures c.in-Some.ensures c.written-written.ensures told.2.kept.written told.1 looked.grown looked.legal looked.stay looked.reply looked.news looked.count in
    (g.D.LiveDesk.seen c.look-pass.result.0, front-same (g.D.LiveDesk.seen c.look-pass.result.0), c.tell_seen.ensures.told (g.D.LiveDesk.workers c.args.desk.now) told.0 (g.D.LiveDesk.seen c.look-pass.result.0) log out shows told.2)
