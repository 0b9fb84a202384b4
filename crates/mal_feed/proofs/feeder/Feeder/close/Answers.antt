use Rattle.std.proofs.Common.{◌≡◌, max, refl, arith}
use Rattle.mal_feed.proofs.Pieces.{ended, refused_at_end}
use Rattle.mal_feed.proofs.feeder.Feeder.close.Goals as goal

pub returns-clause-ends : goal.returns-clause-ends
returns-clause-ends c =
    let feed : c.args.self.now.feed ≡ c.self.inside.feed = rw (← c.self.view_is) refl in
    ended c.args.self.now c.self.inside.feed c.end.new.self feed c.requires c.in-Ok.ensures.0 c.in-Ok.ensures.1

pub returns-in-Err-clause-fails : goal.returns-in-Err-clause-fails
returns-in-Err-clause-fails c =
    let feed : c.args.self.now.feed ≡ c.self.inside.feed = rw (← c.self.view_is) refl in
    let lines : c.args.self.now.lines ≡ c.self.inside.lines = rw (← c.self.view_is) refl in
    let last : c.max.result ≡ max 1 c.self.inside.lines = grind arith in
    refused_at_end c.args.self.now c.self.inside.feed c.self.inside.lines c.max.result c.in-Err.refusal c.refused.result
    feed lines c.requires last c.in-Err.ensures c.refused.ensures
