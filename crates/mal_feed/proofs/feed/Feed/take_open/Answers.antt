use Rattle.mal_feed.proofs.Closing.{closing_of}
use Rattle.mal_feed.proofs.feed.Feed.take_open.Goals as goal

pub returns-in-Some : goal.returns-in-Some
returns-in-Some c =
    let (j, there, is) = c.key_at-key.ensures.key in
    closing_of c.args.self.now c.close.new.self c.args.passed c.in-Some.at j c.key_at-key.result c.key_at-key.ensures.apart c.requires c.in-Some.ensures there is c.close.ensures
