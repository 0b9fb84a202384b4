use Rattle.std.proofs.Common.{◌<◌, length, rules, sym, ◌∙◌}
use Rattle.mal_feed.proofs.Closing.{passed_one}
use Rattle.mal_feed.proofs.feed.Feed.first_open.Goals as goal

pub loop-at-preserved : goal.loop-at-preserved
loop-at-preserved c =
    let low : c.loop-at.at < length c.args.self.now.begun = search rules in
    c.loop-at.invariant ∙ passed_one c.args.self.now c.loop-at.at low (λ j e. sym (c.is_open_at.ensures j e) ∙ c.if-is_open_at.false)
