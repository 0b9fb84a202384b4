use Rattle.spec_feed.proofs.Scripts.{script-is_feed}
use Rattle.spec_feed.proofs.script_is_feed.Goals as goal

pub returns : goal.returns
returns c = script-is_feed (record { ask = c.words_are_read.ensures.ask; weight = c.words_are_read.ensures.weight; revision = c.words_are_read.ensures.revision })
