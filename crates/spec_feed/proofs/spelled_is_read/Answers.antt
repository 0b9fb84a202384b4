use Rattle.spec_feed.proofs.Reading.{spelled-is_read}
use Rattle.spec_feed.proofs.spelled_is_read.Goals as goal

pub returns : goal.returns
returns c = spelled-is_read (record { ask = c.words_are_read.ensures.ask; weight = c.words_are_read.ensures.weight; revision = c.words_are_read.ensures.revision })
