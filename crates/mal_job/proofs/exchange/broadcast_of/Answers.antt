use Rattle.std.proofs.Common.{◌∙◌, length, map, ap}
use Rattle.spec_exchange.specs.Exchange.{broadcast}
use Rattle.mal_job.specs.Viewed.{place_of}
use Rattle.spec_job.proofs.OnePassLemmas.{one-pass}
use Rattle.mal_job.proofs.exchange.broadcast_of.Goals as goal

pub returns : goal.returns
returns c = c.broadcast.ensures ∙ (ap broadcast c.in_ok-entries.ensures ∙ one-pass (length c.args.places.now) c.args.log.now.lines (map place_of c.args.places.now))
