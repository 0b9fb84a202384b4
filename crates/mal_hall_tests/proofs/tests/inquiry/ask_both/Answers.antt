use Rattle.std.proofs.Common.{[], sym, subst}
use Rattle.spec_job.specs.KeyedJob.{Key}
use Rattle.mal_hall_tests.proofs.RoomLemmas.{MayCome, small-first, small-second}
use Rattle.mal_hall_tests.proofs.tests.inquiry.ask_both.Goals as goal

pub ask-requires : goal.ask-requires
ask-requires c = record { may = small-first c.args.inquiry.now.key c.args.ask c.args.inquiry.now.events c.args.first c.requires.begun c.requires.first_clauses c.requires.first_literals }

pub ask-requires-in-Ok : goal.ask-requires-in-Ok
ask-requires-in-Ok c = record { may = subst (λ (k : Key). MayCome k c.ask.new.self.events c.args.second) (sym c.ask.ensures.key) (small-second c.args.inquiry.now.key c.args.ask _ c.ask.new.self.events c.args.second (c.in-Ok.ensures.asked c.args.ask [] c.requires.begun).1 c.requires.first_clauses c.requires.first_literals c.requires.second_clauses c.requires.second_literals) }
