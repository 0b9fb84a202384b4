use Rattle.std.proofs.Common.{length, ◌∙◌}
use Rattle.mal_max.specs.Seen.{instance}
use Rattle.mal_max.proofs.QuestionLemmas.{last-is, opening-may}
use Rattle.mal_max.proofs.questions.opening.Goals as goal

pub posted-requires : goal.posted-requires
posted-requires c = opening-may (instance c.args.formula.now c.args.softs.now) c.last.result c.in_ok-clauses.clauses c.requires (last-is c.last.result c.of-counter.result.variables c.of-counter.result.count c.args.formula.now.variables (length c.args.softs.now) c.last.ensures (c.of-counter.ensures.variables ∙ c.variables.ensures.value) c.of-counter.ensures.count) c.in_ok-clauses.ensures
