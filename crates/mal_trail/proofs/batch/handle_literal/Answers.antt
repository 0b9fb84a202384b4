use Rattle.std.proofs.Common.{sym, ◌∙◌}
use Rattle.mal_trail.proofs.TrailLemmas.{free_from_open}
use Rattle.mal_trail.proofs.batch.handle_literal.Goals as goal

pub push-requires-clause-free : goal.push-requires-clause-free
push-requires-clause-free c =
    free_from_open c.args.trail.now.entries c.args.lit (sym c.is_true.ensures ∙ c.if-is_true.false) (sym c.is_false.ensures ∙ c.if-is_false.false)
