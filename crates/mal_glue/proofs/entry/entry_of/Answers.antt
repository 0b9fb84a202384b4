use Rattle.std.proofs.Common.{sym, ◌∙◌, arith}
use Rattle.mal_glue.proofs.EntryLemmas.{entry-at, none-past}
use Rattle.mal_glue.proofs.entry.entry_of.Goals as goal

pub returns-then-place-len : goal.returns-then-place-len
returns-then-place-len c = sym c.at.ensures ∙ entry-at c.args.trail.now.entries c.args.var c.open_until-positive.result c.open_until-negative.result c.min-place.result (rw c.literal.ensures at c.open_until-positive.ensures) (rw c.literal-2.ensures at c.open_until-negative.ensures) (omega (arith, c.min-place.ensures))

pub returns-else-place-len : goal.returns-else-place-len
returns-else-place-len c = sym (none-past c.args.trail.now.entries c.min-place.result (omega (arith, c.if-place-len.false, c.len.ensures.value))) ∙ entry-at c.args.trail.now.entries c.args.var c.open_until-positive.result c.open_until-negative.result c.min-place.result (rw c.literal.ensures at c.open_until-positive.ensures) (rw c.literal-2.ensures at c.open_until-negative.ensures) (omega (arith, c.min-place.ensures))
