use Rattle.std.proofs.Common.{List, ap, sym, ◌∙◌}
use Rattle.mal_base.specs.NumberedClause.{Line}
use Rattle.mal_parcel.proofs.ReadLemmas.{and_said, said-none-yet, said-next, said-none, said-all}
use Rattle.mal_parcel.proofs.reading.lines_of.Goals as goal

pub loop-line-init : goal.loop-line-init
loop-line-init c = ap (λ (xs : List Line). and_said xs c.args.text.now) c.new-lines.ensures ∙ said-none-yet c.args.text.now

pub loop-line-smaller : goal.loop-line-smaller
loop-line-smaller c = c.in-Some.ensures.shorter

pub loop-line-preserved : goal.loop-line-preserved
loop-line-preserved c = sym (said-next c.loop-line.lines.lines c.put_line.new.lines.lines c.loop-line.rest.now c.in-Some.line.now c.in-Some.behind.now c.in-Some.ensures.lines (rw c.if-not-branch.false at c.in_ok-put_line.ensures)) ∙ c.loop-line.invariant

pub returns-then-not-branch : goal.returns-then-not-branch
returns-then-not-branch c = sym (said-none c.loop-line.lines.lines c.put_line.new.lines.lines c.loop-line.rest.now c.in-Some.line.now c.in-Some.behind.now c.in-Some.ensures.lines (rw c.if-not-branch.true at c.in_ok-put_line.ensures)) ∙ c.loop-line.invariant

pub returns : goal.returns
returns c = sym (said-all c.loop-line.lines.lines c.loop-line.rest.now c.in_default.ensures.lines) ∙ c.loop-line.invariant
