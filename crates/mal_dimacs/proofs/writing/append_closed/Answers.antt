use Rattle.std.proofs.Common.{arith}
use Rattle.mal_dimacs.proofs.Texts.{closed_written, front_kept_on_err}
use Rattle.mal_dimacs.proofs.writing.append_closed.Goals as goal

pub returns-clause-written : goal.returns-clause-written
returns-clause-written c = closed_written c.args.out.now.items c.loop-lit.out.items c.extend_from_slice.new.self.items c.args.lits.now c.loop-lit.lit-index (omega arith) c.loop-lit.invariant c.in_ok-extend_from_slice.ensures.items

pub returns-in_err-put_literal-clause-kept : goal.returns-in_err-put_literal-clause-kept
returns-in_err-put_literal-clause-kept c = front_kept_on_err c.from_residual.result c.args.out.now.items _ c.loop-lit.out.items c.put_literal.new.out.items c.loop-lit.invariant c.in_err-put_literal.ensures.kept
