use Rattle.mal_dimacs.proofs.Texts.{block_written, front_kept_on_err}
use Rattle.mal_dimacs.proofs.writing.append_block.Goals as goal

pub returns-clause-written : goal.returns-clause-written
returns-clause-written c = block_written c.args.out.now.items c.put_header.new.out.items c.put_clauses.new.out.items c.args.variables c.len.result c.args.clauses.now c.len.ensures c.in_ok-put_header.ensures.written c.in_ok-put_clauses.ensures.written

pub returns-in_err-put_clauses-clause-kept : goal.returns-in_err-put_clauses-clause-kept
returns-in_err-put_clauses-clause-kept c = front_kept_on_err c.from_residual-in_err-put_clauses.result c.args.out.now.items _ c.put_header.new.out.items c.put_clauses.new.out.items c.in_ok-put_header.ensures.written c.in_err-put_clauses.ensures.kept
