use Rattle.mal_dimacs.proofs.Texts.{formula_written}
use Rattle.mal_dimacs.proofs.writing.write.Goals as goal

pub returns : goal.returns
returns c = formula_written c.new-out.result.items c.put_block.new.out.items c.args.formula.now c.variables.result c.clauses.result.now c.variables.ensures.value c.clauses.ensures.value c.new-out.ensures.items c.in_ok-put_block.ensures.written
