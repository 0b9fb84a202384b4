use Rattle.mal_script.proofs.Texts.{revision_written}
use Rattle.mal_script.proofs.writing.put_revision.Goals as goal

pub returns : goal.returns
returns c = revision_written c.args.out.now.items c.put_block.new.out.items c.put_assumptions.new.out.items c.args.revision.now c.variables.result c.clauses.result.now c.assumptions.result.now c.variables.ensures.value c.clauses.ensures.value c.assumptions.ensures.value c.in_ok-put_block.ensures.written c.in_ok-put_assumptions.ensures
