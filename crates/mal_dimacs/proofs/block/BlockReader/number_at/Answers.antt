use Rattle.spec_text.specs.Inputs.{words_of}
use Rattle.mal_dimacs.proofs.Rows.{next_steps}
use Rattle.mal_dimacs.proofs.block.BlockReader.number_at.Goals as goal

pub returns-clause-next : goal.returns-clause-next
returns-clause-next c = next_steps c.number_in_front.result (λ cut. cut.0) (λ cut. words_of cut.1.now) c.args.line.now c.args.self.now c.number_in_front.ensures.number
