use Rattle.mal_script.proofs.Texts.{assumed_written}
use Rattle.mal_script.proofs.writing.put_assumptions.Goals as goal

pub returns : goal.returns
returns c = assumed_written c.args.out.now.items c.extend_from_slice.new.self.items c.put_closed.new.out.items c.args.assumptions.now c.in_ok-extend_from_slice.ensures.items c.in_ok-put_closed.ensures.written
