use Rattle.std.proofs.Common.{ap, sym}
use Rattle.mal_max.specs.Seen.{seen}
use Rattle.mal_max.specs.declared.optimum.Optimum.{Optimum}
use Rattle.mal_max.proofs.TextLemmas.{none-put}
use Rattle.mal_max.proofs.text.put_optimum.Goals as goal

pub returns-in_ok-put_proof-in-NoModel : goal.returns-in_ok-put_proof-in-NoModel
returns-in_ok-put_proof-in-NoModel c = none-put c.args.out.now.items c.put_line-in-NoModel.new.out.items c.put_proof-in-NoModel.new.out.items c.in-NoModel.lines.lines (seen c.args.optimum.now) (ap (λ (o : Optimum). seen o) (sym c.in-NoModel.is)) c.in_ok-put_line-in-NoModel.ensures.written c.in_ok-put_proof-in-NoModel.ensures
