use Rattle.mal_parcel.proofs.PackLemmas.{parcel-whole, parcel-back}
use Rattle.mal_parcel.proofs.packing.bytes_of.Goals as goal

pub returns-clause-spelled : goal.returns-clause-spelled
returns-clause-spelled c = parcel-whole c.args.job.now.titled.key c.args.own.now c.args.job.now.titled.state c.in_ok-out.out.items c.put_machine.new.out.items c.requires.state c.in_ok-out.ensures c.in_ok-put_machine.ensures.machine

pub returns-clause-again : goal.returns-clause-again
returns-clause-again c = parcel-back c.args.own.now c.args.job.now.titled.state c.requires.state c.in_ok-put_machine.ensures.again
