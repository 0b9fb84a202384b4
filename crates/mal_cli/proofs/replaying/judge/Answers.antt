use Rattle.mal_account.specs.ReadResult.{seen}
use Rattle.mal_cli.proofs.Replays.{replayed-answers}
use Rattle.mal_cli.proofs.replaying.judge.Goals as goal

pub returns-in-Ok-clause-replies : goal.returns-in-Ok-clause-replies
returns-in-Ok-clause-replies g c = replayed-answers (seen c.args.account.now) c.in-Ok.out.items c.in-Ok.ensures.ok
