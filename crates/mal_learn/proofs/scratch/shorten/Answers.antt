use Rattle.std.proofs.Common.{◌≡◌}
use Rattle.mal_learn.specs.Shown.{last_of}
use Rattle.mal_learn.proofs.scratch.shorten.Goals as goal

pub returns : goal.returns
returns g c =
    let last : c.last_hint-conflict.result ≡ last_of c.args.scratch.now.hints = rw (← c.scratch.view_is) c.last_hint-conflict.ensures in
    rw (← last) c.analyse_shorter.ensures
