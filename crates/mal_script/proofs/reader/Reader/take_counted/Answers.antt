use Rattle.std.proofs.Common.{sym, refl}
use Rattle.spec_text.specs.Inputs.{words_of}
use Rattle.mal_script.proofs.Steps.{leaves-counted}
use Rattle.mal_script.proofs.reader.Reader.take_counted.Goals as goal

pub returns-in-Some : goal.returns-in-Some
returns-in-Some c =
    leaves-counted c.take_inside.result c.args.limits c.args.split.first.now (words_of c.args.split.others.now) c.in-Some.job c.args.self.now _ _ c.take_inside.ensures (rw (← c.self.view_is) (sym c.in-Some.ensures.value)) (rw (← c.self.view_is, c.in-Some.ensures.after) refl)
