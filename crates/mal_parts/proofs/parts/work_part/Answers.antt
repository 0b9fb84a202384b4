use Rattle.std.proofs.Common.{◌≡◌}
use Rattle.mal_parts.proofs.Together.{all-back, changed-back}
use Rattle.mal_parts.proofs.parts.work_part.Goals as goal

pub returns : goal.returns
returns g c =
    all-back (g.D.LiveDesk.is_of c.args.desk.now) g.D.LiveDesk.numbers (λ p q. g.D.LiveDesk.said q ≡ g.D.LiveDesk.said p) c.args.seats.now c.for_each_mut.new.s c.for_each_mut.auto.s
    (λ i d low. let call = (c.for_each_mut.ensures i d low).1 in
    changed-back (g.D.LiveDesk.is_of c.args.desk.now) g.D.LiveDesk.numbers (λ p q. g.D.LiveDesk.said q ≡ g.D.LiveDesk.said p) _ _ call.argument.now call.after_call.now call.argument_is call.left call.call)
