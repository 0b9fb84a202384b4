use Rattle.std.proofs.Common.{◌≡◌, ◌-◌}
use Rattle.mal_freeze.specs.Reading.{many_at}
use Rattle.mal_freeze.proofs.ManyLemmas.{with_front}
use Rattle.mal_freeze.proofs.reading.many.Given as goal

abbrev pub invariant-loop : goal.invariant-loop
invariant-loop g l = with_front l.all.items (many_at (g.F.Field.at l.total l.greatest) (l.count - l.counter) l.rest) ≡ many_at (g.F.Field.at l.total l.greatest) l.count l.bytes
