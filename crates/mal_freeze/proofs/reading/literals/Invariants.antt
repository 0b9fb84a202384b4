use Rattle.std.proofs.Common.{◌≡◌, ◌-◌}
use Rattle.mal_freeze.specs.Reading.{many_at, literal_at}
use Rattle.mal_freeze.proofs.ManyLemmas.{with_front}
use Rattle.mal_freeze.proofs.reading.literals.Given as goal

abbrev pub invariant-loop : goal.invariant-loop
invariant-loop l = with_front l.all.items (many_at (literal_at l.total l.greatest) (l.count - l.counter) l.rest) ≡ many_at (literal_at l.total l.greatest) l.count l.bytes
