-- Where a gate stops workers.
use Rattle.std.specs.Prelude.{true, false}
use Rattle.mal_answer.specs.Commands.{Stops}
use Rattle.mal_pool.specs.Gates as gates
use Rattle.mal_pool.specs.declared.gate.Point.TheVariants.{Before, After}

-- where a gate stops workers, by whether it is after a slice
abbrev pub stops_of : gates.Stops → Stops
stops_of stops false start worker = stops Before start worker
stops_of stops true start worker = stops After start worker
