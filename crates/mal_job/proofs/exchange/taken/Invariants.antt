use Rattle.std.proofs.Common.{◌≡◌, ◌++◌, length, map, drop}
use Rattle.mal_job.specs.Viewed.{place_of}
use Rattle.spec_job.specs.OnePass.{taken_from}
use Rattle.mal_job.proofs.exchange.taken.Given as goal

abbrev pub invariant-loop-n : goal.invariant-loop-n
invariant-loop-n l = l.entries.items ++ taken_from (length l.places) (map place_of l.places) l.n (drop l.n l.log.lines) ≡ taken_from (length l.places) (map place_of l.places) 0 l.log.lines
