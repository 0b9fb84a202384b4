use Rattle.std.proofs.Common.{◌≡◌, drop}
use Rattle.mal_job.specs.Exports.{least_mark}
use Rattle.mal_job.proofs.exchange.least_mark.Given as goal

abbrev pub invariant-loop-place : goal.invariant-loop-place
invariant-loop-place l = least_mark l.least (drop l.place-index l.places) ≡ least_mark l.most l.places
