use Rattle.std.proofs.Common.{◌≡◌, ◌-◌, ◌<◌, ◌^◌, length}
use Rattle.mal_parcel.specs.Replaying.{IsToWake}
use Rattle.mal_parcel.proofs.unpacking.wake.Given as goal

abbrev pub invariant-loop : goal.invariant-loop
invariant-loop l = record {
  same : l.job ≡ l.initial.job;
  left : IsToWake l.job.titled.state (l.count - l.counter) l.rest;
  short : length l.rest < 2 ^ 63;
}
