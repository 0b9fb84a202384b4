use Rattle.std.proofs.Common.{◌≤◌, take}
use Rattle.mal_parcel.specs.Owned.{owned}
use Rattle.mal_parcel.specs.Replaying.{IsReplayed}
use Rattle.mal_parcel.proofs.unpacking.replay.Given as goal

abbrev pub invariant-loop-at : goal.invariant-loop-at
invariant-loop-at l = (1 ≤ l.at) × IsReplayed l.initial.job.number l.initial.job.titled.key (owned l.own) (take l.at (owned l.own)) l.job l.slices l.answers
