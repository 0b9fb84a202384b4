use Rattle.std.proofs.Common.{refl, arith}
use Rattle.spec_seq.specs.Luby.{luby}
use Rattle.spec_learn.specs.Learning.{analysed_in}
use Rattle.spec_search.specs.Slice.{slice}
use Rattle.spec_job.specs.DemandOneUpTo.{HasUpTo}

pub up-to : HasUpTo
unfolding luby slice analysed_in
up-to = record {
  one = record { runnable = (refl, (record { posted = refl; room = omega arith }, (record { posted = refl; room = omega arith }, (tt, (tt, (refl, (tt, (refl, (tt, tt))))))))); single = refl };
  other = record { runnable = (refl, (record { posted = refl; room = omega arith }, (record { posted = refl; room = omega arith }, (tt, (tt, (refl, (tt, (refl, (tt, tt))))))))); single = refl };
  alike = refl;
  first = refl;
  same = refl;
  second = refl;
  not_same = refl;
}
