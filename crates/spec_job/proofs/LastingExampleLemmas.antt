use Rattle.std.proofs.Common.{refl, arith}
use Rattle.spec_seq.specs.Luby.{luby}
use Rattle.spec_learn.specs.Learning.{analysed_in}
use Rattle.spec_search.specs.Slice.{slice}
use Rattle.spec_job.specs.Lasting.{HasLasting}

pub lasting : HasLasting
unfolding luby slice analysed_in
lasting = record {
  runnable = (refl, (record { posted = refl; room = omega arith }, (tt, (refl, (tt, (record { posted = refl; room = omega arith }, (refl, (tt, (tt, tt)))))))));
  told = refl;
  same = refl;
  longer = refl;
  not_yet = refl;
}
