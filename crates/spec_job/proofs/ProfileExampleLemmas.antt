use Rattle.std.proofs.Common.{refl, arith}
use Rattle.std.specs.Fmt.{digits}
use Rattle.spec_seq.specs.Luby.{luby}
use Rattle.spec_report.specs.Replies.{head_words, reply_text}
use Rattle.spec_learn.specs.Learning.{analysed_in}
use Rattle.spec_search.specs.Slice.{slice}
use Rattle.spec_job.specs.ProfileExamples.{HasProfiles}

pub profiles : HasProfiles
unfolding luby slice analysed_in digits head_words reply_text
profiles = record {
  refuted = refl;
  same_answers = refl;
  same_lines = refl;
  named = refl;
  not_named = refl;
  longer = refl;
  shorter = refl;
  left = refl;
  assigned = refl;
  cut = refl;
  single = record { runnable = (refl, (record { posted = refl; room = omega arith }, (tt, (tt, (refl, (tt, tt)))))); single = refl };
}
