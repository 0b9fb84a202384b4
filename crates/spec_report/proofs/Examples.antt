-- The worked examples, by computation.
use Rattle.std.proofs.Common.{refl}
use Rattle.std.specs.Fmt.{digits}
use Rattle.spec_report.specs.Replies.{head_words, reply_text}
use Rattle.spec_report.specs.Examples.{ReplyExamples}

pub reply_examples : ReplyExamples
unfolding digits head_words reply_text
reply_examples = record { no_variables = refl; two_variables = refl; refuted = refl; refuted_in_second = refl; refuted_under = refl; spent = refl; starved = refl; spent_in_second = refl; satisfied_in_second = refl }
