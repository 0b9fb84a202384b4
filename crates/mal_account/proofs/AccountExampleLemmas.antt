-- The worked examples, by computation.
use Rattle.std.proofs.Common.{refl}
use Rattle.mal_account.specs.Examples.{HasExamples}

pub examples : HasExamples
examples = record { read = refl; nothing_more = refl; no_history = refl; no_history_first = refl; script_before_history = refl; script_cut_short = refl; history_numbered_anew = refl; second_line_history = refl; empty_history = refl; no_history_told = refl }
